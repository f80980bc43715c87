-- Rows of pages.
use Rattle.std.proofs.Common.{◌≡◌, ℕ, zero, suc, ◌/◌, ◌%◌, ◌≤◌, List, [], length, take, Vec, refl, ap, ◌∙◌, arith}
use Rattle.std.specs.Global.{Global}
use Rattle.nfs_content.specs.Paged.{items_at, kept, room, room_at, Keeps}
use Rattle.nfs_content.proofs.Lists.{first_items, after_items}
use Rattle.nfs_content.proofs.Nested.{Splits, nested_beyond}

abbrev pub Row : Type 0
Row = Vec (Vec ℕ Global) Global

pub row_splits : Splits 64
row_splits = record {
  alike = λ a b same rest. omega (arith, same, rest);
  lists = λ a b order. omega (arith, order);
  ends = λ a b whole order. omega (arith, whole, order);
  below = λ a b same order. omega (arith, same, order);
  places = λ a b same order. omega (arith, same, order);
}

pub no_place : {A : Type 0} (k : ℕ) → items_at {A = A} [] k ≡ []
no_place zero = refl
no_place (suc k) = refl

pub no_room : (k : ℕ) → room_at {A = ℕ} [] k ≡ 0
no_room zero = refl
no_room (suc k) = refl

-- a page after all rows
pub page_beyond : (rows : List Row) (k : ℕ) → length rows ≤ k / 64 → kept rows k ≡ []
page_beyond rows k from = nested_beyond items_at 64 rows k from ∙ no_place (k % 64)

pub room_beyond : (rows : List Row) (k : ℕ) → length rows ≤ k / 64 → room rows k ≡ 0
room_beyond rows k from = nested_beyond room_at 64 rows k from ∙ no_room (k % 64)

-- a row that is cut keeps its first pages
pub row_keeps : (old new : List (Vec ℕ Global)) (count : ℕ) → new ≡ take count old → Keeps (items_at old) count (items_at new)
row_keeps old new count cut = record {
  before = λ k to. ap (λ (ps : List (Vec ℕ Global)). items_at ps k) cut ∙ first_items count old k to;
  after = λ k from. ap (λ (ps : List (Vec ℕ Global)). items_at ps k) cut ∙ after_items count old k from;
}
