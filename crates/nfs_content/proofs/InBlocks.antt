-- Blocks of rows.
use Rattle.std.proofs.Common.{◌≡◌, ℕ, ◌/◌, ◌%◌, ◌<◌, ◌≤◌, [], ◌∷◌, length, Vec, sym, ap, ◌∙◌, arith}
use Rattle.std.specs.Global.{Global}
use Rattle.nfs_content.specs.Paged.{items_at, kept, room, far, far_room, MoreRoom, SamePages}
use Rattle.nfs_content.proofs.Lists.{by_less}
use Rattle.nfs_content.proofs.Nested.{Splits, nested_beyond}
use Rattle.nfs_content.proofs.InRows.{Row, page_beyond, room_beyond}

abbrev pub Block : Type 0
Block = Vec Row Global

pub block_splits : Splits 262144
block_splits = record {
  alike = λ a b same rest. omega (arith, same, rest);
  lists = λ a b order. omega (arith, order);
  ends = λ a b whole order. omega (arith, whole, order);
  below = λ a b same order. omega (arith, same, order);
  places = λ a b same order. omega (arith, same, order);
}

pub no_page : (k : ℕ) → kept [] k ≡ []
no_page k = page_beyond [] k (omega arith)

pub no_room : (k : ℕ) → room [] k ≡ 0
no_room k = room_beyond [] k (omega arith)

-- ---- rows as the first block

module _ (block : Block) (few : length block.items ≤ 4096) where
  one_page : (k : ℕ) → k < 262144 → far (block ∷ []) k ≡ kept block.items k
  one_page k less = let first : k / 262144 ≡ 0 = omega (arith, less) in let same : k % 262144 ≡ k = omega (arith, less) in
      ap (λ j. kept (items_at (block ∷ []) j) (k % 262144)) first ∙ ap (λ j. kept block.items j) same

  one_room : (k : ℕ) → k < 262144 → far_room (block ∷ []) k ≡ room block.items k
  one_room k less = let first : k / 262144 ≡ 0 = omega (arith, less) in let same : k % 262144 ≡ k = omega (arith, less) in
      ap (λ j. room (items_at (block ∷ []) j) (k % 262144)) first ∙ ap (λ j. room block.items j) same

  pub one_block_same : SamePages (kept block.items) (far (block ∷ []))
  one_block_same k = by_less k 262144 (λ less. one_page k less)
      (λ from. nested_beyond kept 262144 (block ∷ []) k (omega (arith, from)) ∙ no_page (k % 262144) ∙ sym (page_beyond block.items k (omega (arith, from, few))))

  pub one_block_room : MoreRoom (room block.items) (far_room (block ∷ []))
  one_block_room k = by_less k 262144 (λ less. let same = one_room k less in omega (arith, same))
      (λ from. let none = room_beyond block.items k (omega (arith, from, few)) in omega (arith, none))
