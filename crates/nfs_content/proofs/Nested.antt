-- Lists in a list, each of so many places, and what is done to one of them.
use Rattle.std.proofs.Common.{◌≡◌, ◌≢◌, ℕ, ◌+◌, ◌/◌, ◌%◌, ◌<◌, ◌≤◌, List, [], length, take, set, get_or, Vec, sym, ap, subst, ◌∙◌, arith}
use Rattle.std.specs.Global.{Global}
use Rattle.nfs_content.specs.Paged.{items_at, MoreRoom, SameElsewhere, SamePages, Widens, Keeps}
use Rattle.nfs_content.proofs.Lists.{by_number, by_less, was_items, now_items, else_items, first_items, after_items, history_items}

-- what place k of all has, where inner says what a place of one list has
abbrev pub nested : {A Z : Type 0} → (List A → ℕ → Z) → ℕ → List (Vec A Global) → ℕ → Z
nested inner size lists k = inner (items_at lists (k / size)) (k % size)

-- how numbers of places and their parts are ordered, true of each size above 0
pub record Splits (size : ℕ) : Type 0 where
  pub alike : (a b : ℕ) → a / size ≡ b / size → a % size ≡ b % size → a ≡ b
  pub lists : (a b : ℕ) → a ≤ b → a / size ≤ b / size
  pub ends : (a b : ℕ) → b % size ≡ 0 → a < b → a / size < b / size
  pub below : (a b : ℕ) → a / size ≡ b / size → a < b → a % size < b % size
  pub places : (a b : ℕ) → a / size ≡ b / size → a ≤ b → a % size ≤ b % size

module _ {A Z : Type 0} (inner : List A → ℕ → Z) (size : ℕ) where
  -- wider lists have the same
  pub nested_alike : (old new : List (Vec A Global)) → Widens old new → (k : ℕ) → nested inner size new k ≡ nested inner size old k
  nested_alike old new widens k = ap (λ (l : List A). inner l (k % size)) (widens.items (k / size))

  -- a place after all lists
  pub nested_beyond : (lists : List (Vec A Global)) (k : ℕ) → length lists ≤ k / size → nested inner size lists k ≡ inner [] (k % size)
  nested_beyond lists k from = ap (λ (l : List A). inner l (k % size)) (history_items lists (k / size) from)

-- ---- room

module _ {A : Type 0} (inner : List A → ℕ → ℕ) (size : ℕ) where
  pub more_alike : (old new : List (Vec A Global)) → Widens old new → MoreRoom (nested inner size old) (nested inner size new)
  more_alike old new widens k = let same = nested_alike inner size old new widens k in omega (arith, same)

  -- a place has room where its list is
  pub nested_there : ((j : ℕ) → inner [] j ≡ 0) → (lists : List (Vec A Global)) (k : ℕ) → 0 < nested inner size lists k → k / size < length lists
  nested_there none lists k some = by_less (k / size) (length lists) (λ less. less)
      (λ history. let is = nested_beyond inner size lists k history in let no = none (k % size) in absurd (omega (arith, is, no, some)))

-- ---- one list is another

module _ {A Z : Type 0} (inner : List A → ℕ → Z) (size : ℕ) (lists : List (Vec A Global)) (q : ℕ) (v w : Vec A Global) (there : q < length lists) (e : v ≡ get_or lists q v) where
  pub nested_was : (k : ℕ) → k / size ≡ q → nested inner size lists k ≡ inner v.items (k % size)
  nested_was k is = ap (λ (l : List A). inner l (k % size)) (subst (λ j. items_at lists j ≡ v.items) (sym is) (was_items lists q v w there e))

  pub nested_now : (k : ℕ) → k / size ≡ q → nested inner size (set lists q w) k ≡ inner w.items (k % size)
  nested_now k is = ap (λ (l : List A). inner l (k % size)) (subst (λ j. items_at (set lists q w) j ≡ w.items) (sym is) (now_items lists q v w there e))

  pub nested_else : (k : ℕ) → k / size ≢ q → nested inner size (set lists q w) k ≡ nested inner size lists k
  nested_else k other = ap (λ (l : List A). inner l (k % size)) (else_items lists q v w there e (k / size) other)

module _ {A : Type 0} (inner : List A → ℕ → ℕ) (size : ℕ) (lists : List (Vec A Global)) (q : ℕ) (v w : Vec A Global) (there : q < length lists) (e : v ≡ get_or lists q v) where
  pub more_within : MoreRoom (inner v.items) (inner w.items) → MoreRoom (nested inner size lists) (nested inner size (set lists q w))
  more_within more k = by_number (k / size) q
      (λ is. let was = nested_was inner size lists q v w there e k is in let now = nested_now inner size lists q v w there e k is in let larger = more (k % size) in omega (arith, was, now, larger))
      (λ other. let same = nested_else inner size lists q v w there e k other in omega (arith, same))

module _ {A : Type 0} (inner : List A → ℕ → List ℕ) (size : ℕ) (lists : List (Vec A Global)) (q : ℕ) (v w : Vec A Global) (there : q < length lists) (e : v ≡ get_or lists q v) where
  pub same_within : SamePages (inner v.items) (inner w.items) → SamePages (nested inner size lists) (nested inner size (set lists q w))
  same_within same k = by_number (k / size) q
      (λ is. nested_now inner size lists q v w there e k is ∙ same (k % size) ∙ sym (nested_was inner size lists q v w there e k is))
      (λ other. nested_else inner size lists q v w there e k other)

  pub elsewhere_within : Splits size → (place : ℕ) → place / size ≡ q → SameElsewhere (inner v.items) (place % size) (inner w.items) → SameElsewhere (nested inner size lists) place (nested inner size (set lists q w))
  elsewhere_within splits place of same k other = by_number (k / size) q
      (λ is. nested_now inner size lists q v w there e k is ∙ same (k % size) (λ alike. other (splits.alike k place (is ∙ sym of) alike)) ∙ sym (nested_was inner size lists q v w there e k is))
      (λ away. nested_else inner size lists q v w there e k away)

-- ---- the first places

module _ {A : Type 0} (inner : List A → ℕ → List ℕ) (size : ℕ) (none : (j : ℕ) → inner [] j ≡ []) (splits : Splits size) (lists : List (Vec A Global)) (count : ℕ) (first : List (Vec A Global)) where
  kept_first : (n : ℕ) → first ≡ take n lists → (k : ℕ) → k / size < n → nested inner size first k ≡ nested inner size lists k
  kept_first n is k less = ap (λ (ls : List (Vec A Global)). nested inner size ls k) is ∙ ap (λ (l : List A). inner l (k % size)) (first_items n lists (k / size) less)

  after_first : (n : ℕ) → first ≡ take n lists → (k : ℕ) → n ≤ k / size → nested inner size first k ≡ []
  after_first n is k from = ap (λ (ls : List (Vec A Global)). nested inner size ls k) is ∙ ap (λ (l : List A). inner l (k % size)) (after_items n lists (k / size) from) ∙ none (k % size)

  -- at the end of a list
  pub keeps_whole : first ≡ take (count / size) lists → count % size ≡ 0 → Keeps (nested inner size lists) count (nested inner size first)
  keeps_whole is whole = record {
    before = λ k to. kept_first (count / size) is k (splits.ends k count whole to);
    after = λ k from. after_first (count / size) is k (splits.lists count k from);
  }

  module _ (is : first ≡ take (count / size + 1) lists) where
    before_count : (k : ℕ) → k < count → nested inner size first k ≡ nested inner size lists k
    before_count k to = kept_first (count / size + 1) is k (let order = splits.lists k count (omega (arith, to)) in omega (arith, order))

    -- in a list that isn't there
    pub keeps_beyond : length first ≤ count / size → Keeps (nested inner size lists) count (nested inner size first)
    keeps_beyond few = record {
      before = before_count;
      after = λ k from. nested_beyond inner size first k (let order = splits.lists count k from in omega (arith, order, few)) ∙ none (k % size);
    }

    -- in a list that is there
    pub keeps_within : (v w : Vec A Global) → count / size < length first → v ≡ get_or first (count / size) v → Keeps (inner v.items) (count % size) (inner w.items) → Keeps (nested inner size lists) count (nested inner size (set first (count / size) w))
    keeps_within v w there e cut = record {
      before = λ k to. by_number (k / size) (count / size)
          (λ same. nested_now inner size first (count / size) v w there e k same
          ∙ cut.before (k % size) (splits.below k count same to)
          ∙ sym (nested_was inner size first (count / size) v w there e k same)
          ∙ before_count k to)
          (λ other. nested_else inner size first (count / size) v w there e k other ∙ before_count k to);
      after = λ k from. by_number (k / size) (count / size)
          (λ same. nested_now inner size first (count / size) v w there e k same ∙ cut.after (k % size) (splits.places count k (sym same) from))
          (λ other. nested_else inner size first (count / size) v w there e k other
          ∙ after_first (count / size + 1) is k (let order = splits.lists count k from in omega (arith, order, other)));
    }
