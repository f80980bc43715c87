-- How the vacant slots are kept: in a heap, with the least of them at its top.
use Rattle.std.specs.Prelude.{◌≡◌, ℕ, ◌+◌, ◌<◌, ◌≤◌, List, length, get_or, Option, Some, None, IsSome, is_some, count_by, slice_get, nat_eq}
use Rattle.std.specs.Ordering.{nat_cmp}
use Rattle.std.specs.BinaryHeap.{IsHeap}
use Rattle.std.specs.declared.cmp.Reverse.{Reverse}

-- how often a slot stands in the heap
abbrev pub times : ℕ → List (Reverse ℕ) → ℕ
times slot heap = count_by (λ r. nat_eq slot r.0) heap

-- how often it is to stand there: once, where it is one of the slots and has nothing
abbrev pub vacancies : {X : Type 0} → Option (Option X) → ℕ
vacancies None = 0
vacancies (Some None) = 1
vacancies (Some (Some x)) = 0

-- the last slot, where there is one, has something
abbrev pub EndsHeld : {X : Type 0} → List (Option X) → Type 0
EndsHeld slots = (slot : ℕ) → slot + 1 ≡ length slots → IsSome (get_or slots slot None)

-- The heap has each vacant slot once, the least slot at its top, and else only slots beyond the end; and it
-- has memory for every slot, and for as many more as have something.
pub record HasVacant {X : Type 0} (slots : List (Option X)) (heap : List (Reverse ℕ)) (capacity : ℕ) : Type 0 where
  pub least_first : IsHeap (λ x y. nat_cmp y.0 x.0) heap
  pub each_once : (slot : ℕ) → slot < length slots → times slot heap ≡ vacancies (slice_get slots slot)
  pub counted : length heap + count_by is_some slots ≤ capacity
  pub fits : length slots ≤ capacity
  pub last : EndsHeld slots

-- each slot that is left has what it had, and those that went had nothing
pub record Pops {X : Type 0} (old new : List (Option X)) : Type 0 where
  pub fewer : length new ≤ length old
  pub same : (slot : ℕ) → get_or new slot None ≡ get_or old slot None
  pub count : count_by is_some new ≡ count_by is_some old

-- all vacant slots at the end went
pub record PopsVacant {X : Type 0} (old new : List (Option X)) : Type 0 where
  pub left : Pops old new
  pub last : EndsHeld new
