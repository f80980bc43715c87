-- Where numbers lead: places by rising number, some of which are dead.
use Rattle.std.specs.Prelude.{◌≡◌, ℕ, suc, ◌-◌, ◌^◌, ◌<◌, ◌≤◌, Bool, false, List, [], ◌∷◌, length, get_or, Option, Some, None, if◌then◌else◌, option_map, is_some, nat_eq}
use Rattle.std.specs.List.{filter_map}

-- a number, and the slot that it leads to, unless it is dead
pub record Place : Type 0 where
  pub number : ℕ
  pub slot : Option ℕ

-- the slot that is kept: 2^32 - 1 stands for none
abbrev pub slot_of : ℕ → Option ℕ
slot_of kept = if nat_eq kept (2 ^ 32 - 1) then None else Some kept

-- numbers with the slots that they lead to, and the next number
pub record Placed : Type 0 where
  pub entries : List (ℕ × ℕ)
  pub next : ℕ

-- a number with its slot, unless it is dead
abbrev pub lead : Place → Option (ℕ × ℕ)
lead p = option_map (λ slot. (p.number, slot)) p.slot

abbrev pub led : List Place → List (ℕ × ℕ)
led places = filter_map lead places

abbrev pub is_live : Place → Bool
is_live p = is_some p.slot

-- numbers rise, from the low one on and below the next one
abbrev pub Rises : ℕ → List Place → ℕ → Type 0
Rises low [] next = low ≤ next
Rises low (p ∷ ps) next = (low ≤ p.number) × Rises (suc p.number) ps next

-- the place of a number stands here
abbrev pub IsPlaceOf : List Place → ℕ → ℕ → Type 0
IsPlaceOf places number at = (at < length places) × ((d : Place) → (get_or places at d).number ≡ number)

-- no place is that of a number
abbrev pub HasNo : List Place → ℕ → Type 0
HasNo places number = (k : ℕ) (d : Place) → k < length places → nat_eq number (get_or places k d).number ≡ false
