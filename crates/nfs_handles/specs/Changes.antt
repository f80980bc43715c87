-- What the calls that change files do to them.
use Rattle.std.specs.Prelude.{◌≡◌, ℕ, ◌-◌, ◌^◌, ◌≢◌, Option, Some, None, Result, Ok, Err}
use Rattle.std.specs.Borrow.{Fml, RattleType, MutBor, LendsIf}
use Rattle.nfs_handles.specs.NumberedFiles.{NumberedFiles, at, value_at, with_new, with_value, without}
use Rattle.nfs_handles.specs.Tags.{IsNextTag}
use Rattle.nfs_handles.specs.declared.number.Number.{Number}
use Rattle.nfs_handles.specs.declared.fault.PutFault.{PutFault}
use Rattle.nfs_handles.specs.declared.fault.PutFault.TheVariants.{Spent, Memory}
use Rattle.nfs_handles.specs.contracts.files.Files.{the_row}

-- with a new file, which takes the next tag
pub record Adds {T : Type 0} (old : NumberedFiles T) (v : T) (new : NumberedFiles T) : Type 0 where
  pub tag : ℕ
  pub tag_is : IsNextTag old tag
  pub new_is : new ≡ with_new old tag v

-- A value was put, at the next number; or it is handed back, and nothing has changed.
abbrev pub Puts : {T : Type 0} → NumberedFiles T → T → Result Number (PutFault T) → NumberedFiles T → Type 0
Puts old v (Ok n) new = (n.0 ≡ old.next) × (old.next ≢ 2 ^ 64 - 1) × Adds old v new
Puts old v (Err (Spent back)) new = (old.next ≡ 2 ^ 64 - 1) × (back ≡ v) × (new ≡ old)
Puts old v (Err (Memory back refused)) new = (old.next ≢ 2 ^ 64 - 1) × (back ≡ v) × (new ≡ old)

-- The value at a number was taken away; or there was none, and nothing has changed.
abbrev pub Takes : {T : Type 0} → NumberedFiles T → ℕ → Option T → NumberedFiles T → Type 0
Takes old n (Some v) new = (value_at old n ≡ Some v) × (new ≡ without old n)
Takes old n None new = (at old n ≡ None) × (new ≡ old)

module _ (T : RattleType) where
  -- once the borrow ends, the file at the number has the value that was left there
  abbrev pub LendsValue : MutBor (NumberedFiles T.Denot) → ℕ → Option (MutBor T.Denot) → Fml
  LendsValue s n r = LendsIf (the_row T) T s r (with_value s.now n) s.now
