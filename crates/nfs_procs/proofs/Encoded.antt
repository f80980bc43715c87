-- Results as they are encoded.
use Rattle.std.proofs.Common.{◌≡◌, ℕ, ◌<◌, List, ◌++◌, refl, subst, arith}
use Rattle.std.specs.Int.{w32, to_be_bytes}
use Rattle.std.specs.Prelude.{Result, Ok, Err}
use Rattle.nfs_args.specs.Results.{IsFailed, IsResult}
use Rattle.nfs_args.specs.Encoding.{Arm}
use Rattle.nfs_args.specs.declared.answer.NfsAnswer.{NfsAnswer}
use Rattle.nfs_args.specs.declared.failed.Failed.{Failed}
use Rattle.nfs_rules.specs.Rules.{status_of}
use Rattle.nfs_rules.specs.declared.rule.Rule.{Rule}
use Rattle.nfs_rules.specs.declared.rule.Rule.TheVariants as rule
use Rattle.nfs_xdr.proofs.Writing.{followed, number_written}
use Rattle.nfs_xdr.specs.Encoding.{IsNumber}

-- ---- the arms of a result

module _ {A B : Type 0} (made : Result A (Failed B) → NfsAnswer) (Encodes : A → List ℕ → Type 0) (Shows : B → List ℕ → Type 0) where
  -- the status of success, and what was asked for
  pub granted_encoded : (text : A → List ℕ) (value : A) → Encodes value (text value) → Arm made (IsResult Encodes Shows) (made (Ok value)) (to_be_bytes w32 0 ++ text value)
  granted_encoded text value encoded = (Ok value, refl, followed (IsNumber w32 0) (Encodes value) (to_be_bytes w32 0) (text value) (number_written w32 0 (omega arith)) encoded)

  -- another status, and what is shown all the same
  pub denied_encoded : (failed : Failed B) (text : List ℕ) → IsFailed Shows failed text → Arm made (IsResult Encodes Shows) (made (Err failed)) text
  denied_encoded failed text encoded = (Err failed, refl, encoded)

-- ---- the status of a rule

-- it is not that of success
above_success : (r : Rule) → 0 < status_of r
above_success rule.BadHandle = omega arith
above_success rule.StaleHandle = omega arith
above_success rule.Export = omega arith
above_success rule.CrossVolume = omega arith
above_success rule.ReadOnly = omega arith
above_success rule.NotRegular = omega arith
above_success rule.NotLink = omega arith
above_success rule.NotDirectory = omega arith
above_success rule.Guard = omega arith
above_success rule.OwnerMode = omega arith
above_success rule.OwnerUid = omega arith
above_success rule.OwnerGid = omega arith
above_success rule.SizeType = omega arith
above_success rule.WriteRight = omega arith
above_success rule.ReadRight = omega arith
above_success rule.OwnerTime = omega arith
above_success rule.TimeRight = omega arith
above_success rule.TooBig = omega arith
above_success rule.Space = omega arith
above_success rule.Search = omega arith
above_success rule.DirectoryRead = omega arith
above_success rule.DirectoryWrite = omega arith
above_success rule.Sticky = omega arith
above_success rule.NameLong = omega arith
above_success rule.NameForm = omega arith
above_success rule.DotName = omega arith
above_success rule.DotDot = omega arith
above_success rule.PathLong = omega arith
above_success rule.MountPath = omega arith
above_success rule.NoEntry = omega arith
above_success rule.Exists = omega arith
above_success rule.IsDirectory = omega arith
above_success rule.TargetNotDirectory = omega arith
above_success rule.NotEmpty = omega arith
above_success rule.Incompatible = omega arith
above_success rule.IntoItself = omega arith
above_success rule.LinkDirectory = omega arith
above_success rule.Files = omega arith
above_success rule.Links = omega arith
above_success rule.Numbers = omega arith
above_success rule.NoMknod = omega arith
above_success rule.TooSmall = omega arith

-- a status and what is shown, which are also known by other names
pub failed_encoded : {B : Type 0} (Shows : B → List ℕ → Type 0) (text : B → List ℕ) (r : Rule) (shown : B) (n : ℕ) (written : B) → n ≡ status_of r → written ≡ shown
    → IsNumber w32 n (to_be_bytes w32 n) → Shows written (text written) → IsFailed Shows (record { status = status_of r; shown = shown }) (to_be_bytes w32 (status_of r) ++ text shown)
failed_encoded Shows text r shown n written same is number encoded = record {
  status = above_success r;
  encoded = followed (IsNumber w32 (status_of r)) (Shows shown) (to_be_bytes w32 (status_of r)) (text shown) (subst (λ k. IsNumber w32 k (to_be_bytes w32 k)) same number) (subst (λ s. Shows s (text s)) is encoded);
}
