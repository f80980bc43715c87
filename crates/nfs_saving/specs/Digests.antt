-- The digest of a description, whatever its key is.
use Rattle.std.specs.Prelude.{◌≡◌, ℕ, Bool, true, false, List, [], ◌∷◌, ◌++◌, ◌==◌, if◌then◌else◌}
use Rattle.nfs_saving.specs.declared.digested.DescriptionDigest.{DescriptionDigest}
use Rattle.nfs_saving.specs.declared.digested.Digested.{Digested}
use Rattle.sha2.specs.Hashers.{Holds256}
use Rattle.sha2.specs.Sha256.{sha256}

-- what stands after the first line, which has the key, from its LF on
abbrev pub after_key : List ℕ → List ℕ
after_key [] = []
after_key (byte ∷ rest) = if byte == 10 then byte ∷ rest else after_key rest

abbrev pub digest_of : List ℕ → List ℕ
digest_of text = sha256 (after_key text)

-- what is after the key of a text that goes on: all that follows, once its first line has ended
abbrev pub GoesOn : Bool → List ℕ → Type 0
GoesOn true text = (more : List ℕ) → after_key (text ++ more) ≡ after_key text ++ more
GoesOn false text = (more : List ℕ) → after_key (text ++ more) ≡ after_key more

-- What is after the key of a text was digested.
pub record IsDigestOf (it : DescriptionDigest) (text : List ℕ) : Type 0 where
  pub digested : Holds256 it.digest (after_key text)
  pub goes_on : GoesOn it.is_after_key text

-- An output has a text, and this was digested.
abbrev pub HasDigested : {O : Type 0} → (O → List ℕ → Type 0) → Digested O → List ℕ → Type 0
HasDigested has it text = has it.out text × IsDigestOf it.digest text
