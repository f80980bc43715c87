-- What is saved of a server, and in the place of what.
use Rattle.std.specs.Prelude.{◌≡◌, ◌⊎◌, ℕ, List, Option, Some, None, ⊤}
use Rattle.nfs_saving.specs.Digests.{digest_of}
use Rattle.nfs_saving.specs.declared.saving.Saved.{Saved}
use Rattle.nfs_saving.specs.declared.saving.Saved.TheVariants.{Written, Unchanged}
use Rattle.nfs_describe.specs.Texts.{Says}
use Rattle.nfs_inodes.specs.Changes.{with_key}
use Rattle.nfs_server.specs.Fits.{Held}

-- ---- the text

-- the key that is given, or a new one
abbrev pub IsKey : Option (List ℕ) → List ℕ → Type 0
IsKey None key = ⊤
IsKey (Some given) key = key ≡ given

-- A text describes a server's tree with its exports, under the key that is given or a new one.
pub record IsDescription (given : Option (List ℕ)) (server : Held) (text : List ℕ) : Type 0 where
  pub key : List ℕ
  pub key_is : IsKey given key
  pub says : Says (with_key server.state.tree key) server.setup.exports text

-- ---- the file

-- where the text that had the name is known, this one has it now
abbrev pub Replaces : Option (List ℕ) → List ℕ → Option (List ℕ) → Type 0
Replaces old text new = (before : List ℕ) → old ≡ Some before → new ≡ Some text

-- the same, or the one that had it has it still
abbrev pub MayReplace : Option (List ℕ) → List ℕ → Option (List ℕ) → Type 0
MayReplace old text new = (before : List ℕ) → old ≡ Some before → (new ≡ Some before) ⊎ (new ≡ Some text)

-- ---- a server's tree in it

-- The description of a server's tree has the name.
pub record IsSaved (given : Option (List ℕ)) (server : Held) (text : List ℕ) (old new : Option (List ℕ)) : Type 0 where
  pub describes : IsDescription given server text
  pub replaces : Replaces old text new

-- The description of a server's tree may have the name.
pub record WasTried (given : Option (List ℕ)) (server : Held) (old new : Option (List ℕ)) : Type 0 where
  pub text : List ℕ
  pub describes : IsDescription given server text
  pub replaces : MayReplace old text new

-- nothing was written, or a step was refused
abbrev pub IsRefused : Option (List ℕ) → Held → Option (List ℕ) → Option (List ℕ) → Type 0
IsRefused given server old new = (new ≡ old) ⊎ WasTried given server old new

-- The digest is that of the description of a server's tree, whatever its key is.
pub record IsDigest (given : Option (List ℕ)) (server : Held) (digest : Option (List ℕ)) : Type 0 where
  pub text : List ℕ
  pub describes : IsDescription given server text
  pub digest_is : digest ≡ Some (digest_of text)

-- the description has the name, and its digest is kept; or the tree is described as it was, and nothing has changed
abbrev pub IsDone : Saved → Option (List ℕ) → Held → Option (List ℕ) → Option (List ℕ) → Option (List ℕ) → Option (List ℕ) → Type 0
IsDone Written given server old_digest digest old new = (text : List ℕ) × IsSaved given server text old new × (digest ≡ Some (digest_of text))
IsDone Unchanged given server old_digest digest old new = IsDigest given server old_digest × (digest ≡ old_digest) × (new ≡ old)
