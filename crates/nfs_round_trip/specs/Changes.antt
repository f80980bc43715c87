-- What clients do leaves a tree describable.
use Rattle.std.specs.Prelude.{◌≡◌, ℕ, ◌<◌, ◌^◌, List, length, Option, Some}
use Rattle.hex.specs.Hex.{IsBytes}
use Rattle.nfs_attrs.specs.declared.moment.Moment.{Moment}
use Rattle.nfs_inodes.specs.declared.given_attributes.GivenAttributes.{GivenAttributes}
use Rattle.nfs_inodes.specs.declared.new_file.NewFile.{NewFile}
use Rattle.nfs_inodes.specs.Changes.{after_link, after_mkdir, after_make_file, after_make_link, after_rename, after_resize, after_set, after_unlink}
use Rattle.nfs_inodes.specs.Changes.{after_write_at}
use Rattle.nfs_inodes.specs.Conditions.{MayLink, MayMake, MayMakeDirectory, MayMakeLink, MayRename, MayResize, MayUnlink, MayWrite}
use Rattle.nfs_inodes.specs.Law.{Lives}
use Rattle.nfs_inodes.specs.Tree.{Tree, File}
use Rattle.nfs_exports.specs.declared.export_table.Export.{Export}
use Rattle.nfs_load.specs.Moments.{IsTime}
use Rattle.nfs_round_trip.specs.RoundTrip.{IsDescribable}

-- the tree stays describable with the same exports
abbrev pub Stays : Tree → Tree → Type 0
Stays t u = (table : List (List Export)) → IsDescribable t table → IsDescribable u table

-- owner, group and times of 32 bits
pub record IsNewSaid (given : NewFile) : Type 0 where
  pub uid : given.uid < 2 ^ 32
  pub gid : given.gid < 2 ^ 32
  pub atime : IsTime given.atime
  pub mtime : IsTime given.mtime

pub record IsGivenSaid (given : GivenAttributes) : Type 0 where
  pub uid : (n : ℕ) → given.uid ≡ Some n → n < 2 ^ 32
  pub gid : (n : ℕ) → given.gid ≡ Some n → n < 2 ^ 32
  pub atime : (m : Moment) → given.atime ≡ Some m → IsTime m
  pub mtime : (m : Moment) → given.mtime ≡ Some m → IsTime m

-- Each operation, where it may be done: with names and contents of bytes.
pub record ChangesStayDescribable : Type 0 where
  pub files : (t : Tree) (d tag : ℕ) (name bytes : List ℕ) (given : NewFile) (verifier : Option (List ℕ)) (now : Moment)
      → IsTime now → MayMake t d name (length bytes) → tag < 2 ^ 32 → IsNewSaid given → IsBytes name → IsBytes bytes → Stays t (after_make_file t d name bytes given verifier tag now)
  pub directories : (t : Tree) (d tag : ℕ) (name : List ℕ) (given : NewFile) (now : Moment)
      → IsTime now → MayMakeDirectory t d name → tag < 2 ^ 32 → IsNewSaid given → IsBytes name → Stays t (after_mkdir t d name given tag now)
  pub links : (t : Tree) (d tag : ℕ) (name path : List ℕ) (given : NewFile) (now : Moment)
      → IsTime now → MayMakeLink t d name path → tag < 2 ^ 32 → IsNewSaid given → IsBytes name → IsBytes path → Stays t (after_make_link t d name path given tag now)
  pub names : (t : Tree) (n d : ℕ) (name : List ℕ) (now : Moment) → IsTime now → MayLink t n d name → IsBytes name → Stays t (after_link t n d name now)
  pub bytes : (t : Tree) (n offset : ℕ) (bytes : List ℕ) (now : Moment) → IsTime now → MayWrite t n offset (length bytes) → IsBytes bytes
      → Stays t (after_write_at t n offset bytes now)
  pub sizes : (t : Tree) (n size : ℕ) (now : Moment) → IsTime now → MayResize t n size → Stays t (after_resize t n size now)
  pub attributes : (t : Tree) (n : ℕ) (given : GivenAttributes) (now : Moment) (f : File) → IsTime now → Lives t n f → IsGivenSaid given → Stays t (after_set t n given now)
  pub removals : (t : Tree) (d : ℕ) (name : List ℕ) (now : Moment) → IsTime now → MayUnlink t d name → Stays t (after_unlink t d name now)
  pub renames : (t : Tree) (from : ℕ) (name : List ℕ) (to : ℕ) (new_name : List ℕ) (now : Moment)
      → IsTime now → MayRename t from name to new_name → IsBytes new_name → Stays t (after_rename t from name to new_name now)
