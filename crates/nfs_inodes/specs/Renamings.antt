-- What is done to the kept files where an entry goes to another name, and what it needs.
use Rattle.std.specs.Prelude.{◌≡◌, ◌≢◌, ℕ, List, Some, option_map}
use Rattle.nfs_attrs.specs.declared.moment.Moment.{Moment}
use Rattle.nfs_handles.specs.NumberedFiles.{NumberedFiles}
use Rattle.nfs_handles.specs.declared.number.Number.{Number}
use Rattle.nfs_inodes.specs.declared.limits.Limits.{Limits}
use Rattle.nfs_inodes.specs.declared.stored_file.StoredFile.{StoredFile}
use Rattle.nfs_inodes.specs.declared.stored_volume.StoredVolume.{StoredVolume}
use Rattle.nfs_inodes.specs.declared.renaming.Route.{Route}
use Rattle.nfs_inodes.specs.Tree.{Entry, entries_in}
use Rattle.nfs_inodes.specs.Changes.{moved_to, carried}
use Rattle.nfs_inodes.specs.Conditions.{MayCarry, MayRename}
use Rattle.nfs_inodes.specs.Counts.{Agrees, tree_in}
use Rattle.nfs_inodes.specs.Reading.{entry_named}
use Rattle.nfs_inodes.specs.Storage.{file_of, HasRoom, counted_tree_of}
use Rattle.nfs_inodes.specs.Removals.{HasRoomAt}

-- a file that comes into directory d
pub record MovesTo (d : ℕ) (now : Moment) (old new : StoredFile) : Type 0 where
  pub file : file_of 0 new ≡ moved_to (file_of 0 old) d now
  pub nlink : new.nlink ≡ old.nlink
  pub room : HasRoom old → HasRoom new

-- what is kept agrees with the tree, where the entry of a name may go to another that is free; and there is room for it
pub record Carries (limits : Limits) (files : NumberedFiles StoredFile) (stored_volumes : List StoredVolume) (route : Route) (name new_name : List ℕ) : Type 0 where
  pub agree : Agrees (counted_tree_of limits files stored_volumes)
  pub may : MayCarry (tree_in (counted_tree_of limits files stored_volumes)) route.from.0 name route.to.0 new_name
  pub number : route.number.0 ≡ may.entry.number
  pub room : HasRoomAt files route.to.0

-- the entry has gone there
pub record HasCarried (limits : Limits) (old new : NumberedFiles StoredFile) (stored_volumes : List StoredVolume) (route : Route) (name new_name : List ℕ) (now : Moment) : Type 0 where
  pub agree : Agrees (counted_tree_of limits new stored_volumes)
  pub done : tree_in (counted_tree_of limits new stored_volumes)
      ≡ carried (tree_in (counted_tree_of limits old stored_volumes)) route.from.0 name route.number.0 route.to.0 new_name now

-- what is kept agrees with the tree, where the entry of a name may go to another, which is free or names the file to be replaced; and there is room for it
pub record Renames (limits : Limits) (files : NumberedFiles StoredFile) (stored_volumes : List StoredVolume) (route : Route) (name new_name : List ℕ) : Type 0 where
  pub agree : Agrees (counted_tree_of limits files stored_volumes)
  pub may : MayRename (tree_in (counted_tree_of limits files stored_volumes)) route.from.0 name route.to.0 new_name
  pub number : route.number.0 ≡ may.entry.number
  pub names : option_map (λ (n : Number). n.0) route.replaced ≡ option_map (λ (e : Entry). e.number) (entry_named new_name (entries_in may.target.kind))
  pub other : option_map (λ (n : Number). n.0) route.replaced ≢ Some route.number.0
  pub room : HasRoomAt files route.to.0
