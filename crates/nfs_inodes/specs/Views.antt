-- What readers lend, as values.
use Rattle.std.specs.Prelude.{◌≡◌, ℕ, ◌||◌, nat_le, List, [], Some}
use Rattle.nfs_inodes.specs.Tree.{Tree, Kind, Entry, Volume, on_some, bytes_in}
use Rattle.nfs_attrs.specs.declared.fattr.Fattr.{Fattr}
use Rattle.nfs_entries.specs.Seen as directory
use Rattle.nfs_inodes.specs.Reading.{attributes_at, is_directory_type, kind_at, numbered_files}
use Rattle.nfs_handles.specs.Handles.{reading, number}
use Rattle.nfs_handles.specs.declared.reading.Reading.TheVariants.{Live}
use Rattle.nfs_inodes.specs.declared.directory.EntryView.{EntryView}
use Rattle.nfs_inodes.specs.declared.directory.Entries.{Entries}
use Rattle.nfs_inodes.specs.declared.volumes.VolumeView.{VolumeView}
use Rattle.nfs_inodes.specs.declared.removal.Standing.{Standing}

abbrev pub entry_seen : EntryView → Entry
entry_seen e = record { cookie = e.cookie; name = e.name.now; number = e.number.0 }

-- those that are to come
abbrev pub entries_left : Entries → List Entry
entries_left it = on_some it.entries [] directory.entries_left

abbrev pub volume_seen : VolumeView → Volume
volume_seen v = record { path = v.path.now; max_bytes = v.max_bytes; max_files = v.max_files; root = v.root.0 }

-- a file that lives
pub record FileView : Type 0 where
  pub attributes : Fattr
  pub kind : Kind

abbrev pub kind_seen : FileView → Kind
kind_seen v = v.kind

-- the bytes of a regular file; of another none
abbrev pub bytes_seen : FileView → List ℕ
bytes_seen v = bytes_in (kind_seen v)

-- what a removal has to know of a file
abbrev pub standing_of : Fattr → Standing
standing_of f = record { directory = is_directory_type f.file_type; last = is_directory_type f.file_type || nat_le f.nlink 1 }

-- the file lives in the tree, with these attributes, and is this
abbrev pub IsSeen : Tree → FileView → Type 0
IsSeen t v = (attributes_at t v.attributes.fileid ≡ Some v.attributes) × (kind_at t v.attributes.fileid ≡ Some (kind_seen v))

-- and a handle reads as it
abbrev pub IsNamedBy : Tree → List ℕ → FileView → Type 0
IsNamedBy t handle v = (reading (numbered_files t) handle ≡ Live (number v.attributes.fileid)) × IsSeen t v
