-- What is kept, as clients see it.
use Rattle.std.specs.Prelude.{ℕ, ◌<◌, List, map}
use Rattle.nfs_inodes.specs.declared.stored_file.StoredFile.{StoredFile}
use Rattle.nfs_inodes.specs.declared.stored_file.Node.{Node}
use Rattle.nfs_inodes.specs.declared.stored_file.Node.TheVariants as node
use Rattle.nfs_inodes.specs.declared.stored_volume.StoredVolume.{StoredVolume}
use Rattle.nfs_inodes.specs.Tree.{File, Kind, Volume, Regular, Directory, Link}
use Rattle.nfs_inodes.specs.declared.limits.Limits.{Limits}
use Rattle.nfs_inodes.specs.Counts.{CountedFile, CountedVolume, CountedTree}
use Rattle.nfs_handles.specs.NumberedFiles.{NumberedFiles, TaggedFile}

abbrev pub kind_of : Node → Kind
kind_of (node.Regular content) = Regular content
kind_of (node.Directory parent entries) = Directory parent.0 entries.value.next entries.value.entries
kind_of (node.Link path) = Link path.items

-- the file, under some tag
abbrev pub file_of : ℕ → StoredFile → File
file_of tag i = record {
  volume = i.volume;
  kind = kind_of i.node;
  mode = i.mode;
  uid = i.uid;
  gid = i.gid;
  atime = i.atime;
  mtime = i.mtime;
  ctime = i.ctime;
  tag = tag;
  verifier = i.verifier;
}

abbrev pub counted_file_of : ℕ → StoredFile → CountedFile
counted_file_of tag i = record { file = file_of tag i; nlink = i.nlink }

abbrev pub volume_of : StoredVolume → Volume
volume_of s = record { path = s.path.items; max_bytes = s.max_bytes; max_files = s.max_files; root = s.root.0 }

abbrev pub counted_volume_of : StoredVolume → CountedVolume
counted_volume_of s = record { volume = volume_of s; bytes = s.bytes; files = s.files }

-- a directory takes an entry with no growth
abbrev pub has_room : Node → Type 0
has_room (node.Regular content) = ⊥
has_room (node.Directory parent entries) = 0 < entries.value.spare
has_room (node.Link path) = ⊥

abbrev pub HasRoom : StoredFile → Type 0
HasRoom i = has_room i.node

-- the files with what is kept beside each
abbrev pub counted_files : List (ℕ × TaggedFile StoredFile) → List (ℕ × CountedFile)
counted_files files = map (λ e. (e.0, counted_file_of e.1.tag e.1.value)) files

abbrev pub counted_tree_of : Limits → NumberedFiles StoredFile → List StoredVolume → CountedTree
counted_tree_of limits numbered_files stored_volumes = record {
  files = counted_files numbered_files.files;
  next = numbered_files.next;
  key = numbered_files.key;
  volumes = map counted_volume_of stored_volumes;
  limits = limits;
}
