-- What the procedures that leave the tree as it is answer (RFC 1813, section 3.3).
use Rattle.std.specs.Prelude.{ℕ, ◌+◌, ◌-◌, Bool, true, false, List, [], length, map, take, drop, min, Option, Some, None, Ok, Err, nat_le, slice_get}
use Rattle.std.specs.Int.{w64, from_be_bytes}
use Rattle.nfs_args.specs.declared.access.Access.{Access}
use Rattle.nfs_args.specs.Sizes.{largest_of, max_data}
use Rattle.nfs_args.specs.declared.answer.NfsAnswer.TheVariants as answer
use Rattle.nfs_args.specs.declared.byte_range.ByteRange.{ByteRange}
use Rattle.nfs_args.specs.declared.dir_op.DirOp.{DirOp}
use Rattle.nfs_args.specs.declared.entry.Entry.{Entry}
use Rattle.nfs_args.specs.declared.entry_plus.EntryPlus.{EntryPlus}
use Rattle.nfs_args.specs.declared.mknod.Mknod.{Mknod}
use Rattle.nfs_args.specs.declared.dir_page.DirPage.{DirPage}
use Rattle.nfs_args.specs.declared.path_limits.PathLimits.{PathLimits}
use Rattle.nfs_args.specs.declared.read_data.ReadData.{ReadData}
use Rattle.nfs_args.specs.declared.readdir.Readdir.{Readdir}
use Rattle.nfs_args.specs.declared.readdir.Readdirplus.{Readdirplus}
use Rattle.nfs_args.specs.declared.volume_space.VolumeSpace.{VolumeSpace}
use Rattle.nfs_args.specs.declared.volume_space.Space.{Space}
use Rattle.nfs_args.specs.declared.server_limits.ServerLimits.{ServerLimits}
use Rattle.nfs_args.specs.declared.server_limits.Transfer.{Transfer}
use Rattle.nfs_args.specs.declared.procedure.Procedure.TheVariants as proc
use Rattle.nfs_attrs.specs.declared.fattr.Fattr.{Fattr}
use Rattle.nfs_dirs.specs.Pages.{fits, fits_plus, chosen, is_end, left_after, entry_reported, entry_plus_reported}
use Rattle.nfs_handles.specs.Handles.{handle_at}
use Rattle.nfs_inodes.specs.Limits.{max_name_bytes}
use Rattle.nfs_inodes.specs.declared.limits.Limits.{Limits}
use Rattle.nfs_inodes.specs.Reading.{bytes_at, numbered_files, path_at, totals_at}
use Rattle.nfs_inodes.specs.Tree.{Tree, Volume, on_some}
use Rattle.nfs_inodes.specs.declared.volumes.Totals.{Totals}
use Rattle.nfs_procs.specs.Doing.{Doing, never, unchanged, no_change}
use Rattle.nfs_rules.specs.Rights.{access_bits, may}
use Rattle.nfs_rules.specs.Rules.{status_of}
use Rattle.nfs_rules.specs.Subjects.{Subject}
use Rattle.nfs_rules.specs.Tests.{found}
use Rattle.nfs_rules.specs.declared.rights.Right.TheVariants.{Execute}
use Rattle.nfs_rules.specs.declared.rule.Rule.TheVariants.{NoMknod}

-- the handle of a file that lives
abbrev pub handle_in : Tree → Fattr → List ℕ
handle_in t f = on_some (handle_at (numbered_files t) f.fileid) [] (λ handle. handle)

-- GETATTR: the attributes of the file
abbrev pub getattr : Doing
getattr = record {
  takes_memory = never;
  effect = unchanged;
  granted = λ file same new. answer.Getattr (Ok file.file);
  largest = largest_of proc.Getattr;
  denied = λ status seen. answer.Getattr (Err (record { status = status; shown = tt }));
}

-- LOOKUP: the file under the name
abbrev pub lookup : DirOp → Doing
lookup a = record {
  takes_memory = never;
  effect = unchanged;
  granted = λ dir same new. answer.Lookup (Ok (record {
    file = on_some (found dir a.name) [] (handle_in dir.tree);
    attributes = found dir a.name;
    dir = Some dir.file;
  }));
  largest = largest_of proc.Lookup;
  denied = λ status seen. answer.Lookup (Err (record { status = status; shown = seen a.dir }));
}

-- ACCESS: the bits that are asked for and granted
abbrev pub access : Access → Doing
access a = record {
  takes_memory = never;
  effect = unchanged;
  granted = λ file same new. answer.Access (Ok (record {
    attributes = Some file.file;
    rights = access_bits file.options.read_only file.ids file.file a.rights;
  }));
  largest = largest_of proc.Access;
  denied = λ status seen. answer.Access (Err (record { status = status; shown = seen a.file }));
}

-- READLINK: the link's path
abbrev pub readlink : List ℕ → Doing
readlink handle = record {
  takes_memory = never;
  effect = unchanged;
  granted = λ file same new. answer.Readlink (Ok (record {
    attributes = Some file.file;
    path = on_some (path_at file.tree file.file.fileid) [] (λ path. path);
  }));
  largest = largest_of proc.Readlink;
  denied = λ status seen. answer.Readlink (Err (record { status = status; shown = seen handle }));
}

-- the most bytes of one READ or WRITE that the server speaks of
abbrev pub max_transfer : ℕ
max_transfer = max_data

-- from the offset on as many as are asked for, at most 131,072, and as many as are there
abbrev pub read_bytes : Subject → ByteRange → List ℕ
read_bytes s a = take (min a.count max_transfer) (drop a.offset (bytes_at s.tree s.file.fileid))

-- some bytes from an offset on, and whether they reach the end
abbrev pub data_of : Fattr → ℕ → List ℕ → ReadData
data_of f offset bytes = record { attributes = Some f; eof = nat_le f.size (offset + length bytes); content = bytes }

-- READ
abbrev pub read : ByteRange → Doing
read a = record {
  takes_memory = never;
  effect = unchanged;
  granted = λ file same new. answer.Read (Ok (data_of file.file a.offset (read_bytes file a)));
  largest = largest_of proc.Read;
  denied = λ status seen. answer.Read (Err (record { status = status; shown = seen a.file }));
}

-- a page of a directory after a cookie; the verifier of cookies is 0, since they are never used again
abbrev pub page_at : Tree → Fattr → ℕ → ℕ → DirPage (List Entry)
page_at t f cookie count = record {
  attributes = Some f;
  verifier = 0;
  entries = map entry_reported (chosen (fits count) (left_after t f.fileid cookie));
  eof = is_end (fits count) (left_after t f.fileid cookie);
}

-- READDIR
abbrev pub readdir : Readdir → Doing
readdir a = record {
  takes_memory = never;
  effect = unchanged;
  granted = λ dir same new. answer.Readdir (Ok (page_at dir.tree dir.file a.cookie a.count));
  largest = largest_of proc.Readdir;
  denied = λ status seen. answer.Readdir (Err (record { status = status; shown = seen a.dir }));
}

-- the same with what the files are, where the directory is searchable
abbrev pub page_plus_at : Tree → Fattr → Bool → ℕ → ℕ → ℕ → DirPage (List EntryPlus)
page_plus_at t f searchable cookie dircount maxcount = record {
  attributes = Some f;
  verifier = 0;
  entries = map (entry_plus_reported t searchable) (chosen (fits_plus dircount maxcount searchable) (left_after t f.fileid cookie));
  eof = is_end (fits_plus dircount maxcount searchable) (left_after t f.fileid cookie);
}

-- READDIRPLUS
abbrev pub readdirplus : Readdirplus → Doing
readdirplus a = record {
  takes_memory = never;
  effect = unchanged;
  granted = λ dir same new. answer.Readdirplus (Ok (page_plus_at dir.tree dir.file (may dir.ids dir.file Execute) a.cookie a.dircount a.maxcount));
  largest = largest_of proc.Readdirplus;
  denied = λ status seen. answer.Readdirplus (Err (record { status = status; shown = seen a.dir }));
}

-- MKNOD is never granted
abbrev pub mknod : Mknod → Doing
mknod a = record {
  takes_memory = never;
  effect = unchanged;
  granted = λ dir same new. answer.Mknod (Err (record { status = status_of NoMknod; shown = no_change (Some dir.file) }));
  largest = largest_of proc.Mknod;
  denied = λ status seen. answer.Mknod (Err (record { status = status; shown = no_change (seen a.place.dir) }));
}

-- of so many, so many of which are used
abbrev pub space_of : ℕ → ℕ → Space
space_of total used = record { total = total; free = total - used; available = total - used }

abbrev pub no_space : Space
no_space = space_of 0 0

-- of the bytes and the files that a volume may have, those that its files have
abbrev pub room_in : Option Volume → Option Totals → Fattr → VolumeSpace
room_in (Some volume) (Some totals) f = record {
  attributes = Some f;
  bytes = space_of volume.max_bytes totals.bytes;
  files = space_of volume.max_files totals.files;
  invarsec = 0;
}
room_in (Some volume) None f = record { attributes = Some f; bytes = no_space; files = no_space; invarsec = 0 }
room_in None totals f = record { attributes = Some f; bytes = no_space; files = no_space; invarsec = 0 }

-- FSSTAT: the room of the file's volume
abbrev pub fsstat : List ℕ → Doing
fsstat handle = record {
  takes_memory = never;
  effect = unchanged;
  granted = λ file same new. answer.Fsstat (Ok (room_in (slice_get file.tree.volumes (file.file.fsid - 1)) (totals_at file.tree (file.file.fsid - 1)) file.file));
  largest = largest_of proc.Fsstat;
  denied = λ status seen. answer.Fsstat (Err (record { status = status; shown = seen handle }));
}

-- at most 131,072 bytes at once, in multiples of 4,096
abbrev pub transfer : Transfer
transfer = record { max = max_transfer; preferred = max_transfer; multiple = 4096 }

-- hard and symbolic links, the same for all files, and times that can be set
abbrev pub server_limits : Limits → Fattr → ServerLimits
server_limits limits f = record {
  attributes = Some f;
  read = transfer;
  write = transfer;
  readdir = 8192;
  max_file_size = limits.file_size;
  time_delta = record { seconds = 0; nanos = 1 };
  properties = 27;
}

-- FSINFO: what the server bears
abbrev pub fsinfo : List ℕ → Doing
fsinfo handle = record {
  takes_memory = never;
  effect = unchanged;
  granted = λ file same new. answer.Fsinfo (Ok (server_limits file.tree.limits file.file));
  largest = largest_of proc.Fsinfo;
  denied = λ status seen. answer.Fsinfo (Err (record { status = status; shown = seen handle }));
}

-- names are distinguished by case, too long ones are refused, and only uid 0 gives files away
abbrev pub path_limits : Limits → Fattr → PathLimits
path_limits limits f = record {
  attributes = Some f;
  linkmax = limits.links;
  name_max = max_name_bytes;
  no_trunc = true;
  chown_restricted = true;
  case_insensitive = false;
  case_preserving = true;
}

-- PATHCONF: what names may be
abbrev pub pathconf : List ℕ → Doing
pathconf handle = record {
  takes_memory = never;
  effect = unchanged;
  granted = λ file same new. answer.Pathconf (Ok (path_limits file.tree.limits file.file));
  largest = largest_of proc.Pathconf;
  denied = λ status seen. answer.Pathconf (Err (record { status = status; shown = seen handle }));
}

-- the key of the server, by which a client sees that the server began anew
abbrev pub verifier_of : Tree → ℕ
verifier_of t = from_be_bytes w64 t.key

-- COMMIT: nothing is left to be made safe
abbrev pub commit : ByteRange → Doing
commit a = record {
  takes_memory = never;
  effect = unchanged;
  granted = λ file same new. answer.Commit (Ok (record { file = no_change (Some file.file); verifier = verifier_of file.tree }));
  largest = largest_of proc.Commit;
  denied = λ status seen. answer.Commit (Err (record { status = status; shown = no_change (seen a.file) }));
}
