-- What the procedures that change the tree do and answer (RFC 1813, section 3.3).
use Rattle.std.specs.Prelude.{ℕ, ◌+◌, ◌%◌, Bool, true, false, not, ◌&&◌, ◌||◌, List, length, Option, Some, None, Ok, Err, is_some, nat_eq, nat_lt, nat_le, if◌then◌else◌}
use Rattle.nfs_args.specs.Sizes.{largest_of}
use Rattle.nfs_args.specs.declared.answer.NfsAnswer.TheVariants as answer
use Rattle.nfs_args.specs.declared.create.Create.{Create}
use Rattle.nfs_args.specs.declared.create.CreateHow.{CreateHow}
use Rattle.nfs_args.specs.declared.create.CreateHow.TheVariants.{Unchecked, Guarded, Exclusive}
use Rattle.nfs_args.specs.declared.dir_op.DirOp.{DirOp}
use Rattle.nfs_args.specs.declared.link.Link.{Link}
use Rattle.nfs_args.specs.declared.made.Made.{Made}
use Rattle.nfs_args.specs.declared.mkdir.Mkdir.{Mkdir}
use Rattle.nfs_args.specs.declared.rename.Rename.{Rename}
use Rattle.nfs_args.specs.declared.setattr.Setattr.{Setattr}
use Rattle.nfs_args.specs.declared.symlink.Symlink.{Symlink}
use Rattle.nfs_args.specs.declared.write.Stability.TheVariants.{FileSync}
use Rattle.nfs_args.specs.declared.write.Write.{Write}
use Rattle.nfs_args.specs.declared.procedure.Procedure.TheVariants as proc
use Rattle.nfs_attrs.specs.declared.fattr.Fattr.{Fattr}
use Rattle.nfs_attrs.specs.declared.moment.Moment.{Moment}
use Rattle.nfs_attrs.specs.declared.sattr.Sattr.{Sattr}
use Rattle.nfs_attrs.specs.declared.time_setting.TimeSetting.{TimeSetting}
use Rattle.nfs_attrs.specs.declared.time_setting.TimeSetting.TheVariants.{Leave, ServerTime, ClientTime}
use Rattle.nfs_attrs.specs.declared.wcc.Wcc.{Wcc}
use Rattle.nfs_handles.specs.Handles.{handle_at}
use Rattle.nfs_inodes.specs.Changes.{after_make_file, after_mkdir, after_make_link, after_link, after_write_at, after_resize, after_set}
use Rattle.nfs_inodes.specs.Changes.{after_unlink, after_rename, zeros}
use Rattle.nfs_inodes.specs.Reading.{attributes_at, bytes_at, entry_at, numbered_files}
use Rattle.nfs_inodes.specs.Tree.{Tree, on_some}
use Rattle.nfs_inodes.specs.declared.given_attributes.GivenAttributes.{GivenAttributes}
use Rattle.nfs_procs.specs.Doing.{Doing, always, never, change, no_change}
use Rattle.nfs_procs.specs.NewFiles.{new_file_of}
use Rattle.nfs_procs.specs.Readers.{verifier_of}
use Rattle.nfs_rules.specs.Subjects.{Subject}
use Rattle.nfs_rules.specs.Table.{size_in}
use Rattle.nfs_rules.specs.Tests.{found}

-- a file before and after a granted call
abbrev pub changed : Tree → Subject → Wcc
changed new s = change (Some s.file) (attributes_at new s.file.fileid)

-- whether so many bytes from an offset on reach beyond those that file n has
abbrev pub grows : Tree → ℕ → ℕ → ℕ → Bool
grows t n offset count = nat_lt 0 count && nat_lt (length (bytes_at t n)) (offset + count)

-- a size that it gets, if one is given
abbrev pub grows_to : Tree → ℕ → Option ℕ → Bool
grows_to t n size = on_some size false (grows t n 0)

-- ---- settings

-- a time where one is set
abbrev pub setting : Moment → TimeSetting → Option Moment
setting now Leave = None
setting now ServerTime = Some now
setting now (ClientTime moment) = Some moment

abbrev pub given_of : Moment → Sattr → GivenAttributes
given_of now a = record { mode = a.mode; uid = a.uid; gid = a.gid; atime = setting now a.atime; mtime = setting now a.mtime }

abbrev pub is_set : TimeSetting → Bool
is_set Leave = false
is_set other = true

abbrev pub sets_something : Sattr → Bool
sets_something a = is_some a.mode || is_some a.uid || is_some a.gid || is_some a.size || is_set a.atime || is_set a.mtime

-- a size is set first, and with it the time of the content, unless that is given too
abbrev pub after_settings : Tree → ℕ → Sattr → Moment → Tree
after_settings t n a now = if sets_something a then after_set (on_some a.size t (λ size. after_resize t n size now)) n (given_of now a) now else t

-- nothing, a size or a mode alone
abbrev pub nothing_given : Sattr
nothing_given = record { mode = None; uid = None; gid = None; size = None; atime = Leave; mtime = Leave }

abbrev pub size_alone : Option ℕ → Sattr
size_alone size = record nothing_given { size = size }

abbrev pub mode_alone : Option ℕ → Sattr
mode_alone mode = record nothing_given { mode = mode }

-- ---- bits 0x800 and 0x400 of a mode, S_ISUID and S_ISGID, the two highest of twelve, which others than uid 0 take from a file whose
-- bytes they change (POSIX.1-2017, System Interfaces, write and ftruncate)

-- the mode without them, where a caller changes bytes of a file that has one
abbrev pub cleared_mode : ℕ → Fattr → Bool → Option ℕ
cleared_mode uid f changes = if changes && not (nat_eq uid 0) && nat_le 1024 f.mode then Some (f.mode % 1024) else None

-- settings with it, where they give a size and no mode
abbrev pub with_cleared_mode : ℕ → Fattr → Sattr → Sattr
with_cleared_mode uid f a = record a { mode = on_some a.mode (cleared_mode uid f (is_some a.size)) (λ mode. Some mode) }

-- ---- SETATTR

abbrev pub setattr : Setattr → Doing
setattr a = record {
  takes_memory = λ file same. grows_to file.tree file.file.fileid a.attributes.size;
  effect = λ file same now tag. after_settings file.tree file.file.fileid (with_cleared_mode file.ids.uid file.file a.attributes) now;
  granted = λ file same new. answer.Setattr (Ok (changed new file));
  largest = largest_of proc.Setattr;
  denied = λ status seen. answer.Setattr (Err (record { status = status; shown = no_change (seen a.file) }));
}

-- ---- WRITE: all of the data, which are safe at once

-- and the mode without the two bits, where there are some
abbrev pub after_writing : Tree → ℕ → ℕ → List ℕ → Option ℕ → Moment → Tree
after_writing t n offset bytes mode now = after_settings (after_write_at t n offset bytes now) n (mode_alone mode) now

-- whether there are some bytes
abbrev pub has_bytes : List ℕ → Bool
has_bytes bytes = not (nat_eq (length bytes) 0)

abbrev pub write : Write → Doing
write a = record {
  takes_memory = λ file same. has_bytes a.content;
  effect = λ file same now tag. after_writing file.tree file.file.fileid a.offset a.content (cleared_mode file.ids.uid file.file (has_bytes a.content)) now;
  granted = λ file same new. answer.Write (Ok (record {
    file = changed new file;
    count = length a.content;
    committed = FileSync;
    verifier = verifier_of file.tree;
  }));
  largest = largest_of proc.Write;
  denied = λ status seen. answer.Write (Err (record { status = status; shown = no_change (seen a.file) }));
}

-- ---- new files

-- a file, and what became of the directory of its name
abbrev pub new_file_in : Tree → ℕ → Wcc → Made
new_file_in new n dir = record { file = handle_at (numbered_files new) n; attributes = attributes_at new n; dir = dir }

-- a file that was made or taken
abbrev pub made_of : Tree → ℕ → Subject → Made
made_of new n dir = new_file_in new n (changed new dir)

-- the modes of a file and of a directory where none is given, 0600 and 0700, and that of each link, 0777
abbrev pub file_mode : ℕ
file_mode = 384

abbrev pub directory_mode : ℕ
directory_mode = 448

abbrev pub link_mode : ℕ
link_mode = 511

-- nothing is given by an exclusive CREATE
abbrev pub attributes_in : CreateHow → Sattr
attributes_in (Unchecked attributes) = attributes
attributes_in (Guarded attributes) = attributes
attributes_in (Exclusive verifier) = nothing_given

abbrev pub verifier_in : CreateHow → Option (List ℕ)
verifier_in (Unchecked attributes) = None
verifier_in (Guarded attributes) = None
verifier_in (Exclusive verifier) = Some verifier

-- the size that CREATE gives to a file that is there
abbrev pub size_taken : CreateHow → Option ℕ
size_taken (Unchecked attributes) = attributes.size
size_taken other = None

-- which is set as SETATTR of that size alone sets it, for the caller of this uid
abbrev pub after_taking : Tree → ℕ → Fattr → CreateHow → Moment → Tree
after_taking t uid f how now = after_settings t f.fileid (with_cleared_mode uid f (size_alone (size_taken how))) now

-- and it may grow by that
abbrev pub taking_grows : Tree → ℕ → CreateHow → Bool
taking_grows t n how = grows_to t n (size_taken how)

-- a new file has as many zeros as its size says
abbrev pub after_creating : Subject → Create → Moment → ℕ → Tree
after_creating dir a now tag = after_make_file dir.tree dir.file.fileid a.place.name (zeros (on_some (size_in a.how) 0 (λ size. size)))
    (new_file_of file_mode dir.ids now (attributes_in a.how)) (verifier_in a.how) tag now

abbrev pub create : Create → Doing
create a = record {
  takes_memory = λ dir same. on_some (found dir a.place.name) true (λ f. taking_grows dir.tree f.fileid a.how);
  effect = λ dir same now tag. on_some (found dir a.place.name) (after_creating dir a now tag) (λ f. after_taking dir.tree dir.ids.uid f a.how now);
  granted = λ dir same new. answer.Create (Ok (made_of new (on_some (found dir a.place.name) dir.tree.next (λ f. f.fileid)) dir));
  largest = largest_of proc.Create;
  denied = λ status seen. answer.Create (Err (record { status = status; shown = no_change (seen a.place.dir) }));
}

abbrev pub mkdir : Mkdir → Doing
mkdir a = record {
  takes_memory = always;
  effect = λ dir same now tag. after_mkdir dir.tree dir.file.fileid a.place.name (new_file_of directory_mode dir.ids now a.attributes) tag now;
  granted = λ dir same new. answer.Mkdir (Ok (made_of new dir.tree.next dir));
  largest = largest_of proc.Mkdir;
  denied = λ status seen. answer.Mkdir (Err (record { status = status; shown = no_change (seen a.place.dir) }));
}

-- the mode that is given for a link is not looked at
abbrev pub symlink : Symlink → Doing
symlink a = record {
  takes_memory = always;
  effect = λ dir same now tag. after_make_link dir.tree dir.file.fileid a.place.name a.path (record (new_file_of link_mode dir.ids now a.attributes) { mode = link_mode }) tag now;
  granted = λ dir same new. answer.Symlink (Ok (made_of new dir.tree.next dir));
  largest = largest_of proc.Symlink;
  denied = λ status seen. answer.Symlink (Err (record { status = status; shown = no_change (seen a.place.dir) }));
}

-- ---- names

abbrev pub remove : DirOp → Doing
remove a = record {
  takes_memory = never;
  effect = λ dir same now tag. after_unlink dir.tree dir.file.fileid a.name now;
  granted = λ dir same new. answer.Remove (Ok (changed new dir));
  largest = largest_of proc.Remove;
  denied = λ status seen. answer.Remove (Err (record { status = status; shown = no_change (seen a.dir) }));
}

abbrev pub rmdir : DirOp → Doing
rmdir a = record {
  takes_memory = never;
  effect = λ dir same now tag. after_unlink dir.tree dir.file.fileid a.name now;
  granted = λ dir same new. answer.Rmdir (Ok (changed new dir));
  largest = largest_of proc.Rmdir;
  denied = λ status seen. answer.Rmdir (Err (record { status = status; shown = no_change (seen a.dir) }));
}

-- whether two names are not those of one file
abbrev pub names_apart : Tree → ℕ → List ℕ → ℕ → List ℕ → Bool
names_apart t from name to new_name = on_some (entry_at t from name) true (λ e. on_some (entry_at t to new_name) true (λ old. not (nat_eq old.number e.number)))

-- where both names name one file nothing changes
abbrev pub rename : Rename → Doing
rename a = record {
  takes_memory = λ from to. names_apart from.tree from.file.fileid a.from.name to.file.fileid a.to.name;
  effect = λ from to now tag. after_rename from.tree from.file.fileid a.from.name to.file.fileid a.to.name now;
  granted = λ from to new. answer.Rename (Ok (record { from = changed new from; to = changed new to }));
  largest = largest_of proc.Rename;
  denied = λ status seen. answer.Rename (Err (record {
    status = status;
    shown = record { from = no_change (seen a.from.dir); to = no_change (seen a.to.dir) };
  }));
}

abbrev pub link : Link → Doing
link a = record {
  takes_memory = always;
  effect = λ file dir now tag. after_link file.tree file.file.fileid dir.file.fileid a.place.name now;
  granted = λ file dir new. answer.Link (Ok (record { attributes = attributes_at new file.file.fileid; dir = changed new dir }));
  largest = largest_of proc.Link;
  denied = λ status seen. answer.Link (Err (record { status = status; shown = record { attributes = seen a.file; dir = no_change (seen a.place.dir) } }));
}
