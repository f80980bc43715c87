-- What operations do to the tree.
use Rattle.std.specs.Prelude.{◌≡◌, ℕ, ◌+◌, ◌%◌, max, not, nat_eq, List, [], ◌∷◌, ◌++◌, length, filter}
use Rattle.std.specs.Prelude.{Option, None, if◌then◌else◌}
pub use Rattle.nfs_content.specs.Bytes.{zeros, put_bytes, sized}
use Rattle.nfs_attrs.specs.declared.moment.Moment.{Moment}
use Rattle.nfs_inodes.specs.declared.limits.Limits.{Limits}
use Rattle.nfs_inodes.specs.declared.given_attributes.GivenAttributes.{GivenAttributes}
use Rattle.nfs_inodes.specs.declared.new_file.NewFile.{NewFile}
use Rattle.nfs_handles.specs.Tags.{IsNextTag}
use Rattle.nfs_inodes.specs.Reading.{has_name, entry_at, numbered_files}
use Rattle.nfs_inodes.specs.Tree.{Tree, File, Kind, Regular, Directory, Link, Entry, Volume, at, with_at, without_at, on_some, bytes_in, names_of}

-- ---- the elementary changes

-- the next number for this file, which no entry names yet
abbrev pub with_new_file : Tree → File → Tree
with_new_file t f = record t { files = t.files ++ (t.next, f) ∷ []; next = t.next + 1 }

-- another file under a number that has one
abbrev pub with_file : Tree → ℕ → File → Tree
with_file t n f = record t { files = with_at n f t.files }

-- the new entry has the next cookie, which rises by 1
abbrev pub kind_with_entry : Kind → List ℕ → ℕ → Kind
kind_with_entry (Regular bytes) name n = Regular bytes
kind_with_entry (Directory parent next_cookie entries) name n = Directory parent (next_cookie + 1) (entries
    ++ record { cookie = next_cookie; name = name; number = n } ∷ [])
kind_with_entry (Link path) name n = Link path

-- a directory with one entry more, at this moment
abbrev pub entered : File → List ℕ → ℕ → Moment → File
entered d name n now = record d { kind = kind_with_entry d.kind name n; mtime = now; ctime = now }

-- directory d has one entry more, which names n
abbrev pub with_entry : Tree → ℕ → List ℕ → ℕ → Moment → Tree
with_entry t d name n now = on_some (at d t.files) t (λ f. with_file t d (entered f name n now))

-- the entries of other names
abbrev pub entries_without : List ℕ → List Entry → List Entry
entries_without name entries = filter (λ e. not (has_name name e)) entries

abbrev pub kind_without_entry : Kind → List ℕ → Kind
kind_without_entry (Regular bytes) name = Regular bytes
kind_without_entry (Directory parent next_cookie entries) name = Directory parent next_cookie (entries_without name entries)
kind_without_entry (Link path) name = Link path

-- a directory that has lost the entry of this name, at this moment
abbrev pub left : File → List ℕ → Moment → File
left d name now = record d { kind = kind_without_entry d.kind name; mtime = now; ctime = now }

-- directory d has no entry of this name
abbrev pub without_entry : Tree → ℕ → List ℕ → Moment → Tree
without_entry t d name now = on_some (at d t.files) t (λ f. with_file t d (left f name now))

-- file n is gone; its number is not given again
abbrev pub without_file : Tree → ℕ → Tree
without_file t n = record t { files = without_at n t.files }

-- the attributes of file n change at this moment
abbrev pub touched : Tree → ℕ → Moment → Tree
touched t n now = on_some (at n t.files) t (λ f. with_file t n (record f { ctime = now }))

-- file n, which has lost an entry, leaves with its last
abbrev pub released : Tree → ℕ → Moment → Tree
released t n now = if nat_eq (names_of n t.files) 0 then without_file t n else touched t n now

abbrev pub kind_with_parent : Kind → ℕ → Kind
kind_with_parent (Regular bytes) d = Regular bytes
kind_with_parent (Directory parent next_cookie entries) d = Directory d next_cookie entries
kind_with_parent (Link path) d = Link path

-- a file that comes into directory d, at this moment
abbrev pub moved_to : File → ℕ → Moment → File
moved_to f d now = record f { kind = kind_with_parent f.kind d; ctime = now }

-- file n comes into directory d
abbrev pub moved : Tree → ℕ → ℕ → Moment → Tree
moved t n d now = on_some (at n t.files) t (λ f. with_file t n (moved_to f d now))

-- ---- new files

-- a file with these attributes, made at this moment; of the mode the low 12 bits
abbrev pub new_file : ℕ → Kind → NewFile → Option (List ℕ) → ℕ → Moment → File
new_file volume kind given verifier tag now = record {
  volume = volume;
  kind = kind;
  mode = given.mode % 4096;
  uid = given.uid;
  gid = given.gid;
  atime = given.atime;
  mtime = given.mtime;
  ctime = now;
  tag = tag;
  verifier = verifier;
}

-- the volume of file n
abbrev pub volume_index : Tree → ℕ → ℕ
volume_index t n = on_some (at n t.files) 0 (λ f. f.volume)

-- ---- the operations

-- a new file under the next number, with an entry in d
abbrev pub with_named_file : Tree → ℕ → List ℕ → File → Moment → Tree
with_named_file t d name f now = with_entry (with_new_file t f) d name t.next now

-- a regular file with these bytes
abbrev pub after_make_file : Tree → ℕ → List ℕ → List ℕ → NewFile → Option (List ℕ) → ℕ → Moment → Tree
after_make_file t d name bytes given verifier tag now = with_named_file t d name (new_file (volume_index t d) (Regular bytes) given verifier tag now) now

-- a directory without entries
abbrev pub after_mkdir : Tree → ℕ → List ℕ → NewFile → ℕ → Moment → Tree
after_mkdir t d name given tag now = with_named_file t d name (new_file (volume_index t d) (Directory d 3 []) given None tag now) now

-- a link with this path
abbrev pub after_make_link : Tree → ℕ → List ℕ → List ℕ → NewFile → ℕ → Moment → Tree
after_make_link t d name path given tag now = with_named_file t d name (new_file (volume_index t d) (Link path) given None tag now) now

-- an entry in d for a file that has one already
abbrev pub after_link : Tree → ℕ → ℕ → List ℕ → Moment → Tree
after_link t n d name now = with_entry (touched t n now) d name n now

abbrev pub kind_with_bytes : Kind → List ℕ → Kind
kind_with_bytes (Regular old) bytes = Regular bytes
kind_with_bytes (Directory parent next_cookie entries) bytes = Directory parent next_cookie entries
kind_with_bytes (Link path) bytes = Link path

-- a regular file with these bytes at an offset, at this moment
abbrev pub file_with_bytes : File → ℕ → List ℕ → Moment → File
file_with_bytes f offset bytes now = record f { kind = kind_with_bytes f.kind (put_bytes (bytes_in f.kind) offset bytes); mtime = now; ctime = now }

-- writing no bytes changes nothing
abbrev pub after_write_at : Tree → ℕ → ℕ → List ℕ → Moment → Tree
after_write_at t n offset [] now = t
after_write_at t n offset (byte ∷ bytes) now = on_some (at n t.files) t (λ f. with_file t n (file_with_bytes f offset (byte ∷ bytes) now))

-- a regular file of this size, at this moment
abbrev pub resized_to : File → ℕ → Moment → File
resized_to f size now = record f { kind = kind_with_bytes f.kind (sized (bytes_in f.kind) size); mtime = now; ctime = now }

abbrev pub after_resize : Tree → ℕ → ℕ → Moment → Tree
after_resize t n size now = on_some (at n t.files) t (λ f. with_file t n (resized_to f size now))

-- a value that is given, or else the one that was
abbrev pub or_else : {X : Type 0} → Option X → X → X
or_else given was = on_some given was (λ x. x)

-- a file with the attributes that are given, at this moment; of the mode the low 12 bits
abbrev pub with_given : File → GivenAttributes → Moment → File
with_given f given now = record f {
  mode = on_some given.mode f.mode (λ mode. mode % 4096);
  uid = or_else given.uid f.uid;
  gid = or_else given.gid f.gid;
  atime = or_else given.atime f.atime;
  mtime = or_else given.mtime f.mtime;
  ctime = now;
}

abbrev pub after_set : Tree → ℕ → GivenAttributes → Moment → Tree
after_set t n given now = on_some (at n t.files) t (λ f. with_file t n (with_given f given now))

-- directory d has no entry of this name, and the file that it named has one less
abbrev pub after_unlink : Tree → ℕ → List ℕ → Moment → Tree
after_unlink t d name now = on_some (entry_at t d name) t (λ e. released (without_entry t d name now) e.number now)

-- file n loses its entry in one directory, and has a new one in another or the same
abbrev pub carried : Tree → ℕ → List ℕ → ℕ → ℕ → List ℕ → Moment → Tree
carried t from name n to new_name now = with_entry (moved (without_entry t from name now) n to now) to new_name n now

-- what the new name named is unlinked first; where both names name one file nothing changes
abbrev pub after_rename : Tree → ℕ → List ℕ → ℕ → List ℕ → Moment → Tree
after_rename t from name to new_name now = on_some (entry_at t from name) t (λ e.
    on_some (entry_at t to new_name)
    (carried t from name e.number to new_name now)
    (λ old. if nat_eq e.number old.number then t else carried (after_unlink t to new_name now) from name e.number to new_name now))

-- one volume more, whose root is a new file
abbrev pub with_new_volume : Tree → Volume → File → Tree
with_new_volume t v root = record t { files = t.files ++ (t.next, root) ∷ []; next = t.next + 1; volumes = t.volumes ++ v ∷ [] }

-- with these limits; its root is its own parent and has no entries
abbrev pub after_add_volume : Tree → List ℕ → ℕ → ℕ → NewFile → ℕ → Moment → Tree
after_add_volume t path max_bytes max_files given tag now = with_new_volume t
    (record { path = path; max_bytes = max_bytes; max_files = max_files; root = t.next })
    (new_file (length t.volumes) (Directory t.next 3 []) given None tag now)

-- ---- a server's life

-- the next new file takes number n, or a later one
abbrev pub with_next_from : Tree → ℕ → Tree
with_next_from t n = record t { next = max t.next n }

-- each handle has this key
abbrev pub with_key : Tree → List ℕ → Tree
with_key t key = record t { key = key }

-- files are made within these limits
abbrev pub with_limits : Tree → Limits → Tree
with_limits t limits = record t { limits = limits }

-- the tree after an operation that made a file, which has the next tag
pub record Makes (old : Tree) (make : ℕ → Tree) (new : Tree) : Type 0 where
  pub tag : ℕ
  pub tag_is : IsNextTag (numbered_files old) tag
  pub new_is : new ≡ make tag
