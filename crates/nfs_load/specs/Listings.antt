-- The text that lists a tree.
use Rattle.std.specs.Prelude.{ℕ, zero, suc, ◌+◌, ◌-◌, ◌/◌, ◌%◌, List, [], ◌∷◌, ◌++◌, map, codes, decimal}
use Rattle.std.specs.List.{flat_map}
use Rattle.nfs_attrs.specs.declared.fattr.Fattr.{Fattr}
use Rattle.nfs_attrs.specs.declared.file_type.FileType.{FileType}
use Rattle.nfs_attrs.specs.declared.file_type.FileType.TheVariants.{Directory, SymbolicLink}
use Rattle.nfs_inodes.specs.Tree.{Tree, Entry, at, entries_in, nlink, on_some}
use Rattle.nfs_inodes.specs.Reading.{attributes_of}
use Rattle.nfs_inodes.specs.Views.{kind_seen}
use Rattle.nfs_inodes.specs.Views.{FileView}
use Rattle.nfs_load.specs.Names.{name_text}

-- ---- what a line is put together from

abbrev pub type_word : FileType → List ℕ
type_word Directory = codes "dir"
type_word SymbolicLink = codes "link"
type_word other = codes "file"

-- the low 12 bits in four octal digits
abbrev pub octal : ℕ → List ℕ
octal mode = map (λ place. 48 + mode / place % 8) (512 ∷ 64 ∷ 8 ∷ 1 ∷ [])

-- ---- lines

abbrev pub file_line : Fattr → List ℕ
file_line a =
    type_word a.file_type ++ codes " " ++ decimal a.fileid ++ codes " mode=" ++ octal a.mode ++ codes " uid=" ++ decimal a.uid ++ codes " gid=" ++ decimal a.gid
    ++ codes " nlink=" ++ decimal a.nlink ++ codes " size=" ++ decimal a.size ++ codes "\n"

abbrev pub entry_line : Entry → List ℕ
entry_line e = codes " " ++ decimal e.cookie ++ codes " " ++ name_text e.name ++ codes " " ++ decimal e.number ++ codes "\n"

-- a file's line, and those of its entries
abbrev pub file_text : Fattr → List Entry → List ℕ
file_text a entries = file_line a ++ flat_map entry_line entries

-- the text of a file that is lent
abbrev pub view_text : FileView → List ℕ
view_text v = file_text v.attributes (entries_in (kind_seen v))

-- ---- the whole

-- of a number under which no file lives nothing is written
abbrev pub text_at : Tree → ℕ → List ℕ
text_at t n = on_some (at n t.files) [] (λ f. file_text (attributes_of n f (nlink t.files n f)) (entries_in f.kind))

-- the texts of the numbers from 1 to n
abbrev pub texts_to : Tree → ℕ → List ℕ
texts_to t zero = []
texts_to t (suc n) = texts_to t n ++ text_at t (suc n)

abbrev pub listing_text : Tree → List ℕ
listing_text t = texts_to t (t.next - 1)
