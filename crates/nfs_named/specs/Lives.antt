-- The key of a life of a server of directories.
use Rattle.std.specs.Prelude.{◌≡◌, ℕ, zero, suc, List, [], ◌∷◌, ◌++◌, Option, Some, None, codes, decimal, drop, map, string_bytes}
use Rattle.nfs_named.specs.declared.shared.SharedDirectory.{SharedDirectory}
use Rattle.nfs_disk.specs.declared.building.Made.{Made}
use Rattle.nfs_disk.specs.declared.found.Found.{Found}
use Rattle.nfs_disk.specs.declared.found.Kind.{Kind}
use Rattle.nfs_disk.specs.declared.found.Kind.TheVariants.{Directory, Regular, Link}
use Rattle.nfs_handles.specs.declared.number.Number.{Number}
use Rattle.nfs_lives.specs.Paths.{life_key, rows_of}
use Rattle.nfs_text.specs.Lines.{lines}
use Rattle.nfs_words.specs.Texts.{name_text}

-- in decimal digits; `-` of what was not made
abbrev pub number_text : Option Number → List ℕ
number_text (Some number) = decimal number.0
number_text None = codes "-"

-- a directory, a regular file or a symbolic link
abbrev pub kind_text : Kind → List ℕ
kind_text Directory = codes "dir-"
kind_text Regular = codes "file-"
kind_text Link = codes "link-"

-- a path, with what it is and the number that it got, as a line names a path and another
abbrev pub path_line : Made → List ℕ
path_line it = codes "hard " ++ name_text (string_bytes it.found.path) ++ codes " " ++ kind_text it.found.kind ++ number_text it.number

-- these lines are taken after others
abbrev pub Takes : {S : Type 0} → (S → List (List ℕ) → Type 0) → S → List (List ℕ) → S → Type 0
Takes has old lines new = (before : List (List ℕ)) → has old before → has new (before ++ lines)

abbrev pub found_of : Made → Found
found_of it = it.found

-- the path of a volume, and what was made below its root
pub record MadeDirectory : Type 0 where
  pub mount : List ℕ
  pub made : List Made

-- Each that was found below the directory stands there, in the same order.
pub record IsMadeOf (directory : SharedDirectory) (it : MadeDirectory) : Type 0 where
  pub mount : it.mount ≡ string_bytes directory.mount
  pub found : map found_of it.made ≡ drop 1 directory.survey.found.items

-- each is made of one of the directories, in their order
abbrev pub AreMadeOf : List SharedDirectory → List MadeDirectory → Type 0
AreMadeOf [] [] = Unit
AreMadeOf [] (it ∷ others) = ⊥
AreMadeOf (directory ∷ directories) [] = ⊥
AreMadeOf (directory ∷ directories) (it ∷ others) = IsMadeOf directory it × AreMadeOf directories others

-- as the line of a volume begins
abbrev pub mount_line : List ℕ → List ℕ
mount_line mount = codes "volume " ++ mount

-- The first volume has no line of its own.
abbrev pub mount_lines : ℕ → List ℕ → List (List ℕ)
mount_lines zero mount = []
mount_lines (suc index) mount = mount_line mount ∷ []

-- each path below a directory, which has the number of the volume's root; those of each but the first stand after the path of its volume
abbrev pub lines_at : ℕ → MadeDirectory → List (List ℕ)
lines_at index it = mount_lines index it.mount ++ map path_line it.made

-- those of directories, of which the first has this index
abbrev pub directory_lines : ℕ → List MadeDirectory → List (List ℕ)
directory_lines index [] = []
directory_lines index (it ∷ others) = lines_at index it ++ directory_lines (suc index) others

-- the first lines of the description, and those of the directories
abbrev pub life_lines : List ℕ → List MadeDirectory → List (List ℕ)
life_lines head directories = lines head ++ directory_lines 0 directories

-- by the server's key; so it is another one where a path got another number
abbrev pub key_of : List ℕ → List ℕ → List MadeDirectory → List ℕ
key_of key head directories = life_key key (rows_of (life_lines head directories))
