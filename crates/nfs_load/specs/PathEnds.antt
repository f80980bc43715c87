-- Where a path leads in a tree, from a directory on.
use Rattle.std.specs.Prelude.{ℕ, Bool, false, List, [], ◌∷◌, Option, Some, None, is_some, Result, Ok, Err, if◌then◌else◌}
use Rattle.nfs_attrs.specs.declared.fattr.Fattr.{Fattr}
use Rattle.nfs_inodes.specs.Tree.{Tree, on_some}
use Rattle.nfs_inodes.specs.Reading.{attributes_at, is_directory_type, number_under}
use Rattle.nfs_load.specs.declared.cause.Cause.{Cause}
use Rattle.nfs_load.specs.declared.cause.Cause.TheVariants.{NoParent, NameTaken}
use Rattle.nfs_load.specs.declared.path_end.PathEnd as kept

-- a directory, and a name in it
pub record PathEnd : Type 0 where
  pub dir : ℕ
  pub name : List ℕ

-- whether a file with these attributes is a directory
abbrev pub is_directory : Option Fattr → Bool
is_directory None = false
is_directory (Some attributes) = is_directory_type attributes.file_type

abbrev pub ends_in : Tree → ℕ → List ℕ → Option PathEnd
ends_in t dir name = if is_directory (attributes_at t dir) then Some (record { dir = dir; name = name }) else None

-- a name, and those after it: each but the last leads on
abbrev pub end_after : Tree → ℕ → List ℕ → List (List ℕ) → Option PathEnd
end_after t dir name [] = ends_in t dir name
end_after t dir name (next ∷ names) = on_some (number_under t dir name) None (λ n. end_after t n next names)

-- the directory in which a path ends, and the name that it ends with
abbrev pub end_at : Tree → ℕ → List (List ℕ) → Option PathEnd
end_at t root [] = None
end_at t root (name ∷ names) = end_after t root name names

-- the file that a path names
abbrev pub file_at : Tree → ℕ → List (List ℕ) → Option ℕ
file_at t root path = on_some (end_at t root path) None (λ end. number_under t end.dir end.name)

-- the same of a path that may have no names, which is the root's
abbrev pub file_or_root_at : Tree → ℕ → List (List ℕ) → Option ℕ
file_or_root_at t root [] = Some root
file_or_root_at t root (name ∷ names) = file_at t root (name ∷ names)

abbrev pub unless_taken : Tree → Option PathEnd → Result PathEnd Cause
unless_taken t None = Err NoParent
unless_taken t (Some end) = if is_some (number_under t end.dir end.name) then Err NameTaken else Ok end

-- an end whose name is not taken, or the cause
abbrev pub free_end : Tree → ℕ → List (List ℕ) → Result PathEnd Cause
free_end t root path = unless_taken t (end_at t root path)

-- ends as they are in memory
abbrev pub end_of : kept.PathEnd → PathEnd
end_of end = record { dir = end.dir.0; name = end.name }

abbrev pub ends_of : Result kept.PathEnd Cause → Result PathEnd Cause
ends_of (Ok end) = Ok (end_of end)
ends_of (Err cause) = Err cause
