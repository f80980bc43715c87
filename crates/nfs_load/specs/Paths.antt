-- Paths: a slash, and names with a slash between each two.
use Rattle.std.specs.Prelude.{◌≡◌, ℕ, Bool, true, ◌&&◌, ◌||◌, List, [], ◌∷◌, length, Option, Some, None, is_some, Result, Ok, Err, if◌then◌else◌}
use Rattle.std.specs.Prelude.{nat_eq, nat_le, bytes_eq, codes}
use Rattle.nfs_text.specs.Chunks.{chunks}
use Rattle.nfs_inodes.specs.Limits.{max_volume_path_bytes}
use Rattle.nfs_inodes.specs.Tree.{on_some}
use Rattle.nfs_load.specs.Names.{names_in}
use Rattle.nfs_load.specs.declared.cause.Cause.{Cause}
use Rattle.nfs_load.specs.declared.cause.Cause.TheVariants.{BadPath, BadVolumePath}
use Rattle.nfs_load.specs.declared.name_form.NameForm.{NameForm}
use Rattle.nfs_load.specs.declared.name_form.NameForm.TheVariants.{Plain, Percent}

-- a path whose names stand as they are has at most 1,024 bytes; one with escapes is as long as its names make it
abbrev pub is_short : NameForm → List ℕ → Bool
is_short Plain field = nat_le (length field) 1024
is_short Percent field = true

-- what stands after a path's first slash
abbrev pub after_slash : List ℕ → Option (List ℕ)
after_slash [] = None
after_slash (byte ∷ rest) = if nat_eq byte 47 then Some rest else None

-- the names of a path, where it is one
abbrev pub path_names : NameForm → List ℕ → Option (List (List ℕ))
path_names form field = if is_short form field then on_some (after_slash field) None (λ rest. names_in form (chunks 47 rest)) else None

abbrev pub path_or_cause : Option (List (List ℕ)) → Result (List (List ℕ)) Cause
path_or_cause None = Err BadPath
path_or_cause (Some names) = Ok names

abbrev pub path_in : NameForm → List ℕ → Result (List (List ℕ)) Cause
path_in form field = path_or_cause (path_names form field)

-- the slash alone, which is the root, or such a path
abbrev pub path_or_root_in : NameForm → List ℕ → Result (List (List ℕ)) Cause
path_or_root_in form field = if bytes_eq field (codes "/") then Ok [] else path_in form field

-- the first of some names is taken, as it is seen; after the last there is none
abbrev pub TakesFirst : {X : Type 0} → (X → List ℕ) → List (List ℕ) → Option X → List (List ℕ) → Type 0
TakesFirst see old None new = (old ≡ []) × (new ≡ [])
TakesFirst see old (Some it) new = old ≡ see it ∷ new

-- a volume's path stands as it is
abbrev pub is_volume_path : List ℕ → Bool
is_volume_path field = bytes_eq field (codes "/") || (nat_le (length field) max_volume_path_bytes && is_some (path_names Plain field))

-- the slash alone, or a path of at most 255 bytes
abbrev pub volume_path_in : List ℕ → Result (List ℕ) Cause
volume_path_in field = if is_volume_path field then Ok field else Err BadVolumePath
