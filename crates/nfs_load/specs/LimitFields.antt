-- The fields of a `limits` line: each gives a number to one limit of the tree.
use Rattle.std.specs.Prelude.{ℕ, List, [], ◌∷◌, Option, Some, None, Result, Ok, Err, if◌then◌else◌, nat_eq, bytes_eq, codes}
use Rattle.nfs_text.specs.Chunks.{cut}
use Rattle.nfs_inodes.specs.declared.limits.Limits.{Limits}
use Rattle.nfs_inodes.specs.Limits.{default_limits, max_file_bytes, max_links, max_path_bytes, max_files}
use Rattle.nfs_load.specs.declared.cause.Cause.{Cause}
use Rattle.nfs_load.specs.declared.cause.Cause.TheVariants.{BadLimit}
use Rattle.nfs_load.specs.Fields.{◌>>=◌, number_in}

-- the number of a limit which still has its default
abbrev pub limit_number : ℕ → ℕ → ℕ → ℕ → List ℕ → Result ℕ Cause
limit_number default old least most text = if nat_eq old default then number_in least most text else Err BadLimit

abbrev pub with_limit : Limits → List ℕ → List ℕ → Result Limits Cause
with_limit old name text =
    if bytes_eq name (codes "file-size") then limit_number default_limits.file_size old.file_size 0 max_file_bytes text >>= (λ (n : ℕ). Ok (record old { file_size = n }))
    else (if bytes_eq name (codes "links") then limit_number default_limits.links old.links 2 max_links text >>= (λ (n : ℕ). Ok (record old { links = n }))
    else (if bytes_eq name (codes "link-path") then limit_number default_limits.link_path old.link_path 0 max_path_bytes text >>= (λ (n : ℕ). Ok (record old { link_path = n }))
    else (if bytes_eq name (codes "files") then limit_number default_limits.files old.files 0 max_files text >>= (λ (n : ℕ). Ok (record old { files = n }))
    else Err BadLimit)))

abbrev pub limit_of : Limits → List ℕ → Option (List ℕ) → Result Limits Cause
limit_of old name None = Err BadLimit
limit_of old name (Some text) = with_limit old name text

-- NAME=N
abbrev pub limit_in : Limits → List ℕ → Result Limits Cause
limit_in old field = limit_of old (cut 61 field).0 (cut 61 field).1

-- the fields in turn
abbrev pub limits_in : Limits → List (List ℕ) → Result Limits Cause
limits_in old [] = Ok old
limits_in old (field ∷ fields) = limit_in old field >>= (λ (new : Limits). limits_in new fields)
