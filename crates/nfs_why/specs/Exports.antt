-- Who may reach which volume, in the words of exportfs(8) with -v.
use Rattle.std.specs.Prelude.{ℕ, zero, suc, Bool, true, false, List, [], ◌++◌, length, drop, slice_get, nat_eq, nat_lt, codes, decimal, if◌then◌else◌}
use Rattle.std.specs.List.{flat_map}
use Rattle.nfs_exports.specs.Patterns.{pattern_text}
use Rattle.nfs_exports.specs.Tables.{exports_of}
use Rattle.nfs_exports.specs.declared.export_table.Export.{Export}
use Rattle.nfs_exports.specs.declared.options.Options.{Options}
use Rattle.nfs_exports.specs.declared.options.Squash.{Squash}
use Rattle.nfs_exports.specs.declared.options.Squash.TheVariants.{No, Root, All}
use Rattle.nfs_exports.specs.declared.pattern.Pattern.{Pattern}
use Rattle.nfs_inodes.specs.Tree.{Tree, Volume, on_some}

-- what follows a path: blanks to a width of 14, or a line's end after a longer one
abbrev pub gap : List ℕ → List ℕ
gap path = if nat_lt 14 (length path) then codes "\n\t\t" else drop (length path) (codes "              \t")

abbrev pub host_text : Pattern → List ℕ
host_text p = if nat_eq p.bits 0 then codes "<world>" else pattern_text p

-- an id of the anonymous, where it is not that of nobody
abbrev pub id_text : List ℕ → ℕ → List ℕ
id_text name id = if nat_eq id 65534 then [] else name ++ decimal id

abbrev pub anonymous_text : Options → List ℕ
anonymous_text o = id_text (codes ",anonuid=") o.anonuid ++ id_text (codes ",anongid=") o.anongid

abbrev pub access_text : Bool → List ℕ
access_text true = codes ",ro"
access_text false = codes ",rw"

abbrev pub squash_text : Squash → List ℕ
squash_text No = codes ",no_root_squash,no_all_squash"
squash_text Root = codes ",root_squash,no_all_squash"
squash_text All = codes ",root_squash,all_squash"

-- all options that hold, also those without effect
abbrev pub options_text : Options → List ℕ
options_text o = codes "(sync,wdelay,hide,no_subtree_check" ++ anonymous_text o ++ codes ",sec=sys" ++ access_text o.read_only
    ++ codes ",insecure" ++ squash_text o.squash ++ codes ")"

-- a pattern of a volume
abbrev pub export_line : List ℕ → Export → List ℕ
export_line path e = path ++ gap path ++ host_text e.pattern ++ options_text e.options ++ codes "\n"

-- those of the volume at a place, in their order
abbrev pub volume_lines : Tree → List (List Export) → ℕ → List ℕ
volume_lines t table place = on_some (slice_get t.volumes place) [] (λ (v : Volume). flat_map (export_line v.path) (exports_of table place))

-- those of the first volumes, so many
abbrev pub lines_of_first : Tree → List (List Export) → ℕ → List ℕ
lines_of_first t table zero = []
lines_of_first t table (suc n) = lines_of_first t table n ++ volume_lines t table n

-- A line for each pattern of each volume, in the order of the description.
abbrev pub exports_text : Tree → List (List Export) → List ℕ
exports_text t table = lines_of_first t table (length t.volumes)
