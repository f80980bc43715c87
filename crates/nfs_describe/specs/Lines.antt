-- The lines of a description, each as a text.
use Rattle.std.specs.Prelude.{ℕ, ◌+◌, ◌/◌, ◌%◌, ◌&&◌, Bool, List, [], ◌∷◌, ◌++◌, length, map, codes, decimal, nat_eq, nat_le, nat_lt, if◌then◌else◌}
use Rattle.std.specs.List.{list_all}
use Rattle.hex.specs.Hex.{encode_lower}
use Rattle.nfs_attrs.specs.declared.moment.Moment.{Moment}
use Rattle.nfs_exports.specs.Addresses.{addr_text}
use Rattle.nfs_exports.specs.declared.options.Options.{Options}
use Rattle.nfs_exports.specs.declared.options.Squash.{Squash}
use Rattle.nfs_exports.specs.declared.options.Squash.TheVariants.{No, Root, All}
use Rattle.nfs_exports.specs.declared.pattern.Pattern.{Pattern}
use Rattle.nfs_exports.specs.declared.export_table.Export.{Export}
use Rattle.nfs_inodes.specs.declared.limits.Limits.{Limits}
use Rattle.nfs_inodes.specs.Limits.{default_limits, max_path_bytes}
use Rattle.nfs_load.specs.Listings.{octal}
use Rattle.nfs_load.specs.Names.{name_text}
use Rattle.nfs_load.specs.declared.name_form.NameForm.{NameForm}
use Rattle.nfs_load.specs.declared.name_form.NameForm.TheVariants.{Plain, Percent}
use Rattle.nfs_load.specs.declared.statement.Given.{Given}

-- ---- fields

-- MODE UID GID
abbrev pub given_text : Given → List ℕ
given_text given = codes " " ++ octal given.mode ++ codes " " ++ decimal given.uid ++ codes " " ++ decimal given.gid

-- two digits a byte, or `-` for none
abbrev pub content_text : List ℕ → List ℕ
content_text [] = codes "-"
content_text (byte ∷ bytes) = encode_lower (byte ∷ bytes)

-- `*`, or an address with the number of its bits where not all of them decide
abbrev pub pattern_text : Pattern → List ℕ
pattern_text p =
    if nat_eq p.bits 0 && nat_eq p.address.0 0 then codes "*"
    else (if nat_eq p.bits 32 then addr_text p.address else addr_text p.address ++ codes "/" ++ decimal p.bits)

abbrev pub squash_text : Squash → List ℕ
squash_text No = codes ",no_root_squash"
squash_text Root = []
squash_text All = codes ",all_squash"

-- an id of the anonymous, where it is not that of nobody
abbrev pub anonymous_text : List ℕ → ℕ → List ℕ
anonymous_text name id = if nat_eq id 65534 then [] else name ++ decimal id

abbrev pub options_text : Options → List ℕ
options_text o = (if o.read_only then codes "ro" else codes "rw") ++ squash_text o.squash
    ++ anonymous_text (codes ",anonuid=") o.anonuid ++ anonymous_text (codes ",anongid=") o.anongid

-- nine digits
abbrev pub nine_digits : ℕ → List ℕ
nine_digits n = map (λ place. 48 + n / place % 10)
    (100000000 ∷ 10000000 ∷ 1000000 ∷ 100000 ∷ 10000 ∷ 1000 ∷ 100 ∷ 10 ∷ 1 ∷ [])

-- seconds, and what is beyond them: after a point where it is less than a second, after a plus where a client said more
abbrev pub moment_text : Moment → List ℕ
moment_text m =
    if nat_eq m.nanos 0 then decimal m.seconds
    else (if nat_lt m.nanos 1000000000 then decimal m.seconds ++ codes "." ++ nine_digits m.nanos
    else decimal m.seconds ++ codes "+" ++ decimal m.nanos)

-- how a path stands in a line
abbrev pub path_text : NameForm → List ℕ → List ℕ
path_text Plain path = path
path_text Percent path = name_text path

-- with escapes, `%` alone says that a link holds nothing
abbrev pub escaped_target : List ℕ → List ℕ
escaped_target [] = codes "%"
escaped_target (byte ∷ target) = name_text (byte ∷ target)

-- what a symbolic link holds
abbrev pub target_text : NameForm → List ℕ → List ℕ
target_text Plain target = target
target_text Percent target = escaped_target target

-- ---- lines

abbrev pub server_line : List ℕ → List ℕ
server_line key = codes "server " ++ encode_lower key ++ codes "\n"

-- a limit which is not its default
abbrev pub limit_text : List ℕ → ℕ → ℕ → List ℕ
limit_text name default n = if nat_eq n default then [] else name ++ decimal n

abbrev pub limits_text : Limits → List ℕ
limits_text l = limit_text (codes " file-size=") default_limits.file_size l.file_size ++ limit_text (codes " links=") default_limits.links l.links
    ++ limit_text (codes " link-path=") default_limits.link_path l.link_path ++ limit_text (codes " files=") default_limits.files l.files

abbrev pub line_of_limits : List ℕ → List ℕ
line_of_limits [] = []
line_of_limits (byte ∷ text) = codes "limits" ++ (byte ∷ text) ++ codes "\n"

-- the limits that are not their defaults, or no line
abbrev pub limits_line : Limits → List ℕ
limits_line limits = line_of_limits (limits_text limits)

-- how names are written, where it is not as they are
abbrev pub names_line : NameForm → List ℕ
names_line Plain = []
names_line Percent = codes "names percent\n"

abbrev pub volume_line : List ℕ → ℕ → ℕ → Given → List ℕ
volume_line path max_bytes max_files given = codes "volume " ++ path ++ codes " " ++ decimal max_bytes ++ codes " " ++ decimal max_files ++ given_text given ++ codes "\n"

abbrev pub export_line : Export → List ℕ
export_line e = codes "export " ++ pattern_text e.pattern ++ codes " " ++ options_text e.options ++ codes "\n"

abbrev pub dir_line : List ℕ → Given → List ℕ
dir_line path given = codes "dir " ++ path ++ given_text given ++ codes "\n"

abbrev pub file_line : List ℕ → Given → List ℕ → List ℕ
file_line path given bytes = codes "file " ++ path ++ given_text given ++ codes " " ++ content_text bytes ++ codes "\n"

abbrev pub link_line : List ℕ → ℕ → ℕ → List ℕ → List ℕ
link_line path uid gid target = codes "link " ++ path ++ codes " " ++ decimal uid ++ codes " " ++ decimal gid ++ codes " " ++ target ++ codes "\n"

abbrev pub hard_line : List ℕ → List ℕ → List ℕ
hard_line path old = codes "hard " ++ path ++ codes " " ++ old ++ codes "\n"

abbrev pub times_line : List ℕ → Moment → Moment → Moment → List ℕ
times_line path atime mtime ctime =
    codes "times " ++ path ++ codes " " ++ moment_text atime ++ codes " " ++ moment_text mtime ++ codes " " ++ moment_text ctime ++ codes "\n"

-- ---- what may stand in a line as it is

-- from `!` to `~`
abbrev pub is_shown : ℕ → Bool
is_shown byte = nat_le 33 byte && nat_le byte 126

-- what a symbolic link may hold: such bytes, at least one, and at most as many as a tree may take
abbrev pub is_target : List ℕ → Bool
is_target target = (nat_lt 0 (length target) && nat_le (length target) max_path_bytes) && list_all is_shown target
