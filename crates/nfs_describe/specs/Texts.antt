-- The description of a tree with its exports, as a text.
use Rattle.std.specs.Prelude.{◌≡◌, ◌⊎◌, ℕ, zero, suc, ◌&&◌, Bool, true, List, [], ◌∷◌, ◌++◌, length, map, slice_get, codes, nat_eq, Option, Some, None, option_map, if◌then◌else◌}
use Rattle.std.specs.Borrow.{Bor}
use Rattle.std.specs.BTreeMap.{is_at}
use Rattle.std.specs.List.{find, flat_map}
use Rattle.std.specs.Map.{lookup}
use Rattle.std.specs.Ordering.{nat_cmp}
use Rattle.nfs_attrs.specs.declared.fattr.Fattr.{Fattr}
use Rattle.nfs_attrs.specs.declared.moment.Moment.{Moment}
use Rattle.nfs_exports.specs.Tables.{exports_of}
use Rattle.nfs_exports.specs.declared.export_table.Export.{Export}
use Rattle.nfs_inodes.specs.Tree.{Tree, Kind, Volume, Regular, Directory, Link, at, nlink, on_some}
use Rattle.nfs_inodes.specs.Reading.{attributes_at, attributes_of, is_directory_type}
use Rattle.nfs_inodes.specs.Views.{FileView, bytes_seen}
use Rattle.nfs_load.specs.declared.statement.Given.{Given}
use Rattle.nfs_load.specs.declared.name_form.NameForm.{NameForm}
use Rattle.nfs_load.specs.declared.name_form.NameForm.TheVariants.{Plain, Percent}
use Rattle.nfs_describe.specs.Lines.{server_line, limits_line, names_line, volume_line, export_line, dir_line, file_line, link_line, hard_line, times_line}
use Rattle.nfs_describe.specs.Lines.{path_text, target_text}
use Rattle.nfs_describe.specs.Places.{FilePath, HasOther, IsWalk, can_hold}

-- more bytes than any machine has room for: 2 ^ 62
abbrev pub most_text_bytes : ℕ
most_text_bytes = 4611686018427387904

abbrev pub given_of : Fattr → Given
given_of a = record { mode = a.mode; uid = a.uid; gid = a.gid }

-- ---- files

-- a file by the path of its first name; a root has none, its volume's line says it
abbrev pub own_line : NameForm → List ℕ → Fattr → Kind → List ℕ
own_line form [] a kind = []
own_line form (byte ∷ path) a (Regular bytes) = file_line (path_text form (byte ∷ path)) (given_of a) bytes
own_line form (byte ∷ path) a (Directory parent next_cookie entries) = dir_line (path_text form (byte ∷ path)) (given_of a)
own_line form (byte ∷ path) a (Link target) = link_line (path_text form (byte ∷ path)) a.uid a.gid (target_text form target)

-- a file that is lent and is no link
abbrev pub node_line : List ℕ → FileView → List ℕ
node_line path v = if is_directory_type v.attributes.file_type then dir_line path (given_of v.attributes) else file_line path (given_of v.attributes) (bytes_seen v)

abbrev pub own_text : NameForm → Tree → FilePath → List ℕ
own_text form t p = on_some (at p.number t.files) [] (λ f. own_line form p.path (attributes_of p.number f (nlink t.files p.number f)) f.kind)

-- the first of some places that a file has
abbrev pub first_name : ℕ → List FilePath → Option FilePath
first_name n places = find (λ (p : FilePath). nat_eq p.number n) places

-- the path that is kept for a number
abbrev pub kept_name : List (ℕ × Bor (List ℕ)) → ℕ → Option (List ℕ)
kept_name entries n = option_map (λ name. name.now) (lookup (is_at (nat_cmp n)) entries)

-- a hard link at one path of the file at another
abbrev pub hard_text : NameForm → List ℕ → List ℕ → List ℕ
hard_text form path first = hard_line (path_text form path) (path_text form first)

-- a file by a name, where this one of its names is kept
abbrev pub named_text : NameForm → Tree → FilePath → Option (List ℕ) → List ℕ
named_text form t p None = own_text form t p
named_text form t p (Some first) = hard_text form p.path first

-- a place after others: a hard link where one of them is the same file's
abbrev pub place_text : NameForm → Tree → List FilePath → FilePath → List ℕ
place_text form t before p = on_some (first_name p.number before) (own_text form t p) (λ first. hard_text form p.path first.path)

abbrev pub files_text : NameForm → Tree → List FilePath → List FilePath → List ℕ
files_text form t before [] = []
files_text form t before (p ∷ after) = place_text form t before p ++ files_text form t (before ++ p ∷ []) after

-- ---- times

-- of some places after others those that come first of all that their file has
abbrev pub first_places : List FilePath → List FilePath → List FilePath
first_places before [] = []
first_places before (p ∷ after) = on_some (first_name p.number before) (p ∷ first_places (before ++ p ∷ []) after) (λ first. first_places (before ++ p ∷ []) after)

-- places that are lent
abbrev pub lent : List (Bor FilePath) → List FilePath
lent places = map (λ p. p.now) places

-- a place, where no path is kept for its file
abbrev pub first_here : FilePath → Option (List ℕ) → List FilePath
first_here p None = p ∷ []
first_here p (Some first) = []

-- the time that a file has whose times no line gives
abbrev pub is_start : Moment → Bool
is_start m = nat_eq m.seconds 0 && nat_eq m.nanos 0

-- the path of a line that gives times: the slash is the root
abbrev pub path_or_root : List ℕ → List ℕ
path_or_root [] = codes "/"
path_or_root (byte ∷ path) = byte ∷ path

-- no line where all three are such
abbrev pub file_times : List ℕ → Fattr → List ℕ
file_times path a = if is_start a.atime && (is_start a.mtime && is_start a.ctime) then [] else times_line (path_or_root path) a.atime a.mtime a.ctime

abbrev pub place_times : NameForm → Tree → FilePath → List ℕ
place_times form t p = on_some (attributes_at t p.number) [] (file_times (path_text form p.path))

-- the times of the files of a walk, each by its first name
abbrev pub times_text : NameForm → Tree → List FilePath → List ℕ
times_text form t walk = flat_map (place_times form t) (first_places [] walk)

-- ---- volumes

abbrev pub root_text : Volume → Option Fattr → List ℕ
root_text v None = []
root_text v (Some a) = volume_line v.path v.max_bytes v.max_files (given_of a)

-- a volume, to whom it is exported, and its files in the order of a walk, then their times
abbrev pub volume_text : NameForm → Tree → List (List Export) → ℕ → Volume → List FilePath → List ℕ
volume_text form t table place v walk =
    root_text v (attributes_at t v.root) ++ flat_map export_line (exports_of table place) ++ files_text form t [] walk ++ times_text form t walk

-- the text of the volume at a place, in a form that can hold its names
pub record IsVolumeText (form : NameForm) (t : Tree) (table : List (List Export)) (place : ℕ) (text : List ℕ) : Type 0 where
  pub volume : Volume
  pub at_place : slice_get t.volumes place ≡ Some volume
  pub walk : List FilePath
  pub walked : IsWalk t volume.root walk
  pub held : can_hold form t walk ≡ true
  pub text_is : text ≡ volume_text form t table place volume walk

-- the server's line, that of the limits, that of the form of names, and the texts of the first n volumes
abbrev pub SaysTo : NameForm → Tree → List (List Export) → ℕ → List ℕ → Type 0
SaysTo form t table zero text = text ≡ server_line t.key ++ limits_line t.limits ++ names_line form
SaysTo form t table (suc n) text = (before part : List ℕ) × SaysTo form t table n before × IsVolumeText form t table n part × (text ≡ before ++ part)

-- The text describes the tree with these exports: with names as they are where lines can hold them, and else with escapes.
abbrev pub Says : Tree → List (List Export) → List ℕ → Type 0
Says t table text = SaysTo Plain t table (length t.volumes) text ⊎ (HasOther t × SaysTo Percent t table (length t.volumes) text)
