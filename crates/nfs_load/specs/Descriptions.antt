-- What a description says: its lines in turn, each from what those before it made.
use Rattle.std.specs.Prelude.{◌≡◌, ◌⊎◌, ℕ, ◌+◌, ◌-◌, ◌<◌, ◌≤◌, List, [], ◌∷◌, ◌++◌, length, slice_get, Option, Some, None, option_map}
use Rattle.std.specs.Prelude.{Result, Ok, Err, IsOk, if◌then◌else◌, nat_eq}
use Rattle.nfs_exports.specs.Tables.{added, pattern_count}
use Rattle.nfs_inodes.specs.Conditions.{MayAddVolume}
use Rattle.nfs_inodes.specs.Changes.{with_limits}
use Rattle.nfs_inodes.specs.Limits.{default_limits}
use Rattle.nfs_inodes.specs.declared.limits.Limits.{Limits}
use Rattle.nfs_inodes.specs.Tree.{Tree, Volume}
use Rattle.nfs_text.specs.Lines.{lines}
use Rattle.nfs_load.specs.declared.cause.Cause.{Cause}
use Rattle.nfs_load.specs.declared.cause.Cause.TheVariants.{NoServer, ServerTwice, NoVolume, LimitsLate, NamesLate, Full}
use Rattle.nfs_load.specs.declared.line.Keyword.{Keyword}
use Rattle.nfs_load.specs.declared.line.Keyword.TheVariants as keyword
use Rattle.nfs_load.specs.declared.load_error.LoadError.{LoadError}
use Rattle.nfs_load.specs.declared.load_error.LoadError.TheVariants as error
use Rattle.nfs_load.specs.declared.loaded.Loaded.{Loaded}
use Rattle.nfs_load.specs.declared.name_form.NameForm.{NameForm}
use Rattle.nfs_load.specs.declared.name_form.NameForm.TheVariants.{Plain}
use Rattle.nfs_load.specs.declared.refusal.Refusal.{Refusal}
use Rattle.nfs_load.specs.declared.refusal.Refusal.TheVariants.{Fault, Memory}
use Rattle.nfs_load.specs.declared.statement.ExportLine.{ExportLine}
use Rattle.nfs_load.specs.Effects.{AddsVolume, IsOpen, MakesDir, MakesFile, MakesLink, AddsName, SetsTimes, free_path}
use Rattle.nfs_load.specs.Fields.{◌>>=◌, by, key_in}
use Rattle.nfs_load.specs.LimitFields.{limits_in}
use Rattle.nfs_load.specs.Lines.{Line, shape}
use Rattle.nfs_load.specs.Names.{form_in}
use Rattle.nfs_load.specs.Statements.{Read, VolumeLine, WantsContent, volume_in, export_in, dir_in, file_in, link_in, hard_in, times_in}

-- ---- one line

abbrev pub IsFault : Cause → Result Unit Refusal → Type 0
IsFault cause result = result ≡ Err (Fault cause)

-- what the fields say is done, or they have a cause
abbrev pub Then : {A : Type 0} → Read A → Result Unit Refusal → (A → Type 0) → Type 0
Then (Ok line) result Done = Done line.0
Then (Err cause) result Done = IsFault cause result

abbrev pub root_or_cause : Option ℕ → Result ℕ Cause
root_or_cause None = Err NoVolume
root_or_cause (Some root) = Ok root

-- the root of the last volume
abbrev pub last_root : Tree → Result ℕ Cause
last_root t = root_or_cause (option_map (λ (v : Volume). v.root) (slice_get t.volumes (length t.volumes - 1)))

abbrev pub InRoot : Result ℕ Cause → Result Unit Refusal → (ℕ → Type 0) → Type 0
InRoot (Ok root) result Done = Done root
InRoot (Err cause) result Done = IsFault cause result

-- in the last volume, from its root on
abbrev pub InVolume : Loaded → Result Unit Refusal → (ℕ → Type 0) → Type 0
InVolume old result Done = InRoot (last_root old.tree) result Done

-- a further volume has no exports yet; how names are written stays
abbrev pub VolumeTaken : Loaded → VolumeLine → Result Unit Refusal → Loaded → Type 0
VolumeTaken old line (Ok x) new = AddsVolume old.tree line (Ok x) new.tree × (new.table ≡ old.table ++ [] ∷ []) × (new.names ≡ old.names)
VolumeTaken old line (Err (Fault cause)) new = AddsVolume old.tree line (Err (Fault cause)) new.tree
VolumeTaken old line (Err Memory) new = IsOpen (free_path old.tree line.path) (λ path. MayAddVolume old.tree path line.max_bytes line.max_files)

-- the export is the last of the last volume; there are at most 256
abbrev pub with_export : Loaded → ExportLine → Loaded
with_export old line = record old { table = added old.table (length old.tree.volumes - 1) (record { pattern = line.pattern; options = line.options }) }

abbrev pub ExportDone : Loaded → ExportLine → Result Unit Refusal → Loaded → Type 0
ExportDone old line (Ok x) new = (pattern_count old.table < 256) × (new ≡ with_export old line)
ExportDone old line (Err (Fault cause)) new = (256 ≤ pattern_count old.table) × (cause ≡ Full)
ExportDone old line (Err Memory) new = pattern_count old.table < 256

-- a line that leaves the table, and how names are written
abbrev pub OnTree : {A : Type 0} → Read A → (Tree → ℕ → A → Result Unit Refusal → Tree → Type 0) → Loaded → Result Unit Refusal → Loaded → Type 0
OnTree read Done old result new = InVolume old result (λ root. Then read result (λ line. Done old.tree root line result new.tree × (new.table ≡ old.table) × (new.names ≡ old.names)))

-- a file, or its content wants memory
abbrev pub FileDone : Loaded → List (List ℕ) → Result Unit Refusal → Loaded → Type 0
FileDone old fields result new = OnTree (file_in old.names old.tree.limits.file_size fields) MakesFile old result new ⊎ ((result ≡ Err Memory) × IsOk (last_root old.tree) × WantsContent old.names old.tree.limits.file_size fields)

-- limits are set before the first volume
abbrev pub early_limits : Tree → List (List ℕ) → Result Limits Cause
early_limits t fields = if nat_eq (length t.volumes) 0 then limits_in t.limits fields else Err LimitsLate

abbrev pub LimitsSet : Loaded → Result Limits Cause → Result Unit Refusal → Loaded → Type 0
LimitsSet old (Ok limits) result new = (result ≡ Ok tt) × (new ≡ record old { tree = with_limits old.tree limits })
LimitsSet old (Err cause) result new = IsFault cause result

-- and so is how names are written
abbrev pub early_names : Loaded → List (List ℕ) → Read NameForm
early_names old fields = if nat_eq (length old.tree.volumes) 0 then by (form_in old.names) fields else Err NamesLate

abbrev pub NamesSet : Loaded → Read NameForm → Result Unit Refusal → Loaded → Type 0
NamesSet old (Ok form) result new = (result ≡ Ok tt) × (new ≡ record old { names = form.0 })
NamesSet old (Err cause) result new = IsFault cause result

-- A line with this keyword and these fields, after the server line.
abbrev pub GoesOn : Loaded → Keyword → List (List ℕ) → Result Unit Refusal → Loaded → Type 0
GoesOn old keyword.Server fields result new = IsFault ServerTwice result
GoesOn old keyword.Limits fields result new = LimitsSet old (early_limits old.tree fields) result new
GoesOn old keyword.Names fields result new = NamesSet old (early_names old fields) result new
GoesOn old keyword.Volume fields result new = Then (volume_in old.tree.limits.files fields) result (λ line. VolumeTaken old line result new)
GoesOn old keyword.Export fields result new = InVolume old result (λ root. Then (export_in fields) result (λ line. ExportDone old line result new))
GoesOn old keyword.Dir fields result new = OnTree (dir_in old.names fields) MakesDir old result new
GoesOn old keyword.File fields result new = FileDone old fields result new
GoesOn old keyword.Link fields result new = OnTree (link_in old.names old.tree.limits.link_path fields) MakesLink old result new
GoesOn old keyword.Hard fields result new = OnTree (hard_in old.names fields) AddsName old result new
GoesOn old keyword.Times fields result new = OnTree (times_in old.names fields) SetsTimes old result new

-- the server line makes an empty tree and an empty table
abbrev pub begun : Keyword → List (List ℕ) → Result Loaded Cause
begun keyword.Server fields = do
  key ← by key_in fields
  Ok (record { tree = record { files = []; next = 1; key = key.0; volumes = []; limits = default_limits }; table = []; names = Plain })
begun keyword.Limits fields = Err NoServer
begun keyword.Names fields = Err NoServer
begun keyword.Volume fields = Err NoServer
begun keyword.Export fields = Err NoServer
begun keyword.Dir fields = Err NoServer
begun keyword.File fields = Err NoServer
begun keyword.Link fields = Err NoServer
begun keyword.Hard fields = Err NoServer
begun keyword.Times fields = Err NoServer

abbrev pub Begins : Result Loaded Cause → Result Unit Refusal → Option Loaded → Type 0
Begins (Ok loaded) result new = (result ≡ Ok tt) × (new ≡ Some loaded)
Begins (Err cause) result new = IsFault cause result

-- what a line asks for is done, or there is a cause
abbrev pub Asked : Option Loaded → Result (Option Line) Cause → Result Unit Refusal → Option Loaded → Type 0
Asked old (Err cause) result new = IsFault cause result
Asked old (Ok None) result new = (result ≡ Ok tt) × (new ≡ old)
Asked None (Ok (Some line)) result new = Begins (begun line.keyword line.fields) result new
Asked (Some old) (Ok (Some line)) result new = (loaded : Loaded) × (new ≡ Some loaded) × GoesOn old line.keyword line.fields result loaded

-- One line, where this was described before it.
abbrev pub LineDone : Option Loaded → List ℕ → Result Unit Refusal → Option Loaded → Type 0
LineDone old line result new = Asked old (shape line) result new

-- ---- all lines

-- lines in order, one after another
abbrev pub Through : Option Loaded → List (List ℕ) → Option Loaded → Type 0
Through old [] new = old ≡ new
Through old (line ∷ after) new = (between : Option Loaded) × LineDone old line (Ok tt) between × Through between after new

-- a server and a volume are described
abbrev pub finished : Option Loaded → Result Loaded Cause
finished None = Err NoServer
finished (Some loaded) = if nat_eq (length loaded.tree.volumes) 0 then Err NoVolume else Ok loaded

-- the first line that is not done: those before it are in order
pub record StopsAt (all : List (List ℕ)) (number : ℕ) (refusal : Refusal) : Type 0 where
  pub before : List (List ℕ)
  pub line : List ℕ
  pub after : List (List ℕ)
  pub all_are : all ≡ before ++ line ∷ after
  pub number_is : number ≡ length before + 1
  pub old : Option Loaded
  pub in_order : Through None before old
  pub new : Option Loaded
  pub refused : LineDone old line (Err refusal) new

-- all lines are in order, and what is missing is reported for the line after them
pub record IsUnfinished (all : List (List ℕ)) (number : ℕ) (cause : Cause) : Type 0 where
  pub number_is : number ≡ length all + 1
  pub old : Option Loaded
  pub in_order : Through None all old
  pub missing : finished old ≡ Err cause

-- A text is a tree and a table, or it has a first faulty line with its first cause, or one for which there is no memory.
abbrev pub Describes : List ℕ → Result Loaded LoadError → Type 0
Describes text (Ok loaded) = Through None (lines text) (Some loaded) × (finished (Some loaded) ≡ Ok loaded)
Describes text (Err (error.Fault number cause)) = StopsAt (lines text) number (Fault cause) ⊎ IsUnfinished (lines text) number cause
Describes text (Err error.Memory) = (number : ℕ) × StopsAt (lines text) number Memory
