-- What the lines of a description do to a tree, each by itself.
use Rattle.std.specs.Prelude.{◌≡◌, ℕ, List, length, Option, Some, None, is_some, Result, Ok, Err, if◌then◌else◌}
use Rattle.nfs_attrs.specs.declared.moment.Moment.{Moment}
use Rattle.nfs_inodes.specs.declared.given_attributes.GivenAttributes.{GivenAttributes}
use Rattle.nfs_inodes.specs.declared.new_file.NewFile.{NewFile}
use Rattle.nfs_inodes.specs.Tree.{Tree}
use Rattle.nfs_inodes.specs.Changes.{Makes, after_add_volume, after_mkdir, after_make_file, after_make_link, after_link, after_set}
use Rattle.nfs_inodes.specs.Conditions.{MayAddVolume, MayMakeDirectory, MayMake, MayMakeLink, MayLink}
use Rattle.nfs_inodes.specs.Reading.{attributes_at, volume_named}
use Rattle.nfs_load.specs.declared.cause.Cause.{Cause}
use Rattle.nfs_load.specs.declared.cause.Cause.TheVariants.{VolumeTwice, NoTarget, Full}
use Rattle.nfs_load.specs.declared.refusal.Refusal.{Refusal}
use Rattle.nfs_load.specs.declared.refusal.Refusal.TheVariants.{Fault, Memory}
use Rattle.nfs_load.specs.declared.path_end.PathEnd as kept
use Rattle.nfs_load.specs.declared.statement.Given.{Given}
use Rattle.nfs_load.specs.declared.statement.DirLine.{DirLine}
use Rattle.nfs_load.specs.declared.statement.HardLine.{HardLine}
use Rattle.nfs_handles.specs.declared.number.Number.{Number}
use Rattle.nfs_load.specs.Fields.{◌>>=◌}
use Rattle.nfs_load.specs.PathEnds.{PathEnd, file_at, file_or_root_at, free_end, is_directory, end_of}
use Rattle.nfs_load.specs.Statements.{VolumeLine, FileLine, LinkLine, TimesLine}

-- the time of everything that a description makes
abbrev pub start : Moment
start = record { seconds = 0; nanos = 0 }

abbrev pub attributes : Given → NewFile
attributes given = record { mode = given.mode; uid = given.uid; gid = given.gid; atime = start; mtime = start }

-- a link's mode is 0777
abbrev pub link_attributes : ℕ → ℕ → NewFile
link_attributes uid gid = attributes (record { mode = 511; uid = uid; gid = gid })

-- where a line is done is found, and it may be done there
abbrev pub IsOpen : {P : Type 0} → Result P Cause → (P → Type 0) → Type 0
IsOpen {P} found May = (it : P) × (found ≡ Ok it) × May it

-- a line finds where it is done, or a cause; it is done where it may be, and else the cause is Full; memory
-- is wanted only where it may be done; a line that isn't done leaves the tree
abbrev pub Does : {P : Type 0} → Tree → Result P Cause → (P → Type 0) → (P → Tree → Type 0) → Result Unit Refusal → Tree → Type 0
Does {P} t found May Made (Ok x) new = (it : P) × (found ≡ Ok it) × May it × Made it new
Does {P} t found May Made (Err (Fault Full)) new = (it : P) × (found ≡ Ok it) × (May it → ⊥) × (new ≡ t)
Does {P} t found May Made (Err (Fault cause)) new = (found ≡ Err cause) × (new ≡ t)
Does {P} t found May Made (Err Memory) new = IsOpen found May × (new ≡ t)

-- a path that no volume has
abbrev pub free_path : Tree → List ℕ → Result (List ℕ) Cause
free_path t path = if is_some (volume_named t path) then Err VolumeTwice else Ok path

-- a file that may have hard links
abbrev pub named_file : Tree → Option ℕ → Result ℕ Cause
named_file t None = Err NoTarget
named_file t (Some n) = if is_directory (attributes_at t n) then Err NoTarget else Ok n

-- where a hard link goes, and the file that it names
abbrev pub link_end : Tree → ℕ → List (List ℕ) → List (List ℕ) → Result (PathEnd × ℕ) Cause
link_end t root path old = do
  end ← free_end t root path
  n ← named_file t (file_at t root old)
  Ok (end, n)

abbrev pub links_found : Result (kept.PathEnd × Number) Cause → Result (PathEnd × ℕ) Cause
links_found (Ok it) = Ok (end_of it.0, it.1.0)
links_found (Err cause) = Err cause

-- a file that lives
abbrev pub living_file : Tree → Option ℕ → Result ℕ Cause
living_file t None = Err NoTarget
living_file t (Some n) = if is_some (attributes_at t n) then Ok n else Err NoTarget

-- the file whose times a line gives
abbrev pub timed_file : Tree → ℕ → TimesLine → Result ℕ Cause
timed_file t root line = living_file t (file_or_root_at t root line.path)

abbrev pub times_given : TimesLine → GivenAttributes
times_given line = record { mode = None; uid = None; gid = None; atime = Some line.atime; mtime = Some line.mtime }

-- ---- the lines, in the volume of a root

abbrev pub AddsVolume : Tree → VolumeLine → Result Unit Refusal → Tree → Type 0
AddsVolume t line result new = Does t (free_path t line.path)
    (λ path. MayAddVolume t path line.max_bytes line.max_files)
    (λ path. Makes t (λ tag. after_add_volume t path line.max_bytes line.max_files (attributes line.given) tag start)) result new

abbrev pub MakesDir : Tree → ℕ → DirLine → Result Unit Refusal → Tree → Type 0
MakesDir t root line result new = Does t (free_end t root line.path)
    (λ end. MayMakeDirectory t end.dir end.name)
    (λ end. Makes t (λ tag. after_mkdir t end.dir end.name (attributes line.given) tag start)) result new

abbrev pub MakesFile : Tree → ℕ → FileLine → Result Unit Refusal → Tree → Type 0
MakesFile t root line result new = Does t (free_end t root line.path)
    (λ end. MayMake t end.dir end.name (length line.content))
    (λ end. Makes t (λ tag. after_make_file t end.dir end.name line.content (attributes line.given) None tag start)) result new

abbrev pub MakesLink : Tree → ℕ → LinkLine → Result Unit Refusal → Tree → Type 0
MakesLink t root line result new = Does t (free_end t root line.path)
    (λ end. MayMakeLink t end.dir end.name line.target)
    (λ end. Makes t (λ tag. after_make_link t end.dir end.name line.target (link_attributes line.uid line.gid) tag start)) result new

-- a hard link of a file
abbrev pub AddsName : Tree → ℕ → HardLine → Result Unit Refusal → Tree → Type 0
AddsName t root line result new = Does t (link_end t root line.path line.old)
    (λ it. MayLink t it.1 it.0.dir it.0.name)
    (λ it u. u ≡ after_link t it.1 it.0.dir it.0.name start) result new

-- a file's times; no memory is wanted
abbrev pub TimesSet : Tree → Result ℕ Cause → TimesLine → Result Unit Refusal → Tree → Type 0
TimesSet t (Ok n) line result new = (result ≡ Ok tt) × (new ≡ after_set t n (times_given line) line.ctime)
TimesSet t (Err cause) line result new = (result ≡ Err (Fault cause)) × (new ≡ t)

abbrev pub SetsTimes : Tree → ℕ → TimesLine → Result Unit Refusal → Tree → Type 0
SetsTimes t root line result new = TimesSet t (timed_file t root line) line result new
