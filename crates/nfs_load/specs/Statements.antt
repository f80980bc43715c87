-- What the lines of a description say, by their fields from left to right.
use Rattle.std.specs.Prelude.{◌≡◌, ℕ, List, [], Result, Ok}
use Rattle.nfs_attrs.specs.declared.moment.Moment.{Moment}
use Rattle.nfs_inodes.specs.Tree.{on_some}
use Rattle.nfs_load.specs.declared.cause.Cause.{Cause}
use Rattle.nfs_load.specs.declared.name_form.NameForm.{NameForm}
use Rattle.nfs_load.specs.declared.statement.Given.{Given}
use Rattle.nfs_load.specs.declared.statement.DirLine.{DirLine}
use Rattle.nfs_load.specs.declared.statement.HardLine.{HardLine}
use Rattle.nfs_load.specs.declared.statement.VolumeLine as volume
use Rattle.nfs_load.specs.declared.statement.LinkLine as link
use Rattle.nfs_load.specs.declared.statement.FileLine as file
use Rattle.nfs_load.specs.declared.statement.TimesLine as times
use Rattle.nfs_load.specs.declared.statement.ExportLine.{ExportLine}
use Rattle.nfs_load.specs.Fields.{by, ◌>>=◌, SaysBytes, OfNext, content_in, mode_in, number_in, options_at, pattern_in, target_in}
use Rattle.nfs_load.specs.Moments.{moment_in}
use Rattle.nfs_load.specs.Paths.{path_in, path_or_root_in, volume_path_in}

-- a value and the fields after it, or a cause
abbrev pub Read : Type 0 → Type 0
Read A = Result (A × List (List ℕ)) Cause

-- the number of a user or a group
abbrev pub id_in : List ℕ → Result ℕ Cause
id_in = number_in 0 4294967295

-- MODE UID GID
abbrev pub given_in : List (List ℕ) → Read Given
given_in fields = do
  mode ← by mode_in fields
  uid ← by id_in mode.1
  gid ← by id_in uid.1
  Ok (record { mode = mode.0; uid = uid.0; gid = gid.0 }, gid.1)

-- PATH BYTES FILES MODE UID GID
pub record VolumeLine : Type 0 where
  pub path : List ℕ
  pub max_bytes : ℕ
  pub max_files : ℕ
  pub given : Given

abbrev pub volume_in : ℕ → List (List ℕ) → Read VolumeLine
volume_in most fields = do
  path ← by volume_path_in fields
  max_bytes ← by (number_in 0 1099511627776) path.1
  max_files ← by (number_in 1 most) max_bytes.1
  given ← given_in max_files.1
  Ok (record { path = path.0; max_bytes = max_bytes.0; max_files = max_files.0; given = given.0 }, given.1)

-- PATTERN, then OPTIONS or nothing
abbrev pub export_in : List (List ℕ) → Read ExportLine
export_in fields = do
  pattern ← by pattern_in fields
  options ← options_at pattern.1
  Ok (record { pattern = pattern.0; options = options.0 }, options.1)

-- PATH MODE UID GID CONTENT
pub record FileLine : Type 0 where
  pub path : List (List ℕ)
  pub given : Given
  pub content : List ℕ

abbrev pub file_in : NameForm → ℕ → List (List ℕ) → Read FileLine
file_in form most fields = do
  path ← by (path_in form) fields
  given ← given_in path.1
  content ← by (content_in most) given.1
  Ok (record { path = path.0; given = given.0; content = content.0 }, content.1)

-- PATH MODE UID GID
abbrev pub dir_in : NameForm → List (List ℕ) → Read DirLine
dir_in form fields = do
  path ← by (path_in form) fields
  given ← given_in path.1
  Ok (record { path = path.0; given = given.0 }, given.1)

-- those and CONTENT, for which memory is taken
pub record WantsContent (form : NameForm) (most : ℕ) (fields : List (List ℕ)) : Type 0 where
  pub line : DirLine
  pub rest : List (List ℕ)
  pub front : dir_in form fields ≡ Ok (line, rest)
  pub content : OfNext (SaysBytes most) rest

-- PATH UID GID TARGET
pub record LinkLine : Type 0 where
  pub path : List (List ℕ)
  pub uid : ℕ
  pub gid : ℕ
  pub target : List ℕ

abbrev pub link_in : NameForm → ℕ → List (List ℕ) → Read LinkLine
link_in form most fields = do
  path ← by (path_in form) fields
  uid ← by id_in path.1
  gid ← by id_in uid.1
  target ← by (target_in form most) gid.1
  Ok (record { path = path.0; uid = uid.0; gid = gid.0; target = target.0 }, target.1)

-- PATH OLD
abbrev pub hard_in : NameForm → List (List ℕ) → Read HardLine
hard_in form fields = do
  path ← by (path_in form) fields
  old ← by (path_in form) path.1
  Ok (record { path = path.0; old = old.0 }, old.1)

-- PATH ATIME MTIME CTIME; the root has no names
pub record TimesLine : Type 0 where
  pub path : List (List ℕ)
  pub atime : Moment
  pub mtime : Moment
  pub ctime : Moment

abbrev pub times_in : NameForm → List (List ℕ) → Read TimesLine
times_in form fields = do
  path ← by (path_or_root_in form) fields
  atime ← by moment_in path.1
  mtime ← by moment_in atime.1
  ctime ← by moment_in mtime.1
  Ok (record { path = path.0; atime = atime.0; mtime = mtime.0; ctime = ctime.0 }, ctime.1)

-- lines as they are in memory
abbrev pub volume_line_of : volume.VolumeLine → VolumeLine
volume_line_of line = record { path = line.path.now; max_bytes = line.max_bytes; max_files = line.max_files; given = line.given }

abbrev pub link_line_of : link.LinkLine → LinkLine
link_line_of line = record { path = line.path; uid = line.uid; gid = line.gid; target = line.target }

abbrev pub times_line_of : times.TimesLine → TimesLine
times_line_of line = record { path = on_some line.path [] (λ names. names); atime = line.atime; mtime = line.mtime; ctime = line.ctime }

abbrev pub file_line_of : file.FileLine → FileLine
file_line_of line = record { path = line.path; given = line.given; content = line.content }
