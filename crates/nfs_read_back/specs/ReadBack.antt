-- Lines of a description that say, when they are read, what they were written for.
use Rattle.std.specs.Prelude.{◌≡◌, ◌⊎◌, ℕ, ◌<◌, ◌≤◌, ◌^◌, ◌&&◌, Bool, true, List, [], ◌∷◌, ◌++◌, length, nat_lt, Some, Ok}
use Rattle.std.specs.List.{list_all}
use Rattle.hex.specs.Hex.{IsBytes}
use Rattle.nfs_text.specs.Lines.{lines}
use Rattle.nfs_attrs.specs.declared.moment.Moment.{Moment}
use Rattle.nfs_exports.specs.declared.export_table.Export.{Export}
use Rattle.nfs_inodes.specs.Limits.{AreLimits, default_limits}
use Rattle.nfs_inodes.specs.declared.limits.Limits.{Limits}
use Rattle.nfs_load.specs.Fields.{by, key_in, target_in}
use Rattle.nfs_load.specs.LimitFields.{limits_in}
use Rattle.nfs_load.specs.Lines.{shape}
use Rattle.nfs_load.specs.Moments.{IsTime}
use Rattle.nfs_load.specs.Names.{form_in}
use Rattle.nfs_load.specs.Paths.{path_in, path_or_root_in, volume_path_in}
use Rattle.nfs_load.specs.Statements.{volume_in, export_in, dir_in, file_in, link_in, hard_in, times_in}
use Rattle.nfs_load.specs.declared.name_form.NameForm.{NameForm}
use Rattle.nfs_load.specs.declared.name_form.NameForm.TheVariants.{Plain, Percent}
use Rattle.nfs_load.specs.declared.line.Keyword.{Keyword}
use Rattle.nfs_load.specs.declared.line.Keyword.TheVariants as keyword
use Rattle.nfs_load.specs.declared.line.Keyword.TheVariants.{Server, Volume, Dir, File, Link, Hard, Times}
use Rattle.nfs_load.specs.declared.statement.Given.{Given}
use Rattle.nfs_describe.specs.Lines.{server_line, limits_line, names_line, volume_line, dir_line, file_line, link_line, hard_line, times_line, is_shown, export_line}

-- a word: one or more bytes from `!` to `~`
abbrev pub is_said : List ℕ → Bool
is_said word = nat_lt 0 (length word) && list_all is_shown word

-- Whatever stands after the line in a text, it is a line of its own there, and asks for what its keyword and these fields say.
pub record IsReadAs (line : List ℕ) (keyword : Keyword) (fields : List (List ℕ)) : Type 0 where
  pub front : List ℕ
  pub alone : (after : List ℕ) → lines (line ++ after) ≡ front ∷ lines after
  pub asks : shape front ≡ Ok (Some (record { keyword = keyword; fields = fields }))

-- the numbers are those of a file
abbrev pub IsGiven : Given → Type 0
IsGiven given = (given.mode < 4096) × (given.uid < 2 ^ 32) × (given.gid < 2 ^ 32)

-- ---- the laws

abbrev pub ServersAreReadBack : Type 0
ServersAreReadBack = (key : List ℕ) → IsBytes key → length key ≡ 8
    → (fields : List (List ℕ)) × IsReadAs (server_line key) Server fields × (by key_in fields ≡ Ok (key, []))

-- limits are all the defaults, and no line says them; or they are read again
abbrev pub LimitsAreReadBack : Type 0
LimitsAreReadBack = (limits : Limits) → AreLimits limits
    → ((limits_line limits ≡ []) × (limits ≡ default_limits))
    ⊎ ((fields : List (List ℕ)) × IsReadAs (limits_line limits) keyword.Limits fields × (limits_in default_limits fields ≡ Ok limits))

-- the form of names is read again, where a line says it
abbrev pub NamesAreReadBack : Type 0
NamesAreReadBack = (fields : List (List ℕ)) × IsReadAs (names_line Percent) keyword.Names fields × (by (form_in Plain) fields ≡ Ok (Percent, []))

abbrev pub VolumesAreReadBack : Type 0
VolumesAreReadBack = (most : ℕ) (path : List ℕ) (bytes files : ℕ) (given : Given) → is_said path ≡ true → volume_path_in path ≡ Ok path
    → bytes ≤ 1099511627776 → 1 ≤ files → files ≤ most → files < 2 ^ 64 → IsGiven given
    → (fields : List (List ℕ)) × IsReadAs (volume_line path bytes files given) Volume fields
    × (volume_in most fields ≡ Ok (record { path = path; max_bytes = bytes; max_files = files; given = given }, []))

abbrev pub DirsAreReadBack : Type 0
DirsAreReadBack = (form : NameForm) (path : List ℕ) (names : List (List ℕ)) (given : Given) → is_said path ≡ true → path_in form path ≡ Ok names → IsGiven given
    → (fields : List (List ℕ)) × IsReadAs (dir_line path given) Dir fields × (dir_in form fields ≡ Ok (record { path = names; given = given }, []))

abbrev pub FilesAreReadBack : Type 0
FilesAreReadBack = (form : NameForm) (most : ℕ) (path : List ℕ) (names : List (List ℕ)) (given : Given) (bytes : List ℕ) → is_said path ≡ true → path_in form path ≡ Ok names → IsGiven given
    → IsBytes bytes → length bytes ≤ most
    → (fields : List (List ℕ)) × IsReadAs (file_line path given bytes) File fields
    × (file_in form most fields ≡ Ok (record { path = names; given = given; content = bytes }, []))

abbrev pub LinksAreReadBack : Type 0
LinksAreReadBack = (form : NameForm) (most : ℕ) (path : List ℕ) (names : List (List ℕ)) (uid gid : ℕ) (field target : List ℕ) → is_said path ≡ true
    → path_in form path ≡ Ok names → uid < 2 ^ 32 → gid < 2 ^ 32 → is_said field ≡ true → target_in form most field ≡ Ok target
    → (fields : List (List ℕ)) × IsReadAs (link_line path uid gid field) Link fields
    × (link_in form most fields ≡ Ok (record { path = names; uid = uid; gid = gid; target = target }, []))

abbrev pub HardsAreReadBack : Type 0
HardsAreReadBack = (form : NameForm) (path old : List ℕ) (names olds : List (List ℕ)) → is_said path ≡ true → path_in form path ≡ Ok names → is_said old ≡ true → path_in form old ≡ Ok olds
    → (fields : List (List ℕ)) × IsReadAs (hard_line path old) Hard fields × (hard_in form fields ≡ Ok (record { path = names; old = olds }, []))

abbrev pub TimesAreReadBack : Type 0
TimesAreReadBack = (form : NameForm) (path : List ℕ) (names : List (List ℕ)) (atime mtime ctime : Moment) → is_said path ≡ true → path_or_root_in form path ≡ Ok names
    → IsTime atime → IsTime mtime → IsTime ctime
    → (fields : List (List ℕ)) × IsReadAs (times_line path atime mtime ctime) Times fields
    × (times_in form fields ≡ Ok (record { path = names; atime = atime; mtime = mtime; ctime = ctime }, []))

-- the bits of a pattern and the ids of the anonymous are within their bounds
abbrev pub IsExport : Export → Type 0
IsExport e = (e.pattern.bits ≤ 32) × (e.pattern.address.0 < 2 ^ 32) × (e.options.anonuid < 2 ^ 32) × (e.options.anongid < 2 ^ 32)

abbrev pub ExportsAreReadBack : Type 0
ExportsAreReadBack = (e : Export) → IsExport e
    → (fields : List (List ℕ)) × IsReadAs (export_line e) keyword.Export fields × (export_in fields ≡ Ok (record { pattern = e.pattern; options = e.options }, []))
