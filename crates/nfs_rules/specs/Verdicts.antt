-- The first rule that a call fails: of the rules of its handles, and then of those of its procedure.
use Rattle.std.specs.Prelude.{ℕ, Bool, true, false, not, List, [], ◌∷◌, ◌++◌, Option, Some, None, option_map, is_none, Result, Ok, Err, nat_eq, if◌then◌else◌}
use Rattle.nfs_args.specs.declared.args.NfsArgs.{NfsArgs}
use Rattle.nfs_args.specs.declared.args.NfsArgs.TheVariants as nfs
use Rattle.nfs_exports.specs.declared.export_table.Export.{Export}
use Rattle.nfs_handles.specs.Handles.{reading}
use Rattle.nfs_handles.specs.declared.reading.Reading.{Reading}
use Rattle.nfs_handles.specs.declared.reading.Reading.TheVariants.{Stale, Bad}
use Rattle.nfs_inodes.specs.Reading.{numbered_files}
use Rattle.nfs_inodes.specs.Tree.{Tree, on_some}
use Rattle.nfs_rules.specs.Subjects.{Caller, Subject, named, granted, subject_at}
use Rattle.nfs_rules.specs.Table.{rules_of}
use Rattle.nfs_rules.specs.Tests.{Test, first}
use Rattle.nfs_rules.specs.declared.rule.Rule.{Rule}
use Rattle.nfs_rules.specs.declared.rule.Rule.TheVariants as rule

-- ---- the handles

abbrev pub is_bad : Reading → Bool
is_bad Bad = true
is_bad other = false

abbrev pub is_stale : Reading → Bool
is_stale Stale = true
is_stale other = false

-- it is one that was given, its file lives, and a pattern of the file's volume covers the address
abbrev pub handle_rules : Tree → List (List Export) → Caller → List ℕ → List Test
handle_rules t exports caller handle =
    (rule.BadHandle, is_bad (reading (numbered_files t) handle))
    ∷ (rule.StaleHandle, is_stale (reading (numbered_files t) handle))
    ∷ (rule.Export, on_some (named t handle) false (λ f. is_none (granted exports caller.addr f))) ∷ []

-- both name files of one volume
abbrev pub cross_volume : Tree → List ℕ → List ℕ → Test
cross_volume t one two = (rule.CrossVolume, on_some (named t one) false (λ f. on_some (named t two) false (λ g. not (nat_eq f.fsid g.fsid))))

-- those of a call, at most two
abbrev pub handles_rules : Tree → List (List Export) → Caller → List (List ℕ) → List Test
handles_rules t exports caller [] = []
handles_rules t exports caller (one ∷ []) = handle_rules t exports caller one
handles_rules t exports caller (one ∷ two ∷ others) = handle_rules t exports caller one ++ handle_rules t exports caller two ++ cross_volume t one two ∷ []

-- the handles of a call, in their order
abbrev pub handles_in : NfsArgs → List (List ℕ)
handles_in nfs.Null = []
handles_in (nfs.Getattr file) = file ∷ []
handles_in (nfs.Setattr a) = a.file ∷ []
handles_in (nfs.Lookup a) = a.dir ∷ []
handles_in (nfs.Access a) = a.file ∷ []
handles_in (nfs.Readlink file) = file ∷ []
handles_in (nfs.Read a) = a.file ∷ []
handles_in (nfs.Write a) = a.file ∷ []
handles_in (nfs.Create a) = a.place.dir ∷ []
handles_in (nfs.Mkdir a) = a.place.dir ∷ []
handles_in (nfs.Symlink a) = a.place.dir ∷ []
handles_in (nfs.Mknod a) = a.place.dir ∷ []
handles_in (nfs.Remove a) = a.dir ∷ []
handles_in (nfs.Rmdir a) = a.dir ∷ []
handles_in (nfs.Rename a) = a.from.dir ∷ a.to.dir ∷ []
handles_in (nfs.Link a) = a.file ∷ a.place.dir ∷ []
handles_in (nfs.Readdir a) = a.dir ∷ []
handles_in (nfs.Readdirplus a) = a.dir ∷ []
handles_in (nfs.Fsstat file) = file ∷ []
handles_in (nfs.Fsinfo file) = file ∷ []
handles_in (nfs.Pathconf file) = file ∷ []
handles_in (nfs.Commit a) = a.file ∷ []

-- ---- the verdict

-- what the handles name, in one volume; where there is only one handle, both are what it names
abbrev pub subjects_at : Tree → List (List Export) → Caller → List (List ℕ) → Option (Subject × Subject)
subjects_at t exports caller [] = None
subjects_at t exports caller (one ∷ []) = option_map (λ s. (s, s)) (subject_at t exports caller one)
subjects_at t exports caller (one ∷ two ∷ others) = on_some (subject_at t exports caller one) None (λ s.
    on_some (subject_at t exports caller two) None (λ u. if nat_eq s.file.fsid u.file.fsid then Some (s, u) else None))

abbrev pub verdict : Tree → List (List Export) → Caller → NfsArgs → Option Rule
verdict t exports caller args = first (handles_rules t exports caller (handles_in args)
    ++ on_some (subjects_at t exports caller (handles_in args)) [] (λ s. rules_of s.0 s.1 args))

-- what two handles name, in one volume, or the first of their rules that fails
abbrev pub in_one_volume : Result Subject Rule → Result Subject Rule → Result (Subject × Subject) Rule
in_one_volume (Err rule) two = Err rule
in_one_volume (Ok s) (Err rule) = Err rule
in_one_volume (Ok s) (Ok u) = if nat_eq s.file.fsid u.file.fsid then Ok (s, u) else Err rule.CrossVolume
