-- What the handles of a call name, and calls that are denied before anything is done.
use Rattle.std.specs.Prelude.{◌≡◌, ℕ, List, [], ◌∷◌, Some, None, option_map, Result, Ok, Err}
use Rattle.nfs_inodes.specs.Law.{Law}
use Rattle.nfs_inodes.specs.Reading.{attributes_at}
use Rattle.nfs_inodes.specs.Tree.{Tree}
use Rattle.nfs_procs.specs.Performing.{IsGranted}
use Rattle.nfs_procs.specs.Scenes.{Scene, verdict_in, subjects_in, seen_in}
use Rattle.nfs_procs.specs.declared.call_context.CallContext.{CallContext}
use Rattle.nfs_procs.specs.declared.denial.Denial.{Denial}
use Rattle.nfs_procs.specs.declared.denial.PairDenial.{PairDenial}
use Rattle.nfs_rules.specs.Subjects.{Subject, subject_at}
use Rattle.nfs_rules.specs.Tests.{first}
use Rattle.nfs_rules.specs.Verdicts.{handle_rules, handles_rules, subjects_at}
use Rattle.nfs_rules.specs.Views.{caller_of}

-- what a handle names, whose rules are kept: a file that is there, of a lawful tree
pub record IsNamed (t : Tree) (call : CallContext) (handle : List ℕ) (s : Subject) : Type 0 where
  pub kept : first (handle_rules t call.table.now (caller_of call.caller) handle) ≡ None
  pub subject : subject_at t call.table.now (caller_of call.caller) handle ≡ Some s
  pub tree : s.tree ≡ t
  pub law : Law s.tree
  pub file : attributes_at s.tree s.file.fileid ≡ Some s.file

-- the first rule of a handle that fails; nothing is shown of what it names
pub record IsUnnamed (t : Tree) (call : CallContext) (handle : List ℕ) (denial : Denial) : Type 0 where
  pub failed : first (handle_rules t call.table.now (caller_of call.caller) handle) ≡ Some denial.rule
  pub none : subject_at t call.table.now (caller_of call.caller) handle ≡ None
  pub uid : denial.uid ≡ None
  pub shown : denial.shown ≡ None

abbrev pub Names : Tree → CallContext → List ℕ → Result Subject Denial → Type 0
Names t call handle (Ok s) = IsNamed t call handle s
Names t call handle (Err denial) = IsUnnamed t call handle denial

-- what two handles name, in one volume
pub record AreNamed (t : Tree) (call : CallContext) (one two : List ℕ) (s u : Subject) : Type 0 where
  pub first_is : IsNamed t call one s
  pub second_is : IsNamed t call two u
  pub volume : s.file.fsid ≡ u.file.fsid

-- the first rule of two handles that fails; of each is shown what it names, where its own rules are kept
pub record AreUnnamed (t : Tree) (call : CallContext) (one two : List ℕ) (denial : PairDenial) : Type 0 where
  pub failed : first (handles_rules t call.table.now (caller_of call.caller) (one ∷ two ∷ [])) ≡ Some denial.rule
  pub none : subjects_at t call.table.now (caller_of call.caller) (one ∷ two ∷ []) ≡ None
  pub uid : denial.uid ≡ None
  pub one_shown : denial.one ≡ option_map (λ s. s.file) (subject_at t call.table.now (caller_of call.caller) one)
  pub two_shown : denial.two ≡ option_map (λ s. s.file) (subject_at t call.table.now (caller_of call.caller) two)

abbrev pub NamesBoth : Tree → CallContext → List ℕ → List ℕ → Result (Subject × Subject) PairDenial → Type 0
NamesBoth t call one two (Ok s) = AreNamed t call one two s.0 s.1
NamesBoth t call one two (Err denial) = AreUnnamed t call one two denial

-- ---- decisions

-- the first rule that fails, the uid of the caller, and the attributes that are shown of what the handle names
pub record IsDenied (c : Scene) (handle : List ℕ) (denial : Denial) : Type 0 where
  pub verdict : verdict_in c ≡ Some denial.rule
  pub uid : denial.uid ≡ option_map (λ s. s.0.ids.uid) (subjects_in c)
  pub shown : denial.shown ≡ seen_in c handle

-- a granted call is planned for what its handle names
abbrev pub Decides : {P : Type 0} → Scene → List ℕ → (P → Subject → Type 0) → Result P Denial → Type 0
Decides c handle Plans (Ok plan) = (s : Subject) × IsGranted c s s × Plans plan s
Decides c handle Plans (Err denial) = IsDenied c handle denial

-- of two handles
pub record IsDeniedPair (c : Scene) (one two : List ℕ) (denial : PairDenial) : Type 0 where
  pub verdict : verdict_in c ≡ Some denial.rule
  pub uid : denial.uid ≡ option_map (λ s. s.0.ids.uid) (subjects_in c)
  pub one_shown : denial.one ≡ seen_in c one
  pub two_shown : denial.two ≡ seen_in c two

abbrev pub DecidesPair : {P : Type 0} → Scene → List ℕ → List ℕ → (P → Subject → Subject → Type 0) → Result P PairDenial → Type 0
DecidesPair c one two Plans (Ok plan) = (s : Subject) × (u : Subject) × IsGranted c s u × Plans plan s u
DecidesPair c one two Plans (Err denial) = IsDeniedPair c one two denial
