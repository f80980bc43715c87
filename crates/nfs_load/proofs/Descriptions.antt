-- What a line does, put together from what its parts do.
use Rattle.std.proofs.Common.{◌≡◌, ℕ, List, [], ◌∷◌, length, zero, suc, refl, Result, Ok, Err, IsOk, IsErr, IsErrAnd, ◌⊎◌, inl, inr, Bool, true, false, Option, ◌++◌, ◌≤◌, ap, sym, subst, append_assoc, ◌∙◌, arith}
use Rattle.std.specs.Prelude.{◌==◌, if◌then◌else◌}
use Rattle.std.specs.List.{onto_first}
use Rattle.nfs_text.specs.Lines.{lines}
use Rattle.nfs_load.specs.declared.loaded.Loaded.{Loaded}
use Rattle.std.proofs.lemmas.Bool.{false≢true}
use Rattle.nfs_exports.specs.Tables.{added}
use Rattle.nfs_exports.specs.declared.export_table.Export.{Export}
use Rattle.nfs_load.specs.declared.cause.Cause.{Cause}
use Rattle.nfs_load.specs.declared.load_error.LoadError.{LoadError}
use Rattle.nfs_load.specs.Errors.{reported_at}
use Rattle.nfs_load.specs.declared.refusal.Refusal.{Refusal}
use Rattle.nfs_load.specs.declared.refusal.Refusal.TheVariants.{Fault, Memory}
use Rattle.nfs_load.specs.Descriptions.{Describes, IsFault, InRoot, LineDone, StopsAt, Then, Through, VolumeTaken}
use Rattle.nfs_load.specs.Fields.{TakesIfRoom}
use Rattle.nfs_load.specs.Statements.{Read, VolumeLine}
use Rattle.nfs_load.specs.Effects.{AddsVolume}

pub fault_of : (result : Result Unit Refusal) (cause : Cause) → IsErr result × IsErrAnd result (λ r. r ≡ Fault cause) → IsFault cause result
fault_of (Ok x) cause h = absurd (false≢true h.0)
fault_of (Err r) cause h = ap Err h.1

-- a refusal that is handed on
pub handed_on : (Done : Result Unit Refusal → Type 0) (result : Result Unit Refusal) (e : Refusal)
    → IsErr result × IsErrAnd result (λ r. r ≡ e) → Done (Err e) → Done result
handed_on Done (Ok x) e h done = absurd (false≢true h.0)
handed_on Done (Err r) e h done = subst (λ it. Done (Err it)) (sym h.1) done

-- no last volume
pub root_fault : (root : Result ℕ Cause) (cause : Cause) (result : Result Unit Refusal) (Done : ℕ → Type 0)
    → root ≡ Err cause → IsErr result × IsErrAnd result (λ r. r ≡ Fault cause) → InRoot root result Done
root_fault root cause result Done e f = subst (λ r. InRoot r result Done) (sym e) (fault_of result cause f)

-- fields with a cause
pub then_fault : {A : Type 0} (read : Read A) (cause : Cause) (result : Result Unit Refusal) (Done : A → Type 0)
    → read ≡ Err cause → IsErr result × IsErrAnd result (λ r. r ≡ Fault cause) → Then read result Done
then_fault read cause result Done e f = subst (λ r. Then r result Done) (sym e) (fault_of result cause f)

-- fields with a cause, in the last volume
pub fields_fault : {A : Type 0} (root : Result ℕ Cause) (n : ℕ) (read : Read A) (cause : Cause) (result : Result Unit Refusal) (Done : ℕ → A → Type 0)
    → root ≡ Ok n → read ≡ Err cause → IsErr result × IsErrAnd result (λ r. r ≡ Fault cause) → InRoot root result (λ r. Then read result (Done r))
fields_fault root n read cause result Done e r f = subst (λ it. InRoot it result (λ r. Then read result (Done r))) (sym e) (then_fault read cause result (Done n) r f)

-- the same, where there may be no memory for what they say
pub fields_refused : {A X : Type 0} (view : X → A) (Wants : Type 0) (root : Result ℕ Cause) (n : ℕ) (read : Read A) (rest : List (List ℕ)) (refusal : Refusal) (result : Result Unit Refusal) (Done : ℕ → A → Type 0)
    → root ≡ Ok n → TakesIfRoom view Wants rest (Err refusal) read → IsErr result × IsErrAnd result (λ r. r ≡ refusal)
    → InRoot root result (λ r. Then read result (Done r)) ⊎ ((result ≡ Err Memory) × IsOk root × Wants)
fields_refused view Wants root n read rest (Fault cause) result Done e r f = inl (fields_fault root n read cause result Done e r f)
fields_refused view Wants root n read rest Memory (Ok x) Done e r f = absurd (false≢true f.0)
fields_refused view Wants root n read rest Memory (Err refusal) Done e r f = inr (ap Err f.1, subst IsOk (sym e) refl, r)

-- a line that is done in the last volume
pub line_done : {A : Type 0} (root : Result ℕ Cause) (n : ℕ) (read : Read A) (line : A) (rest : List (List ℕ)) (result : Result Unit Refusal) (Done : ℕ → A → Type 0)
    → root ≡ Ok n → read ≡ Ok (line, rest) → Done n line → InRoot root result (λ r. Then read result (Done r))
line_done root n read line rest result Done e r done =
    subst (λ it. InRoot it result (λ r. Then read result (Done r))) (sym e) (subst (λ it. Then it result (Done n)) (sym r) done)

pub then_done : {A : Type 0} (read : Read A) (line : A) (rest : List (List ℕ)) (result : Result Unit Refusal) (Done : A → Type 0)
    → read ≡ Ok (line, rest) → Done line → Then read result Done
then_done read line rest result Done r done = subst (λ it. Then it result Done) (sym r) done

-- a volume that is not added
pub volume_refused : (old : Loaded) (line : VolumeLine) (e : Refusal) (new : Loaded) → AddsVolume old.tree line (Err e) new.tree → VolumeTaken old line (Err e) new
volume_refused old line (Fault cause) new refused = refused
volume_refused old line Memory new refused = refused.0

pub length_added : (exports : List (List Export)) (volume : ℕ) (export : Export) → length (added exports volume export) ≡ length exports
length_added [] volume export = refl
length_added (first ∷ exports) zero export = refl
length_added (first ∷ exports) (suc volume) export = ap suc (length_added exports volume export)

-- ---- lines one after another

pub through_more : (old : Option Loaded) (before : List (List ℕ)) (line : List ℕ) (between new : Option Loaded)
    → Through old before between → LineDone between line (Ok tt) new → Through old (before ++ line ∷ []) new
through_more old [] line between new same done = (new, subst (λ it. LineDone it line (Ok tt) new) (sym same) done, refl)
through_more old (first ∷ before) line between new (next, first_done, rest) done = (next, first_done, through_more next before line between new rest done)

-- one line more is after
pub cut_more : (all before left : List (List ℕ)) (line : List ℕ) (rest : List (List ℕ))
    → all ≡ before ++ left → left ≡ line ∷ rest → all ≡ (before ++ line ∷ []) ++ rest
cut_more all before left line rest e more = e ∙ ap (λ it. before ++ it) more ∙ sym (append_assoc before (line ∷ []) rest)

-- each line but the last has its LF
pub lines_few : (text : List ℕ) → length (lines text) ≤ length text
lines_few [] = omega arith
lines_few (byte ∷ rest) = more (byte == 10) (lines_few rest)
  where
    longer : (ls : List (List ℕ)) → length ls ≤ length rest → length (onto_first byte ls) ≤ suc (length rest)
    longer [] few = omega arith
    longer (line ∷ ls) few = omega (arith, few)

    more : (is_end : Bool) → length (lines rest) ≤ length rest → length (if is_end then [] ∷ lines rest else onto_first byte (lines rest)) ≤ suc (length rest)
    more true few = omega (arith, few)
    more false few = longer (lines rest) few

-- a line that is not done
pub reported : (text : List ℕ) (number : ℕ) (refusal : Refusal) (error : LoadError) → error ≡ reported_at number refusal → StopsAt (lines text) number refusal → Describes text (Err error)
reported text number (Fault cause) error e stops = subst (λ it. Describes text (Err it)) (sym e) (inl stops)
reported text number Memory error e stops = subst (λ it. Describes text (Err it)) (sym e) (number, stops)
