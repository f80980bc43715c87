-- Texts that are read from a state on: no line of them is refused but for want of memory.
use Rattle.std.proofs.Common.{inl, inr, ◌≡◌, ◌⊎◌, ℕ, List, [], ◌∷◌, ◌++◌, Option, Some, None, Result, Ok, Err, refl, sym, subst, append_assoc}
use Rattle.nfs_text.specs.Lines.{lines}
use Rattle.nfs_inodes.specs.Tree.{Tree}
use Rattle.nfs_load.specs.Descriptions.{Asked, Begins, Describes, GoesOn, InRoot, LineDone, Then, Through, begun, finished}
use Rattle.nfs_load.specs.Effects.{Does}
use Rattle.nfs_load.specs.Statements.{Read}
use Rattle.nfs_load.specs.declared.cause.Cause.{Cause}
use Rattle.nfs_load.specs.declared.cause.Cause.TheVariants.{Full}
use Rattle.nfs_load.specs.declared.line.Keyword.{Keyword}
use Rattle.nfs_load.specs.declared.load_error.LoadError.{LoadError}
use Rattle.nfs_load.specs.declared.load_error.LoadError.TheVariants as error
use Rattle.nfs_load.specs.declared.loaded.Loaded.{Loaded}
use Rattle.nfs_load.specs.declared.refusal.Refusal.{Refusal}
use Rattle.nfs_load.specs.declared.refusal.Refusal.TheVariants.{Fault, Memory}
use Rattle.nfs_read_back.specs.ReadBack.{IsReadAs}

pub not_both : {A E : Type 0} (r : Result A E) (a : A) (e : E) → r ≡ Ok a → r ≡ Err e → ⊥
not_both r a e ok err = cc

pub same_ok : {A E : Type 0} (r : Result A E) (a b : A) → r ≡ Ok a → r ≡ Ok b → a ≡ b
same_ok r a b one two = cc

pub same_err : {A E : Type 0} (r : Result A E) (a b : E) → r ≡ Err a → r ≡ Err b → a ≡ b
same_err r a b one two = cc

-- a line is done, and this holds after it, or memory is wanted
abbrev pub Done : Result Unit Refusal → Type 0 → Type 0
Done result After = (result ≡ Err Memory) ⊎ ((result ≡ Ok tt) × After)

done_ok : (A' : Type 0) (ok : Result Unit Refusal) → ok ≡ Ok tt → Done ok A' → A'
done_ok A' ok is done = elim done [
  | inl memory ↦ absurd (not_both ok tt Memory is memory)
  | inr it ↦ it.1
]

-- each line is done in turn, and then this holds
abbrev pub Runs : (Option Loaded → Type 0) → Option Loaded → List (List ℕ) → Type 0
Runs Last old [] = Last old
Runs Last old (line ∷ after) = (result : Result Unit Refusal) (new : Option Loaded) → LineDone old line result new → Done result (Runs Last new after)

no_memory : (cause : Cause) → Fault cause ≡ Memory → ⊥
no_memory cause e = cc

module _ (Last : Option Loaded → Type 0) where
  -- a text is read, and then this holds, whatever stands after it
  abbrev pub Goes : Option Loaded → List ℕ → (Option Loaded → Type 0) → Type 0
  Goes old text Then = (after : List ℕ) → ((new : Option Loaded) → Then new → Runs Last new (lines after)) → Runs Last old (lines (text ++ after))

  pub goes_none : (old : Option Loaded) (Then : Option Loaded → Type 0) → Then old → Goes old [] Then
  goes_none old Then holds after next = next old holds

  pub goes_both : (old : Option Loaded) (one two : List ℕ) (Between Then : Option Loaded → Type 0) → Goes old one Between
      → ((new : Option Loaded) → Between new → Goes new two Then) → Goes old (one ++ two) Then
  goes_both old one two Between Then first second after next =
      subst (λ text. Runs Last old (lines text)) (sym (append_assoc one two after)) (first (two ++ after) (λ new holds. second new holds after next))

  pub goes_weaker : (old : Option Loaded) (text : List ℕ) (Between Then : Option Loaded → Type 0) → Goes old text Between
      → ((new : Option Loaded) → Between new → Then new) → Goes old text Then
  goes_weaker old text Between Then first weaker after next = first after (λ new holds. next new (weaker new holds))

  goes_line : (old : Option Loaded) (line : List ℕ) (keyword : Keyword) (fields : List (List ℕ)) (Then : Option Loaded → Type 0) → IsReadAs line keyword fields
      → ((result : Result Unit Refusal) (new : Option Loaded) → Asked old (Ok (Some (record { keyword = keyword; fields = fields }))) result new
      → Done result (Then new))
      → Goes old line Then
  goes_line old line keyword fields Then read does after next =
      subst (Runs Last old) (sym (read.alone after)) (λ result new done.
      elim (does result new (subst (λ asks. Asked old asks result new) read.asks done)) [
        | inl memory ↦ inl memory
        | inr it ↦ inr (it.0, next new it.1)
      ])

  pub goes_on : (old : Loaded) (line : List ℕ) (keyword : Keyword) (fields : List (List ℕ)) (Then : Loaded → Type 0) (All : Option Loaded → Type 0)
      → IsReadAs line keyword fields
      → ((new : Loaded) → Then new → All (Some new))
      → ((result : Result Unit Refusal) (new : Loaded) → GoesOn old keyword fields result new → Done result (Then new)) → Goes (Some old) line All
  goes_on old line keyword fields Then All read last does = goes_line (Some old) line keyword fields All read (λ result new asked.
      elim (does result asked.0 asked.2) [
        | inl memory ↦ inl memory
        | inr it ↦ inr (it.0, subst All (sym asked.1) (last asked.0 it.1))
      ])

  pub goes_first : (line : List ℕ) (keyword : Keyword) (fields : List (List ℕ)) (loaded : Loaded) (Then : Option Loaded → Type 0) → IsReadAs line keyword fields
      → begun keyword fields ≡ Ok loaded → Then (Some loaded) → Goes None line Then
  goes_first line keyword fields loaded Then read is holds = goes_line None line keyword fields Then read (λ result new asked.
      let begins : Begins (Ok loaded) result new = subst (λ b. Begins b result new) is asked in inr (begins.0, subst Then (sym begins.1) holds))

  -- ---- the whole text

  through_last : (old new : Option Loaded) (ls : List (List ℕ)) → Runs Last old ls → Through old ls new → Last new
  through_last old new [] runs through = subst Last through runs
  through_last old new (line ∷ ls) runs (between, is_done, rest) =
      through_last between new ls (done_ok (Runs Last between ls) (Ok tt) refl (runs (Ok tt) between is_done)) rest

  stops_memory : (start old new : Option Loaded) (before : List (List ℕ)) (line : List ℕ) (after : List (List ℕ)) (refusal : Refusal)
      → Runs Last start (before ++ line ∷ after) → Through start before old → LineDone old line (Err refusal) new → refusal ≡ Memory
  stops_memory start old new [] line after refusal runs through done =
      elim (runs (Err refusal) new (subst (λ o. LineDone o line (Err refusal) new) (sym through) done)) [
        | inl memory ↦ same_err (Err refusal) refusal Memory refl memory
        | inr it ↦ absurd (not_both (Err refusal) tt refusal it.0 refl)
      ]
  stops_memory start old new (first ∷ before) line after refusal runs (between, is_done, rest) done =
      stops_memory between old new before line after refusal
      (done_ok (Runs Last between (before ++ line ∷ after)) (Ok tt) refl (runs (Ok tt) between is_done)) rest done

  -- a text that is read says what holds then, or memory is wanted
  pub describes : (text : List ℕ) (result : Result Loaded LoadError) → Runs Last None (lines text)
      → ((old : Option Loaded) → Last old → (loaded : Loaded) × (finished old ≡ Ok loaded))
      → Describes text result → (result ≡ Err error.Memory) ⊎ ((loaded : Loaded) × (result ≡ Ok loaded) × Last (Some loaded))
  describes text (Ok loaded) runs ends is = inr (loaded, refl, through_last None (Some loaded) (lines text) runs is.0)
  describes text (Err error.Memory) runs ends is = inl refl
  describes text (Err (error.Fault number cause)) runs ends is = elim is [
    | inl stops ↦ absurd (no_memory cause (stops_memory None stops.old stops.new stops.before stops.line stops.after (Fault cause)
        (subst (Runs Last None) stops.all_are runs) stops.in_order stops.refused))
    | inr missing ↦ absurd (let f = ends missing.old (through_last None missing.old (lines text) runs missing.in_order) in
        not_both (finished missing.old) f.0 cause f.1 missing.missing)
  ]

-- ---- what a line does

pub does_made : {P : Type 0} (t : Tree) (found : Result P Cause) (May : P → Type 0) (Made : P → Tree → Type 0) (result : Result Unit Refusal) (new : Tree)
    (end : P)
    → found ≡ Ok end → May end → Does t found May Made result new → Done result (Made end new)
does_made {P} t found May Made (Ok x) new end is may does = inr (refl, subst (λ it. Made it new) (same_ok found does.0 end does.1 is) does.3)
does_made {P} t found May Made (Err (Fault Full)) new end is may does = absurd (does.2 (subst May (same_ok found end does.0 is does.1) may))
does_made {P} t found May Made (Err (Fault cause)) new end is may does = absurd (not_both found end cause is does.0)
does_made {P} t found May Made (Err Memory) new end is may does = inl refl

pub then_is : {A : Type 0} (read : Read A) (line : A) (rest : List (List ℕ)) (result : Result Unit Refusal) (Holds : A → Type 0) → read ≡ Ok (line, rest)
    → Then read result Holds → Holds line
then_is read line rest result Holds is holds = subst (λ r. Then r result Holds) is holds

pub root_is : (found : Result ℕ Cause) (root : ℕ) (result : Result Unit Refusal) (Holds : ℕ → Type 0) → found ≡ Ok root → InRoot found result Holds → Holds root
root_is found root result Holds is in_root = subst (λ r. InRoot r result Holds) is in_root
