-- A description that is loaded while it is read: its text is cut into lines, and these are loaded and digested in turn.
use Rattle.std.specs.Prelude.{◌≡◌, ◌⊎◌, ℕ, ◌-◌, ◌≤◌, ◌^◌, not, Bool, true, List, ◌∷◌, ◌++◌, length, min, Option, Some, None, Result, Ok, Err, ⊤, ◌==◌}
use Rattle.std.specs.List.{list_all}
use Rattle.nfs_load.specs.declared.load_error.LoadError.{LoadError}
use Rattle.nfs_load.specs.declared.loaded.Loaded.{Loaded}
use Rattle.nfs_load.specs.declared.refusal.Refusal.{Refusal}
use Rattle.nfs_load.specs.Descriptions.{Describes, StopsAt, Through, finished}
use Rattle.nfs_load.specs.Errors.{reported_at}
use Rattle.nfs_load.specs.Loadings.{SoFar, at_end}
use Rattle.nfs_text.specs.Lines.{lines}
use Rattle.nfs_describe.specs.Texts.{most_text_bytes}
use Rattle.nfs_lives.specs.Paths.{life_key, rows_of}
use Rattle.nfs_source.specs.Sources.{IsRead, IsRest}
use Rattle.nfs_source.specs.Status.{Reports}
use Rattle.nfs_source.specs.declared.fault.Fault.{Fault}
use Rattle.nfs_source.specs.declared.description.Life.{Life}
use Rattle.nfs_source.specs.declared.description.Reader.{Reader}
use Rattle.nfs_source.specs.declared.description.Reading.{Reading}

-- ---- where a text is cut

-- bytes of a line that has not ended
abbrev pub is_open : List ℕ → Bool
is_open bytes = list_all (λ byte. not (byte == 10)) bytes

-- what stands before the first LF, and what stands after it
abbrev pub IsCut : List ℕ → List ℕ → List ℕ → Type 0
IsCut text line rest = (is_open line ≡ true) × (text ≡ line ++ 10 ∷ rest)

-- whatever follows a text, its lines are these and then those that begin with this rest
abbrev pub CutsInto : List ℕ → List (List ℕ) → List ℕ → Type 0
CutsInto text done rest = (after : List ℕ) → lines (text ++ after) ≡ done ++ lines (rest ++ after)

-- ---- its lines

abbrev pub taken_or : Option LoadError → Result Unit LoadError
taken_or None = Ok tt
taken_or (Some error) = Err error

-- lines in order, as they are loaded and digested; numbers go to 2 ^ 64 - 1
pub record AreLoaded {D : Type 0} (has : D → List (List ℕ) → Type 0) (loading : SoFar) (digest : D) (done : List (List ℕ)) : Type 0 where
  pub in_order : Through None done loading.described
  pub counted : loading.count ≡ min (length done) (2 ^ 64 - 1)
  pub digested : has digest done

-- the first of some lines that is refused, reported by its number
pub record StopWith (all : List (List ℕ)) (error : LoadError) : Type 0 where
  pub number : ℕ
  pub refusal : Refusal
  pub stops : StopsAt all number refusal
  pub reported : error ≡ reported_at (min number (2 ^ 64 - 1)) refusal

abbrev pub AreRead : {D : Type 0} → (D → List (List ℕ) → Type 0) → Option LoadError → SoFar → D → List (List ℕ) → Type 0
AreRead has None loading digest done = AreLoaded has loading digest done
AreRead has (Some error) loading digest done = StopWith done error

-- These lines were read: all are in order, or the fault is that of the first that isn't.
abbrev pub HasRead : {D : Type 0} → (D → List (List ℕ) → Type 0) → Reading D → List (List ℕ) → Type 0
HasRead has it done = AreRead has it.fault it.loading it.digest done

-- what they describe, where these are all
abbrev pub outcome_of : Option LoadError → SoFar → Result Loaded LoadError
outcome_of None loading = at_end loading.count (finished loading.described)
outcome_of (Some error) loading = Err error

-- ---- its bytes

-- what is kept of the line that has not ended; nothing matters after a fault
abbrev pub Keeps : Option LoadError → List ℕ → List ℕ → Type 0
Keeps None kept rest = (kept ≡ rest) × (is_open rest ≡ true)
Keeps (Some error) kept rest = ⊤

-- This text was read: lines that have ended, and then the rest that is kept.
pub record HasText {D : Type 0} (has : D → List (List ℕ) → Type 0) (it : Reader D) (text : List ℕ) : Type 0 where
  pub done : List (List ℕ)
  pub rest : List ℕ
  pub cut : CutsInto text done rest
  pub read : HasRead has it.reading done
  pub kept : Keeps it.reading.fault it.line rest

-- ---- the life that it begins

-- A life has what a text describes, and the key of the paths that its lines name.
abbrev pub Begins : List ℕ → Life → Type 0
Begins text life = Describes text (Ok life.loaded) × (life.key ≡ life_key life.loaded.tree.key (rows_of (lines text)))

-- ---- the fault that it has

-- The fault of a text: of all that was left; or of whatever begins with what was read, since a line of that is faulty.
abbrev pub IsFaultOf : Option (List ℕ) → List ℕ → Option (List ℕ) → Fault → Type 0
IsFaultOf old text new fault = (IsRest old text new × Reports text fault)
    ⊎ (IsRead old text new × ((more : List ℕ) → length (text ++ more) ≤ most_text_bytes → Reports (text ++ more) fault))
