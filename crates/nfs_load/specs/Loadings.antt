-- A description that is loaded line by line.
use Rattle.std.specs.Prelude.{◌≡◌, ℕ, ◌+◌, ◌^◌, ◌-◌, List, min, Option, None, Result, Ok, Err}
use Rattle.nfs_load.specs.declared.cause.Cause.{Cause}
use Rattle.nfs_load.specs.declared.load_error.LoadError.{LoadError}
use Rattle.nfs_load.specs.declared.load_error.LoadError.TheVariants as error
use Rattle.nfs_load.specs.declared.loaded.Loaded.{Loaded}
use Rattle.nfs_load.specs.declared.refusal.Refusal.{Refusal}
use Rattle.nfs_load.specs.Descriptions.{LineDone}
use Rattle.nfs_load.specs.Errors.{reported_at}

-- what was described so far, by so many lines
pub record SoFar : Type 0 where
  pub described : Option Loaded
  pub count : ℕ

abbrev pub nothing : SoFar
nothing = record { described = None; count = 0 }

-- the number of the line after so many: numbers go to 2 ^ 64 - 1
abbrev pub number_after : ℕ → ℕ
number_after count = min (count + 1) (2 ^ 64 - 1)

-- a line that is refused where this was described before it
pub record IsRefused (old : Option Loaded) (line : List ℕ) (refusal : Refusal) : Type 0 where
  pub new : Option Loaded
  pub refused : LineDone old line (Err refusal) new

-- one line more is described; or it is refused by its number, and nothing is described any more
abbrev pub Becomes : SoFar → List ℕ → Result Unit LoadError → Option Loaded → Type 0
Becomes old line (Ok x) described = LineDone old.described line (Ok tt) described
Becomes old line (Err error) described =
    (refusal : Refusal) × (error ≡ reported_at (number_after old.count) refusal) × IsRefused old.described line refusal × (described ≡ None)

-- The next line is taken, and counted.
abbrev pub LineTaken : SoFar → List ℕ → Result Unit LoadError → SoFar → Type 0
LineTaken old line result new = (new.count ≡ number_after old.count) × Becomes old line result new.described

-- what is missing at the end is reported of the line after the last of so many
abbrev pub at_end : ℕ → Result Loaded Cause → Result Loaded LoadError
at_end count (Ok loaded) = Ok loaded
at_end count (Err cause) = Err (error.Fault (number_after count) cause)
