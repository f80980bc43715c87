-- The first fault of a text.
use Rattle.std.specs.Prelude.{List, ℕ, Option, Some, None, Ok, Err}
use Rattle.nfs_load.specs.Descriptions.{Describes}
use Rattle.nfs_load.specs.declared.load_error.LoadError.TheVariants.{Fault}
use Rattle.nfs_load.specs.declared.loaded.Loaded.{Loaded}
use Rattle.nfs_advice.specs.declared.every.Faults.{Faults}

-- none, where the text is in order; else the one that its reading ends at
abbrev pub HasFirst : List ℕ → Option Faults → Type 0
HasFirst text None = (loaded : Loaded) × Describes text (Ok loaded)
HasFirst text (Some faults) = Describes text (Err (Fault faults.first.line faults.first.cause))
