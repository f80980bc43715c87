-- What a refused line is reported as.
use Rattle.std.specs.Prelude.{ℕ}
use Rattle.nfs_load.specs.declared.load_error.LoadError.{LoadError}
use Rattle.nfs_load.specs.declared.load_error.LoadError.TheVariants as error
use Rattle.nfs_load.specs.declared.refusal.Refusal.{Refusal}
use Rattle.nfs_load.specs.declared.refusal.Refusal.TheVariants as refusal

abbrev pub reported_at : ℕ → Refusal → LoadError
reported_at line (refusal.Fault cause) = error.Fault line cause
reported_at line refusal.Memory = error.Memory
