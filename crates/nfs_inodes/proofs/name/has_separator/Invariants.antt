use Rattle.std.proofs.Common.{◌≡◌, ◌≢◌, ℕ, ◌<◌, Some}
use Rattle.std.specs.Prelude.{slice_get}
use Rattle.nfs_inodes.proofs.name.has_separator.Given as goal

abbrev pub invariant-loop-byte : goal.invariant-loop-byte
invariant-loop-byte l = (k byte : ℕ) → k < l.byte-index → slice_get l.name k ≡ Some byte → (byte ≢ 0) × (byte ≢ 47)
