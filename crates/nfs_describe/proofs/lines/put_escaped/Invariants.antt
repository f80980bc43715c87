use Rattle.std.proofs.Common.{◌≡◌, ℕ, List, ◌++◌, drop}
use Rattle.nfs_load.specs.Names.{name_text}
use Rattle.nfs_describe.proofs.lines.put_escaped.Given as goal

abbrev pub invariant-loop-byte : goal.invariant-loop-byte
invariant-loop-byte g l = (before : List ℕ) → g.O.Output.has l.fn.out before
    → (done : List ℕ) × g.O.Output.has l.out done × (done ++ name_text (drop l.byte-index l.bytes) ≡ before ++ name_text l.bytes)
