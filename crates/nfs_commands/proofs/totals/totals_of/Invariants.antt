use Rattle.std.proofs.Common.{◌≡◌}
use Rattle.nfs_commands.specs.Totals.{totals_of_first}
use Rattle.nfs_commands.proofs.totals.totals_of.Given as goal

abbrev pub invariant-loop-index : goal.invariant-loop-index
invariant-loop-index l = l.all ≡ totals_of_first l.tree l.index
