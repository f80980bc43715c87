use Rattle.std.proofs.Common.{◌≡◌, ◌≤◌, length}
use Rattle.nfs_load.specs.Names.{unescaped}
use Rattle.nfs_load.proofs.Unescaping.{after}
use Rattle.nfs_load.proofs.name_form.unescape.Given as goal

abbrev pub invariant-loop-rest : goal.invariant-loop-rest
invariant-loop-rest g l = record {
  so_far : after l.bytes.items (unescaped l.rest) ≡ unescaped l.text;
  few : length l.bytes.items ≤ g.row.N;
}

abbrev pub decreases-loop-rest : goal.decreases-loop-rest
decreases-loop-rest g l = length l.rest
