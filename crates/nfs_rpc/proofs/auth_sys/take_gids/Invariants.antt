use Rattle.std.proofs.Common.{◌≡◌, length}
use Rattle.nfs_rpc.proofs.Gids.{Leads}
use Rattle.nfs_rpc.proofs.auth_sys.take_gids.Given as goal

abbrev pub invariant-loop : goal.invariant-loop
invariant-loop l = record {
  len : length l.gids.items ≡ l.counter;
  leads : Leads l.count l.counter l.fn.input l.gids.items l.input;
}
