use Rattle.std.proofs.Common.{sym, ap, ◌∙◌}
use Rattle.nfs_rpc.specs.Calls.{call_of}
use Rattle.nfs_server.specs.Denying.{fails_called}
use Rattle.nfs_server.specs.InMemory.{event_of}
use Rattle.nfs_server.specs.RpcRules.{head_rules}
use Rattle.nfs_server.proofs.Denied.{fails_first}
use Rattle.nfs_server.proofs.Judged.{call_rules}
use Rattle.nfs_server.proofs.server.Server.would_deny.Goals as goal

pub returns-in-Err : goal.returns-in-Err
returns-in-Err c =
    let event = event_of c.args.event in
    fails_first c.args.self.now event (call_of c.in-Ok.head) c.in-Ok.head.args head_rules call_rules c.in-Err.field-0 c.in-Err.ensures
    ∙ ap (λ head. fails_called head c.args.self.now event) (sym c.in-Ok.ensures.exact)
