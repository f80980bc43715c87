use Rattle.std.proofs.Common.{Some, IfErr, sym, subst}
use Rattle.nfs_replay.specs.Orders.{record_asked_by}
use Rattle.nfs_replay.specs.Scripts.{FailsBy, FaultsBy}
use Rattle.nfs_replay.proofs.replay.Player.record_to_send.Goals as goal

pub returns-in-Ask-clause-fault : goal.returns-in-Ask-clause-fault
returns-in-Ask-clause-fault g c =
    subst (λ it. IfErr c.ask_line.result (FaultsBy (FailsBy c.args.before c.args.sent.now (Some (record_asked_by it))))) (sym c.in-Ask.is) c.ask_line.ensures.fault
