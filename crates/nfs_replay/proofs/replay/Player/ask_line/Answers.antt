use Rattle.std.proofs.Common.{refl, subst}
use Rattle.nfs_text.specs.Words.{words_left}
use Rattle.nfs_replay.specs.Scripts.{HasRecord, IsRefused}
use Rattle.nfs_replay.proofs.Scripts.{ask_for_none}
use Rattle.nfs_replay.proofs.replay.Player.ask_line.Goals as goal

pub returns-in-Ok-clause-run : goal.returns-in-Ok-clause-run
returns-in-Ok-clause-run g c = (
  c.in-Ok.bytes.items,
  (c.tree.result.now, subst (λ n. HasRecord c.tree.result.now n (words_left c.args.words) c.in-Ok.bytes.items) c.xid_after-xid.ensures c.in-Ok.ensures.record),
  refl,
)

pub returns-in-Err-clause-fault : goal.returns-in-Err-clause-fault
returns-in-Err-clause-fault g c = ask_for_none c.tree.result.now _ _ c.in-Err.fault c.of_ask.result c.of_ask.ensures
    (subst (λ n. IsRefused c.tree.result.now n (words_left c.args.words) c.in-Err.fault) c.xid_after-xid.ensures c.in-Err.ensures.fault)
