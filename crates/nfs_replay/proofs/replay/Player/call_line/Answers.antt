use Rattle.std.proofs.Common.{refl}
use Rattle.nfs_text.specs.Words.{words_left}
use Rattle.nfs_replay.proofs.Scripts.{by_line, say_none}
use Rattle.nfs_replay.proofs.replay.Player.call_line.Goals as goal

pub returns-clause-run : goal.returns-clause-run
returns-clause-run g c = (c.in_ok-bytes.bytes.items, (c.tree.result.now, c.in_ok-bytes.ensures.ok), refl)

pub returns-in_err-bytes-clause-fault : goal.returns-in_err-bytes-clause-fault
returns-in_err-bytes-clause-fault g c = by_line _ c.from_residual-in_err-bytes.result _ c.from_residual-in_err-bytes.ensures (say_none c.tree.result.now (words_left c.args.words) _ c.in_err-bytes.ensures.fault)
