use Rattle.std.proofs.Common.{take, arith, rules}
use Rattle.std.proofs.lemmas.List.{length-take}
use Rattle.nfs_rpc.proofs.Steps.{body_moves}
use Rattle.nfs_rpc.proofs.framer.Framer.take_body.Goals as goal

pub returns-clause-moves : goal.returns-clause-moves
returns-clause-moves c =
    body_moves c.args.self.now _ c.args.last c.args.left c.min-n.result (take c.min-n.result c.args.chunk.now) c.requires.stage (omega (arith, c.min-n.ensures)) (omega (arith, c.min-n.ensures, length-take c.min-n.result c.args.chunk.now))
    (record { limit = search rules; stage_is = c.stage_before-self-inside.ensures.stage; content_is = search rules })
