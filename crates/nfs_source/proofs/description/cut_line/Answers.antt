use Rattle.std.proofs.Common.{arith}
use Rattle.nfs_source.proofs.Cuts.{open_before, open_whole, split_after}
use Rattle.nfs_source.proofs.description.cut_line.Goals as goal

pub returns-in-Some : goal.returns-in-Some
returns-in-Some c =
    let first = c.in-Some.ensures in
    (open_before c.args.text.now c.in-Some.end (omega arith) first.0.before, split_after c.args.text.now c.in-Some.end first.0.high first.1)

pub returns-in-None : goal.returns-in-None
returns-in-None c = open_whole c.args.text.now c.in-None.ensures
