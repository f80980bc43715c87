use Rattle.nfs_journal.proofs.Rerunning.{advances_none, advances_on, stops_on}
use Rattle.std.proofs.Common.{◌≡◌, None, rules, arith}
use Rattle.nfs_journal.proofs.recovering.Recovery.take.Goals as goal

pub loop-used-init : goal.loop-used-init
loop-used-init c =
    let unbroken : c.args.self.now.broken ≡ None = search rules in
    record { within = omega arith; unbroken = unbroken; advances = advances_none c.args.self.now c.args.server.now unbroken }

pub loop-used-preserved : goal.loop-used-preserved
loop-used-preserved c =
    let inv = c.loop-used.invariant in
    record {
      within = search rules;
      unbroken = c.in-Ok.ensures.advances.unbroken;
      advances = advances_on c.args.chunk.now c.loop-used.used c.args.self.now c.loop-used.self c.take_one.new.self c.args.server.now c.loop-used.server c.take_one.new.server
          inv.advances inv.within c.in-Ok.n c.in-Ok.ensures.used.1 c.in-Ok.ensures.advances;
    }

pub returns-in-Err-clause-stops : goal.returns-in-Err-clause-stops
returns-in-Err-clause-stops c unbroken room =
    let inv = c.loop-used.invariant in
    stops_on c.args.chunk.now c.loop-used.used c.args.self.now c.loop-used.self c.take_one.new.self c.args.server.now c.loop-used.server c.take_one.new.server
    inv.advances inv.within c.in-Err.broken c.in-Err.ensures.stops
