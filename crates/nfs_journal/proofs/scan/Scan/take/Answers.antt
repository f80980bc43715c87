use Rattle.std.proofs.Common.{rules}
use Rattle.nfs_journal.proofs.Scanning.{scans_on, stops_on}
use Rattle.nfs_journal.proofs.scan.Scan.take.Goals as goal

pub loop-used-preserved : goal.loop-used-preserved
loop-used-preserved c =
    let inv = c.loop-used.invariant in
    record {
      within = search rules;
      unbroken = c.in-Ok.ensures.scans.unbroken;
      scans = scans_on c.args.chunk.now c.loop-used.used c.args.self.now c.loop-used.self c.take_one.new.self inv.scans inv.within c.in-Ok.n c.in-Ok.ensures.scans;
    }

pub returns-in-Err-clause-stops : goal.returns-in-Err-clause-stops
returns-in-Err-clause-stops c unbroken room =
    let inv = c.loop-used.invariant in
    stops_on c.args.chunk.now c.loop-used.used c.args.self.now c.loop-used.self c.take_one.new.self inv.scans inv.within c.in-Err.broken c.in-Err.ensures.stops
