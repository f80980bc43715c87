use Rattle.std.proofs.Common.{◌≡◌, rules, take}
use Rattle.nfs_rpc.specs.declared.framer.Stage.TheVariants.{Ready}
use Rattle.nfs_journal.proofs.Scanning.{fault_one, reads_one}
use Rattle.nfs_journal.proofs.scan.scan_one.Goals as goal

pub returns-then-not-scan_record-clause-faults : goal.returns-then-not-scan_record-clause-faults
returns-then-not-scan_record-clause-faults c =
    let ready : c.feed.new.self.stage ≡ Ready = search rules in
    fault_one c.args.chunk.now c.in-Ok.fed.used c.args.unfinished c.args.framer.now c.feed.new.self c.in-Ok.ensures.moves ready (c.scan_record.ensures.none c.if-not-scan_record.true)

pub returns-clause-reads : goal.returns-clause-reads
returns-clause-reads c =
    let ready : c.feed.new.self.stage ≡ Ready = search rules in
    reads_one (take c.in-Ok.fed.used c.args.chunk.now) c.args.unfinished c.args.framer.now c.feed.new.self c.scan_record.new.framer c.in-Ok.ensures.moves ready (c.scan_record.ensures.entry c.if-not-scan_record.false) c.scan_record.ensures.next
