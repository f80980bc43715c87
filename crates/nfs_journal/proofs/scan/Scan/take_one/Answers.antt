use Rattle.std.proofs.Common.{◌+◌, ◌-◌, ◌∙◌, Some, ap, length-take-le, refl, subst, sym, take}
use Rattle.nfs_journal.specs.Recovering.{Position, position_of}
use Rattle.nfs_journal.specs.Scanning.{Scans, StopsScan}
use Rattle.nfs_journal.specs.declared.broken_entry.BrokenEntry.{BrokenEntry}
use Rattle.nfs_journal.proofs.Scanning.{scans_one, stops_one}
use Rattle.nfs_journal.proofs.scan.Scan.take_one.Goals as goal

pub returns-in-Ok-clause-scans : goal.returns-in-Ok-clause-scans
returns-in-Ok-clause-scans c =
    let part = c.in-Ok.part in
    let inside = c.self.inside in
    let old : Position = position_of inside.framer inside.entries inside.end inside.unfinished inside.broken in
    let new : Position = record {
      progress = c.scan_one.new.framer;
      entries = inside.entries + part.rerun.entries;
      end = inside.end + inside.unfinished + part.used - part.rerun.unfinished;
      unfinished = part.rerun.unfinished;
      broken = inside.broken;
    } in
    subst (λ (at : Position). Scans (take part.used c.args.chunk.now) at new) c.self.view_is
    (scans_one (take part.used c.args.chunk.now) part.used part.rerun.entries old new
    (length-take-le part.used c.args.chunk.now c.in-Ok.ensures.used) c.in-Ok.ensures.unfinished c.in-Ok.ensures.reads refl refl c.in-Ok.ensures.limit
    (ap (λ (at : Position). at.broken) c.self.view_is ∙ c.requires.unbroken))

pub returns-in-Err-clause-stops : goal.returns-in-Err-clause-stops
returns-in-Err-clause-stops c =
    let inside = c.self.inside in
    let broken : BrokenEntry = record { entry = inside.entries + 1; offset = inside.end; fault = c.in-Err.fault } in
    let old : Position = position_of inside.framer inside.entries inside.end inside.unfinished inside.broken in
    let new : BrokenEntry → Position = λ (b : BrokenEntry). position_of c.scan_one.new.framer inside.entries inside.end inside.unfinished (Some b) in
    subst (λ (b : BrokenEntry). StopsScan b c.args.chunk.now c.args.self.now (new b)) (sym c.after-broken.ensures)
    (subst (λ (at : Position). StopsScan broken c.args.chunk.now at (new broken)) c.self.view_is
    (stops_one broken c.args.chunk.now old (new broken) c.in-Err.ensures.faults refl refl refl refl))
