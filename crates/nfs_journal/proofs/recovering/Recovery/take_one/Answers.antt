use Rattle.std.proofs.Common.{◌+◌, ◌-◌, ◌∙◌, Some, ap, length-take-le, refl, subst, sym, take}
use Rattle.nfs_journal.specs.Recovering.{Advances, Position, Stops, position_of}
use Rattle.nfs_journal.specs.declared.broken_entry.BrokenEntry.{BrokenEntry}
use Rattle.nfs_journal.proofs.Rerunning.{advances_one, stops_one}
use Rattle.nfs_journal.proofs.recovering.Recovery.take_one.Goals as goal

pub returns-in-Ok-clause-advances : goal.returns-in-Ok-clause-advances
returns-in-Ok-clause-advances c =
    let part = c.in-Ok.part in
    let inside = c.self.inside in
    let old : Position = position_of inside.framer inside.entries inside.end inside.unfinished inside.broken in
    let new : Position = record {
      progress = c.rerun_one.new.framer;
      entries = inside.entries + part.rerun.entries;
      end = inside.end + inside.unfinished + part.used - part.rerun.unfinished;
      unfinished = part.rerun.unfinished;
      broken = inside.broken;
    } in
    subst (λ (at : Position). Advances (take part.used c.args.chunk.now) at new c.args.server.now c.rerun_one.new.server) c.self.view_is
    (advances_one (take part.used c.args.chunk.now) part.used part.rerun.entries old new c.args.server.now c.rerun_one.new.server
    (length-take-le part.used c.args.chunk.now c.in-Ok.ensures.used) c.in-Ok.ensures.unfinished c.in-Ok.ensures.runs refl refl c.in-Ok.ensures.limit
    (ap (λ (at : Position). at.broken) c.self.view_is ∙ c.requires.unbroken))

pub returns-in-Err-clause-stops : goal.returns-in-Err-clause-stops
returns-in-Err-clause-stops c =
    let inside = c.self.inside in
    let broken : BrokenEntry = record { entry = inside.entries + 1; offset = inside.end; fault = c.in-Err.fault } in
    let old : Position = position_of inside.framer inside.entries inside.end inside.unfinished inside.broken in
    let new : BrokenEntry → Position = λ (b : BrokenEntry). position_of c.rerun_one.new.framer inside.entries inside.end inside.unfinished (Some b) in
    subst (λ (b : BrokenEntry). Stops b c.args.chunk.now c.args.self.now (new b) c.args.server.now c.rerun_one.new.server) (sym c.after-broken.ensures)
    (subst (λ (at : Position). Stops broken c.args.chunk.now at (new broken) c.args.server.now c.rerun_one.new.server) c.self.view_is
    (stops_one broken c.args.chunk.now old (new broken) c.args.server.now c.rerun_one.new.server c.in-Err.ensures.breaks refl refl refl refl))
