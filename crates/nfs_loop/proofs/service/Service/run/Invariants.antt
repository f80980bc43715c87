use Rattle.std.specs.Prelude.{List}
use Rattle.nfs_lines.specs.Queued.{is_full}
use Rattle.nfs_lines.specs.Written.{written}
use Rattle.nfs_loop.specs.Journals.{IsSettled, journal_of}
use Rattle.nfs_loop.specs.Stages.{schedule, stage, AreRounds}
use Rattle.nfs_loop.specs.Watching.{AreWatched}
use Rattle.nfs_loop.proofs.service.Service.run.Given as goal
use Rattle.nfs_serving.specs.Service.{Change}

abbrev pub invariant-loop-left : goal.invariant-loop-left
invariant-loop-left g l = record {
  rounds : (rounds : List (List Change)) × AreRounds g.L.Link.outgoing g.L.Link.incoming g.L.Link.reports rounds (g.N.Network.reported l.fn.net) (schedule l.fn.self.clients.1.0 l.fn.self.housekeeping.watches l.fn.self.housekeeping.limits.idle l.fn.self.housekeeping.looked (is_full l.fn.lines.denied.queue) (journal_of g.J.JournalOut.lasting g.J.JournalOut.failed l.fn.journal))
      (stage l.fn.server l.fn.self.clients.0 l.fn.self.joined (written g.A.LineOut.taken g.C.LineOut.taken l.fn.lines))
      (g.N.Network.reported l.net) (schedule l.self.clients.1.0 l.self.housekeeping.watches l.self.housekeeping.limits.idle l.self.housekeeping.looked (is_full l.lines.denied.queue) (journal_of g.J.JournalOut.lasting g.J.JournalOut.failed l.journal))
      (stage l.server l.self.clients.0 l.self.joined (written g.A.LineOut.taken g.C.LineOut.taken l.lines));
  settled : IsSettled (journal_of g.J.JournalOut.lasting g.J.JournalOut.failed l.journal) l.server;
  watched : AreWatched l.self.clients.0 l.self.housekeeping.watches;
}

abbrev pub decreases-loop-left : goal.decreases-loop-left
decreases-loop-left g l = l.left
