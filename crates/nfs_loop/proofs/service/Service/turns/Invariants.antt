use Rattle.std.proofs.Common.{◌≡◌, is_some}
use Rattle.nfs_lines.specs.Written.{written}
use Rattle.nfs_loop.specs.Journals.{JournalGoes, journal_of, noted_by}
use Rattle.nfs_loop.specs.Reports.{Accounts}
use Rattle.nfs_loop.specs.Watching.{AreWatched, SomeMayBeHeld}
use Rattle.nfs_loop.specs.Stages.{seats, stage, AreTurnsBeside, Goes, InRound}
use Rattle.nfs_loop.proofs.service.Service.turns.Given as goal

abbrev pub invariant-loop-left : goal.invariant-loop-left
invariant-loop-left g l = record {
  goes : Goes g.L.Link.outgoing g.L.Link.incoming (λ changes. InRound g.L.Link.incoming g.L.Link.reports (is_some (journal_of g.J.JournalOut.lasting g.J.JournalOut.failed l.fn.journal)) (g.N.Network.reported l.fn.net) (g.N.Network.reported l.net) l.fn.self.housekeeping.watches l.self.housekeeping.watches (seats l.fn.self.clients.0) (seats l.self.clients.0) l.fn.self.clients.1.0 l.self.clients.1.0 l.left changes × Accounts (g.N.Network.reported l.fn.net) changes (g.N.Network.reported l.net)
      × JournalGoes (journal_of g.J.JournalOut.lasting g.J.JournalOut.failed l.fn.journal) (noted_by changes) (journal_of g.J.JournalOut.lasting g.J.JournalOut.failed l.journal)
      × AreTurnsBeside g.L.Link.outgoing g.L.Link.incoming (journal_of g.J.JournalOut.lasting g.J.JournalOut.failed l.journal) changes
      (stage l.fn.server l.fn.self.clients.0 l.fn.self.joined (written g.A.LineOut.taken g.C.LineOut.taken l.fn.lines))
      (stage l.server l.self.clients.0 l.self.joined (written g.A.LineOut.taken g.C.LineOut.taken l.lines)))
      (stage l.fn.server l.fn.self.clients.0 l.fn.self.joined (written g.A.LineOut.taken g.C.LineOut.taken l.fn.lines))
      (stage l.server l.self.clients.0 l.self.joined (written g.A.LineOut.taken g.C.LineOut.taken l.lines));
  watched : AreWatched l.self.clients.0 l.self.housekeeping.watches;
  holds : SomeMayBeHeld l.fn.self.clients.1.0 l.fn.self.housekeeping.watches l.self.housekeeping.watches;
  looked : l.self.housekeeping.looked ≡ l.fn.self.housekeeping.looked;
  limits : l.self.housekeeping.limits ≡ l.fn.self.housekeeping.limits;
}

abbrev pub decreases-loop-left : goal.decreases-loop-left
decreases-loop-left g l = l.left
