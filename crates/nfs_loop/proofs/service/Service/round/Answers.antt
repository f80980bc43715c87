use Rattle.std.proofs.Common.{◌≡◌, List, is_some, ◌∙◌, ap, refl, subst, sym}
use Rattle.slab.specs.Slab.{get}
use Rattle.nfs_lines.specs.Queued.{is_full}
use Rattle.nfs_loop.specs.declared.limits.Limits.{Limits}
use Rattle.nfs_lines.specs.Written.{written}
use Rattle.nfs_loop.specs.Journals.{JournalGoes, journal_of, noted_by}
use Rattle.nfs_loop.specs.Reports.{Accounts}
use Rattle.nfs_loop.specs.Stages.{AllOthersStay, AreTurnsBeside, HeardInTurns, Stage, WaitAgain, seats, stage, turned}
use Rattle.nfs_loop.specs.Watching.{AllBegin, AreWatched, ReleasesBy, SomeMayBeHeld}
use Rattle.nfs_loop.proofs.Changing.{begins_by, begins_where, goes_then, passed}
use Rattle.nfs_loop.proofs.Leaving.{stay_or_leave}
use Rattle.nfs_loop.proofs.Repeating.{full_where, leave_in_round, round_of}
use Rattle.nfs_loop.proofs.Staying.{stay_same, stay_then}
use Rattle.nfs_serving.specs.Service.{Change}
use Rattle.nfs_loop.proofs.service.Service.round.Goals as goal

pub returns : goal.returns
returns g c =
    let out = g.L.Link.outgoing in
    let come = g.L.Link.incoming in
    let looked = c.turns.ensures.looked ∙ c.release.ensures.looked ∙ c.accept_some.ensures.looked ∙ c.note.ensures.looked in
    let seen = journal_of g.J.JournalOut.lasting g.J.JournalOut.failed in
    let turned_at = stage c.turns.new.server c.turns.new.self.clients.0 c.turns.new.self.joined (written g.A.LineOut.taken g.C.LineOut.taken c.turns.new.lines) in
    let turns_such : Stage g.row.L.Denot → List Change → Type 0 = λ s changes. (turned changes ≡ c.release.new.self.clients.1.0) × Accounts (g.N.Network.reported c.release.new.net) changes (g.N.Network.reported c.turns.new.net)
    × JournalGoes (seen c.args.journal.now) (noted_by changes) (seen c.turns.new.journal) × AreTurnsBeside out come (seen c.turns.new.journal) changes s turned_at in
    let limits = c.turns.ensures.limits ∙ c.release.ensures.limits ∙ c.accept_some.ensures.limits ∙ c.note.ensures.limits in
    record {
      round = round_of out come g.L.Link.reports _ _ _ _ _ _ _ _ _ _ _ _ _ _ _ _ _ _ _ c.note.ensures.notes c.note.ensures.all
          (stay_then c.args.self.now.clients.0 c.note.new.self.clients.0 c.accept_some.new.self.clients.0 c.args.self.now.housekeeping.watches c.note.new.self.housekeeping.watches c.accept_some.new.self.housekeeping.watches
          (stay_same c.args.self.now.clients.0 c.note.new.self.clients.0 c.args.self.now.housekeeping.watches c.note.new.self.housekeeping.watches (λ key. ap (λ m. get m key) c.note.ensures.members) c.note.ensures.holds c.note.ensures.heard) c.accept_some.ensures.stay)
          (subst (λ m. AllBegin m (g.N.Network.reported c.note.new.net) (g.N.Network.reported c.accept_some.new.net) c.accept_some.new.self.clients.0 c.accept_some.new.self.housekeeping.watches) c.note.ensures.members c.accept_some.ensures.begin)
          (subst (λ q. ReleasesBy c.accept_some.new.self.clients.0 (is_full c.args.lines.now.denied.queue) (g.N.Network.reported c.accept_some.new.net) (g.N.Network.reported c.release.new.net) c.accept_some.new.self.housekeeping.watches c.release.new.self.housekeeping.watches q c.release.new.self.clients.1.0) c.accept_some.ensures.queue c.release.ensures.releases)
          (full_where g.A.LineOut.taken c.args.lines.now.denied.is_plain c.args.lines.now.denied.queue) refl
          (begins_where out come _ _ c.args.self.now.clients.0 c.note.new.self.clients.0 c.args.self.now.joined c.note.new.self.joined _ _ c.note.ensures.members c.note.ensures.joined (c.accept_some.ensures.goes _ _))
          (begins_by out come turns_such _ c.accept_some.new.self.clients.0 c.release.new.self.clients.0 c.accept_some.new.self.joined c.release.new.self.joined _ _ c.release.ensures.members c.release.ensures.joined c.turns.ensures.goes)
          (subst (λ m. AllOthersStay c.release.new.self.clients.1.0 (seats m) (seats c.turns.new.self.clients.0)) c.release.ensures.members c.turns.ensures.others)
          (subst (λ ws. HeardInTurns come g.L.Link.reports (g.N.Network.reported c.release.new.net) (g.N.Network.reported c.turns.new.net) c.release.new.self.clients.1.0 c.end_silent.new.self.clients.1.0 c.release.new.self.housekeeping.watches ws (seats c.turns.new.self.clients.0)) (sym (c.attend.ensures.watches ∙ c.end_silent.ensures.watches))
          (subst (λ q. HeardInTurns come g.L.Link.reports (g.N.Network.reported c.release.new.net) (g.N.Network.reported c.turns.new.net) c.release.new.self.clients.1.0 q c.release.new.self.housekeeping.watches c.turns.new.self.housekeeping.watches (seats c.turns.new.self.clients.0)) (sym c.end_silent.ensures.queue) c.turns.ensures.heard))
          (goes_then out come _ _ _ _ _ _ (c.end_silent.ensures.goes _) (passed out come _ _ _ _ _ _ _ c.attend.ensures.lines c.attend.ensures.reported))
          c.attend.ensures.reloads refl c.requires.settled c.settle.ensures.goes refl
          (subst (λ ws. WaitAgain come g.L.Link.reports (is_some (seen c.args.journal.now)) ws (seats c.accept_some.new.self.clients.0) (seats c.turns.new.self.clients.0) c.release.new.self.clients.1.0 c.end_silent.new.self.clients.1.0) (sym (c.attend.ensures.watches ∙ c.end_silent.ensures.watches))
          (subst (WaitAgain come g.L.Link.reports (is_some (seen c.args.journal.now)) c.turns.new.self.housekeeping.watches (seats c.accept_some.new.self.clients.0) (seats c.turns.new.self.clients.0) c.release.new.self.clients.1.0) (sym c.end_silent.ensures.queue)
          (subst (λ m. WaitAgain come g.L.Link.reports (is_some (seen c.args.journal.now)) c.turns.new.self.housekeeping.watches (seats m) (seats c.turns.new.self.clients.0) c.release.new.self.clients.1.0 c.turns.new.self.clients.1.0) c.release.ensures.members c.turns.ensures.again)))
          (stay_or_leave _ _ _ _ c.turns.new.self.clients.0 c.end_silent.new.self.clients.0 c.end_silent.ensures.silent.only)
          (subst (SomeMayBeHeld c.release.new.self.clients.1.0 c.release.new.self.housekeeping.watches) (sym (c.attend.ensures.watches ∙ c.end_silent.ensures.watches)) c.turns.ensures.holds)
          (leave_in_round c.turns.new.self.housekeeping.watches _ c.turns.new.self.clients.1.0 c.end_silent.new.self.clients.1.0 c.turns.new.self.housekeeping.limits.idle _ c.turns.new.self.housekeeping.looked c.end_silent.new.self.housekeeping.looked _ _ _ _ _ c.turns.new.self.clients.0 c.end_silent.new.self.clients.0
          (c.attend.ensures.watches ∙ c.end_silent.ensures.watches) c.end_silent.ensures.queue (ap (λ (l : Limits). l.idle) limits) looked c.attend.ensures.looked c.attend.ensures.reported c.end_silent.ensures.silent)
          (ap (λ (l : Limits). l.idle) (c.attend.ensures.limits ∙ c.end_silent.ensures.limits ∙ limits));
      settled = c.settle.ensures.settled;
      watched = subst (AreWatched c.end_silent.new.self.clients.0) (sym c.attend.ensures.watches) c.end_silent.ensures.watched;
    }
