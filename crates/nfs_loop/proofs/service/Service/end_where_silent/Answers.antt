use Rattle.std.proofs.Common.{◌≡◌, false, is_some, [], rules, length, refl, sym, ap}
use Rattle.std.proofs.lemmas.Bool.{ltb-true}
use Rattle.nfs_loop.specs.Reports.{at}
use Rattle.nfs_loop.proofs.Joining.{left_by}
use Rattle.nfs_loop.proofs.Leaving.{leaves_one, not_held}
use Rattle.nfs_loop.proofs.Watched.{no_fewer, watched_still, were_others}
use Rattle.slab.specs.Slab.{get}
use Rattle.nfs_loop.proofs.Changing.{nothing}
use Rattle.nfs_loop.proofs.Reporting.{accounts_none, accounts_one, accounts_then}
use Rattle.nfs_loop.proofs.service.Service.end_where_silent.Goals as goal

pub returns-in-Some : goal.returns-in-Some
returns-in-Some g c =
    let off : is_some c.hold.result ≡ false = search rules in
    let reported = accounts_then _ _ _ [] [] (accounts_one _ _ (at c.now-moment.result) c.now-moment.ensures) c.leave.ensures.reported in
    record {
      goes = λ server. left_by g.L.Link.outgoing g.L.Link.incoming _ _ server c.args.key c.in-Some.member c.args.self.now.clients.0 c.remove.new.self.0 c.args.self.now.joined _ _
          c.in-Some.ensures.value.0 c.in-Some.ensures.away reported c.leave.ensures.lines;
      queue = c.remove.ensures.queue;
      silent = leaves_one c.args.self.now.housekeeping.watches c.args.self.now.clients.1.0 c.args.since c.args.key _ _ c.in-Some.ensures.away
          (record { not_heard = ltb-true _ _ (sym c.if-not-is_silent.ensures); not_held = not_held c.hold.result _ c.hold.ensures off; not_waiting = c.in-Some.ensures.value.1 });
      watches = c.leave.ensures.watches;
      leaves = λ silent. c.in-Some.ensures.away.changed;
      looked = c.leave.ensures.looked;
      limits = c.leave.ensures.limits;
      reported = reported;
      watched = watched_still c.args.self.now.clients.0 c.remove.new.self.0 c.args.self.now.housekeeping.watches c.leave.new.self.watches (were_others c.args.self.now.clients.0 c.remove.new.self.0 c.args.key c.in-Some.ensures.away)
          (no_fewer (ap length c.leave.ensures.watches)) c.requires.watched;
    }

pub returns-in_default-clause-goes : goal.returns-in_default-clause-goes
returns-in_default-clause-goes g c server = nothing g.L.Link.outgoing g.L.Link.incoming _ _ server _ _ _ _ _ (λ key. ap (λ q. get q.0 key) c.in_default.ensures.none.0) refl (accounts_none _)
