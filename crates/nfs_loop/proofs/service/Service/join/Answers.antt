use Rattle.std.proofs.Common.{◌≡◌, ◌≢◌, ◌<◌, ℕ, length, rules, arith, refl, ap, subst, ◌∙◌}
use Rattle.std.proofs.lemmas.List.{get_or-set_other, get_or-set_same}
use Rattle.std.specs.Net.Socket.{socket_ip}
use Rattle.nfs_loop.specs.Reports.{since}
use Rattle.nfs_loop.specs.Watching.{heard_at, nothing_known, watch_at}
use Rattle.nfs_loop.specs.declared.watches.Watch.{Watch}
use Rattle.nfs_loop.proofs.Joining.{joins_as}
use Rattle.nfs_loop.proofs.Watched.{length_after, watched_at, watched_same}
use Rattle.nfs_loop.proofs.Hearing.{begin_none, begin_one}
use Rattle.nfs_loop.proofs.Staying.{stay_same, stay_where_one_joins}
use Rattle.nfs_loop.proofs.Reporting.{accounts_one, in_one}
use Rattle.nfs_loop.proofs.service.Service.join.Goals as goal

pub returns-in-Ok-add-clause-joins : goal.returns-in-Ok-add-clause-joins
returns-in-Ok-add-clause-joins g c = joins_as c.args.key (socket_ip c.args.peer) c.args.self.now.clients.0 c.add.new.self.0 c.args.self.now.joined _ c.in-Some.addr c.requires.key c.in-Ok-add.ensures.vacant c.in-Ok-add.ensures.added
    c.in-Ok.ensures.start c.in-Ok.ensures.chunk c.in-Ok.ensures.end c.in-Some.ensures refl

pub returns-in-Ok-add-clause-reported : goal.returns-in-Ok-add-clause-reported
returns-in-Ok-add-clause-reported g c = accounts_one _ _ (since c.millis-millis.result) c.millis-millis.ensures

pub returns-in-Err-clause-reported : goal.returns-in-Err-clause-reported
returns-in-Err-clause-reported g c = accounts_one _ _ (since c.millis-millis.result) c.millis-millis.ensures

pub returns-in-Ok-add-clause-stay : goal.returns-in-Ok-add-clause-stay
returns-in-Ok-add-clause-stay g c = stay_where_one_joins c.args.self.now.clients.0 c.add.new.self.0 c.args.self.now.clients.0.vacant_key _ c.args.self.now.housekeeping.watches c.make_room.new.self c.watch.new.self.watches
    c.in-Ok-add.ensures.vacant c.in-Ok-add.ensures.added c.make_room.ensures.stay (subst (λ k. (other : ℕ) → other ≢ k → watch_at c.watch.new.self.watches other ≡ watch_at c.make_room.new.self other) c.requires.key (λ other differ. ap (λ ws. watch_at ws other) c.watch.ensures.watches ∙ get_or-set_other c.make_room.new.self c.args.key other _ nothing_known differ))

pub returns-in-Err-clause-stay : goal.returns-in-Err-clause-stay
returns-in-Err-clause-stay g c = stay_same c.args.self.now.clients.0 c.add.new.self.0 c.args.self.now.housekeeping.watches c.make_room.new.self c.in-Err.ensures.err (λ k. ap (λ (w : Watch). w.hold) (c.make_room.ensures.stay k)) (λ k. ap (λ (w : Watch). w.heard) (c.make_room.ensures.stay k))

pub returns-then-is_err-clause-stay : goal.returns-then-is_err-clause-stay
returns-then-is_err-clause-stay g c = stay_same c.args.self.now.clients.0 c.args.self.now.clients.0 c.args.self.now.housekeeping.watches c.make_room.new.self (λ k. refl) (λ k. ap (λ (w : Watch). w.hold) (c.make_room.ensures.stay k)) (λ k. ap (λ (w : Watch). w.heard) (c.make_room.ensures.stay k))

pub returns-in_default-place-clause-stay : goal.returns-in_default-place-clause-stay
returns-in_default-place-clause-stay g c = stay_same c.args.self.now.clients.0 c.args.self.now.clients.0 c.args.self.now.housekeeping.watches c.make_room.new.self (λ k. refl) (λ k. ap (λ (w : Watch). w.hold) (c.make_room.ensures.stay k)) (λ k. ap (λ (w : Watch). w.heard) (c.make_room.ensures.stay k))

pub returns-in-Ok-add-clause-watched : goal.returns-in-Ok-add-clause-watched
returns-in-Ok-add-clause-watched g c =
    let room : c.args.key < length c.make_room.new.self = search rules in
    let same = length_after c.make_room.new.self c.watch.new.self.watches c.args.key _ c.watch.ensures.watches in
    watched_at c.args.self.now.clients.0 c.add.new.self.0 c.args.key _ _ c.args.self.now.housekeeping.watches c.watch.new.self.watches c.requires.key c.in-Ok-add.ensures.added (omega (arith, room, same)) (omega (arith, c.make_room.ensures.longer, same)) c.requires.watched

pub returns-in-Err-clause-watched : goal.returns-in-Err-clause-watched
returns-in-Err-clause-watched g c = watched_same c.args.self.now.clients.0 c.add.new.self.0 c.args.self.now.housekeeping.watches c.make_room.new.self c.in-Err.ensures.err c.make_room.ensures.longer c.requires.watched

pub returns-then-is_err-clause-watched : goal.returns-then-is_err-clause-watched
returns-then-is_err-clause-watched g c = watched_same c.args.self.now.clients.0 c.args.self.now.clients.0 c.args.self.now.housekeeping.watches c.make_room.new.self (λ k. refl) c.make_room.ensures.longer c.requires.watched

pub returns-in_default-place-clause-watched : goal.returns-in_default-place-clause-watched
returns-in_default-place-clause-watched g c = watched_same c.args.self.now.clients.0 c.args.self.now.clients.0 c.args.self.now.housekeeping.watches c.make_room.new.self (λ k. refl) c.make_room.ensures.longer c.requires.watched

pub returns-in-Ok-add-clause-watch : goal.returns-in-Ok-add-clause-watch
returns-in-Ok-add-clause-watch g c =
    let room : c.args.key < length c.make_room.new.self = search rules in
    record {
      addr = c.in-Some.addr;
      addr_is = c.in-Some.ensures;
      millis = c.millis-millis.result;
      is_reported = c.millis-millis.ensures;
      watch_is = ap (λ ws. watch_at ws c.args.key) c.watch.ensures.watches ∙ get_or-set_same c.make_room.new.self c.args.key _ nothing_known room;
    }

pub returns-in-Ok-add-clause-begin : goal.returns-in-Ok-add-clause-begin
returns-in-Ok-add-clause-begin g c =
    let room : c.args.key < length c.make_room.new.self = search rules in
    begin_one c.args.self.now.clients.0 c.add.new.self.0 c.args.key c.args.self.now.clients.0.vacant_key _ _ _ c.watch.new.self.watches c.requires.key c.in-Ok-add.ensures.added
    (c.millis-millis.result, in_one _ _ (since c.millis-millis.result) c.millis-millis.ensures, ap (λ ws. heard_at ws c.args.key) c.watch.ensures.watches ∙ ap (λ (w : Watch). w.heard) (get_or-set_same c.make_room.new.self c.args.key _ nothing_known room))

pub returns-in-Err-clause-begin : goal.returns-in-Err-clause-begin
returns-in-Err-clause-begin g c = begin_none c.args.self.now.clients.0 c.add.new.self.0 _ _ _ c.in-Err.ensures.err
