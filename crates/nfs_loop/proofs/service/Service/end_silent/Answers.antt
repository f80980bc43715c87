use Rattle.std.proofs.Common.{◌≡◌, ℕ, ◌+◌, ◌-◌, ◌/◌, ◌<◌, ◌∙◌, List, [], None, refl, rules, arith, sym, subst}
use Rattle.nfs_loop.specs.Stages.{IsSilent, LeavesIfSilent}
use Rattle.slab.specs.Slab.{Slab, get}
use Rattle.nfs_loop.specs.declared.watches.Watch.{Watch}
use Rattle.nfs_loop.specs.Watching.{AreWatched}
use Rattle.nfs_loop.specs.Reports.{since}
use Rattle.nfs_loop.proofs.Changing.{goes_then, reported_one}
use Rattle.nfs_loop.proofs.Leaving.{all_left, gone_above, gone_on, left_none, left_on, left_silent, none_leave, none_silent}
use Rattle.nfs_loop.proofs.Reporting.{first_one, first_then}
use Rattle.nfs_loop.proofs.service.Service.end_silent.Goals as goal

pub returns-in_default-clause-goes : goal.returns-in_default-clause-goes
returns-in_default-clause-goes g c = λ server. reported_one g.L.Link.outgoing g.L.Link.incoming _ _ (since c.millis-millis.result) _ c.millis-millis.ensures

pub returns-in_default-clause-silent : goal.returns-in_default-clause-silent
returns-in_default-clause-silent g c = record {
  millis = c.millis-millis.result;
  is_reported = first_one _ _ (since c.millis-millis.result) c.millis-millis.ensures;
  only = none_leave c.args.self.now.housekeeping.watches c.args.self.now.clients.1.0 c.args.self.now.housekeeping.limits.idle (c.millis-millis.result / 1000) c.args.self.now.clients.0;
  all = none_silent c.args.self.now.housekeeping.watches c.args.self.now.clients.1.0 c.args.self.now.housekeeping.limits.idle (c.millis-millis.result / 1000) c.args.self.now.housekeeping.looked c.args.self.now.clients.0 c.in_default.ensures.none;
  looks_is = c.silent_since.ensures.looked;
}

pub loop-left-init : goal.loop-left-init
loop-left-init g c = record {
  goes = λ server. reported_one g.L.Link.outgoing g.L.Link.incoming _ _ (since c.millis-millis.result) _ c.millis-millis.ensures;
  watches = c.silent_since.ensures.watches;
  silent = left_none c.args.self.now.housekeeping.watches c.args.self.now.clients.1.0 c.in-Some.since c.args.self.now.clients.0;
  gone = gone_above c.args.self.now.housekeeping.watches c.args.self.now.clients.1.0 c.in-Some.since c.keys-left.result c.args.self.now.clients.0 c.keys-left.ensures.above;
  looked = c.silent_since.ensures.looked;
  limits = c.silent_since.ensures.limits;
  clock = first_one _ _ (since c.millis-millis.result) c.millis-millis.ensures;
  watched = subst (AreWatched c.args.self.now.clients.0) (sym c.silent_since.ensures.watches) c.requires.watched;
  queue = refl;
}

-- what was left, where so much was looked at
leaves_one : {M : Type 0} (now old : List Watch) (now_queue queue : List ℕ) (key start : ℕ) (mid new : Slab M) → now ≡ old → now_queue ≡ queue → LeavesIfSilent now now_queue key start mid new → LeavesIfSilent old queue key start mid new
leaves_one now old now_queue queue key start mid new same same_queue leaves =
    subst (λ q. LeavesIfSilent old q key start mid new) same_queue (subst (λ w. LeavesIfSilent w now_queue key start mid new) same leaves)

gone_one : {M : Type 0} (now old : List Watch) (now_queue queue : List ℕ) (key start : ℕ) (new : Slab M) → now ≡ old → now_queue ≡ queue → (IsSilent now now_queue start key → get new key ≡ None) → IsSilent old queue start key → get new key ≡ None
gone_one now old now_queue queue key start new same same_queue leaves =
    subst (λ q. IsSilent old q start key → get new key ≡ None) same_queue (subst (λ w. IsSilent w now_queue start key → get new key ≡ None) same leaves)

one_before : (left : ℕ) → 0 < left → left ≡ left - 1 + 1
one_before left some = omega (arith, some)

pub loop-left-preserved : goal.loop-left-preserved
loop-left-preserved g c =
    let leaves = leaves_one c.loop-left.self.housekeeping.watches c.args.self.now.housekeeping.watches c.loop-left.self.clients.1.0 c.args.self.now.clients.1.0 (c.loop-left.left - 1) c.in-Some.since
    c.loop-left.self.clients.0 c.end_where_silent.new.self.clients.0 c.loop-left.invariant.watches c.loop-left.invariant.queue c.end_where_silent.ensures.silent in
    let gone = gone_one c.loop-left.self.housekeeping.watches c.args.self.now.housekeeping.watches c.loop-left.self.clients.1.0 c.args.self.now.clients.1.0 (c.loop-left.left - 1) c.in-Some.since
    c.end_where_silent.new.self.clients.0 c.loop-left.invariant.watches c.loop-left.invariant.queue c.end_where_silent.ensures.leaves in
    record {
      goes = λ server. goes_then g.L.Link.outgoing g.L.Link.incoming _ _ _ _ _ _ (c.loop-left.invariant.goes server) (c.end_where_silent.ensures.goes server);
      watches = c.end_where_silent.ensures.watches ∙ c.loop-left.invariant.watches;
      silent = left_on c.args.self.now.housekeeping.watches c.args.self.now.clients.1.0 c.in-Some.since (c.loop-left.left - 1) c.args.self.now.clients.0 c.loop-left.self.clients.0 c.end_where_silent.new.self.clients.0 c.loop-left.invariant.silent leaves;
      gone = gone_on c.args.self.now.housekeeping.watches c.args.self.now.clients.1.0 c.in-Some.since (c.loop-left.left - 1) c.loop-left.left c.loop-left.self.clients.0 c.end_where_silent.new.self.clients.0 (one_before c.loop-left.left c.loop-left-test.true) c.loop-left.invariant.gone leaves gone;
      looked = c.end_where_silent.ensures.looked ∙ c.loop-left.invariant.looked;
      limits = c.end_where_silent.ensures.limits ∙ c.loop-left.invariant.limits;
      clock = first_then _ _ _ (since c.millis-millis.result) [] c.loop-left.invariant.clock c.end_where_silent.ensures.reported;
      watched = c.end_where_silent.ensures.watched;
      queue = c.end_where_silent.ensures.queue ∙ c.loop-left.invariant.queue;
    }

pub returns-clause-silent : goal.returns-clause-silent
returns-clause-silent g c =
    let none : c.loop-left.left ≡ 0 = search rules in
    record {
      millis = c.millis-millis.result;
      is_reported = c.loop-left.invariant.clock;
      only = left_silent c.args.self.now.housekeeping.watches c.args.self.now.clients.1.0 c.in-Some.since c.args.self.now.housekeeping.limits.idle (c.millis-millis.result / 1000) c.args.self.now.clients.0 c.loop-left.self.clients.0 c.in-Some.ensures.since c.loop-left.invariant.silent;
      all = all_left c.args.self.now.housekeeping.watches c.args.self.now.clients.1.0 c.in-Some.since c.args.self.now.housekeeping.limits.idle (c.millis-millis.result / 1000) c.args.self.now.housekeeping.looked c.loop-left.left c.loop-left.self.clients.0 c.in-Some.ensures.since none c.loop-left.invariant.gone;
      looks_is = c.loop-left.invariant.looked;
    }
