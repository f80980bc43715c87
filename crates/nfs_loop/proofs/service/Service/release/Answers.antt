use Rattle.std.proofs.Common.{◌≡◌, ◌+◌, ◌-◌, ◌<◌, ℕ, refl, rules, subst, ◌∙◌, arith, inl, inr}
use Rattle.nfs_loop.specs.Watching.{Releases, ReleasesOne}
use Rattle.nfs_loop.proofs.Releasing.{none_counted, releasing_begins, releasing_on, releasing_ends}
use Rattle.nfs_loop.proofs.service.Service.release.Goals as goal

one_before : (left : ℕ) → 0 < left → left ≡ left - 1 + 1
one_before left some = omega (arith, some)

pub loop-left-init : goal.loop-left-init
loop-left-init g c = record {
  members = refl;
  joined = refl;
  watched = c.requires.watched;
  looked = refl;
  limits = refl;
  releasing = releasing_begins c.args.self.now.clients.0 c.is_full-is_full.result c.millis-now.result c.args.self.now.housekeeping.watches c.args.self.now.clients.1.0 c.keys-left.result c.keys-left.ensures;
}

pub loop-left-preserved : goal.loop-left-preserved
loop-left-preserved g c = record {
  members = c.release_one.ensures.members ∙ c.loop-left.invariant.members;
  joined = c.release_one.ensures.joined ∙ c.loop-left.invariant.joined;
  watched = c.release_one.ensures.watched;
  looked = c.release_one.ensures.looked ∙ c.loop-left.invariant.looked;
  limits = c.release_one.ensures.limits ∙ c.loop-left.invariant.limits;
  releasing = releasing_on c.args.self.now.clients.0 c.is_full-is_full.result c.millis-now.result c.args.self.now.housekeeping.watches c.args.self.now.clients.1.0
      c.loop-left.self.housekeeping.watches c.release_one.new.self.housekeeping.watches c.loop-left.self.clients.1.0 c.release_one.new.self.clients.1.0 c.loop-left.left (c.loop-left.left - 1) (one_before c.loop-left.left c.loop-left-test.true) c.loop-left.invariant.releasing
      (subst (λ m. ReleasesOne m c.is_full-is_full.result c.millis-now.result (c.loop-left.left - 1) c.loop-left.self.housekeeping.watches c.release_one.new.self.housekeeping.watches c.loop-left.self.clients.1.0 c.release_one.new.self.clients.1.0) c.loop-left.invariant.members c.release_one.ensures.releases);
}

pub returns-then-not-has_held-clause-releases : goal.returns-then-not-has_held-clause-releases
returns-then-not-has_held-clause-releases g c = inl (none_counted _ c.if-not-has_held.ensures, refl, refl, refl)

pub returns-clause-releases : goal.returns-clause-releases
returns-clause-releases g c =
    let none : c.loop-left.left ≡ 0 = search rules in
    inr (
      c.millis-now.result,
      c.millis-now.ensures,
      subst (λ full. Releases c.args.self.now.clients.0 full c.millis-now.result c.args.self.now.housekeeping.watches c.loop-left.self.housekeeping.watches c.args.self.now.clients.1.0 c.loop-left.self.clients.1.0) c.is_full-is_full.ensures
          (releasing_ends c.args.self.now.clients.0 c.is_full-is_full.result c.millis-now.result c.args.self.now.housekeeping.watches c.args.self.now.clients.1.0 c.loop-left.self.housekeeping.watches c.loop-left.self.clients.1.0 c.loop-left.left none c.loop-left.invariant.releasing),
    )
