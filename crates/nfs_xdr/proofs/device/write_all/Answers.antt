use Rattle.std.proofs.Common.{refl, subst, sym, ◌∙◌, arith}
use Rattle.nfs_xdr.specs.Known.{Grows}
use Rattle.nfs_xdr.proofs.Knowing.{grows_nothing, taken_on, within_rest, stays_alive, stays_none, stays_then, Grows-then, Grows-none}
use Rattle.nfs_xdr.proofs.device.write_all.Goals as goal

pub loop-at-init : goal.loop-at-init
loop-at-init g c = record { within = omega arith; wrote = grows_nothing _; stays = stays_none _ _; alive = refl }

pub returns-in-Err-clause-stays : goal.returns-in-Err-clause-stays
returns-in-Err-clause-stays g c = stays_then _ _ _ _ _ _ c.loop-at.invariant.stays (λ failed. (c.in-Err.ensures.fault.0, c.in-Err.ensures.fault.1))

pub loop-at-preserved : goal.loop-at-preserved
loop-at-preserved g c = record {
  within = within_rest c.args.bytes.now c.loop-at.at c.in-Ok.n c.loop-at.invariant.within c.in-Ok.ensures.count;
  wrote = subst (λ t. Grows (g.W.ByteOut.contents c.args.out.now) t (g.W.ByteOut.contents c.write.new.self)) (taken_on c.args.bytes.now c.loop-at.at c.in-Ok.n)
      (Grows-then _ _ _ _ _ c.loop-at.invariant.wrote c.in-Ok.ensures.taken);
  stays = stays_alive _ _ _ _ (sym c.loop-at.invariant.alive ∙ c.in-Ok.ensures.alive.0);
  alive = c.in-Ok.ensures.alive.1 ∙ sym c.in-Ok.ensures.alive.0 ∙ c.loop-at.invariant.alive;
}

pub returns-in-Err-clause-part : goal.returns-in-Err-clause-part
returns-in-Err-clause-part g c = (c.loop-at.at, c.loop-at.invariant.within, Grows-none _ _ _ _ c.loop-at.invariant.wrote c.in-Err.ensures.fault.1)
