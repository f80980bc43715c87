use Rattle.std.proofs.Common.{ℕ, ◌≡◌, ◌+◌, ◌-◌, suc, subst, sym, ◌∙◌, arith}
use Rattle.nfs_xdr.specs.Known.{Grows, GrowsByPart}
use Rattle.nfs_xdr.proofs.Knowing.{Grows-then}
use Rattle.nfs_load.specs.Listings.{text_at}
use Rattle.nfs_load.proofs.Writes.{on_err, part_of_texts, texts_more}
use Rattle.nfs_load.proofs.listing.listing.Goals as goal

pub returns-in_err-write_number-clause-part : goal.returns-in_err-write_number-clause-part
returns-in_err-write_number-clause-part g c =
    let number : c.loop-number.number ≡ suc (c.loop-number.number - 1) = omega (arith, c.loop-number.invariant.first) in
    on_err c.from_residual.result
    (part_of_texts c.args.tree.now (g.W.ByteOut.contents c.args.out.now) (g.W.ByteOut.contents c.loop-number.out) (g.W.ByteOut.contents c.write_number.new.out) (c.loop-number.number - 1) (c.args.tree.now.next - 1)
    (omega (arith, c.loop-number.invariant.first, c.loop-number.invariant.end, c.loop-number-test.true))
    c.loop-number.invariant.written
    (subst (λ (n : ℕ). GrowsByPart (g.W.ByteOut.contents c.loop-number.out) (text_at c.args.tree.now n) (g.W.ByteOut.contents c.write_number.new.out)) number c.in_err-write_number.ensures.part))

pub loop-number-preserved : goal.loop-number-preserved
loop-number-preserved g c = record {
  first = omega arith;
  last = omega (arith, c.loop-number.invariant.first, c.loop-number.invariant.end, c.loop-number-test.true);
  end = c.loop-number.invariant.end;
  written = subst (λ l. Grows (g.W.ByteOut.contents c.args.out.now) l (g.W.ByteOut.contents c.write_number.new.out))
      (sym (texts_more c.args.tree.now (c.loop-number.number - 1) (c.loop-number.number + 1 - 1) c.loop-number.number (omega (arith, c.loop-number.invariant.first)) (omega arith)))
      (Grows-then _ _ _ _ _ c.loop-number.invariant.written c.in_ok-write_number.ensures.ok);
  alive = c.in_ok-write_number.ensures.alive ∙ c.loop-number.invariant.alive;
}
