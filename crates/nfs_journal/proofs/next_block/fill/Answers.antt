use Rattle.std.proofs.Common.{◌-◌, length, rules, subst}
use Rattle.nfs_xdr.specs.Known.{Shrinks}
use Rattle.nfs_journal.proofs.NextBlocks.{filled, shrinks_then}
use Rattle.nfs_journal.proofs.next_block.fill.Goals as goal

pub loop-len-preserved : goal.loop-len-preserved
loop-len-preserved g c =
    let at = c.loop-len.len in
    record {
      within = search rules;
      read = subst (λ l. Shrinks (g.F.Read.remaining c.args.file.now) l (g.F.Read.remaining c.read_some.new.file))
          (filled at (length c.loop-len.bytes - at) c.in-Ok.n c.loop-len.bytes c.read_some.new.bytes c.loop-len.invariant.within c.in-Ok.ensures.count)
          (shrinks_then _ _ _ _ _ c.loop-len.invariant.read c.in-Ok.ensures.read);
      len = search rules;
    }
