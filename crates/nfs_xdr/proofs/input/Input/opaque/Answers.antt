use Rattle.nfs_xdr.proofs.Items.{opaque_found}
use Rattle.nfs_xdr.proofs.input.Input.opaque.Goals as goal

pub returns-in-Ok-clause-reads : goal.returns-in-Ok-clause-reads
returns-in-Ok-clause-reads c = opaque_found c.args.max c.in_ok-len.len _ c.u32.new.self _ _ c.in_ok-len.ensures.reads c.if-len-max.false c.in-Ok.ensures.reads
