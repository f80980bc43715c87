use Rattle.nfs_xdr.proofs.Items.{fixed_found}
use Rattle.nfs_xdr.proofs.input.Input.fixed.Goals as goal

pub returns-clause-reads : goal.returns-clause-reads
returns-clause-reads c = rw (← c.self.view_is) (fixed_found c.args.len c.self.inside.bytes.now c.if-self-len.false c.if-self-len-2.false)
