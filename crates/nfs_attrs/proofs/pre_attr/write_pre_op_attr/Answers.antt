use Rattle.nfs_xdr.proofs.Writing.{appends_then}
use Rattle.nfs_attrs.proofs.pre_attr.write_pre_op_attr.Goals as goal

pub returns-in-Some-clause-text : goal.returns-in-Some-clause-text
returns-in-Some-clause-text c = rw c.in-Some.is (appends_then _ _ _ _ _ c.u32-in-Some.ensures.text c.write_pre_attr.ensures.text)
