use Rattle.nfs_xdr.proofs.Writing.{appends_then}
use Rattle.nfs_args.proofs.attributes.write_getattr_result.Goals as goal

pub returns-in-Ok-clause-text : goal.returns-in-Ok-clause-text
returns-in-Ok-clause-text c = rw c.in-Ok.is (appends_then _ _ _ _ _ c.u32.ensures.text c.write_fattr.ensures.text)
