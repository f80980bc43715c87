use Rattle.nfs_xdr.proofs.Writing.{appends_then}
use Rattle.nfs_args.proofs.server_limits.write_transfer.Goals as goal

pub returns-clause-text : goal.returns-clause-text
returns-clause-text c = appends_then _ _ _ _ _ c.u32.ensures.text (appends_then _ _ _ _ _ c.u32-2.ensures.text c.u32-3.ensures.text)
