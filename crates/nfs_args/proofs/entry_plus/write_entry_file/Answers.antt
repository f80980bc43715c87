use Rattle.nfs_xdr.proofs.Writing.{appends_then, followed}
use Rattle.nfs_args.proofs.entry_plus.write_entry_file.Goals as goal

pub returns-clause-text : goal.returns-clause-text
returns-clause-text c = appends_then _ _ _ _ _ c.write_post_op_attr.ensures.text c.write_post_op_handle.ensures.text

pub returns-clause-encoded : goal.returns-clause-encoded
returns-clause-encoded c = followed _ _ _ _ c.write_post_op_attr.ensures.encoded c.write_post_op_handle.ensures.encoded
