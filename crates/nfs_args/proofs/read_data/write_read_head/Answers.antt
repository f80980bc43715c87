use Rattle.nfs_args.proofs.Writes.{read_head_written}
use Rattle.nfs_args.proofs.read_data.write_read_head.Goals as goal

pub returns-clause-encoded : goal.returns-clause-encoded
returns-clause-encoded c = read_head_written _ c.args.count c.args.eof c.write_post_op_attr.ensures.encoded c.u32.ensures.encoded c.boolean.ensures.encoded
