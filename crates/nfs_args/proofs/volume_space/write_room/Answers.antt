use Rattle.nfs_xdr.proofs.Writing.{followed}
use Rattle.nfs_args.proofs.Writes.{attributes_written}
use Rattle.nfs_args.proofs.volume_space.write_room.Goals as goal

pub returns-clause-encoded : goal.returns-clause-encoded
returns-clause-encoded c =
    followed _ _ _ _ (attributes_written _ _ c.as_ref.ensures.value c.write_post_op_attr.ensures.encoded)
    (followed _ _ _ _ c.write_space.ensures.encoded
    (followed _ _ _ _ c.write_space-2.ensures.encoded c.u32.ensures.encoded))
