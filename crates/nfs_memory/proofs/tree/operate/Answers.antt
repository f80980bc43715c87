use Rattle.nfs_memory.proofs.tree.operate.Goals as goal

pub mkdir-requires : goal.mkdir-requires
mkdir-requires c = c.may_mkdir.ensures.0 c.if-may_mkdir.true
