use Rattle.nfs_load.proofs.changes.mkdir.Goals as goal

pub mkdir-requires : goal.mkdir-requires
mkdir-requires c = c.may_mkdir.ensures.0 c.if-not-may_mkdir.false
