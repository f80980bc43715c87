use Rattle.nfs_bench.proofs.changes.add_dir.Goals as goal

pub mkdir-requires : goal.mkdir-requires
mkdir-requires c = c.may_mkdir.ensures.0 c.if-not-may_mkdir.false
