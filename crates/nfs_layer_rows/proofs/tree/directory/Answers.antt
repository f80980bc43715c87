use Rattle.nfs_layer_rows.proofs.tree.directory.Goals as goal

pub mkdir-made-requires : goal.mkdir-made-requires
mkdir-made-requires c = c.may_mkdir.ensures.0 c.if-not-may_mkdir.false
