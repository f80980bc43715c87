use Rattle.nfs_inodes.proofs.tree.Tree.rename.Goals as goal

pub rename_seen-requires : goal.rename_seen-requires
rename_seen-requires c = record { may = c.requires; found = c.in-Some.ensures; names = c.entry-replaced.ensures }
