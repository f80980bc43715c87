use Rattle.std.proofs.Common.{Bool, subst}
use Rattle.nfs_inodes.specs.Removals.{HasEntries}
use Rattle.nfs_inodes.proofs.removal.release.Goals as goal

pub free-requires : goal.free-requires
free-requires c = subst (λ (b : Bool). HasEntries b c.args.files.now c.args.number.0) c.if-last.true c.requires

pub lose_link-requires : goal.lose_link-requires
lose_link-requires c = subst (λ (b : Bool). HasEntries b c.args.files.now c.args.number.0) c.if-last.false c.requires
