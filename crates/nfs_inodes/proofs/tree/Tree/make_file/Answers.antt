use Rattle.std.proofs.Common.{List, ℕ, sym, subst}
use Rattle.nfs_inodes.specs.Tree.{Regular}
use Rattle.nfs_inodes.specs.StepConditions.{MayAddKind}
use Rattle.nfs_inodes.proofs.law.NewFiles.{fresh_file, impossible}
use Rattle.nfs_inodes.proofs.tree.Tree.make_file.Goals as goal

pub make-requires : goal.make-requires
make-requires c = subst (λ (name : List ℕ). MayAddKind c.args.self.now c.args.dir.0 name (Regular c.args.content.pages)) (sym c.in_ok-name.ensures.bytes)
    (record { may = c.requires; fresh = fresh_file c.args.dir.0 c.args.content.pages; links = impossible })
