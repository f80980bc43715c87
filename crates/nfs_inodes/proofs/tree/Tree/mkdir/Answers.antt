use Rattle.std.proofs.Common.{List, ℕ, [], sym, subst}
use Rattle.nfs_inodes.specs.Tree.{Kind, Directory}
use Rattle.nfs_inodes.specs.StepConditions.{MayAddKind}
use Rattle.nfs_inodes.proofs.law.NewFiles.{fresh_directory}
use Rattle.nfs_inodes.proofs.tree.Tree.mkdir.Goals as goal

pub make-requires : goal.make-requires
make-requires c = subst (λ (k : Kind). MayAddKind c.args.self.now c.args.dir.0 c.in_ok-name.name k) (sym c.in_ok-node.ensures)
    (subst (λ (name : List ℕ). MayAddKind c.args.self.now c.args.dir.0 name (Directory c.args.dir.0 3 [])) (sym c.in_ok-name.ensures.bytes)
    (record { may = c.requires.make; fresh = fresh_directory c.args.dir.0; links = λ y. c.requires.links }))
