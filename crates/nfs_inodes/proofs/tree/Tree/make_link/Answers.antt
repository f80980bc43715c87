use Rattle.std.proofs.Common.{◌≤◌, List, ℕ, length, sym, subst}
use Rattle.nfs_inodes.specs.Tree.{Link}
use Rattle.nfs_inodes.specs.StepConditions.{MayAddKind}
use Rattle.nfs_inodes.proofs.law.NewFiles.{fresh_link, impossible}
use Rattle.nfs_inodes.proofs.tree.Tree.make_link.Goals as goal

pub make-requires : goal.make-requires
make-requires c = subst (λ (name : List ℕ). MayAddKind c.args.self.now c.args.dir.0 name (Link c.in_ok-path.path.items)) (sym c.in_ok-name.ensures.bytes)
    (record { may = c.requires.make; fresh = fresh_link c.args.dir.0 c.in_ok-path.path.items (subst (λ (p : List ℕ). length p ≤ c.args.self.now.limits.link_path) (sym c.in_ok-path.ensures) c.requires.long); links = impossible })
