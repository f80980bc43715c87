use Rattle.std.proofs.Common.{ℕ, sym, subst, ap, ◌∙◌}
use Rattle.nfs_inodes.specs.Law.{LivesAsDirectory}
use Rattle.nfs_inodes.specs.Tree.{File}
use Rattle.nfs_rules.specs.Table.{is_above}
use Rattle.nfs_rules.proofs.Above.{walk_reports, lives_as_directory}
use Rattle.nfs_rules.proofs.move_rules.is_above.Goals as goal

pub is_below-requires : goal.is_below-requires
is_below-requires c = subst (λ (n : ℕ). (f : File) × LivesAsDirectory c.args.tree.now n f) (sym c.number.ensures)
    (lives_as_directory c.args.tree.now c.args.dir.now.attributes.fileid c.args.dir.now.attributes c.requires.seen.0 c.requires.directory)

pub returns : goal.returns
returns c =
    let lives = subst (λ (n : ℕ). (f : File) × LivesAsDirectory c.args.tree.now n f) (sym c.number.ensures)
    (lives_as_directory c.args.tree.now c.args.dir.now.attributes.fileid c.args.dir.now.attributes c.requires.seen.0 c.requires.directory) in
    walk_reports c.args.tree.now c.number-2.result.0 c.number.result.0 lives.0 c.is_below.result c.law.ensures lives.1 c.is_below.ensures.below c.is_below.ensures.off
    ∙ ap (λ n. is_above c.args.tree.now n c.number.result.0) c.number-2.ensures ∙ ap (is_above c.args.tree.now c.args.above.now.attributes.fileid) c.number.ensures
