use Rattle.std.proofs.Common.{◌-◌, ap, ◌∙◌}
use Rattle.std.proofs.lemmas.Bool.Decides.{not_from_Decides}
use Rattle.nfs_conditions.specs.Parts.{has_space}
use Rattle.nfs_inodes.proofs.Tests.{never}
use Rattle.nfs_conditions.proofs.Files.{none_lives}
use Rattle.nfs_conditions.proofs.Room.{space_by, resizes_there, resized_to}
use Rattle.nfs_conditions.proofs.bytes.may_resize.Goals as goal

pub returns-then-not-takes_bytes : goal.returns-then-not-takes_bytes
returns-then-not-takes_bytes c = never (λ may. not_from_Decides c.takes_bytes.result c.takes_bytes.ensures c.if-not-takes_bytes.true
    (resized_to c.args.tree.now c.args.number.0 c.in-Some.file c.in-Some.ensures c.args.size may))

pub returns-else-not-takes_bytes : goal.returns-else-not-takes_bytes
returns-else-not-takes_bytes c = let takes = c.takes_bytes.ensures.0 c.if-not-takes_bytes.false in
    resizes_there c.args.tree.now c.args.number.0 c.in-Some.file c.in-Some.ensures c.args.size c.saturating_sub-growth.result c.has_space.result takes c.saturating_sub-growth.ensures
    (space_by c.args.tree.now (c.in-Some.file.fsid - 1) c.saturating_sub-growth.result c.has_space.result
    (c.has_space.ensures ∙ ap (λ p. has_space c.args.tree.now p c.saturating_sub-growth.result) c.volume_index.ensures))

pub returns-in-None : goal.returns-in-None
returns-in-None c = never (λ may. none_lives c.args.tree.now c.args.number.0 c.in-None.ensures may.file may.at_file)
