use Rattle.std.proofs.Common.{ℕ, List, sym, ap, subst, ◌∙◌}
use Rattle.nfs_inodes.specs.Changes.{after_unlink}
use Rattle.nfs_inodes.specs.Counts.{tree_in}
use Rattle.nfs_inodes.specs.Storage.{counted_tree_of}
use Rattle.nfs_inodes.specs.Removals.{Removes}
use Rattle.nfs_inodes.proofs.KeptRenames.{removes_old, carries_new, carries_over, done_new, done_over}
use Rattle.nfs_inodes.proofs.renaming.move_entry.Goals as goal

pub take_out-requires-clause-removes : goal.take_out-requires-clause-removes
take_out-requires-clause-removes c = subst (λ (name : List ℕ). Removes c.args.limits c.args.files.now c.args.volumes.now.items c.args.route.to.0 name c.in-Some.old.0) (sym c.as_slice.ensures)
    (removes_old c.args.files.now c.args.volumes.now.items c.args.route c.args.name.now c.args.new_name c.requires c.args.now c.in-Some.old c.in-Some.is)

pub carry-requires : goal.carry-requires
carry-requires c = (
  c.args.limits,
  c.take_out.new.volumes.items,
  carries_over c.args.files.now c.args.volumes.now.items c.args.route c.args.name.now c.args.new_name c.requires c.args.now c.in-Some.old c.in-Some.is c.take_out.new.files c.take_out.new.volumes.items c.take_out.ensures.agree
      (c.take_out.ensures.done ∙ ap (λ (name : List ℕ). after_unlink (tree_in (counted_tree_of c.args.limits c.args.files.now c.args.volumes.now.items)) c.args.route.to.0 name c.args.now) c.as_slice.ensures) c.take_out.ensures.room,
)

pub returns-in-Some-clause-agree : goal.returns-in-Some-clause-agree
returns-in-Some-clause-agree c = (c.carry.ensures c.args.limits c.take_out.new.volumes.items
    (carries_over c.args.files.now c.args.volumes.now.items c.args.route c.args.name.now c.args.new_name c.requires c.args.now c.in-Some.old c.in-Some.is c.take_out.new.files c.take_out.new.volumes.items c.take_out.ensures.agree
    (c.take_out.ensures.done ∙ ap (λ (name : List ℕ). after_unlink (tree_in (counted_tree_of c.args.limits c.args.files.now c.args.volumes.now.items)) c.args.route.to.0 name c.args.now) c.as_slice.ensures) c.take_out.ensures.room)).agree

pub returns-in-Some-clause-done : goal.returns-in-Some-clause-done
returns-in-Some-clause-done c = done_over c.args.files.now c.args.volumes.now.items c.args.route c.args.name.now c.args.new_name c.requires c.args.now c.in-Some.old c.in-Some.is c.take_out.new.files c.take_out.new.volumes.items c.take_out.ensures.agree
    (c.take_out.ensures.done ∙ ap (λ (name : List ℕ). after_unlink (tree_in (counted_tree_of c.args.limits c.args.files.now c.args.volumes.now.items)) c.args.route.to.0 name c.args.now) c.as_slice.ensures) c.carry.new.files
    (c.carry.ensures c.args.limits c.take_out.new.volumes.items
    (carries_over c.args.files.now c.args.volumes.now.items c.args.route c.args.name.now c.args.new_name c.requires c.args.now c.in-Some.old c.in-Some.is c.take_out.new.files c.take_out.new.volumes.items c.take_out.ensures.agree
    (c.take_out.ensures.done ∙ ap (λ (name : List ℕ). after_unlink (tree_in (counted_tree_of c.args.limits c.args.files.now c.args.volumes.now.items)) c.args.route.to.0 name c.args.now) c.as_slice.ensures) c.take_out.ensures.room))

pub carry-requires-2 : goal.carry-requires-2
carry-requires-2 c = (c.args.limits, c.args.volumes.now.items, carries_new c.args.files.now c.args.volumes.now.items c.args.route c.args.name.now c.args.new_name c.requires c.args.now c.in_default.is)

pub returns-clause-agree : goal.returns-clause-agree
returns-clause-agree c = (c.carry-2.ensures c.args.limits c.args.volumes.now.items (carries_new c.args.files.now c.args.volumes.now.items c.args.route c.args.name.now c.args.new_name c.requires c.args.now c.in_default.is)).agree

pub returns-clause-done : goal.returns-clause-done
returns-clause-done c = done_new c.args.files.now c.args.volumes.now.items c.args.route c.args.name.now c.args.new_name c.requires c.args.now c.in_default.is c.carry-2.new.files
    (c.carry-2.ensures c.args.limits c.args.volumes.now.items (carries_new c.args.files.now c.args.volumes.now.items c.args.route c.args.name.now c.args.new_name c.requires c.args.now c.in_default.is))
