use Rattle.std.proofs.Common.{List, sym, ap, subst, ◌∙◌, ℕ}
use Rattle.nfs_inodes.specs.Tree.{Tree}
use Rattle.nfs_inodes.specs.Changes.{after_rename}
use Rattle.nfs_inodes.specs.Counts.{Agrees, tree_in}
use Rattle.nfs_inodes.proofs.Lists.{true_and_false}
use Rattle.nfs_inodes.proofs.StoredFiles.{on_err, same_files}
use Rattle.nfs_inodes.proofs.KeptRenames.{names_other, takes_target, renames_found}
use Rattle.nfs_inodes.proofs.Steps.{same_counted}
use Rattle.nfs_inodes.proofs.tree.Tree.rename_seen.Goals as goal

pub reserve-requires : goal.reserve-requires
reserve-requires c = takes_target c.self.inside.files c.self.inside.volumes.items c.args.self.now c.args.route.from.0 c.args.route.to.0 c.args.name.now c.args.new_name.now c.self.view_is c.self.invariant c.requires.may
    (names_other c.args.self.now c.args.route.from.0 c.args.name.now c.args.route.to.0 c.args.new_name.now c.args.now c.requires.may c.args.route.number c.requires.found c.args.route.replaced c.requires.names (λ s. true_and_false (c.is_number.ensures.1 s) c.if-is_number.false))

pub invariant_of-self : goal.invariant_of-self
invariant_of-self c = subst Agrees (sym (same_counted c.self.inside.files c.reserve.new.files c.self.inside.volumes.items (same_files c.self.inside.files c.reserve.new.files c.args.route.to.0 c.reserve.ensures.same))) c.self.invariant

pub returns-in_err-reserve-clause-err : goal.returns-in_err-reserve-clause-err
returns-in_err-reserve-clause-err c = on_err c.from_residual-in_err-reserve.result (ap tree_in (same_counted c.self.inside.files c.reserve.new.files c.self.inside.volumes.items (same_files c.self.inside.files c.reserve.new.files c.args.route.to.0 c.reserve.ensures.same)) ∙ c.self.view_is)

pub move_entry-requires : goal.move_entry-requires
move_entry-requires c = renames_found c.self.inside.files c.reserve.new.files c.self.inside.volumes.items c.args.self.now c.args.route c.args.name.now c.args.new_name.now c.in_ok-new_name.new_name c.args.now c.self.view_is c.self.invariant c.requires
    (λ s. true_and_false (c.is_number.ensures.1 s) c.if-is_number.false) c.in_ok-new_name.ensures.bytes (same_files c.self.inside.files c.reserve.new.files c.args.route.to.0 c.reserve.ensures.same) c.in_ok-reserve.ensures.ok

pub returns-clause-ok : goal.returns-clause-ok
returns-clause-ok c = c.move_entry.ensures.done
    ∙ ap (λ (t : Tree). after_rename t c.args.route.from.0 c.args.name.now c.args.route.to.0 c.in_ok-new_name.new_name c.args.now) (ap tree_in (same_counted c.self.inside.files c.reserve.new.files c.self.inside.volumes.items (same_files c.self.inside.files c.reserve.new.files c.args.route.to.0 c.reserve.ensures.same)) ∙ c.self.view_is)
    ∙ ap (λ (new_name : List ℕ). after_rename c.args.self.now c.args.route.from.0 c.args.name.now c.args.route.to.0 new_name c.args.now) c.in_ok-new_name.ensures.bytes
