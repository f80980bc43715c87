use Rattle.std.proofs.Common.{refl, sym, ap, subst, ◌∙◌, map}
use Rattle.nfs_inodes.specs.Tree.{File}
use Rattle.nfs_inodes.specs.Storage.{kind_of, counted_volume_of, counted_tree_of}
use Rattle.nfs_inodes.specs.Counts.{Agrees, with_totals, tree_in}
use Rattle.nfs_inodes.specs.StepConditions.{HasRoomFor}
use Rattle.nfs_inodes.proofs.StoredFiles.{on_err}
use Rattle.nfs_inodes.proofs.Steps.{same_counted, fresh_at, takes_here, room_here, stored_agree_after_make, stored_view_after_make, takes_entry_seen, view_still, agree_still, may_add_still, makes_still}
use Rattle.nfs_inodes.proofs.tree.Tree.make.Goals as goal

pub reserve-requires : goal.reserve-requires
reserve-requires c = takes_entry_seen c.self.inside.files c.self.inside.volumes.items c.args.self.now c.self.view_is c.self.invariant c.args.dir.0 c.args.name c.requires.may.enter

pub invariant_of-self : goal.invariant_of-self
invariant_of-self c = agree_still c.self.inside.files c.self.inside.volumes.items c.args.self.now c.self.view_is c.self.invariant c.args.dir.0 c.reserve.new.files c.reserve.ensures.same

pub returns-in_err-index-clause-err : goal.returns-in_err-index-clause-err
returns-in_err-index-clause-err c = on_err c.from_residual.result (view_still c.self.inside.files c.self.inside.volumes.items c.args.self.now c.self.view_is c.self.invariant c.args.dir.0 c.reserve.new.files c.reserve.ensures.same)

pub add-requires-clause-dir : goal.add-requires-clause-dir
add-requires-clause-dir c = takes_here c.reserve.new.files c.self.inside.volumes.items c.args.dir.0 c.args.name c.new-stored_file.result (agree_still c.self.inside.files c.self.inside.volumes.items c.args.self.now c.self.view_is c.self.invariant c.args.dir.0 c.reserve.new.files c.reserve.ensures.same) (may_add_still c.self.inside.files c.self.inside.volumes.items c.args.self.now c.self.view_is c.self.invariant c.args.dir.0 c.reserve.new.files c.reserve.ensures.same c.args.name (kind_of c.args.made.node) c.args.given.now c.args.made.verifier c.args.now c.new-stored_file.result c.in_ok-index.index c.in_ok-index.ensures.index c.new-stored_file.ensures.file c.new-stored_file.ensures.nlink c.requires)

pub add-requires-clause-fresh : goal.add-requires-clause-fresh
add-requires-clause-fresh c =
    let still = may_add_still c.self.inside.files c.self.inside.volumes.items c.args.self.now c.self.view_is c.self.invariant c.args.dir.0 c.reserve.new.files c.reserve.ensures.same c.args.name (kind_of c.args.made.node) c.args.given.now c.args.made.verifier c.args.now c.new-stored_file.result c.in_ok-index.index c.in_ok-index.ensures.index c.new-stored_file.ensures.file c.new-stored_file.ensures.nlink c.requires in
    fresh_at c.reserve.new.files c.self.inside.volumes.items (tree_in (counted_tree_of c.self.inside.limits c.reserve.new.files c.self.inside.volumes.items)) refl c.args.dir.0 c.args.name still.may.enter.dir still.may.enter.at_dir.0 still.may.enter.fresh

pub invariant_of-self-in_err-number : goal.invariant_of-self-in_err-number
invariant_of-self-in_err-number c = subst Agrees (sym (same_counted c.reserve.new.files c.add.new.files c.self.inside.volumes.items c.in_err-number.ensures.err)) (agree_still c.self.inside.files c.self.inside.volumes.items c.args.self.now c.self.view_is c.self.invariant c.args.dir.0 c.reserve.new.files c.reserve.ensures.same)

pub returns-in_err-number-clause-err : goal.returns-in_err-number-clause-err
returns-in_err-number-clause-err c = on_err c.from_residual-in_err-number.result (ap tree_in (same_counted c.reserve.new.files c.add.new.files c.self.inside.volumes.items c.in_err-number.ensures.err) ∙ view_still c.self.inside.files c.self.inside.volumes.items c.args.self.now c.self.view_is c.self.invariant c.args.dir.0 c.reserve.new.files c.reserve.ensures.same)

pub count-requires : goal.count-requires
count-requires c = subst (λ p. HasRoomFor c.self.inside.volumes.items p c.size-size.result 1) (ap (λ (f : File). f.volume) c.new-stored_file.ensures.file)
    (subst (λ n. HasRoomFor c.self.inside.volumes.items c.new-stored_file.result.volume n 1) (sym c.size-size.ensures) (room_here c.reserve.new.files c.self.inside.volumes.items c.args.dir.0 c.args.name c.new-stored_file.result (agree_still c.self.inside.files c.self.inside.volumes.items c.args.self.now c.self.view_is c.self.invariant c.args.dir.0 c.reserve.new.files c.reserve.ensures.same) (may_add_still c.self.inside.files c.self.inside.volumes.items c.args.self.now c.self.view_is c.self.invariant c.args.dir.0 c.reserve.new.files c.reserve.ensures.same c.args.name (kind_of c.args.made.node) c.args.given.now c.args.made.verifier c.args.now c.new-stored_file.result c.in_ok-index.index c.in_ok-index.ensures.index c.new-stored_file.ensures.file c.new-stored_file.ensures.nlink c.requires)))

pub invariant_of-self-2 : goal.invariant_of-self-2
invariant_of-self-2 c = stored_agree_after_make c.reserve.new.files c.self.inside.volumes.items c.args.dir.0 c.args.name c.new-stored_file.result (agree_still c.self.inside.files c.self.inside.volumes.items c.args.self.now c.self.view_is c.self.invariant c.args.dir.0 c.reserve.new.files c.reserve.ensures.same) (may_add_still c.self.inside.files c.self.inside.volumes.items c.args.self.now c.self.view_is c.self.invariant c.args.dir.0 c.reserve.new.files c.reserve.ensures.same c.args.name (kind_of c.args.made.node) c.args.given.now c.args.made.verifier c.args.now c.new-stored_file.result c.in_ok-index.index c.in_ok-index.ensures.index c.new-stored_file.ensures.file c.new-stored_file.ensures.nlink c.requires)
    c.args.now c.add.new.files c.count.new.volumes.items c.in_ok-number.ensures.ok (c.count.ensures ∙ ap (λ p. with_totals (map counted_volume_of c.self.inside.volumes.items) p c.size-size.result 1) (sym (ap (λ (f : File). f.volume) c.new-stored_file.ensures.file)) ∙ ap (λ n. with_totals (map counted_volume_of c.self.inside.volumes.items) c.new-stored_file.result.volume n 1) c.size-size.ensures)

pub returns-clause-ok : goal.returns-clause-ok
returns-clause-ok c = makes_still c.self.inside.files c.self.inside.volumes.items c.args.self.now c.self.view_is c.self.invariant c.args.dir.0 c.reserve.new.files c.reserve.ensures.same c.args.name (kind_of c.args.made.node) c.args.given.now c.args.made.verifier c.args.now c.new-stored_file.result c.in_ok-index.index c.in_ok-index.ensures.index c.new-stored_file.ensures.file c.new-stored_file.ensures.nlink c.requires (tree_in (counted_tree_of c.self.inside.limits c.add.new.files c.count.new.volumes.items))
    (stored_view_after_make c.reserve.new.files c.self.inside.volumes.items c.args.dir.0 c.args.name c.new-stored_file.result (agree_still c.self.inside.files c.self.inside.volumes.items c.args.self.now c.self.view_is c.self.invariant c.args.dir.0 c.reserve.new.files c.reserve.ensures.same) (may_add_still c.self.inside.files c.self.inside.volumes.items c.args.self.now c.self.view_is c.self.invariant c.args.dir.0 c.reserve.new.files c.reserve.ensures.same c.args.name (kind_of c.args.made.node) c.args.given.now c.args.made.verifier c.args.now c.new-stored_file.result c.in_ok-index.index c.in_ok-index.ensures.index c.new-stored_file.ensures.file c.new-stored_file.ensures.nlink c.requires)
    c.args.now c.add.new.files c.count.new.volumes.items c.in_ok-number.ensures.ok (c.count.ensures ∙ ap (λ p. with_totals (map counted_volume_of c.self.inside.volumes.items) p c.size-size.result 1) (sym (ap (λ (f : File). f.volume) c.new-stored_file.ensures.file)) ∙ ap (λ n. with_totals (map counted_volume_of c.self.inside.volumes.items) c.new-stored_file.result.volume n 1) c.size-size.ensures))
