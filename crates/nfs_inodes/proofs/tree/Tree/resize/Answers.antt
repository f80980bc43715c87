use Rattle.std.proofs.Common.{sym, subst, ap, ◌∙◌}
use Rattle.nfs_inodes.specs.Tree.{Tree}
use Rattle.nfs_inodes.specs.Changes.{after_resize, volume_index}
use Rattle.nfs_inodes.specs.Conditions.{MayResize}
use Rattle.nfs_inodes.proofs.StoredFiles.{on_err}
use Rattle.nfs_inodes.proofs.SizeChanges.{takes_size, has_bytes, grows, stored_agree_after_resize, stored_view_after_resize}
use Rattle.nfs_inodes.proofs.tree.Tree.resize.Goals as goal

pub resize-requires : goal.resize-requires
resize-requires c = takes_size c.self.inside.files c.self.inside.volumes.items c.args.number.0 c.args.size c.args.now c.self.invariant (subst (λ (t : Tree). MayResize t c.args.number.0 c.args.size) (sym c.self.view_is) c.requires)

pub returns-in_err-before-clause-full : goal.returns-in_err-before-clause-full
returns-in_err-before-clause-full c = on_err c.from_residual.result (grows c.self.inside.files c.self.inside.volumes.items c.args.self.now c.self.view_is c.args.number.0 c.args.size c.in_err-before.ensures.full)

pub recount-requires : goal.recount-requires
recount-requires c = has_bytes c.self.inside.files c.self.inside.volumes.items c.args.number.0 c.args.size c.args.now c.self.invariant (subst (λ (t : Tree). MayResize t c.args.number.0 c.args.size) (sym c.self.view_is) c.requires)
    c.resize.new.files c.in_ok-before.before c.volume_index-index.result c.in_ok-before.ensures.ok (c.volume_index-index.ensures ∙ ap (λ (t : Tree). volume_index t c.args.number.0) (sym c.self.view_is))

pub invariant_of-self-2 : goal.invariant_of-self-2
invariant_of-self-2 c = stored_agree_after_resize c.self.inside.files c.self.inside.volumes.items c.args.number.0 c.args.size c.args.now c.self.invariant (subst (λ (t : Tree). MayResize t c.args.number.0 c.args.size) (sym c.self.view_is) c.requires)
    c.resize.new.files c.in_ok-before.before c.volume_index-index.result c.in_ok-before.ensures.ok (c.volume_index-index.ensures ∙ ap (λ (t : Tree). volume_index t c.args.number.0) (sym c.self.view_is)) c.recount.new.volumes.items c.recount.ensures

pub returns-clause-ok : goal.returns-clause-ok
returns-clause-ok c = stored_view_after_resize c.self.inside.files c.self.inside.volumes.items c.args.number.0 c.args.size c.args.now c.self.invariant (subst (λ (t : Tree). MayResize t c.args.number.0 c.args.size) (sym c.self.view_is) c.requires)
    c.resize.new.files c.in_ok-before.before c.volume_index-index.result c.in_ok-before.ensures.ok (c.volume_index-index.ensures ∙ ap (λ (t : Tree). volume_index t c.args.number.0) (sym c.self.view_is)) c.recount.new.volumes.items c.recount.ensures
    ∙ ap (λ (t : Tree). after_resize t c.args.number.0 c.args.size c.args.now) c.self.view_is
