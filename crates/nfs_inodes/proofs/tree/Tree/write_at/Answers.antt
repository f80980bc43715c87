use Rattle.std.proofs.Common.{length, sym, subst, ap, ◌∙◌}
use Rattle.nfs_inodes.specs.Tree.{Tree}
use Rattle.nfs_inodes.specs.Changes.{after_write_at}
use Rattle.nfs_inodes.specs.Conditions.{MayWrite}
use Rattle.nfs_inodes.proofs.StoredFiles.{on_err}
use Rattle.nfs_inodes.proofs.ByteChanges.{takes_bytes, room_to_grow, stored_agree_after_write, stored_view_after_write, some_bytes}
use Rattle.nfs_inodes.proofs.tree.Tree.write_at.Goals as goal

pub write-requires : goal.write-requires
write-requires c = record {
  some = some_bytes c.args.bytes.now c.if-is_empty.ensures;
  file = takes_bytes c.self.inside.files c.self.inside.volumes.items c.args.number.0 c.args.offset c.args.bytes.now c.self.invariant (subst (λ (t : Tree). MayWrite t c.args.number.0 c.args.offset (length c.args.bytes.now)) (sym c.self.view_is) c.requires) (some_bytes c.args.bytes.now c.if-is_empty.ensures);
}

pub count-requires : goal.count-requires
count-requires c = room_to_grow c.self.inside.files c.self.inside.volumes.items c.args.number.0 c.args.offset c.args.bytes.now c.self.invariant (subst (λ (t : Tree). MayWrite t c.args.number.0 c.args.offset (length c.args.bytes.now)) (sym c.self.view_is) c.requires) (some_bytes c.args.bytes.now c.if-is_empty.ensures) c.args.now c.in_ok-growth.growth c.write.new.files c.in_ok-growth.ensures.ok

pub invariant_of-self-2 : goal.invariant_of-self-2
invariant_of-self-2 c = stored_agree_after_write c.self.inside.files c.self.inside.volumes.items c.args.number.0 c.args.offset c.args.bytes.now c.self.invariant (subst (λ (t : Tree). MayWrite t c.args.number.0 c.args.offset (length c.args.bytes.now)) (sym c.self.view_is) c.requires) (some_bytes c.args.bytes.now c.if-is_empty.ensures) c.args.now c.in_ok-growth.growth c.write.new.files c.in_ok-growth.ensures.ok c.count.new.volumes.items c.count.ensures

pub returns-clause-ok : goal.returns-clause-ok
returns-clause-ok c = stored_view_after_write c.self.inside.files c.self.inside.volumes.items c.args.number.0 c.args.offset c.args.bytes.now c.self.invariant (subst (λ (t : Tree). MayWrite t c.args.number.0 c.args.offset (length c.args.bytes.now)) (sym c.self.view_is) c.requires) (some_bytes c.args.bytes.now c.if-is_empty.ensures) c.args.now c.in_ok-growth.growth c.write.new.files c.in_ok-growth.ensures.ok c.count.new.volumes.items c.count.ensures
    ∙ ap (λ (t : Tree). after_write_at t c.args.number.0 c.args.offset c.args.bytes.now c.args.now) c.self.view_is

pub returns-in_err-growth-clause-full : goal.returns-in_err-growth-clause-full
returns-in_err-growth-clause-full c = on_err c.from_residual.result (some_bytes c.args.bytes.now c.if-is_empty.ensures)
