use Rattle.std.proofs.Common.{refl, sym, ap, subst, ◌∙◌}
use Rattle.std.specs.Prelude.{IsSome}
use Rattle.nfs_handles.specs.NumberedFiles.{at}
use Rattle.nfs_handles.specs.Handles.{handle_at}
use Rattle.nfs_inodes.proofs.Readers.{seen_kept, handle_there}
use Rattle.nfs_inodes.proofs.tree.Tree.handle.Goals as goal

pub handle-requires : goal.handle-requires
handle-requires c = let kept = seen_kept c.self.inside.files c.self.inside.volumes.items c.args.self.now c.self.view_is c.args.file.now c.requires in
    subst (λ o. IsSome o) (sym (ap (at c.self.inside.files) c.number.ensures ∙ kept.1)) refl

pub returns : goal.returns
returns c = sym (handle_there c.self.inside.files c.self.inside.volumes.items c.args.self.now c.self.view_is c.args.file.now.attributes.fileid)
    ∙ ap (handle_at c.self.inside.files) (sym c.number.ensures) ∙ c.handle.ensures
