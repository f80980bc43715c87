use Rattle.std.proofs.Common.{◌≤◌, length, refl, sym, subst, ◌∙◌}
use Rattle.std.proofs.lemmas.Option.{slice_get_read}
use Rattle.nfs_inodes.specs.declared.stored_volume.StoredVolume.{StoredVolume}
use Rattle.nfs_inodes.proofs.Lists.{same_some}
use Rattle.nfs_inodes.proofs.Views.{reset_totals}
use Rattle.nfs_inodes.proofs.tree.recount.Goals as goal

pub returns : goal.returns
returns c =
    let at_index = slice_get_read c.args.volumes.now.items (length c.args.volumes.now.items) c.args.index c.in-Some.stored_volume.now refl c.in-Some.ensures.item.3.0 c.in-Some.ensures.value in
    reset_totals c.args.volumes.now.items c.args.index c.args.less c.args.more c.in-Some.stored_volume.now at_index
    (subst (λ (s : StoredVolume). c.args.less ≤ s.bytes) (same_some (sym c.requires.at_index ∙ at_index)) c.requires.has)
