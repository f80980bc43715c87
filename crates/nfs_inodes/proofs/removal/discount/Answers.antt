use Rattle.std.proofs.Common.{◌≤◌, length, refl, sym, subst, ◌∙◌}
use Rattle.std.proofs.lemmas.Option.{slice_get_read}
use Rattle.nfs_inodes.specs.declared.stored_volume.StoredVolume.{StoredVolume}
use Rattle.nfs_inodes.proofs.Lists.{same_some}
use Rattle.nfs_inodes.proofs.Views.{less_totals}
use Rattle.nfs_inodes.proofs.removal.discount.Goals as goal

pub returns : goal.returns
returns c =
    let at_index = slice_get_read c.args.volumes.now.items (length c.args.volumes.now.items) c.args.index c.in-Some.stored_volume.now refl c.in-Some.ensures.item.3.0 c.in-Some.ensures.value in
    let same = same_some (sym c.requires.at_index ∙ at_index) in
    less_totals c.args.volumes.now.items c.args.index c.args.bytes c.args.files c.in-Some.stored_volume.now at_index
    (subst (λ (s : StoredVolume). c.args.bytes ≤ s.bytes) same c.requires.has_bytes)
    (subst (λ (s : StoredVolume). c.args.files ≤ s.files) same c.requires.has_files)
