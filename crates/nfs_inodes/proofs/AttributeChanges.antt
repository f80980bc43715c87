-- Attributes that are set, in what is kept.
use Rattle.std.proofs.Common.{◌≡◌, ℕ, List, map, length, Some, refl, sym, ap, subst, ◌∙◌}
use Rattle.nfs_attrs.specs.declared.moment.Moment.{Moment}
use Rattle.nfs_handles.specs.NumberedFiles.{NumberedFiles}
use Rattle.nfs_inodes.specs.declared.limits.Limits.{Limits}
use Rattle.nfs_inodes.specs.declared.given_attributes.GivenAttributes.{GivenAttributes}
use Rattle.nfs_inodes.specs.declared.stored_file.StoredFile.{StoredFile}
use Rattle.nfs_inodes.specs.declared.stored_volume.StoredVolume.{StoredVolume}
use Rattle.nfs_inodes.specs.Tree.{Tree, File, at, bytes_in}
use Rattle.nfs_inodes.specs.Law.{Law, Lives}
use Rattle.nfs_inodes.specs.Changes.{with_file, with_given, after_set}
use Rattle.nfs_inodes.specs.Counts.{CountedFile, Agrees, tree_in}
use Rattle.nfs_inodes.specs.Storage.{counted_file_of, counted_volume_of, counted_tree_of}
use Rattle.nfs_inodes.specs.StoredFiles.{Revalues, IsThere, SetsAttributes}
use Rattle.nfs_inodes.specs.StepConditions.{retagged}
use Rattle.nfs_inodes.proofs.law.Alike.{Alike}
use Rattle.nfs_inodes.proofs.law.Settings.{given_alike, set_is, law_after_set}
use Rattle.nfs_inodes.proofs.StoredFiles.{counted_file, at_counted_file}
use Rattle.nfs_inodes.proofs.counts.FileChanged.{agrees_alike, agrees_but_none, same_totals, view_recounted, kept_revalued}
use Rattle.nfs_inodes.proofs.Views.{kept_at, lives}

-- a file of the tree is kept
pub is_there : {limits : Limits} (a : NumberedFiles StoredFile) (stored_volumes : List StoredVolume) (t : Tree) → tree_in (counted_tree_of limits a stored_volumes) ≡ t → (n : ℕ) (f : File) → Lives t n f → IsThere a n
is_there {limits} a stored_volumes t view n f e = let k = kept_at a stored_volumes t view n f e in record { file = k.0; at_file = k.1 }

module _ {limits : Limits} (a b : NumberedFiles StoredFile) (stored_volumes : List StoredVolume) (n : ℕ) (given : GivenAttributes) (now : Moment) (keeps : Agrees (counted_tree_of limits a stored_volumes)) (sets : Revalues a n (SetsAttributes given now) b) where
  abbrev k_then : CountedFile
  k_then = counted_file sets.was

  abbrev k_now : CountedFile
  k_now = counted_file_of sets.was.tag sets.value

  file_now : k_now.file ≡ with_given k_then.file given now
  file_now = ap (λ (f : File). retagged f sets.was.tag) sets.from.file

  at_then : at n (counted_tree_of limits a stored_volumes).files ≡ Some k_then
  at_then = at_counted_file a n sets.was sets.at_was

  alike_now : Alike k_then.file k_now.file
  alike_now = subst (Alike k_then.file) (sym file_now) (given_alike k_then.file given now)

  same_bytes : length (bytes_in k_now.file.kind) ≡ length (bytes_in k_then.file.kind)
  same_bytes = ap (λ (f : File). length (bytes_in f.kind)) file_now

  shown_then : Lives (tree_in (counted_tree_of limits a stored_volumes)) n k_then.file
  shown_then = lives limits a stored_volumes n sets.was sets.at_was

  set_now : after_set (tree_in (counted_tree_of limits a stored_volumes)) n given now ≡ with_file (tree_in (counted_tree_of limits a stored_volumes)) n k_now.file
  set_now = set_is (tree_in (counted_tree_of limits a stored_volumes)) n given now k_then.file shown_then ∙ ap (with_file (tree_in (counted_tree_of limits a stored_volumes)) n) (sym file_now)

  law_now : Law (with_file (tree_in (counted_tree_of limits a stored_volumes)) n k_now.file)
  law_now = subst Law set_now (law_after_set (tree_in (counted_tree_of limits a stored_volumes)) n given now k_then.file shown_then keeps.law)

  pub stored_agree_after_set : Agrees (counted_tree_of limits b stored_volumes)
  stored_agree_after_set = subst Agrees (sym (kept_revalued a b stored_volumes stored_volumes n sets))
      (agrees_alike (counted_tree_of limits a stored_volumes) n k_then k_now (map counted_volume_of stored_volumes) keeps at_then alike_now sets.from.nlink law_now refl
      (same_totals 0 (counted_tree_of limits a stored_volumes) n k_then k_now.file (agrees_but_none (counted_tree_of limits a stored_volumes) keeps) at_then alike_now.placed.volume same_bytes))

  pub stored_view_after_set : tree_in (counted_tree_of limits b stored_volumes) ≡ after_set (tree_in (counted_tree_of limits a stored_volumes)) n given now
  stored_view_after_set = ap tree_in (kept_revalued a b stored_volumes stored_volumes n sets)
      ∙ view_recounted (counted_tree_of limits a stored_volumes) n k_now (map counted_volume_of stored_volumes) refl
      ∙ sym set_now
