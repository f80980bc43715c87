-- A size that is set, in what is kept.
use Rattle.std.proofs.Common.{◌≡◌, ℕ, ◌<◌, List, map, length, Some, refl, sym, ap, subst, ◌∙◌, arith}
use Rattle.std.specs.Prelude.{slice_get}
use Rattle.nfs_attrs.specs.declared.moment.Moment.{Moment}
use Rattle.nfs_handles.specs.NumberedFiles.{NumberedFiles, value_at, with_value}
use Rattle.nfs_inodes.specs.declared.limits.Limits.{Limits}
use Rattle.nfs_inodes.specs.declared.stored_file.StoredFile.{StoredFile}
use Rattle.nfs_inodes.specs.declared.stored_volume.StoredVolume.{StoredVolume}
use Rattle.nfs_inodes.specs.Tree.{Tree, File, bytes_in, bytes_of, bytes_for, is_regular, on_some}
use Rattle.nfs_inodes.specs.Law.{Law, Lives}
use Rattle.nfs_inodes.specs.Changes.{with_file, file_with_bytes, after_write_at, resized_to, after_resize}
use Rattle.nfs_inodes.specs.Changes as changes
use Rattle.nfs_inodes.specs.Conditions.{MayResize, Grows}
use Rattle.nfs_inodes.specs.Counts.{CountedFile, CountedVolume, Agrees, IsCounted, tree_in, with_totals}
use Rattle.nfs_inodes.specs.Storage.{file_of, counted_file_of, counted_volume_of, counted_tree_of}
use Rattle.nfs_inodes.specs.StoredFiles.{Revalues, TakesSize, TakesGrowth, Resizes}
use Rattle.nfs_inodes.specs.StepConditions.{HasBytes, retagged}
use Rattle.nfs_inodes.proofs.Lists.{same_some}
use Rattle.nfs_inodes.proofs.Maps.{sum_some}
use Rattle.nfs_inodes.proofs.law.Alike.{Alike, bytes_here, bytes_changed, count_changed}
use Rattle.nfs_inodes.proofs.law.Settings.{resized_alike, length_resized, resized_is, law_after_resize}
use Rattle.nfs_inodes.proofs.StoredFiles.{counted_file, at_counted_file, value_found}
use Rattle.nfs_inodes.proofs.counts.FileChanged.{AreLimits, agrees_alike, agrees_but_none, totals_moved, volumes_moved, view_recounted, kept_revalued}
use Rattle.nfs_inodes.proofs.Views.{kept_at, lives, lives_there}
use Rattle.nfs_inodes.proofs.Steps.{stored_volume_of}

-- ---- a kept file

pub resized : (t : NumberedFiles StoredFile) (n size was : ℕ) (now : Moment) (takes : TakesSize t n size) (i w : StoredFile) → Some i ≡ value_at t n → file_of 0 w ≡ resized_to (file_of 0 i) size now → w.nlink ≡ i.nlink → was ≡ length (bytes_in (file_of 0 i).kind) →
    Revalues t n (Resizes was size now) (with_value t n w)
resized t n size was now takes i w v file nlink size_was = record {
  was = takes.file;
  at_was = takes.at_file;
  value = w;
  from = subst (λ (i : StoredFile). Resizes was size now i w) (value_found t n takes.file i takes.at_file v) (record { file = file; nlink = nlink; size_was = size_was });
  new_is = refl;
}

pub takes_growth : (t : NumberedFiles StoredFile) (n size : ℕ) (takes : TakesSize t n size) (i : StoredFile) → Some i ≡ value_at t n → length (bytes_in (file_of 0 i).kind) < size → TakesGrowth t n size
takes_growth t n size takes i v beyond = record {
  file = takes.file;
  at_file = takes.at_file;
  beyond = subst (λ (i : StoredFile). length (bytes_in (file_of 0 i).kind) < size) (value_found t n takes.file i takes.at_file v) beyond;
}

-- ---- the tree

pub grows : {limits : Limits} (a : NumberedFiles StoredFile) (stored_volumes : List StoredVolume) (t : Tree) → tree_in (counted_tree_of limits a stored_volumes) ≡ t → (n size : ℕ) → TakesGrowth a n size → Grows t n 0 size
grows {limits} a stored_volumes t view n size full = let beyond = full.beyond in record {
  some = omega (arith, beyond);
  file = file_of full.file.tag full.file.value;
  at_file = lives_there a stored_volumes t view n full.file full.at_file;
  beyond = omega (arith, beyond);
}

module _ {limits : Limits} (a : NumberedFiles StoredFile) (olds : List StoredVolume) (n size : ℕ) (now : Moment) (keeps : Agrees (counted_tree_of limits a olds)) (may : MayResize (tree_in (counted_tree_of limits a olds)) n size) where
  pub takes_size : TakesSize a n size
  takes_size =
      let f = kept_at a olds (tree_in (counted_tree_of limits a olds)) refl n may.file may.at_file in
      record { file = f.0; at_file = f.1; regular = ap (λ (f : File). is_regular f.kind) f.2 ∙ may.regular; large = let large = may.large in let cap = keeps.law.limits.file_size in omega (arith, large, cap) }

  module _ (b : NumberedFiles StoredFile) (was index : ℕ) (resizes : Revalues a n (Resizes was size now) b) (is_place : index ≡ changes.volume_index (tree_in (counted_tree_of limits a olds)) n) where
    abbrev t : Tree
    t = tree_in (counted_tree_of limits a olds)

    abbrev k_then : CountedFile
    k_then = counted_file resizes.was

    abbrev k_now : CountedFile
    k_now = counted_file_of resizes.was.tag resizes.value

    the_file : k_then.file ≡ may.file
    the_file = same_some (sym (lives limits a olds n resizes.was resizes.at_was) ∙ may.at_file)

    home : index ≡ may.file.volume
    home = is_place ∙ ap (λ o. on_some o 0 (λ (f : File). f.volume)) may.at_file

    was_long : was ≡ length (bytes_in may.file.kind)
    was_long = resizes.from.size_was ∙ ap (λ (f : File). length (bytes_in f.kind)) the_file

    pub has_bytes : HasBytes olds index was size
    has_bytes =
        let s = stored_volume_of a olds index may.volume keeps (ap (slice_get t.volumes) home ∙ may.at_volume) in
        let has = s.2 in let wide = s.4 in
        let room = may.room in
        let same : bytes_of index t.files ≡ bytes_of may.file.volume t.files = ap (λ k. bytes_of k t.files) home in
        let some = sum_some (bytes_for may.file.volume) n may.file t.files may.at_file in
        let its = bytes_here may.file.volume may.file refl in
        let long = was_long in
        record { stored_volume = s.0; at_index = s.1; has = omega (arith, has, same, some, its, long); fits = omega (arith, has, same, some, its, long, room, wide) }

    file_now : k_now.file ≡ resized_to k_then.file size now
    file_now = ap (λ (f : File). retagged f resizes.was.tag) resizes.from.file

    alike_now : Alike k_then.file k_now.file
    alike_now = subst (Alike k_then.file) (sym file_now) (resized_alike k_then.file size now)

    shown_then : Lives t n k_then.file
    shown_then = lives limits a olds n resizes.was resizes.at_was

    resized_now : after_resize t n size now ≡ with_file t n k_now.file
    resized_now = resized_is t n size now k_then.file shown_then ∙ ap (with_file t n) (sym file_now)

    long_now : length (bytes_in k_now.file.kind) ≡ size
    long_now = ap (λ (f : File). length (bytes_in f.kind)) file_now ∙ length_resized k_then.file.kind size (ap (λ (f : File). is_regular f.kind) the_file ∙ may.regular)

    module _ (news : List StoredVolume) (counts : with_totals (map counted_volume_of news) index was 0 ≡ with_totals (map counted_volume_of olds) index size 0) where
      totals : (p : ℕ) (c : CountedVolume) → slice_get (map counted_volume_of news) p ≡ Some c → IsCounted (with_file t n k_now.file).files p c × AreLimits c.volume
      totals = totals_moved 0 (counted_tree_of limits a olds) (with_file t n k_now.file).files (map counted_volume_of news) index was 0 size 0 (agrees_but_none (counted_tree_of limits a olds) keeps) counts (λ p.
          let bytes = bytes_changed t n k_then.file k_now.file shown_then alike_now.placed.volume p in
          let files = count_changed t n k_then.file k_now.file shown_then alike_now.placed.volume p in
          let is_here : k_then.file.volume ≡ index = ap (λ (f : File). f.volume) the_file ∙ sym home in
          let long = long_now in let before = resizes.from.size_was in (
            (λ s. let y = bytes.0 (is_here ∙ sym s) in (omega (arith, y, long, before), omega (arith, files))),
            (λ o. (bytes.1 (λ s. o (sym s ∙ is_here)), files)),
          ))

      pub stored_agree_after_resize : Agrees (counted_tree_of limits b news)
      stored_agree_after_resize = subst Agrees (sym (kept_revalued a b olds news n resizes))
          (agrees_alike (counted_tree_of limits a olds) n k_then k_now (map counted_volume_of news) keeps (at_counted_file a n resizes.was resizes.at_was) alike_now resizes.from.nlink
          (subst Law resized_now (law_after_resize t n size now may keeps.law))
          (volumes_moved (map counted_volume_of news) (map counted_volume_of olds) index was 0 size 0 counts) totals)

      pub stored_view_after_resize : tree_in (counted_tree_of limits b news) ≡ after_resize t n size now
      stored_view_after_resize = ap tree_in (kept_revalued a b olds news n resizes)
          ∙ view_recounted (counted_tree_of limits a olds) n k_now (map counted_volume_of news) (volumes_moved (map counted_volume_of news) (map counted_volume_of olds) index was 0 size 0 counts)
          ∙ sym resized_now
