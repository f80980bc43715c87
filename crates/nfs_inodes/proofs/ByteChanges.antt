-- Bytes that are put, in what is kept.
use Rattle.std.proofs.Common.{◌≡◌, ℕ, ◌+◌, ◌<◌, false, List, [], ◌∷◌, map, length, Some, refl, sym, ap, subst, ◌∙◌, arith}
use Rattle.std.specs.Bool.{◌==◌}
use Rattle.std.specs.Prelude.{slice_get}
use Rattle.nfs_attrs.specs.declared.moment.Moment.{Moment}
use Rattle.nfs_handles.specs.NumberedFiles.{NumberedFiles}
use Rattle.nfs_inodes.specs.declared.limits.Limits.{Limits}
use Rattle.nfs_inodes.specs.declared.stored_file.StoredFile.{StoredFile}
use Rattle.nfs_inodes.specs.declared.stored_volume.StoredVolume.{StoredVolume}
use Rattle.nfs_inodes.specs.Tree.{Tree, File, bytes_in, bytes_of, is_regular, on_some}
use Rattle.nfs_inodes.specs.Law.{Law, Lives}
use Rattle.nfs_inodes.specs.Changes.{with_file, file_with_bytes, after_write_at}
use Rattle.nfs_inodes.specs.Conditions.{MayWrite}
use Rattle.nfs_inodes.specs.Counts.{CountedFile, CountedVolume, Agrees, IsCounted, tree_in, with_totals}
use Rattle.nfs_inodes.specs.Storage.{counted_file_of, counted_volume_of, counted_tree_of}
use Rattle.nfs_inodes.specs.StoredFiles.{Revalues, TakesBytes, Writes}
use Rattle.nfs_inodes.specs.declared.stored_files.Growth.{Growth}
use Rattle.nfs_inodes.specs.StepConditions.{HasRoomFor, retagged}
use Rattle.nfs_inodes.proofs.Lists.{same_some}
use Rattle.nfs_inodes.proofs.law.Alike.{Alike, bytes_changed, count_changed}
use Rattle.nfs_inodes.proofs.StoredFiles.{counted_file, at_counted_file}
use Rattle.nfs_inodes.proofs.law.Operations.{overwritten_alike, overwritten_bytes, law_after_write_at}
use Rattle.nfs_inodes.proofs.Bytes.{length_put}
use Rattle.nfs_inodes.proofs.law.NewFiles.{impossible}
use Rattle.nfs_inodes.proofs.counts.FileChanged.{AreLimits, agrees_alike, agrees_but_none, totals_moved, totals_nothing, volumes_moved, view_recounted, kept_revalued}
use Rattle.nfs_inodes.proofs.Views.{kept_at, lives}
use Rattle.nfs_inodes.proofs.Steps.{stored_volume_of}

pub some_bytes : (bytes : List ℕ) → false ≡ (length bytes == 0) → 0 < length bytes
some_bytes [] e = impossible e
some_bytes (b ∷ bs) e = omega arith

module _ {limits : Limits} (a : NumberedFiles StoredFile) (olds : List StoredVolume) (n offset : ℕ) (bytes : List ℕ) (keeps : Agrees (counted_tree_of limits a olds)) (may : MayWrite (tree_in (counted_tree_of limits a olds)) n offset (length bytes)) (some : 0 < length bytes) where
  pub takes_bytes : TakesBytes a n offset (length bytes)
  takes_bytes =
      let f = kept_at a olds (tree_in (counted_tree_of limits a olds)) refl n may.file may.at_file in
      record { file = f.0; at_file = f.1; regular = ap (λ (f : File). is_regular f.kind) f.2 ∙ may.regular; large = let large = may.large some in let cap = keeps.law.limits.file_size in omega (arith, large, cap) }

  module _ (now : Moment) (growth : Growth) (b : NumberedFiles StoredFile) (writes : Revalues a n (Writes offset bytes growth now) b) where
    abbrev t : Tree
    t = tree_in (counted_tree_of limits a olds)

    abbrev k_then : CountedFile
    k_then = counted_file writes.was

    abbrev k_now : CountedFile
    k_now = counted_file_of writes.was.tag writes.value

    the_file : k_then.file ≡ may.file
    the_file = same_some (sym (lives limits a olds n writes.was writes.at_was) ∙ may.at_file)

    home : growth.volume ≡ may.file.volume
    home = writes.from.index ∙ ap (λ (f : File). f.volume) the_file

    pub room_to_grow : HasRoomFor olds growth.volume growth.bytes 0
    room_to_grow =
        let s = stored_volume_of a olds growth.volume may.volume keeps (ap (slice_get t.volumes) home ∙ may.at_volume) in
        let has = s.2 in let files = s.3 in let wide = s.4 in let wide_files = s.5 in
        let room = may.room some in let grown = writes.from.grown in
        let long : length (bytes_in k_then.file.kind) ≡ length (bytes_in may.file.kind) = ap (λ (f : File). length (bytes_in f.kind)) the_file in
        let same : bytes_of growth.volume t.files ≡ bytes_of may.file.volume t.files = ap (λ k. bytes_of k t.files) home in
        let v = keeps.law.count growth.volume may.volume (ap (slice_get t.volumes) home ∙ may.at_volume) in
        record { stored_volume = s.0; at_index = s.1; bytes_fit = omega (arith, has, wide, room, grown, long, same); files_fit = omega (arith, files, wide_files, v) }

    file_now : k_now.file ≡ file_with_bytes k_then.file offset bytes now
    file_now = ap (λ (f : File). retagged f writes.was.tag) writes.from.file

    alike_now : Alike k_then.file k_now.file
    alike_now = subst (Alike k_then.file) (sym file_now) (overwritten_alike k_then.file offset bytes now)

    shown_then : Lives t n k_then.file
    shown_then = lives limits a olds n writes.was writes.at_was

    written_now : after_write_at t n offset bytes now ≡ with_file t n k_now.file
    written_now = by_bytes bytes some ∙ ap (with_file t n) (sym file_now)
      where
        by_bytes : (bs : List ℕ) → 0 < length bs → after_write_at t n offset bs now ≡ with_file t n (file_with_bytes k_then.file offset bs now)
        by_bytes [] some = absurd (omega (arith, some))
        by_bytes (x ∷ xs) some = ap (λ o. on_some o t (λ f. with_file t n (file_with_bytes f offset (x ∷ xs) now))) shown_then

    long_now : length (bytes_in k_now.file.kind) ≡ length (bytes_in k_then.file.kind) + growth.bytes
    long_now = ap (λ (f : File). length (bytes_in f.kind)) file_now
        ∙ ap length (overwritten_bytes k_then.file.kind offset bytes (ap (λ (f : File). is_regular f.kind) the_file ∙ may.regular))
        ∙ length_put (bytes_in k_then.file.kind) bytes offset
        ∙ ap (λ g. length (bytes_in k_then.file.kind) + g) (sym writes.from.grown)

    module _ (news : List StoredVolume) (counts : map counted_volume_of news ≡ with_totals (map counted_volume_of olds) growth.volume growth.bytes 0) where
      between : with_totals (map counted_volume_of news) growth.volume 0 0 ≡ with_totals (map counted_volume_of olds) growth.volume growth.bytes 0
      between = totals_nothing (map counted_volume_of news) growth.volume ∙ counts

      totals : (p : ℕ) (c : CountedVolume) → slice_get (map counted_volume_of news) p ≡ Some c → IsCounted (with_file t n k_now.file).files p c × AreLimits c.volume
      totals = totals_moved 0 (counted_tree_of limits a olds) (with_file t n k_now.file).files (map counted_volume_of news) growth.volume 0 0 growth.bytes 0 (agrees_but_none (counted_tree_of limits a olds) keeps) between (λ p.
          let changed = bytes_changed t n k_then.file k_now.file shown_then alike_now.placed.volume p in
          let files = count_changed t n k_then.file k_now.file shown_then alike_now.placed.volume p in
          let long = long_now in (
            (λ s. let y = changed.0 (sym writes.from.index ∙ sym s) in (omega (arith, y, long), omega (arith, files))),
            (λ o. (changed.1 (λ s. o (sym s ∙ sym writes.from.index)), files)),
          ))

      pub stored_agree_after_write : Agrees (counted_tree_of limits b news)
      stored_agree_after_write = subst Agrees (sym (kept_revalued a b olds news n writes))
          (agrees_alike (counted_tree_of limits a olds) n k_then k_now (map counted_volume_of news) keeps (at_counted_file a n writes.was writes.at_was) alike_now writes.from.nlink
          (subst Law written_now (law_after_write_at t n offset bytes now may keeps.law))
          (volumes_moved (map counted_volume_of news) (map counted_volume_of olds) growth.volume 0 0 growth.bytes 0 between) totals)

      pub stored_view_after_write : tree_in (counted_tree_of limits b news) ≡ after_write_at t n offset bytes now
      stored_view_after_write = ap tree_in (kept_revalued a b olds news n writes)
          ∙ view_recounted (counted_tree_of limits a olds) n k_now (map counted_volume_of news) (volumes_moved (map counted_volume_of news) (map counted_volume_of olds) growth.volume 0 0 growth.bytes 0 between)
          ∙ sym written_now
