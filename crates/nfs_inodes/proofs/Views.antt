-- What clients see of what is kept: files by number, and the shares of volumes.
use Rattle.std.proofs.Common.{◌≡◌, ℕ, zero, suc, ◌+◌, ◌-◌, ◌≤◌, List, [], ◌∷◌, map, Option, Some, None, option_map, refl, sym, ap, subst, ◌∙◌, arith}
use Rattle.std.specs.Prelude.{slice_get, slice_set}
use Rattle.std.proofs.lemmas.Option.{slice_get-map}
use Rattle.nfs_handles.specs.NumberedFiles.{NumberedFiles, TaggedFile, at, value_at}
use Rattle.nfs_inodes.specs.declared.limits.Limits.{Limits}
use Rattle.nfs_inodes.specs.declared.stored_file.StoredFile.{StoredFile}
use Rattle.nfs_inodes.specs.declared.stored_volume.StoredVolume.{StoredVolume}
use Rattle.nfs_inodes.specs.Tree.{Tree, File, Volume, on_some, bytes_of, files_of, is_directory, nlink}
use Rattle.nfs_inodes.specs.Tree as tree
use Rattle.nfs_inodes.specs.Law.{Lives}
use Rattle.nfs_inodes.specs.Changes as changes
use Rattle.nfs_inodes.specs.Counts.{CountedFile, CountedVolume, tree_in, with_totals}
use Rattle.nfs_inodes.specs.Storage.{file_of, counted_files, counted_volume_of, volume_of, counted_tree_of}
use Rattle.nfs_inodes.proofs.Lists.{same_some, not_both}
use Rattle.nfs_inodes.proofs.Maps.{at_shows}
use Rattle.nfs_inodes.proofs.StoredFiles.{counted_file, at_counted_file}
use Rattle.nfs_inodes.proofs.counts.Operations.{shown}

-- a look-up shows nothing where there is nothing, and what it shows is of something
pub mapped : {X Y : Type 0} (f : X → Y) (o : Option X) (y : Y) → option_map f o ≡ Some y → (x : X) × (o ≡ Some x) × (f x ≡ y)
mapped f None y e = absurd (not_both refl e)
mapped f (Some x) y e = (x, refl, same_some e)

-- the value of a file, and its tag
pub filed : (a : NumberedFiles StoredFile) (n : ℕ) (i : StoredFile) → Some i ≡ value_at a n → (f : TaggedFile StoredFile) × (at a n ≡ Some f) × (f.value ≡ i)
filed a n i e = mapped (λ (f : TaggedFile StoredFile). f.value) (at a n) i (sym e)

pub lives : (limits : Limits) (a : NumberedFiles StoredFile) (stored_volumes : List StoredVolume) (n : ℕ) (f : TaggedFile StoredFile) → at a n ≡ Some f → Lives (tree_in (counted_tree_of limits a stored_volumes)) n (file_of f.tag f.value)
lives limits a stored_volumes n f e = shown (counted_tree_of limits a stored_volumes) n (counted_file f) (at_counted_file a n f e)

all_shown : (limits : Limits) (a : NumberedFiles StoredFile) (stored_volumes : List StoredVolume) (n : ℕ) → tree.at n (tree_in (counted_tree_of limits a stored_volumes)).files ≡ option_map (λ (f : TaggedFile StoredFile). file_of f.tag f.value) (at a n)
all_shown limits a stored_volumes n = at_shows (λ (h : CountedFile). h.file) n (counted_files a.files) ∙ ap (option_map (λ (h : CountedFile). h.file)) (at_shows counted_file n a.files) ∙ twice (at a n)
  where
    twice : (o : Option (TaggedFile StoredFile)) → option_map (λ (h : CountedFile). h.file) (option_map counted_file o) ≡ option_map (λ (f : TaggedFile StoredFile). file_of f.tag f.value) o
    twice None = refl
    twice (Some f) = refl

module _ {limits : Limits} (a : NumberedFiles StoredFile) (stored_volumes : List StoredVolume) (t : Tree) (view : tree_in (counted_tree_of limits a stored_volumes) ≡ t) where
  pub lives_there : (n : ℕ) (f : TaggedFile StoredFile) → at a n ≡ Some f → Lives t n (file_of f.tag f.value)
  lives_there n f e = subst (λ (t : Tree). Lives t n (file_of f.tag f.value)) view (lives limits a stored_volumes n f e)

  -- what is kept of a file of the tree
  pub kept_at : (n : ℕ) (g : File) → Lives t n g → (f : TaggedFile StoredFile) × (at a n ≡ Some f) × (file_of f.tag f.value ≡ g)
  kept_at n g e = mapped (λ (f : TaggedFile StoredFile). file_of f.tag f.value) (at a n) g (sym (all_shown limits a stored_volumes n) ∙ subst (λ (t : Tree). Lives t n g) (sym view) e)

  pub none_there : (n : ℕ) → None ≡ value_at a n → tree.at n t.files ≡ None
  none_there n e = ap (λ (t : Tree). tree.at n t.files) (sym view) ∙ all_shown limits a stored_volumes n ∙ none_of (at a n) e
    where
      none_of : (o : Option (TaggedFile StoredFile)) → None ≡ option_map (λ (f : TaggedFile StoredFile). f.value) o → option_map (λ (f : TaggedFile StoredFile). file_of f.tag f.value) o ≡ None
      none_of None e = refl
      none_of (Some f) e = cc

  -- the volume of a file
  pub place_there : (n : ℕ) (i : StoredFile) → Some i ≡ value_at a n → i.volume ≡ changes.volume_index t n
  place_there n i e = let f = filed a n i e in
      ap (λ (i : StoredFile). i.volume) (sym f.2) ∙ sym (ap (λ o. on_some o 0 (λ (k : File). k.volume)) (lives_there n f.0 f.1))

  pub place_none : (n : ℕ) → None ≡ value_at a n → 0 ≡ changes.volume_index t n
  place_none n e = sym (ap (λ o. on_some o 0 (λ (k : File). k.volume)) (none_there n e))

-- ---- volumes

pub stored_volume_at : (stored_volumes : List StoredVolume) (index : ℕ) (v : Volume) → slice_get (map (λ (c : CountedVolume). c.volume) (map counted_volume_of stored_volumes)) index ≡ Some v → (s : StoredVolume) × (slice_get stored_volumes index ≡ Some s) × (volume_of s ≡ v)
stored_volume_at [] index v e = absurd (not_both refl e)
stored_volume_at (s ∷ ss) zero v e = (s, refl, same_some e)
stored_volume_at (s ∷ ss) (suc index) v e = stored_volume_at ss index v e

pub stored_volume_counted : (stored_volumes : List StoredVolume) (index : ℕ) (s : StoredVolume) → slice_get stored_volumes index ≡ Some s → slice_get (map counted_volume_of stored_volumes) index ≡ Some (counted_volume_of s)
stored_volume_counted stored_volumes index s e = slice_get-map counted_volume_of stored_volumes index ∙ ap (option_map counted_volume_of) e

pub set_totals : (stored_volumes : List StoredVolume) (index bytes files : ℕ) (s : StoredVolume) → slice_get stored_volumes index ≡ Some s → map counted_volume_of (slice_set stored_volumes index (record s { bytes = s.bytes + bytes; files = s.files + files })) ≡ with_totals (map counted_volume_of stored_volumes) index bytes files
set_totals [] index bytes files s e = absurd (not_both refl e)
set_totals (b ∷ bs) zero bytes files s e = let same : b ≡ s = same_some e in
    ap (λ (s : StoredVolume). record { volume = volume_of s; bytes = s.bytes + bytes; files = s.files + files } ∷ map counted_volume_of bs) (sym same)
set_totals (b ∷ bs) (suc index) bytes files s e = ap (λ l. counted_volume_of b ∷ l) (set_totals bs index bytes files s e)

pub reset_totals : (stored_volumes : List StoredVolume) (index less more : ℕ) (s : StoredVolume) → slice_get stored_volumes index ≡ Some s → less ≤ s.bytes →
    with_totals (map counted_volume_of (slice_set stored_volumes index (record s { bytes = s.bytes - less + more }))) index less 0 ≡ with_totals (map counted_volume_of stored_volumes) index more 0
reset_totals [] index less more s e has = absurd (not_both refl e)
reset_totals (b ∷ bs) zero less more s e has =
    let same : b ≡ s = same_some e in
    let sums : s.bytes - less + more + less ≡ s.bytes + more = omega (arith, has) in
    ap (λ n. record { volume = volume_of s; bytes = n; files = s.files + 0 } ∷ map counted_volume_of bs) sums
    ∙ ap (λ (s : StoredVolume). record { volume = volume_of s; bytes = s.bytes + more; files = s.files + 0 } ∷ map counted_volume_of bs) (sym same)
reset_totals (b ∷ bs) (suc index) less more s e has = ap (λ l. counted_volume_of b ∷ l) (reset_totals bs index less more s e has)

pub less_totals : (stored_volumes : List StoredVolume) (index bytes files : ℕ) (s : StoredVolume) → slice_get stored_volumes index ≡ Some s → bytes ≤ s.bytes → files ≤ s.files →
    with_totals (map counted_volume_of (slice_set stored_volumes index (record s { bytes = s.bytes - bytes; files = s.files - files }))) index bytes files ≡ map counted_volume_of stored_volumes
less_totals [] index bytes files s e has_bytes has_files = absurd (not_both refl e)
less_totals (b ∷ bs) zero bytes files s e has_bytes has_files =
    let same : b ≡ s = same_some e in
    let sum : s.bytes - bytes + bytes ≡ s.bytes = omega (arith, has_bytes) in
    let count : s.files - files + files ≡ s.files = omega (arith, has_files) in
    ap (λ n. record { volume = volume_of s; bytes = n; files = s.files - files + files } ∷ map counted_volume_of bs) sum
    ∙ ap (λ n. record { volume = volume_of s; bytes = s.bytes; files = n } ∷ map counted_volume_of bs) count
    ∙ ap (λ s. counted_volume_of s ∷ map counted_volume_of bs) (sym same)
less_totals (b ∷ bs) (suc index) bytes files s e has_bytes has_files = ap (λ l. counted_volume_of b ∷ l) (less_totals bs index bytes files s e has_bytes has_files)
