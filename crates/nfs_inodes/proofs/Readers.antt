-- What readers find in what is kept, and so in the tree.
use Rattle.std.proofs.Common.{◌≡◌, ℕ, zero, suc, ◌<◌, List, [], ◌∷◌, map, length, drop, Option, Some, None, option_map, refl, sym, ap, ◌∙◌, arith, append-nil}
use Rattle.std.specs.Prelude.{slice_get, not, if◌then◌else◌, ◌||◌, nat_eq, nat_le, bytes_eq}
use Rattle.std.proofs.lemmas.Option.{slice_get-map, slice_get_within}
use Rattle.nfs_handles.specs.NumberedFiles.{NumberedFiles, TaggedFile, at, value_at}
use Rattle.nfs_handles.specs.Tags.{IsNextTag}
use Rattle.nfs_handles.specs.Handles.{handle_text, handle_at, reading, live_with, is_shaped, key_in, tag_in, number_in, number}
use Rattle.nfs_handles.specs.declared.number.Number.{Number}
use Rattle.nfs_attrs.specs.declared.fattr.Fattr.{Fattr}
use Rattle.nfs_handles.specs.declared.reading.Reading.{Reading}
use Rattle.nfs_handles.specs.declared.reading.Reading.TheVariants.{Live, Stale, Bad}
use Rattle.nfs_inodes.specs.declared.limits.Limits.{Limits}
use Rattle.nfs_inodes.specs.declared.stored_file.StoredFile.{StoredFile}
use Rattle.nfs_inodes.specs.declared.stored_volume.StoredVolume.{StoredVolume}
use Rattle.nfs_inodes.specs.declared.volumes.Totals.{Totals}
use Rattle.nfs_inodes.specs.Tree.{Tree, File, Kind, Volume, on_some, nlink, entries_in, bytes_in, bytes_of, files_of}
use Rattle.nfs_inodes.specs.Tree as tree
use Rattle.nfs_inodes.specs.Counts.{CountedFile, CountedVolume, Agrees, tree_in, files_in}
use Rattle.nfs_inodes.specs.Storage.{file_of, kind_of, counted_files, counted_volume_of, volume_of, counted_tree_of}
use Rattle.nfs_inodes.specs.Reading.{attributes_of, attributes_at, kind_at, listing, listing_at, cookie_of_next, next_cookie_at, path_of, path_at, bytes_at, totals_at, numbered_files, IsFirstChunk}
use Rattle.nfs_inodes.specs.Views.{kind_seen, bytes_seen, IsSeen}
use Rattle.nfs_inodes.specs.Views.{FileView}
use Rattle.nfs_handles.proofs.Tags.{same_next_tag}
use Rattle.nfs_inodes.proofs.Maps.{at_shows}
use Rattle.nfs_inodes.proofs.StoredFiles.{counted_file, at_counted_file}
use Rattle.nfs_inodes.proofs.Lists.{same_some, not_both}
use Rattle.nfs_inodes.proofs.Views.{filed, lives_there, none_there, kept_at, stored_volume_counted}

-- ---- files

module _ {limits : Limits} (a : NumberedFiles StoredFile) (stored_volumes : List StoredVolume) (t : Tree) (view : tree_in (counted_tree_of limits a stored_volumes) ≡ t) {X : Type 0} (y : X) (g : File → X) where
  -- what is reported of a file, where its tag doesn't matter
  pub seen : (n : ℕ) (i : StoredFile) (x : X) → Some i ≡ value_at a n → ((tag : ℕ) → x ≡ g (file_of tag i)) → x ≡ on_some (tree.at n t.files) y g
  seen n i x e h = let f = filed a n i e in
      h f.0.tag ∙ ap (λ (i : StoredFile). g (file_of f.0.tag i)) (sym f.2) ∙ sym (ap (λ o. on_some o y g) (lives_there a stored_volumes t view n f.0 f.1))

  pub unseen : (n : ℕ) → None ≡ value_at a n → y ≡ on_some (tree.at n t.files) y g
  unseen n e = sym (ap (λ o. on_some o y g) (none_there a stored_volumes t view n e))

-- ---- attributes

pub few_volumes : {limits : Limits} (a : NumberedFiles StoredFile) (stored_volumes : List StoredVolume) → Agrees (counted_tree_of limits a stored_volumes) → (n : ℕ) (i : StoredFile) → Some i ≡ value_at a n → i.volume < 64
few_volumes {limits} a stored_volumes keeps n i e = let f = filed a n i e in
    let placed = keeps.law.placed n (file_of f.0.tag f.0.value) (lives_there a stored_volumes (tree_in (counted_tree_of limits a stored_volumes)) refl n f.0 f.1) in
    let within : f.0.value.volume < length (tree_in (counted_tree_of limits a stored_volumes)).volumes = slice_get_within (tree_in (counted_tree_of limits a stored_volumes)).volumes f.0.value.volume placed.0 placed.1 in
    let few = keeps.law.volumes.few in
    let same : f.0.value.volume ≡ i.volume = ap (λ (i : StoredFile). i.volume) f.2 in
    omega (arith, within, few, same)

attributes_kept : {limits : Limits} (a : NumberedFiles StoredFile) (stored_volumes : List StoredVolume) → Agrees (counted_tree_of limits a stored_volumes) → (n : ℕ) (f : TaggedFile StoredFile) → at a n ≡ Some f → Some (attributes_of n (file_of 0 f.value) f.value.nlink) ≡ attributes_at (tree_in (counted_tree_of limits a stored_volumes)) n
attributes_kept {limits} a stored_volumes keeps n f e =
    ap (λ links. Some (attributes_of n (file_of 0 f.value) links)) (keeps.links n (counted_file f) (at_counted_file a n f e))
    ∙ sym (ap (option_map (λ (f : File). attributes_of n f (nlink (tree_in (counted_tree_of limits a stored_volumes)).files n f))) (lives_there a stored_volumes (tree_in (counted_tree_of limits a stored_volumes)) refl n f e))

pub attributes_there : {limits : Limits} (a : NumberedFiles StoredFile) (stored_volumes : List StoredVolume) (t : Tree) → tree_in (counted_tree_of limits a stored_volumes) ≡ t → Agrees (counted_tree_of limits a stored_volumes) → (n : ℕ) (i : StoredFile) → Some i ≡ value_at a n → Some (attributes_of n (file_of 0 i) i.nlink) ≡ attributes_at t n
attributes_there {limits} a stored_volumes t view keeps n i e = let f = filed a n i e in
    ap (λ (i : StoredFile). Some (attributes_of n (file_of 0 i) i.nlink)) (sym f.2) ∙ attributes_kept a stored_volumes keeps n f.0 f.1 ∙ ap (λ (t : Tree). attributes_at t n) view

pub attributes_none : {limits : Limits} (a : NumberedFiles StoredFile) (stored_volumes : List StoredVolume) (t : Tree) → tree_in (counted_tree_of limits a stored_volumes) ≡ t → (n : ℕ) → None ≡ value_at a n → None ≡ attributes_at t n
attributes_none {limits} a stored_volumes t view n e = sym (ap (option_map (λ (f : File). attributes_of n f (nlink t.files n f))) (none_there a stored_volumes t view n e))

-- ---- files that are seen

pub seen_there : {limits : Limits} (a : NumberedFiles StoredFile) (stored_volumes : List StoredVolume) (t : Tree) → tree_in (counted_tree_of limits a stored_volumes) ≡ t → Agrees (counted_tree_of limits a stored_volumes) → (n : ℕ) (i : StoredFile) (v : FileView)
    → Some i ≡ value_at a n → v.attributes ≡ attributes_of n (file_of 0 i) i.nlink → kind_seen v ≡ kind_of i.node → IsSeen t v
seen_there {limits} a stored_volumes t view keeps n i v at_number e k = let same : v.attributes.fileid ≡ n = ap (λ (f : Fattr). f.fileid) e in (
  ap (attributes_at t) same ∙ sym (attributes_there a stored_volumes t view keeps n i at_number) ∙ ap Some (sym e),
  ap (kind_at t) same ∙ sym (seen a stored_volumes t view None (λ (f : File). Some f.kind) n i (Some (kind_of i.node)) at_number (λ tag. refl)) ∙ ap Some (sym k),
)

-- what is reported of a file by its kind alone
of_kind : {X : Type 0} (y : X) (g : Kind → X) (o : Option File) (k : Kind) → on_some o None (λ (f : File). Some f.kind) ≡ Some k → g k ≡ on_some o y (λ (f : File). g f.kind)
of_kind y g None k e = absurd (not_both refl e)
of_kind y g (Some f) k e = ap g (sym (same_some e))

pub listed_seen : (t : Tree) (v : FileView) → IsSeen t v → listing v.attributes.fileid (kind_seen v) ≡ listing_at t v.attributes.fileid
listed_seen t v s = of_kind [] (listing v.attributes.fileid) (tree.at v.attributes.fileid t.files) (kind_seen v) s.1

pub seen_cookie : (t : Tree) (v : FileView) → IsSeen t v → cookie_of_next (kind_seen v) ≡ next_cookie_at t v.attributes.fileid
seen_cookie t v s = of_kind None cookie_of_next (tree.at v.attributes.fileid t.files) (kind_seen v) s.1

pub seen_path : (t : Tree) (v : FileView) → IsSeen t v → path_of (kind_seen v) ≡ path_at t v.attributes.fileid
seen_path t v s = of_kind None path_of (tree.at v.attributes.fileid t.files) (kind_seen v) s.1

pub seen_bytes : (t : Tree) (v : FileView) → IsSeen t v → bytes_seen v ≡ bytes_at t v.attributes.fileid
seen_bytes t v s = of_kind [] bytes_in (tree.at v.attributes.fileid t.files) (kind_seen v) s.1

-- a file that is seen is kept
pub seen_kept : {limits : Limits} (a : NumberedFiles StoredFile) (stored_volumes : List StoredVolume) (t : Tree) → tree_in (counted_tree_of limits a stored_volumes) ≡ t → (v : FileView) → IsSeen t v → (f : TaggedFile StoredFile) × (at a v.attributes.fileid ≡ Some f)
seen_kept {limits} a stored_volumes t view v s = of (tree.at v.attributes.fileid t.files) refl s.1
  where
    of : (o : Option File) → tree.at v.attributes.fileid t.files ≡ o → on_some o None (λ (f : File). Some f.kind) ≡ Some (kind_seen v) → (f : TaggedFile StoredFile) × (at a v.attributes.fileid ≡ Some f)
    of None e k = absurd (not_both refl k)
    of (Some g) e k = let kept = kept_at a stored_volumes t view v.attributes.fileid g e in (kept.0, kept.1)

-- ---- content

-- all of some bytes
pub whole_run : (run bytes : List ℕ) → run ≡ bytes → IsFirstChunk run bytes
whole_run run bytes e = record { rest = []; bytes_are = sym e ∙ sym (append-nil run); some = λ none. sym e ∙ none }

-- nothing after no bytes
pub drop_none : (n : ℕ) (bytes : List ℕ) → [] ≡ bytes → [] ≡ drop n bytes
drop_none zero bytes e = e
drop_none (suc n) bytes e = ap (drop (suc n)) e

-- ---- volumes

volumes_kept : (stored_volumes : List StoredVolume) → map (λ (c : CountedVolume). c.volume) (map counted_volume_of stored_volumes) ≡ map volume_of stored_volumes
volumes_kept [] = refl
volumes_kept (s ∷ ss) = ap (λ l. volume_of s ∷ l) (volumes_kept ss)

pub volumes_there : {limits : Limits} (a : NumberedFiles StoredFile) (stored_volumes : List StoredVolume) (t : Tree) → tree_in (counted_tree_of limits a stored_volumes) ≡ t → map volume_of stored_volumes ≡ t.volumes
volumes_there {limits} a stored_volumes t view = sym (volumes_kept stored_volumes) ∙ ap (λ (t : Tree). t.volumes) view

pub volume_there : {limits : Limits} (a : NumberedFiles StoredFile) (stored_volumes : List StoredVolume) (t : Tree) → tree_in (counted_tree_of limits a stored_volumes) ≡ t → (index : ℕ) → option_map volume_of (slice_get stored_volumes index) ≡ slice_get t.volumes index
volume_there {limits} a stored_volumes t view index = sym (slice_get-map volume_of stored_volumes index) ∙ ap (λ vs. slice_get vs index) (volumes_there a stored_volumes t view)

abbrev pub make_totals : ℕ → ℕ → Totals
make_totals b n = record { bytes = b; files = n }

totals_kept : {limits : Limits} (a : NumberedFiles StoredFile) (stored_volumes : List StoredVolume) → Agrees (counted_tree_of limits a stored_volumes) → (index : ℕ) (s : StoredVolume) → slice_get stored_volumes index ≡ Some s → Some (make_totals s.bytes s.files) ≡ totals_at (tree_in (counted_tree_of limits a stored_volumes)) index
totals_kept {limits} a stored_volumes keeps index s e =
    let counted = keeps.totals index (counted_volume_of s) (stored_volume_counted stored_volumes index s e) in
    ap (λ b. Some (make_totals b s.files)) counted.bytes ∙ ap (λ n. Some (make_totals (bytes_of index (files_in (counted_files a.files))) n)) counted.files
    ∙ sym (ap (option_map (λ (v : Volume). make_totals (bytes_of index (files_in (counted_files a.files))) (files_of index (files_in (counted_files a.files))))) (sym (volume_there a stored_volumes (tree_in (counted_tree_of limits a stored_volumes)) refl index) ∙ ap (option_map volume_of) e))

pub totals_there : {limits : Limits} (a : NumberedFiles StoredFile) (stored_volumes : List StoredVolume) (t : Tree) → tree_in (counted_tree_of limits a stored_volumes) ≡ t → Agrees (counted_tree_of limits a stored_volumes) → (index : ℕ) (s : StoredVolume) → slice_get stored_volumes index ≡ Some s → Some (make_totals s.bytes s.files) ≡ totals_at t index
totals_there {limits} a stored_volumes t view keeps index s e = totals_kept a stored_volumes keeps index s e ∙ ap (λ (t : Tree). totals_at t index) view

pub totals_none : {limits : Limits} (a : NumberedFiles StoredFile) (stored_volumes : List StoredVolume) (t : Tree) → tree_in (counted_tree_of limits a stored_volumes) ≡ t → (index : ℕ) → slice_get stored_volumes index ≡ None → None ≡ totals_at t index
totals_none {limits} a stored_volumes t view index e =
    sym (ap (option_map (λ (v : Volume). make_totals (bytes_of index t.files) (files_of index t.files))) (sym (volume_there a stored_volumes t view index) ∙ ap (option_map volume_of) e))

-- ---- handles

-- the same tag
abbrev pub tagged : File → TaggedFile File
tagged f = record { tag = f.tag; value = f }

abbrev pub filed_as : TaggedFile StoredFile → TaggedFile File
filed_as f = tagged (file_of f.tag f.value)

numbered_at : (limits : Limits) (a : NumberedFiles StoredFile) (stored_volumes : List StoredVolume) (n : ℕ) → at (numbered_files (tree_in (counted_tree_of limits a stored_volumes))) n ≡ option_map filed_as (at a n)
numbered_at limits a stored_volumes n = at_shows tagged n (files_in (counted_files a.files)) ∙ ap (option_map tagged) (at_shows (λ (h : CountedFile). h.file) n (counted_files a.files))
    ∙ ap (λ o. option_map tagged (option_map (λ (h : CountedFile). h.file) o)) (at_shows counted_file n a.files) ∙ thrice (at a n)
  where
    thrice : (o : Option (TaggedFile StoredFile)) → option_map tagged (option_map (λ (h : CountedFile). h.file) (option_map counted_file o)) ≡ option_map filed_as o
    thrice None = refl
    thrice (Some f) = refl

live_same : (tag n : ℕ) (o : Option (TaggedFile StoredFile)) → live_with tag n o ≡ live_with tag n (option_map filed_as o)
live_same tag n None = refl
live_same tag n (Some f) = refl

reading_kept : (limits : Limits) (a : NumberedFiles StoredFile) (stored_volumes : List StoredVolume) (bytes : List ℕ) → reading a bytes ≡ reading (numbered_files (tree_in (counted_tree_of limits a stored_volumes))) bytes
reading_kept limits a stored_volumes bytes = ap (λ (r : Reading).
    if not (is_shaped bytes) then Bad
    else (if not (bytes_eq (key_in bytes) a.key) then Stale
    else (if nat_eq (number_in bytes) 0 || nat_le a.next (number_in bytes) then Bad
    else r)))
    (live_same (tag_in bytes) (number_in bytes) (at a (number_in bytes)) ∙ ap (live_with (tag_in bytes) (number_in bytes)) (sym (numbered_at limits a stored_volumes (number_in bytes))))

pub reading_there : {limits : Limits} (a : NumberedFiles StoredFile) (stored_volumes : List StoredVolume) (t : Tree) → tree_in (counted_tree_of limits a stored_volumes) ≡ t → (bytes : List ℕ) → reading a bytes ≡ reading (numbered_files t) bytes
reading_there {limits} a stored_volumes t view bytes = reading_kept limits a stored_volumes bytes ∙ ap (λ (t : Tree). reading (numbered_files t) bytes) view

-- the file that a handle reads as, with what is kept of it
pub found_there : {limits : Limits} (a : NumberedFiles StoredFile) (stored_volumes : List StoredVolume) (t : Tree) → tree_in (counted_tree_of limits a stored_volumes) ≡ t → Agrees (counted_tree_of limits a stored_volumes) → (bytes : List ℕ) (n : Number) (i : StoredFile) (v : FileView)
    → reading a bytes ≡ Live (number n.0) → value_at a n.0 ≡ Some i → v.attributes ≡ attributes_of n.0 (file_of 0 i) i.nlink → kind_seen v ≡ kind_of i.node
    → (reading (numbered_files t) bytes ≡ Live (number v.attributes.fileid)) × IsSeen t v
found_there {limits} a stored_volumes t view keeps bytes n i v reads at_number e k = (
  sym (reading_there a stored_volumes t view bytes) ∙ reads ∙ ap (λ m. Live (number m)) (sym (ap (λ (f : Fattr). f.fileid) e)),
  seen_there a stored_volumes t view keeps n.0 i v (sym at_number) e k,
)

handle_kept : (limits : Limits) (a : NumberedFiles StoredFile) (stored_volumes : List StoredVolume) (n : ℕ) → handle_at a n ≡ handle_at (numbered_files (tree_in (counted_tree_of limits a stored_volumes))) n
handle_kept limits a stored_volumes n = same (at a n) ∙ sym (ap (option_map (λ (f : TaggedFile File). handle_text a.key f.tag n)) (numbered_at limits a stored_volumes n))
  where
    same : (o : Option (TaggedFile StoredFile)) → option_map (λ (f : TaggedFile StoredFile). handle_text a.key f.tag n) o ≡ option_map (λ (f : TaggedFile File). handle_text a.key f.tag n) (option_map filed_as o)
    same None = refl
    same (Some f) = refl

pub handle_there : {limits : Limits} (a : NumberedFiles StoredFile) (stored_volumes : List StoredVolume) (t : Tree) → tree_in (counted_tree_of limits a stored_volumes) ≡ t → (n : ℕ) → handle_at a n ≡ handle_at (numbered_files t) n
handle_there {limits} a stored_volumes t view n = handle_kept limits a stored_volumes n ∙ ap (λ (t : Tree). handle_at (numbered_files t) n) view

-- the next tag of the files that are kept is that of the tree
pub next_tag_there : (limits : Limits) (a : NumberedFiles StoredFile) (stored_volumes : List StoredVolume) (tag : ℕ) → IsNextTag a tag → IsNextTag (numbered_files (tree_in (counted_tree_of limits a stored_volumes))) tag
next_tag_there limits a stored_volumes tag is = same_next_tag a (numbered_files (tree_in (counted_tree_of limits a stored_volumes))) tag (λ n. ap (option_map (λ (f : TaggedFile File). f.tag)) (numbered_at limits a stored_volumes n) ∙ same (at a n)) is
  where
    same : (o : Option (TaggedFile StoredFile)) → option_map (λ (f : TaggedFile File). f.tag) (option_map filed_as o) ≡ option_map (λ (f : TaggedFile StoredFile). f.tag) o
    same None = refl
    same (Some f) = refl
