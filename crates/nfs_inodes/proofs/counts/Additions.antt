-- What is kept beside the tree, after a link and after a new volume.
use Rattle.std.proofs.Common.{inl, inr, ◌≡◌, ◌≢◌, ℕ, zero, ◌+◌, ◌<◌, false, List, [], ◌∷◌, ◌++◌, map, Some, refl, sym, ap, subst, ◌∙◌, arith}
use Rattle.std.specs.Prelude.{slice_get, length, nat_eq, ◌^◌, if◌then◌else◌}
use Rattle.std.proofs.lemmas.Bool.{eq-eqb}
use Rattle.std.proofs.lemmas.Option.{slice_get_within}
use Rattle.std.proofs.lemmas.List.{map-append, length-map}
use Rattle.nfs_attrs.specs.declared.moment.Moment.{Moment}
use Rattle.nfs_inodes.specs.Tree.{Tree, File, Volume, at, with_at, one_when, bytes_in, is_directory, nlink, bytes_of, files_of}
use Rattle.nfs_inodes.specs.Law.{Law, AreRising, Lives, LivesAsDirectory}
use Rattle.nfs_inodes.specs.Changes.{with_new_file, with_file, entered, after_link, with_new_volume}
use Rattle.nfs_inodes.specs.Conditions.{MayLink}
use Rattle.nfs_inodes.specs.Counts.{CountedFile, CountedVolume, CountedTree, Agrees, IsCounted, files_in, tree_in}
use Rattle.nfs_inodes.proofs.Lists.{by_number, by_test, if_true, same_some, get_push}
use Rattle.nfs_inodes.proofs.Maps.{shows_with, shows_push, with_back, push_back, at_with_other, at_with_same, rising_with}
use Rattle.nfs_inodes.proofs.law.Alike.{alike_itself, bytes_changed, count_changed, nlink_alike, one_alike}
use Rattle.nfs_inodes.proofs.law.WithEntry.{entered_placed, entered_bytes, gained_is, nlink_there, nlink_elsewhere, one_other}
use Rattle.nfs_inodes.proofs.law.WithNewFile.{nlink_born, nlink_new, bytes_born, files_born, law_with_new_volume, MayBeFounded, no_bytes_yet, no_files_yet}
use Rattle.nfs_inodes.proofs.law.Operations.{law_after_link, linked_is, touch_alike, apart_kinds}
use Rattle.nfs_inodes.proofs.counts.Operations.{shown, free_number}

-- ---- a link

abbrev pub counted_after_link : CountedTree → ℕ → CountedFile → ℕ → CountedFile → CountedTree
counted_after_link k n g d w = record { files = with_at d w (with_at n g k.files); next = k.next; key = k.key; volumes = k.volumes; limits = k.limits }

-- what is kept of file n and of directory d
pub record CountsLink (k : CountedTree) (n d : ℕ) (name : List ℕ) (now : Moment) (f g p w : CountedFile) : Type 0 where
  pub may : MayLink (tree_in k) n d name
  pub at_file : at n k.files ≡ Some f
  pub touched : g.file ≡ record f.file { ctime = now }
  pub one_more : g.nlink ≡ f.nlink + 1
  pub at_dir : at d k.files ≡ Some p
  pub entered : w.file ≡ entered p.file name n now
  pub same_links : w.nlink ≡ p.nlink

module _ (k : CountedTree) (n d : ℕ) (name : List ℕ) (now : Moment) (f g p w : CountedFile) (keeps : Agrees k) (has : CountsLink k n d name now f g p w) where
  t : Tree
  t = tree_in k

  its_file : has.may.file ≡ f.file
  its_file = same_some (sym has.may.at_file ∙ shown k n f has.at_file)

  is_dir : has.may.enter.dir ≡ p.file
  is_dir = same_some (sym has.may.enter.at_dir.0 ∙ shown k d p has.at_dir)

  is_file : is_directory f.file.kind ≡ false
  is_file = ap (λ (a : File). is_directory a.kind) (sym its_file) ∙ has.may.not_directory

  dir_t : LivesAsDirectory (tree_in k) d p.file
  dir_t = (shown k d p has.at_dir, ap (λ (a : File). is_directory a.kind) (sym is_dir) ∙ has.may.enter.at_dir.1)

  apart : d ≢ n
  apart = apart_kinds (tree_in k) n d f.file p.file (shown k n f has.at_file) is_file dir_t

  -- the tree once the file is touched
  abbrev u : Tree
  u = with_file (tree_in k) n (record f.file { ctime = now })

  dir_u : LivesAsDirectory u d p.file
  dir_u = (at_with_other n d (record f.file { ctime = now }) (tree_in k).files apart ∙ dir_t.0, dir_t.1)

  file_u : Lives u n (record f.file { ctime = now })
  file_u = at_with_same n f.file (record f.file { ctime = now }) (tree_in k).files (shown k n f has.at_file)

  rising_u : AreRising 0 u.files u.next
  rising_u = rising_with 0 k.next n (tree_in k).files (record f.file { ctime = now }) keeps.law.rising

  files_linked : files_in (with_at d w (with_at n g k.files)) ≡ (with_file u d (entered p.file name n now)).files
  files_linked = shows_with (λ (a : CountedFile). a.file) d w (with_at n g k.files) ∙ ap (with_at d w.file) (shows_with (λ (a : CountedFile). a.file) n g k.files)
      ∙ ap (λ a. with_at d a (with_at n g.file (tree_in k).files)) has.entered
      ∙ ap (λ a. with_at d (entered p.file name n now) (with_at n a (tree_in k).files)) has.touched

  pub view_after_link : tree_in (counted_after_link k n g d w) ≡ after_link (tree_in k) n d name now
  view_after_link = ap (λ fs. record (tree_in k) { files = fs }) files_linked
      ∙ sym (gained_is u d n now name p.file dir_u.0)
      ∙ sym (linked_is (tree_in k) n d name now f.file (shown k n f has.at_file))

  links_linked : (m : ℕ) (h : CountedFile) → at m (with_at d w (with_at n g k.files)) ≡ Some h → h.nlink ≡ nlink (with_file u d (entered p.file name n now)).files m h.file
  links_linked m h e =
      let after : List (ℕ × File) = (with_file u d (entered p.file name n now)).files in
      let like = one_alike (tree_in k) n f.file (record f.file { ctime = now }) keeps.law.rising keeps.law.numbers (shown k n f has.at_file) (touch_alike f.file now) in
      let counted_file : at d (with_at n g k.files) ≡ Some p = at_with_other n d g k.files apart ∙ has.at_dir in
      with_back d m p w h (with_at n g k.files) counted_file e
      (λ s is. let reported = nlink_there u d n now name p.file (record f.file { ctime = now }) dir_u file_u in
      let none = ap one_when is_file in
      let same : nlink u.files d p.file ≡ nlink (tree_in k).files d p.file = nlink_alike (tree_in k) u like d p.file p.file (alike_itself p.file) in
      let was = keeps.links d p has.at_dir in
      let here : nlink after m h.file ≡ nlink after d (entered p.file name n now) = ap (λ i. nlink after i h.file) s ∙ ap (nlink after d) (ap (λ (a : CountedFile). a.file) (sym is) ∙ has.entered) in
      let mine : h.nlink ≡ w.nlink = ap (λ (a : CountedFile). a.nlink) (sym is) in
      let links = has.same_links in
      omega (arith, reported, none, same, was, here, mine, links))
      (λ o old. with_back n m f g h k.files has.at_file old
      (λ s is. let kind : is_directory h.file.kind ≡ false = ap (λ (a : CountedFile). is_directory a.file.kind) (sym is) ∙ ap (λ (a : File). is_directory a.kind) has.touched ∙ is_file in
      let reported = (nlink_elsewhere u d n now name p.file rising_u dir_u m h.file).1 kind in
      let one : one_when (nat_eq n m) ≡ 1 = ap one_when (eq-eqb n m (sym s)) in
      let its : h.file ≡ record f.file { ctime = now } = ap (λ (a : CountedFile). a.file) (sym is) ∙ has.touched in
      let same : nlink u.files m h.file ≡ nlink (tree_in k).files n f.file = ap (λ i. nlink u.files i h.file) s ∙ ap (nlink u.files n) its ∙ nlink_alike (tree_in k) u like n f.file (record f.file { ctime = now }) (touch_alike f.file now) in
      let was = keeps.links n f has.at_file in
      let mine : h.nlink ≡ g.nlink = ap (λ (a : CountedFile). a.nlink) (sym is) in
      let links = has.one_more in
      omega (arith, reported, one, same, was, mine, links))
      (λ q was. let reported = nlink_elsewhere u d n now name p.file rising_u dir_u m h.file in
      let same : nlink u.files m h.file ≡ nlink (tree_in k).files m h.file = nlink_alike (tree_in k) u like m h.file h.file (alike_itself h.file) in
      let mine = keeps.links m h was in
      let none : one_when (nat_eq n m) ≡ 0 = one_other m (record { cookie = 0; name = name; number = n }) q in
      by_test (is_directory h.file.kind)
      (λ y. let a = reported.0 y in omega (arith, a, same, mine))
      (λ z. let a = reported.1 z in omega (arith, a, same, mine, none))))

  totals_linked : (index : ℕ) → (bytes_of index (with_file u d (entered p.file name n now)).files ≡ bytes_of index (tree_in k).files) × (files_of index (with_file u d (entered p.file name n now)).files ≡ files_of index (tree_in k).files)
  totals_linked index =
      let g2 : File = record f.file { ctime = now } in
      let w2 : File = entered p.file name n now in
      let a = bytes_changed (tree_in k) n f.file g2 (shown k n f has.at_file) refl index in
      let b = bytes_changed u d p.file w2 dir_u.0 (entered_placed p.file name n now).volume index in
      let no_more : length (bytes_in w2.kind) ≡ length (bytes_in p.file.kind) = ap length (entered_bytes p.file.kind name n) in
      let first : bytes_of index u.files ≡ bytes_of index (tree_in k).files = by_number f.file.volume index (λ s. let y = a.0 s in omega (arith, y)) (λ o. a.1 o) in
      let second : bytes_of index (with_file u d w2).files ≡ bytes_of index u.files = by_number p.file.volume index (λ s. let y = b.0 s in omega (arith, y, no_more)) (λ o. b.1 o) in (
        second ∙ first,
        count_changed u d p.file w2 dir_u.0 (entered_placed p.file name n now).volume index ∙ count_changed (tree_in k) n f.file g2 (shown k n f has.at_file) refl index,
      )

  pub agree_after_link : Agrees (counted_after_link k n g d w)
  agree_after_link = record {
    law = subst Law (sym view_after_link) (law_after_link (tree_in k) n d name now has.may keeps.law);
    links = λ m h e. links_linked m h e ∙ ap (λ fs. nlink fs m h.file) (sym files_linked);
    totals = λ index c e. let r = keeps.totals index c e in let s = totals_linked index in
        subst (λ fs. IsCounted fs index c) (sym files_linked) (record { bytes = r.bytes ∙ sym s.0; files = r.files ∙ sym s.1 });
    limits = keeps.limits;
  }

-- ---- a volume

abbrev pub counted_after_add_volume : CountedTree → Volume → CountedFile → CountedTree
counted_after_add_volume k v root = record { files = k.files ++ (k.next, root) ∷ []; next = k.next + 1; key = k.key; volumes = k.volumes ++ record { volume = v; bytes = 0; files = 1 } ∷ []; limits = k.limits }

pub view_after_add_volume : (k : CountedTree) (v : Volume) (root : CountedFile) → tree_in (counted_after_add_volume k v root) ≡ with_new_volume (tree_in k) v root.file
view_after_add_volume k v root =
    ap (λ fs. record { files = fs; next = k.next + 1; key = k.key; volumes = map (λ (c : CountedVolume). c.volume) (k.volumes ++ record { volume = v; bytes = 0; files = 1 } ∷ []); limits = k.limits }) (shows_push (λ (a : CountedFile). a.file) k.next root k.files)
    ∙ ap (λ vs. record { files = (tree_in k).files ++ (k.next, root.file) ∷ []; next = k.next + 1; key = k.key; volumes = vs; limits = k.limits }) (map-append (λ (c : CountedVolume). c.volume) k.volumes (record { volume = v; bytes = 0; files = 1 } ∷ []))

pub agree_after_add_volume : (k : CountedTree) (v : Volume) (root : CountedFile) → Agrees k → MayBeFounded (tree_in k) v root.file → root.nlink ≡ 2 → v.max_bytes < 2 ^ 64 → v.max_files < 2 ^ 64 → Agrees (counted_after_add_volume k v root)
agree_after_add_volume k v root keeps may two wide_bytes wide_files =
    let t = tree_in k in
    let c0 : CountedVolume = record { volume = v; bytes = 0; files = 1 } in
    let fs : files_in (k.files ++ (k.next, root) ∷ []) ≡ (with_new_file t root.file).files = shows_push (λ (a : CountedFile). a.file) k.next root k.files in
    let places : length t.volumes ≡ length k.volumes = length-map k.volumes (λ (c : CountedVolume). c.volume) in
    let is_counted : (index : ℕ) (c : CountedVolume) → slice_get (k.volumes ++ c0 ∷ []) index ≡ Some c → IsCounted (with_new_file t root.file).files index c = λ index c e.
    let bytes = bytes_born t root.file index in let files = files_born t root.file index in
    elim (get_push k.volumes c0 c index e) [
      | inl was ↦ let r = keeps.totals index c was in
          let low = slice_get_within k.volumes index c was in
          let vol = may.volume in
          let off : root.file.volume ≢ index = λ s. omega (arith, s, vol, places, low) in
          record { bytes = r.bytes ∙ sym (bytes.1 off); files = r.files ∙ sym (files.1 off) }
      | inr is ↦ let here : root.file.volume ≡ index = may.volume ∙ places ∙ sym is.0 in
          let at_index : index ≡ length t.volumes = is.0 ∙ sym places in
          let none : bytes_of index t.files ≡ 0 = ap (λ i. bytes_of i t.files) at_index ∙ no_bytes_yet t keeps.law in
          let no_file : files_of index t.files ≡ 0 = ap (λ i. files_of i t.files) at_index ∙ no_files_yet t keeps.law in
          let empty : length (bytes_in root.file.kind) ≡ 0 = ap length may.no_bytes in
          let b = bytes.0 here in let n = files.0 here in
          let cb : c.bytes ≡ 0 = ap (λ (c : CountedVolume). c.bytes) (sym is.1) in
          let cn : c.files ≡ 1 = ap (λ (c : CountedVolume). c.files) (sym is.1) in
          record { bytes = omega (arith, none, empty, b, cb); files = omega (arith, no_file, n, cn) }
    ] in
    record {
      law = subst Law (sym (view_after_add_volume k v root)) (law_with_new_volume t v root.file keeps.law may);
      links = λ m h e. push_back k.next m root h k.files (free_number k keeps.law) e
          (λ s is. let first = nlink_new t root.file keeps.law may.empty in
          let yes : (if is_directory root.file.kind then 2 else 0) ≡ 2 = if_true 2 zero may.is_dir in
          let here : nlink (files_in (k.files ++ (k.next, root) ∷ [])) m h.file ≡ nlink (with_new_file t root.file).files t.next root.file = ap (λ l. nlink l m h.file) fs ∙ ap (λ i. nlink (with_new_file t root.file).files i h.file) s ∙ ap (λ (a : CountedFile). nlink (with_new_file t root.file).files t.next a.file) (sym is) in
          let mine : h.nlink ≡ root.nlink = ap (λ (a : CountedFile). a.nlink) (sym is) in
          omega (arith, first, yes, here, mine, two))
          (λ o was. keeps.links m h was ∙ sym (ap (λ l. nlink l m h.file) fs ∙ nlink_born t root.file m h.file keeps.law may.empty (shown k m h was)));
      totals = λ index c e. subst (λ l. IsCounted l index c) (sym fs) (is_counted index c e);
      limits = λ index c e. elim (get_push k.volumes c0 c index e) [
        | inl was ↦ keeps.limits index c was
        | inr is ↦ subst (λ (c : CountedVolume). (c.volume.max_bytes < 2 ^ 64) × (c.volume.max_files < 2 ^ 64)) is.1 (wide_bytes, wide_files)
      ];
    }
