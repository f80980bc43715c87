-- What is kept beside the tree, after a directory has lost an entry, and after its file has gone or lost a link.
use Rattle.std.proofs.Common.{◌≡◌, ℕ, ◌+◌, ◌≤◌, true, false, List, length, Some, refl, sym, ap, subst, ◌∙◌, arith}
use Rattle.std.proofs.lemmas.Bool.{eq-eqb}
use Rattle.nfs_attrs.specs.declared.moment.Moment.{Moment}
use Rattle.nfs_inodes.specs.Tree.{Tree, File, Entry, at, without_at, one_when, entries_in, bytes_in, is_directory, names_of, nlink, bytes_for, one_for}
use Rattle.nfs_inodes.specs.Law.{Law, Lives}
use Rattle.nfs_inodes.specs.Changes.{with_file, left, without_file}
use Rattle.nfs_inodes.specs.Reading.{entry_named}
use Rattle.nfs_inodes.specs.Counts.{CountedFile, CountedVolume, CountedTree, Agrees, IsCounted, files_in, tree_in, with_totals}
use Rattle.nfs_inodes.proofs.Lists.{by_test, if_false}
use Rattle.nfs_inodes.proofs.Maps.{apart_number, shows_without, without_back, rising_shown, sum_without}
use Rattle.nfs_inodes.proofs.law.Alike.{alike_itself, one_alike, nlink_alike, bytes_here, bytes_elsewhere}
use Rattle.nfs_inodes.proofs.law.WithEntry.{one_other}
use Rattle.nfs_inodes.proofs.law.Operations.{touch_alike, law_touched}
use Rattle.nfs_inodes.proofs.counts.Operations.{shown}
use Rattle.nfs_inodes.proofs.law.WithoutEntry.{names_apart, left_placed, left_bytes, nlink_less_there, nlink_less_elsewhere, law_without_entry}
use Rattle.nfs_inodes.proofs.law.WithoutFile.{MayBeRemoved, nlink_gone, law_without_file, law_whole}
use Rattle.nfs_inodes.proofs.counts.FileChanged.{AgreesBut, agrees_but_none, agrees_whole, recounted, agrees_recounted, same_totals, totals_moved, volumes_moved, totals_nothing}

-- ---- an entry less

-- directory d without an entry, and with so many links
abbrev pub counted_left : CountedTree → ℕ → File → List ℕ → Moment → ℕ → CountedTree
counted_left k d dir name now links = recounted k d (record { file = left dir name now; nlink = links }) k.volumes

pub agrees_left : (k : CountedTree) (d links : ℕ) (now : Moment) (name : List ℕ) (f : CountedFile) (lost : Entry) (file : File) → Agrees k → at d k.files ≡ Some f → is_directory f.file.kind ≡ true → entry_named name (entries_in f.file.kind) ≡ Some lost →
    Lives (tree_in k) lost.number file → links + one_when (is_directory file.kind) ≡ f.nlink → AgreesBut lost.number (counted_left k d f.file name now links)
agrees_left k d links now name f lost file agrees at_d is_dir found at_lost less =
    let t : Tree = tree_in k in
    let at_dir : Lives t d f.file = shown k d f at_d in
    let apart = names_apart f.file (agrees.law.sound d f.file at_dir) in
    agrees_recounted lost.number k d f (record { file = left f.file name now; nlink = links }) k.volumes (record {
      at_file = at_d;
      law = law_without_entry t d now name f.file lost agrees.law (at_dir, is_dir) found;
      here = λ o. let reported = nlink_less_there t d now name f.file lost agrees.law.rising at_dir apart found file is_dir at_lost in let was = agrees.links d f at_d in omega (arith, reported, was, less);
      others = λ m h o other e.
          let reported = nlink_less_elsewhere t d now name f.file lost agrees.law.rising at_dir apart found m h.file in
          let was = agrees.links m h e in
          let none = one_other m lost other in
          by_test (is_directory h.file.kind) (λ y. let a = reported.0 y in omega (arith, a, was)) (λ z. let a = reported.1 z in omega (arith, a, was, none));
      volumes = refl;
      totals = same_totals 0 k d f (left f.file name now) (agrees_but_none k agrees) at_d (left_placed f.file name now).volume (ap length (left_bytes f.file.kind name));
    })

-- ---- a file less

-- without file n, and with other totals
abbrev pub counted_gone : CountedTree → ℕ → List CountedVolume → CountedTree
counted_gone k n news = record { files = without_at n k.files; next = k.next; key = k.key; volumes = news; limits = k.limits }

module _ (k : CountedTree) (n : ℕ) (h : CountedFile) (news : List CountedVolume) (at_n : at n k.files ≡ Some h) (given_back : with_totals news h.file.volume (length (bytes_in h.file.kind)) 1 ≡ k.volumes) where
  files_gone : files_in (without_at n k.files) ≡ (without_file (tree_in k) n).files
  files_gone = shows_without (λ (a : CountedFile). a.file) n k.files

  between : with_totals news h.file.volume (length (bytes_in h.file.kind)) 1 ≡ with_totals k.volumes h.file.volume 0 0
  between = given_back ∙ sym (totals_nothing k.volumes h.file.volume)

  pub view_gone : tree_in (counted_gone k n news) ≡ without_file (tree_in k) n
  view_gone = ap (λ vs. record { files = files_in (without_at n k.files); next = k.next; key = k.key; volumes = vs; limits = k.limits }) (volumes_moved news k.volumes h.file.volume (length (bytes_in h.file.kind)) 1 0 0 between)
      ∙ ap (λ fs. record (tree_in k) { files = fs }) files_gone

  pub agrees_gone : AgreesBut n k → MayBeRemoved (tree_in k) n → Agrees (counted_gone k n news)
  agrees_gone agrees may =
      let t : Tree = tree_in k in
      let at_t : Lives t n h.file = shown k n h at_n in
      let totals = totals_moved n k (without_file t n).files news h.file.volume (length (bytes_in h.file.kind)) 1 0 0 agrees between (λ p.
      let bytes = sum_without (bytes_for p) n h.file t.files at_t in
      let files = sum_without (one_for p) n h.file t.files at_t in (
        (λ s. let its = bytes_here p h.file (sym s) in let one : one_for p h.file ≡ 1 = ap one_when (eq-eqb h.file.volume p (sym s)) in (omega (arith, bytes, its), omega (arith, files, one))),
        (λ o. let its = bytes_elsewhere p h.file (λ s. o (sym s)) in let none : one_for p h.file ≡ 0 = ap one_when (apart_number h.file.volume p (λ s. o (sym s))) in (omega (arith, bytes, its), omega (arith, files, none))),
      )) in
      record {
        law = subst Law (sym view_gone) (law_without_file t n agrees.law may);
        links = λ m g e. let b = without_back 0 k.next n m g k.files (rising_shown (λ (a : CountedFile). a.file) 0 k.next k.files agrees.law.rising) e in
            agrees.links m g b.0 b.1 ∙ sym (nlink_gone t n agrees.law may m g.file (shown k m g b.1)) ∙ ap (λ fs. nlink fs m g.file) (sym files_gone);
        totals = λ p c e. subst (λ fs. IsCounted fs p c) (sym files_gone) (totals p c e).0;
        limits = λ p c e. (totals p c e).1;
      }

-- ---- a link less

-- file n, with its names as links
abbrev pub counted_kept : CountedTree → ℕ → File → Moment → ℕ → CountedTree
counted_kept k n file now links = recounted k n (record { file = record file { ctime = now }; nlink = links }) k.volumes

pub agrees_kept : (k : CountedTree) (n links : ℕ) (now : Moment) (f : CountedFile) → AgreesBut n k → at n k.files ≡ Some f → is_directory f.file.kind ≡ false → links ≡ names_of n (tree_in k).files → 1 ≤ links → Agrees (counted_kept k n f.file now links)
agrees_kept k n links now f agrees at_n is_file are some =
    let t : Tree = tree_in k in
    let g : File = record f.file { ctime = now } in
    let at_t : Lives t n f.file = shown k n f at_n in
    let like = one_alike t n f.file g agrees.law.rising agrees.law.numbers at_t (touch_alike f.file now) in
    let whole : Law t = law_whole t n f.file agrees.law at_t is_file (subst (λ m. 1 ≤ m) are some) in
    agrees_whole (counted_kept k n f.file now links) (agrees_recounted 0 k n f (record { file = g; nlink = links }) k.volumes (record {
      at_file = at_n;
      law = law_touched t n now f.file whole at_t;
      here = λ o. are ∙ sym (if_false _ _ is_file) ∙ sym (nlink_alike t (with_file t n g) like n f.file g (touch_alike f.file now));
      others = λ m h o other e. agrees.links m h o e ∙ sym (nlink_alike t (with_file t n g) like m h.file h.file (alike_itself h.file));
      volumes = refl;
      totals = same_totals n k n f g agrees at_n refl refl;
    }))
