-- What is kept beside the tree, after a file has come into another directory, and after it has an entry there.
use Rattle.std.proofs.Common.{◌≡◌, ◌≢◌, ℕ, ◌+◌, true, false, List, length, Some, refl, sym, ap, subst, ◌∙◌, arith}
use Rattle.std.specs.Prelude.{nat_eq}
use Rattle.std.proofs.lemmas.Bool.{eq-eqb}
use Rattle.nfs_attrs.specs.declared.moment.Moment.{Moment}
use Rattle.nfs_inodes.specs.Tree.{Tree, File, at, one_when, is_directory, names_of, nlink}
use Rattle.nfs_inodes.specs.Law.{Law, LivesAsDirectory}
use Rattle.nfs_inodes.specs.Changes.{with_file, entered, moved_to}
use Rattle.nfs_inodes.specs.Counts.{CountedFile, CountedTree, Agrees, tree_in}
use Rattle.nfs_inodes.proofs.Lists.{by_number, by_test, if_false, same_some}
use Rattle.nfs_inodes.proofs.law.WithEntry.{entered_placed, entered_bytes, nlink_there, nlink_elsewhere, one_other}
use Rattle.nfs_inodes.proofs.counts.Operations.{shown}
use Rattle.nfs_inodes.proofs.law.Moved.{MayMove, has_moved, nlink_moved, law_moved}
use Rattle.nfs_inodes.proofs.counts.FileChanged.{AgreesBut, agrees_whole, recounted, agrees_recounted, same_totals}

-- ---- another directory

-- file n, with directory d as its parent
abbrev pub counted_moved : CountedTree → ℕ → ℕ → Moment → CountedFile → CountedTree
counted_moved k n d now f = recounted k n (record { file = moved_to f.file d now; nlink = f.nlink }) k.volumes

pub agrees_moved : (k : CountedTree) (n d : ℕ) (now : Moment) (f : CountedFile) → AgreesBut n k → at n k.files ≡ Some f → MayMove (tree_in k) n d f.file → AgreesBut n (counted_moved k n d now f)
agrees_moved k n d now f agrees at_n may =
    let t : Tree = tree_in k in
    let like = has_moved f.file d now in
    agrees_recounted n k n f (record { file = moved_to f.file d now; nlink = f.nlink }) k.volumes (record {
      at_file = at_n;
      law = law_moved t n d now f.file agrees.law may;
      here = λ o. absurd (o refl);
      others = λ m h o other e. agrees.links m h other e ∙ sym (nlink_moved t n d now f.file (shown k n f at_n) m h.file h.file (record { tag = refl; volume = refl; directory = refl; entries = refl; bytes = refl }));
      volumes = refl;
      totals = same_totals n k n f (moved_to f.file d now) agrees at_n like.volume (ap length like.bytes);
    })

-- ---- an entry more

-- directory d with an entry for file n
abbrev pub counted_entered : CountedTree → ℕ → List ℕ → ℕ → Moment → CountedFile → ℕ → CountedTree
counted_entered k d name n now dir links = recounted k d (record { file = entered dir.file name n now; nlink = dir.nlink + links }) k.volumes

pub agrees_entered : (k : CountedTree) (d n : ℕ) (now : Moment) (name : List ℕ) (p f : CountedFile) → AgreesBut n k → at d k.files ≡ Some p → is_directory p.file.kind ≡ true → at n k.files ≡ Some f → d ≢ n → Law (with_file (tree_in k) d (entered p.file name n now)) →
    (is_directory f.file.kind ≡ true → f.nlink ≡ nlink (tree_in k).files n f.file) → (is_directory f.file.kind ≡ false → f.nlink ≡ names_of n (tree_in k).files + 1) → Agrees (counted_entered k d name n now p (one_when (is_directory f.file.kind)))
agrees_entered k d n now name p f agrees at_d is_dir at_n apart law as_directory as_file =
    let t : Tree = tree_in k in
    let g : File = entered p.file name n now in
    let dir : LivesAsDirectory t d p.file = (shown k d p at_d, is_dir) in
    let links : ℕ = one_when (is_directory f.file.kind) in
    agrees_whole (counted_entered k d name n now p links) (agrees_recounted 0 k d p (record { file = g; nlink = p.nlink + links }) k.volumes (record {
      at_file = at_d;
      law = law;
      here = λ o. let reported = nlink_there t d n now name p.file f.file dir (shown k n f at_n) in let was = agrees.links d p apart at_d in omega (arith, reported, was);
      others = λ m h o other e. by_number m n
          (λ s. let same : f ≡ h = same_some (sym at_n ∙ ap (λ i. at i k.files) (sym s) ∙ e) in
          subst (λ (h : CountedFile). h.nlink ≡ nlink (with_file t d g).files m h.file) same (its_links m s))
          (λ q. let reported = nlink_elsewhere t d n now name p.file agrees.law.rising dir m h.file in
          let was = agrees.links m h q e in
          let none : one_when (nat_eq n m) ≡ 0 = one_other m (record { cookie = 0; name = name; number = n }) q in
          by_test (is_directory h.file.kind) (λ y. let a = reported.0 y in omega (arith, a, was)) (λ z. let a = reported.1 z in omega (arith, a, was, none)));
      volumes = refl;
      totals = same_totals n k d p g agrees at_d (entered_placed p.file name n now).volume (ap length (entered_bytes p.file.kind name n));
    }))
  where
    its_links : (m : ℕ) → m ≡ n → f.nlink ≡ nlink (with_file (tree_in k) d (entered p.file name n now)).files m f.file
    its_links m s =
        let reported = nlink_elsewhere (tree_in k) d n now name p.file agrees.law.rising (shown k d p at_d, is_dir) m f.file in
        let one : one_when (nat_eq n m) ≡ 1 = ap one_when (eq-eqb n m (sym s)) in
        by_test (is_directory f.file.kind)
        (λ y. as_directory y ∙ ap (λ i. nlink (tree_in k).files i f.file) (sym s) ∙ sym (reported.0 y))
        (λ z. let a = reported.1 z in let b = as_file z in
        let named : nlink (tree_in k).files m f.file ≡ names_of n (tree_in k).files = ap (λ i. nlink (tree_in k).files i f.file) s ∙ if_false _ _ z in
        omega (arith, a, b, named, one))
