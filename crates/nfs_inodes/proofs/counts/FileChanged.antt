-- What is kept beside the tree, after one of its files has changed.
use Rattle.std.proofs.Common.{◌≡◌, ◌≢◌, ℕ, zero, suc, ◌+◌, ◌<◌, List, [], ◌∷◌, map, length, Some, refl, sym, ap, subst, ◌∙◌, arith, add-zero}
use Rattle.std.specs.Prelude.{slice_get, ◌^◌}
use Rattle.nfs_handles.specs.NumberedFiles.{NumberedFiles}
use Rattle.nfs_inodes.specs.declared.limits.Limits.{Limits}
use Rattle.nfs_inodes.specs.declared.stored_file.StoredFile.{StoredFile}
use Rattle.nfs_inodes.specs.declared.stored_volume.StoredVolume.{StoredVolume}
use Rattle.nfs_inodes.specs.Tree.{Tree, File, Volume, at, with_at, bytes_in, nlink, bytes_of, files_of}
use Rattle.nfs_inodes.specs.Law.{Law, LawBut}
use Rattle.nfs_inodes.specs.Changes.{with_file}
use Rattle.nfs_inodes.specs.Counts.{CountedFile, CountedVolume, CountedTree, Agrees, IsCounted, files_in, tree_in, with_totals}
use Rattle.nfs_inodes.specs.Storage.{file_of, counted_file_of, counted_volume_of, counted_tree_of}
use Rattle.nfs_inodes.specs.StoredFiles.{Revalues}
use Rattle.nfs_inodes.proofs.Lists.{by_number, same_some, same_tail, not_both}
use Rattle.nfs_inodes.proofs.Maps.{shows_with, with_back, rising_bounds}
use Rattle.nfs_inodes.proofs.law.Alike.{Alike, alike_itself, one_alike, nlink_alike, bytes_changed, count_changed}
use Rattle.nfs_inodes.proofs.counts.Operations.{shown, volumes_stay}
use Rattle.nfs_inodes.proofs.StoredFiles.{counted_file, with_value_is}

abbrev pub AreLimits : Volume → Type 0
AreLimits v = (v.max_bytes < 2 ^ 64) × (v.max_files < 2 ^ 64)

-- what is kept agrees with the tree, where file x may be named by no entry
pub record AgreesBut (x : ℕ) (k : CountedTree) : Type 0 where
  pub law : LawBut x (tree_in k)
  pub links : (n : ℕ) (h : CountedFile) → n ≢ x → at n k.files ≡ Some h → h.nlink ≡ nlink (files_in k.files) n h.file
  pub totals : (index : ℕ) (c : CountedVolume) → slice_get k.volumes index ≡ Some c → IsCounted (files_in k.files) index c
  pub limits : (index : ℕ) (c : CountedVolume) → slice_get k.volumes index ≡ Some c → AreLimits c.volume

pub agrees_but_none : (k : CountedTree) → Agrees k → AgreesBut 0 k
agrees_but_none k agrees = record { law = agrees.law; links = λ n h o e. agrees.links n h e; totals = agrees.totals; limits = agrees.limits }

pub agrees_whole : (k : CountedTree) → AgreesBut 0 k → Agrees k
agrees_whole k agrees = record {
  law = agrees.law;
  links = λ n h e. agrees.links n h (λ s. let b = (rising_bounds 0 k.next (tree_in k).files n h.file agrees.law.rising (shown k n h e)).0 in omega (arith, b, s)) e;
  totals = agrees.totals;
  limits = agrees.limits;
}

-- ---- file n has another value, and volumes other totals

abbrev pub recounted : CountedTree → ℕ → CountedFile → List CountedVolume → CountedTree
recounted k n w news = record { files = with_at n w k.files; next = k.next; key = k.key; volumes = news; limits = k.limits }

abbrev pub volumes_in : List CountedVolume → List Volume
volumes_in cs = map (λ c. c.volume) cs

pub recounted_files : (k : CountedTree) (n : ℕ) (w : CountedFile) → files_in (with_at n w k.files) ≡ (with_file (tree_in k) n w.file).files
recounted_files k n w = shows_with (λ (a : CountedFile). a.file) n w k.files

pub view_recounted : (k : CountedTree) (n : ℕ) (w : CountedFile) (news : List CountedVolume) → volumes_in news ≡ volumes_in k.volumes → tree_in (recounted k n w news) ≡ with_file (tree_in k) n w.file
view_recounted k n w news same = ap (λ vs. record { files = files_in (with_at n w k.files); next = k.next; key = k.key; volumes = vs; limits = k.limits }) same
    ∙ ap (λ fs. record (tree_in k) { files = fs }) (recounted_files k n w)

-- the links and totals that are kept are those of the tree with the other file, where file y may be named by no entry
pub record Recounts (y : ℕ) (k : CountedTree) (n : ℕ) (f w : CountedFile) (news : List CountedVolume) : Type 0 where
  pub at_file : at n k.files ≡ Some f
  pub law : LawBut y (with_file (tree_in k) n w.file)
  pub here : n ≢ y → w.nlink ≡ nlink (with_file (tree_in k) n w.file).files n w.file
  pub others : (m : ℕ) (h : CountedFile) → m ≢ n → m ≢ y → at m k.files ≡ Some h → h.nlink ≡ nlink (with_file (tree_in k) n w.file).files m h.file
  pub volumes : volumes_in news ≡ volumes_in k.volumes
  pub totals : (index : ℕ) (c : CountedVolume) → slice_get news index ≡ Some c → IsCounted (with_file (tree_in k) n w.file).files index c × AreLimits c.volume

pub agrees_recounted : (y : ℕ) (k : CountedTree) (n : ℕ) (f w : CountedFile) (news : List CountedVolume) → Recounts y k n f w news → AgreesBut y (recounted k n w news)
agrees_recounted y k n f w news r =
    let files = recounted_files k n w in
    record {
      law = subst (LawBut y) (sym (view_recounted k n w news r.volumes)) r.law;
      links = λ m h o e. with_back n m f w h k.files r.at_file e
          (λ s is. ap (λ (a : CountedFile). a.nlink) (sym is) ∙ r.here (λ q. o (s ∙ q)) ∙ ap (λ i. nlink (with_file (tree_in k) n w.file).files i w.file) (sym s)
          ∙ ap (λ (a : CountedFile). nlink (with_file (tree_in k) n w.file).files m a.file) is ∙ ap (λ fs. nlink fs m h.file) (sym files))
          (λ q was. r.others m h q o was ∙ ap (λ fs. nlink fs m h.file) (sym files));
      totals = λ index c e. subst (λ fs. IsCounted fs index c) (sym files) (r.totals index c e).0;
      limits = λ index c e. (r.totals index c e).1;
    }

-- ---- totals

-- where files have the same bytes and volumes
pub same_totals : (x : ℕ) (k : CountedTree) (n : ℕ) (f : CountedFile) (g : File) → AgreesBut x k → at n k.files ≡ Some f → g.volume ≡ f.file.volume → length (bytes_in g.kind) ≡ length (bytes_in f.file.kind) →
    (index : ℕ) (c : CountedVolume) → slice_get k.volumes index ≡ Some c → IsCounted (with_file (tree_in k) n g).files index c × AreLimits c.volume
same_totals x k n f g agrees at_file volume size index c e =
    let was = agrees.totals index c e in
    let bytes = bytes_changed (tree_in k) n f.file g (shown k n f at_file) volume index in
    let same : bytes_of index (with_file (tree_in k) n g).files ≡ bytes_of index (tree_in k).files = by_number f.file.volume index (λ s. let b = bytes.0 s in omega (arith, b, size)) bytes.1 in
    let files = count_changed (tree_in k) n f.file g (shown k n f at_file) volume index in
    (record { bytes = was.bytes ∙ sym same; files = was.files ∙ sym files }, agrees.limits index c e)

-- a volume before and after a change of the totals at a place: so much more, and then so much less
record Between (news olds : List CountedVolume) (index b n c m p : ℕ) (new : CountedVolume) : Type 0 where
  old : CountedVolume
  at_old : slice_get olds p ≡ Some old
  volume : new.volume ≡ old.volume
  here : p ≡ index → (new.bytes + b ≡ old.bytes + c) × (new.files + n ≡ old.files + m)
  elsewhere : p ≢ index → (new.bytes ≡ old.bytes) × (new.files ≡ old.files)

totals_between : (news olds : List CountedVolume) (index b n c m : ℕ) → with_totals news index b n ≡ with_totals olds index c m → (p : ℕ) (new : CountedVolume) → slice_get news p ≡ Some new → Between news olds index b n c m p new
totals_between [] olds index b n c m same p new e = absurd (not_both refl e)
totals_between (x ∷ xs) [] zero b n c m same p new e = cc
totals_between (x ∷ xs) [] (suc index) b n c m same p new e = cc
totals_between (x ∷ xs) (y ∷ ys) zero b n c m same zero new e =
    let is : x ≡ new = same_some e in
    let both : record { volume = x.volume; bytes = x.bytes + b; files = x.files + n } ≡ record { volume = y.volume; bytes = y.bytes + c; files = y.files + m } = same_some (ap (λ l. slice_get l 0) same) in
    subst (Between (x ∷ xs) (y ∷ ys) zero b n c m zero) is (record {
      old = y;
      at_old = refl;
      volume = ap (λ (k : CountedVolume). k.volume) both;
      here = λ s. (ap (λ (k : CountedVolume). k.bytes) both, ap (λ (k : CountedVolume). k.files) both);
      elsewhere = λ o. absurd (o refl);
    })
totals_between (x ∷ xs) (y ∷ ys) zero b n c m same (suc p) new e =
    let rest : xs ≡ ys = same_tail same in
    record { old = new; at_old = subst (λ l. slice_get l p ≡ Some new) rest e; volume = refl; here = λ s. absurd (let z : suc p ≡ 0 = s in omega (arith, z)); elsewhere = λ o. (refl, refl) }
totals_between (x ∷ xs) (y ∷ ys) (suc index) b n c m same zero new e =
    let is : x ≡ new = same_some e in
    let head : x ≡ y = same_some (ap (λ l. slice_get l 0) same) in
    record { old = new; at_old = ap Some (sym head ∙ is); volume = refl; here = λ s. absurd (let z : 0 ≡ suc index = s in omega (arith, z)); elsewhere = λ o. (refl, refl) }
totals_between (x ∷ xs) (y ∷ ys) (suc index) b n c m same (suc p) new e =
    let r = totals_between xs ys index b n c m (same_tail same) p new e in
    record { old = r.old; at_old = r.at_old; volume = r.volume; here = λ s. r.here (let z : suc p ≡ suc index = s in omega (arith, z)); elsewhere = λ o. r.elsewhere (λ s. o (ap suc s)) }

-- totals and limits after it, where the files have changed alike
pub totals_moved : (x : ℕ) (k : CountedTree) (files : List (ℕ × File)) (news : List CountedVolume) (index b n c m : ℕ) → AgreesBut x k → with_totals news index b n ≡ with_totals k.volumes index c m →
    ((p : ℕ) → (p ≡ index → (bytes_of p files + b ≡ bytes_of p (files_in k.files) + c) × (files_of p files + n ≡ files_of p (files_in k.files) + m)) × (p ≢ index → (bytes_of p files ≡ bytes_of p (files_in k.files)) × (files_of p files ≡ files_of p (files_in k.files)))) →
    (p : ℕ) (new : CountedVolume) → slice_get news p ≡ Some new → IsCounted files p new × AreLimits new.volume
totals_moved x k files news index b n c m agrees same sums p new e =
    let r = totals_between news k.volumes index b n c m same p new e in
    let t = agrees.totals p r.old r.at_old in
    let bytes = t.bytes in let counts = t.files in
    let reported = sums p in (
      by_number p index
          (λ s. let y = reported.0 s in let z = r.here s in let y0 = y.0 in let y1 = y.1 in let z0 = z.0 in let z1 = z.1 in record { bytes = omega (arith, bytes, y0, z0); files = omega (arith, counts, y1, z1) })
          (λ o. let y = reported.1 o in let z = r.elsewhere o in record { bytes = z.0 ∙ bytes ∙ sym y.0; files = z.1 ∙ counts ∙ sym y.1 }),
      subst AreLimits (sym r.volume) (agrees.limits p r.old r.at_old),
    )

-- the volumes stay
pub volumes_moved : (news olds : List CountedVolume) (index b n c m : ℕ) → with_totals news index b n ≡ with_totals olds index c m → volumes_in news ≡ volumes_in olds
volumes_moved news olds index b n c m same = sym (volumes_stay news index b n) ∙ ap volumes_in same ∙ volumes_stay olds index c m

-- ---- a file that stays where it is

-- file n has other bytes or attributes
pub agrees_alike : (k : CountedTree) (n : ℕ) (f w : CountedFile) (news : List CountedVolume) → Agrees k → at n k.files ≡ Some f → Alike f.file w.file → w.nlink ≡ f.nlink → Law (with_file (tree_in k) n w.file) → volumes_in news ≡ volumes_in k.volumes →
    ((index : ℕ) (c : CountedVolume) → slice_get news index ≡ Some c → IsCounted (with_file (tree_in k) n w.file).files index c × AreLimits c.volume) → Agrees (recounted k n w news)
agrees_alike k n f w news agrees at_file alike links law volumes totals =
    let like = one_alike (tree_in k) n f.file w.file agrees.law.rising agrees.law.numbers (shown k n f at_file) alike in
    let u : Tree = with_file (tree_in k) n w.file in
    agrees_whole (recounted k n w news) (agrees_recounted 0 k n f w news (record {
      at_file = at_file;
      law = law;
      here = λ o. links ∙ agrees.links n f at_file ∙ sym (nlink_alike (tree_in k) u like n f.file w.file alike);
      others = λ m h o p e. agrees.links m h e ∙ sym (nlink_alike (tree_in k) u like m h.file h.file (alike_itself h.file));
      volumes = volumes;
      totals = totals;
    }))

-- ---- what is kept

-- a value changed in the files, and totals in the volumes
pub kept_revalued : {limits : Limits} {From : StoredFile → StoredFile → Type 0} (a b : NumberedFiles StoredFile) (olds news : List StoredVolume) (n : ℕ) (r : Revalues a n From b) → counted_tree_of limits b news ≡ recounted (counted_tree_of limits a olds) n (counted_file_of r.was.tag r.value) (map counted_volume_of news)
kept_revalued {limits} a b olds news n r =
    ap (λ (u : NumberedFiles StoredFile). counted_tree_of limits u news) (r.new_is ∙ with_value_is a n r.was r.value r.at_was)
    ∙ ap (λ fs. record { files = fs; next = a.next; key = a.key; volumes = map counted_volume_of news; limits = limits }) (shows_with counted_file n (record { tag = r.was.tag; value = r.value }) a.files)

-- and the file that it is then
pub kept_as : {limits : Limits} {From : StoredFile → StoredFile → Type 0} (a b : NumberedFiles StoredFile) (olds news : List StoredVolume) (n : ℕ) (r : Revalues a n From b) (g : File) → file_of r.was.tag r.value ≡ g → counted_tree_of limits b news ≡ recounted (counted_tree_of limits a olds) n (record { file = g; nlink = r.value.nlink }) (map counted_volume_of news)
kept_as {limits} a b olds news n r g is = kept_revalued a b olds news n r ∙ ap (λ f. recounted (counted_tree_of limits a olds) n (record { file = f; nlink = r.value.nlink }) (map counted_volume_of news)) is

-- no totals more
pub totals_nothing : (cs : List CountedVolume) (index : ℕ) → with_totals cs index 0 0 ≡ cs
totals_nothing [] index = refl
totals_nothing (c ∷ cs) zero = ap (λ b. record { volume = c.volume; bytes = b; files = c.files + 0 } ∷ cs) (add-zero c.bytes) ∙ ap (λ n. record { volume = c.volume; bytes = c.bytes; files = n } ∷ cs) (add-zero c.files)
totals_nothing (c ∷ cs) (suc index) = ap (λ l. c ∷ l) (totals_nothing cs index)
