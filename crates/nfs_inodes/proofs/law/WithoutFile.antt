-- The law after a file is gone, and after it has lost an entry.
use Rattle.std.proofs.Common.{inl, inr, ◌≡◌, ◌≢◌, ◌⊎◌, ℕ, zero, suc, ◌≤◌, true, false, get_or, List, [], ◌∷◌, Some, refl, sym, ap, subst, ◌∙◌, arith}
use Rattle.std.specs.Prelude.{Contains, slice_get, nat_eq}
use Rattle.std.proofs.lemmas.Bool.{eqb-true, eq-eqb}
use Rattle.std.proofs.lemmas.List.Sums.{get_or-le-sum_by}
use Rattle.nfs_attrs.specs.declared.moment.Moment.{Moment}
use Rattle.nfs_inodes.specs.Tree.{Tree, File, Entry, Volume, at, on_some, one_when, entries_in, is_directory, parent_in, names_in, names_of, names_directory, subdirectories, nlink, bytes_for, one_for}
use Rattle.nfs_inodes.specs.Law.{Law, LawBut, IsRoot, Lives, LivesAsDirectory, climb, parent_of}
use Rattle.nfs_inodes.specs.Changes.{with_file, without_file, touched, released}
use Rattle.nfs_inodes.proofs.Lists.{by_test, by_number, if_true, if_false, true_and_false, same_some, not_both, not_in_empty}
use Rattle.nfs_inodes.proofs.Maps.{rising_without, at_with_other, at_without_other, without_back, sum_without, sum_some}
use Rattle.nfs_inodes.proofs.Numbers.{numbers_gone}
use Rattle.nfs_inodes.proofs.law.Alike.{nlink_by, nlink_alike, alike_itself, climb_alike, parent_changed, one_alike}
use Rattle.nfs_inodes.proofs.law.WithEntry.{one_same}
use Rattle.nfs_inodes.proofs.law.WithNewFile.{sum_in}
use Rattle.nfs_inodes.proofs.law.Operations.{touch_alike, touched_is, law_touched}

-- a file that an entry names has a name
pub named_by : (t : Tree) (d : ℕ) (f : File) (e : Entry) → Lives t d f → Contains (entries_in f.kind) e → 1 ≤ names_of e.number t.files
named_by t d f e at_d in_f =
    let w : Entry → ℕ = λ a. one_when (nat_eq a.number e.number) in
    let all = sum_some (λ (k : File). names_in e.number (entries_in k.kind)) d f t.files at_d in
    let one = one_same e.number e refl in
    let here : w (get_or (entries_in f.kind) in_f.0 e) ≤ names_in e.number (entries_in f.kind) = get_or-le-sum_by w (entries_in f.kind) in_f.0 e in_f.1 in
    let is : w (get_or (entries_in f.kind) in_f.0 e) ≡ w e = ap w in_f.2 in
    omega (arith, all, one, here, is)

pub not_named : (t : Tree) (n d : ℕ) (f : File) (e : Entry) → names_of n t.files ≡ 0 → Lives t d f → Contains (entries_in f.kind) e → e.number ≢ n
not_named t n d f e none at_d in_f s =
    let some = named_by t d f e at_d in_f in
    let same : names_of e.number t.files ≡ names_of n t.files = ap (λ k. names_of k t.files) s in
    omega (arith, none, some, same)

pub root_or_not : (vs : List Volume) (n : ℕ) → IsRoot vs n ⊎ (IsRoot vs n → ⊥)
root_or_not [] n = inr (λ r. absurd (not_both refl r.2))
root_or_not (v ∷ vs) n = by_number v.root n
    (λ s. inl (0, v, refl, s))
    (λ o. elim (root_or_not vs n) [
      | inl r ↦ inl (suc r.0, r.1, r.2, r.3)
      | inr none ↦ inr (λ r. after v vs n o none r.0 r.1 r.2 r.3)
    ])
  where
    after : (v : Volume) (vs : List Volume) (n : ℕ) → v.root ≢ n → (IsRoot vs n → ⊥) → (index : ℕ) (w : Volume) → slice_get (v ∷ vs) index ≡ Some w → w.root ≡ n → ⊥
    after v vs n o none zero w e s = o (ap (λ (k : Volume). k.root) (same_some e) ∙ s)
    after v vs n o none (suc index) w e s = none (index, w, e, s)

-- of the other files what they are, their ways and their links stay
pub record LeavesOthers (n : ℕ) (old new : Tree) : Type 0 where
  pub lives : (m : ℕ) (h : File) → m ≢ n → Lives old m h → Lives new m h
  pub climbs : (steps m : ℕ) (h : File) → m ≢ n → LivesAsDirectory old m h → climb steps new.files m ≡ climb steps old.files m
  pub limits : new.limits ≡ old.limits
  pub links : (m : ℕ) (h : File) → m ≢ n → Lives old m h → nlink new.files m h ≡ nlink old.files m h

-- ---- without the file

-- a file that no entry names, and that has none
pub record MayBeRemoved (t : Tree) (n : ℕ) : Type 0 where
  pub file : File
  pub at_file : Lives t n file
  pub empty : entries_in file.kind ≡ []
  pub unnamed : names_of n t.files ≡ 0
  pub free : IsRoot t.volumes n → ⊥

module _ (t : Tree) (n : ℕ) (law : LawBut n t) (may : MayBeRemoved t n) where
  abbrev new : Tree
  new = without_file t n

  stays : (m : ℕ) (h : File) → m ≢ n → Lives t m h → Lives new m h
  stays m h o e = at_without_other n m t.files o ∙ e

  back : (m : ℕ) (h : File) → Lives new m h → (m ≢ n) × Lives t m h
  back m h e = without_back 0 t.next n m h t.files law.rising e

  pub names_gone : (m : ℕ) → names_of m new.files ≡ names_of m t.files
  names_gone m =
      let s = sum_without (λ (k : File). names_in m (entries_in k.kind)) n may.file t.files may.at_file in
      let z : names_in m (entries_in may.file.kind) ≡ 0 = ap (names_in m) may.empty in
      omega (arith, s, z)

  -- the parent of no other directory
  no_parent : (m : ℕ) (h : File) → m ≢ n → LivesAsDirectory t m h → parent_in h.kind ≢ n
  no_parent m h o at_m s = elim (root_or_not t.volumes m) [
    | inl r ↦ let l = law.roots r.0 r.1 r.2 in
        let same : l.0 ≡ h = same_some (sym l.1.0 ∙ ap (λ k. at k t.files) r.3 ∙ at_m.0) in
        o (sym r.3 ∙ sym l.2 ∙ ap (λ (k : File). parent_in k.kind) same ∙ s)
    | inr free ↦ let l = law.stands m h o at_m free in
        let same : may.file ≡ l.0 = same_some (sym may.at_file ∙ ap (λ k. at k t.files) (sym s) ∙ l.1) in
        not_in_empty (entries_in l.0.kind) l.2 (ap (λ (k : File). entries_in k.kind) (sym same) ∙ may.empty) l.3
  ]

  parent_gone : (m : ℕ) → m ≢ n → parent_of new.files m ≡ parent_of t.files m
  parent_gone m o = ap (λ o. on_some o 0 (λ k. parent_in k.kind)) (at_without_other n m t.files o)

  climb_gone : (k m : ℕ) (h : File) → m ≢ n → LivesAsDirectory t m h → climb k new.files m ≡ climb k t.files m
  climb_gone zero m h o at_m = refl
  climb_gone (suc k) m h o at_m =
      let home = law.homes m h at_m in
      let up : parent_of t.files m ≡ parent_in h.kind = ap (λ o. on_some o 0 (λ k. parent_in k.kind)) at_m.0 in
      ap (climb k new.files) (parent_gone m o)
      ∙ climb_gone k (parent_of t.files m) home.0 (λ s. no_parent m h o at_m (sym up ∙ s)) (ap (λ j. at j t.files) up ∙ home.1.0, home.1.1)

  pub subdirectories_gone : (m : ℕ) (h : File) → Lives t m h → subdirectories new.files (entries_in h.kind) ≡ subdirectories t.files (entries_in h.kind)
  subdirectories_gone m h at_m = sum_in (λ e. one_when (names_directory new.files e)) (λ e. one_when (names_directory t.files e)) (entries_in h.kind)
      (λ e c. ap (λ o. one_when (on_some o false (λ k. is_directory k.kind))) (at_without_other n e.number t.files (not_named t n m h e may.unnamed at_m c)))

  pub nlink_gone : (m : ℕ) (h : File) → Lives t m h → nlink new.files m h ≡ nlink t.files m h
  nlink_gone m h at_m = nlink_by (is_directory h.kind) (is_directory h.kind) (subdirectories new.files (entries_in h.kind)) (subdirectories t.files (entries_in h.kind)) (names_of m new.files) (names_of m t.files)
      refl (subdirectories_gone m h at_m) (names_gone m)

  pub law_without_file : Law new
  law_without_file = record {
    numbers = numbers_gone t n law.numbers;
    rising = rising_without 0 t.next n t.files law.rising;
    sound = λ m h e. law.sound m h (back m h e).1;
    placed = λ m h e. law.placed m h (back m h e).1;
    entries = λ d h e at_d in_h. let was = (back d h at_d).1 in
        let l = law.entries d h e was in_h in (l.0, stays e.number l.0 (not_named t n d h e may.unnamed was in_h) l.1, l.2);
    absent = λ m e. names_gone m ∙ by_number m n
        (λ s. ap (λ k. names_of k t.files) s ∙ may.unnamed)
        (λ o. law.absent m (sym (at_without_other n m t.files o) ∙ e));
    roots = λ index v e. let l = law.roots index v e in
        (l.0, (stays v.root l.0 (λ s. may.free (index, v, e, s)) l.1.0, l.1.1), l.2, l.3, names_gone v.root ∙ l.4);
    once = λ m h other dir free. let b = back m h dir.0 in names_gone m ∙ law.once m h b.0 (b.1, dir.1) free;
    parents = λ d h e g at_d in_h dir. law.parents d h e g (back d h at_d).1 in_h ((back e.number g dir.0).1, dir.1);
    stands = λ m h other dir free. let b = back m h dir.0 in let l = law.stands m h b.0 (b.1, dir.1) free in
        (l.0, stays (parent_in h.kind) l.0 (no_parent m h b.0 (b.1, dir.1)) l.1, l.2, l.3, l.4);
    homes = λ m h dir. let b = back m h dir.0 in let l = law.homes m h (b.1, dir.1) in
        (l.0, (stays (parent_in h.kind) l.0 (no_parent m h b.0 (b.1, dir.1)) l.1.0, l.1.1), l.2);
    reached = λ m h dir. let b = back m h dir.0 in let r = law.reached m h (b.1, dir.1) in
        (r.0, r.1, r.2, climb_gone r.0 m h b.0 (b.1, dir.1) ∙ r.3);
    named = λ m h other at_m dir. let b = back m h at_m in subst (λ k. 1 ≤ k) (sym (names_gone m)) (law.named m h b.0 b.1 dir);
    links = λ m h e. let b = back m h e in subst (λ k. k ≤ t.limits.links) (sym (nlink_gone m h b.1)) (law.links m h b.1);
    volumes = law.volumes;
    limits = law.limits;
    bytes = λ index v e. let s = sum_without (bytes_for index) n may.file t.files may.at_file in let l = law.bytes index v e in omega (arith, s, l);
    count = λ index v e. let s = sum_without (one_for index) n may.file t.files may.at_file in let l = law.count index v e in omega (arith, s, l);
  }

  pub others_without_file : LeavesOthers n t new
  others_without_file = record { limits = refl; lives = stays; climbs = climb_gone; links = λ m h other at_m. nlink_gone m h at_m }

-- ---- a file that has lost an entry

-- where a file that is no directory has a name, none is without
pub law_whole : (t : Tree) (n : ℕ) (f : File) → LawBut n t → Lives t n f → is_directory f.kind ≡ false → 1 ≤ names_of n t.files → Law t
law_whole t n f law at_n is_file some =
    let file_only : (m : ℕ) (h : File) → m ≡ n → LivesAsDirectory t m h → ⊥ = λ m h s dir. true_and_false (ap (λ (k : File). is_directory k.kind) (same_some (sym at_n ∙ ap (λ k. at k t.files) (sym s) ∙ dir.0)) ∙ dir.1) is_file in
    record {
      numbers = law.numbers;
      rising = law.rising;
      sound = law.sound;
      placed = law.placed;
      entries = law.entries;
      absent = law.absent;
      roots = law.roots;
      once = λ m h other dir. law.once m h (λ s. file_only m h s dir) dir;
      parents = law.parents;
      stands = λ m h other dir. law.stands m h (λ s. file_only m h s dir) dir;
      homes = law.homes;
      reached = law.reached;
      named = λ m h other at_m dir. by_number m n (λ s. subst (λ k. 1 ≤ names_of k t.files) (sym s) some) (λ o. law.named m h o at_m dir);
      links = law.links;
      volumes = law.volumes;
      limits = law.limits;
      bytes = law.bytes;
      count = law.count;
    }

-- a file that has no entries, and no name where it is a directory
pub record MayBeReleased (t : Tree) (n : ℕ) : Type 0 where
  pub file : File
  pub at_file : Lives t n file
  pub empty : entries_in file.kind ≡ []
  pub unnamed : is_directory file.kind ≡ true → names_of n t.files ≡ 0
  pub free : IsRoot t.volumes n → ⊥

pub law_released : (t : Tree) (n : ℕ) (now : Moment) → LawBut n t → MayBeReleased t n → Law (released t n now)
law_released t n now law may = by_test (nat_eq (names_of n t.files) 0)
    (λ y. subst Law (sym (if_true (without_file t n) (touched t n now) y))
    (law_without_file t n law (record { file = may.file; at_file = may.at_file; empty = may.empty; unnamed = eqb-true (names_of n t.files) 0 y; free = may.free })))
    (λ z. let some : names_of n t.files ≢ 0 = λ s. true_and_false (eq-eqb (names_of n t.files) 0 s) z in
    let is_file : is_directory may.file.kind ≡ false = by_test (is_directory may.file.kind) (λ d. absurd (some (may.unnamed d))) (λ f. f) in
    subst Law (sym (if_false (without_file t n) (touched t n now) z ∙ touched_is t n now may.file may.at_file))
    (law_touched t n now may.file (law_whole t n may.file law may.at_file is_file (omega (arith, some))) may.at_file))

pub others_touched : (t : Tree) (n : ℕ) (now : Moment) (f : File) → LawBut n t → Lives t n f → LeavesOthers n t (with_file t n (record f { ctime = now }))
others_touched t n now f law at_n =
    let g : File = record f { ctime = now } in
    record {
      limits = refl;
      lives = λ m h other at_m. at_with_other n m g t.files other ∙ at_m;
      climbs = λ steps m h other at_m. climb_alike t.files (with_file t n g).files (parent_changed t n f g at_n refl) steps m;
      links = λ m h other at_m. nlink_alike t (with_file t n g) (one_alike t n f g law.rising law.numbers at_n (touch_alike f now)) m h h (alike_itself h);
    }

pub others_released : (t : Tree) (n : ℕ) (now : Moment) → LawBut n t → MayBeReleased t n → LeavesOthers n t (released t n now)
others_released t n now law may = by_test (nat_eq (names_of n t.files) 0)
    (λ y. subst (LeavesOthers n t) (sym (if_true (without_file t n) (touched t n now) y))
    (others_without_file t n law (record { file = may.file; at_file = may.at_file; empty = may.empty; unnamed = eqb-true (names_of n t.files) 0 y; free = may.free })))
    (λ z. subst (LeavesOthers n t) (sym (if_false (without_file t n) (touched t n now) z ∙ touched_is t n now may.file may.at_file))
    (others_touched t n now may.file law may.at_file))
