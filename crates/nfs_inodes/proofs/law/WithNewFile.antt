-- The law after a new file.
use Rattle.std.proofs.Common.{inl, inr, ◌≡◌, ◌≢◌, ℕ, zero, suc, ◌+◌, ◌<◌, ◌≤◌, Bool, true, false, List, [], ◌∷◌, ◌++◌, sum_by, Some, None, refl, sym, ap, subst, ◌∙◌, arith, length-append}
use Rattle.std.specs.Prelude.{Contains, All, slice_get, length, nat_eq, ◌-◌, ◌^◌, if◌then◌else◌}
use Rattle.std.proofs.lemmas.Option.{slice_get_within}
use Rattle.std.proofs.lemmas.Bool.{eqb-true, eq-eqb}
use Rattle.std.proofs.lemmas.List.Sums.{sum_by-cons}
use Rattle.std.proofs.lemmas.List.Elements.{Contains-push, Contains-append_left, Contains-append_right, All-push}
use Rattle.std.proofs.lemmas.List.Quantifiers.{all_pairs_push}
use Rattle.nfs_inodes.specs.Tree.{Tree, File, Entry, Volume, at, on_some, one_when, entries_in, bytes_in, is_directory, parent_in, names_in, names_of, names_directory, subdirectories, nlink, bytes_for, one_for, bytes_of, files_of}
use Rattle.nfs_inodes.specs.Law.{Law, LawBut, IsSound, IsWithin, IsRoot, Lives, LivesAsDirectory, climb, parent_of}
use Rattle.nfs_inodes.specs.Changes.{with_new_file, with_new_volume}
use Rattle.nfs_inodes.proofs.Lists.{by_test, by_number, same_some, not_in_empty, get_push, get_push_old, get_push_new}
use Rattle.nfs_inodes.proofs.Numbers.{numbers_born}
use Rattle.nfs_inodes.proofs.Maps.{at_push_same, at_push_other, at_next, rising_push, rising_bounds, sum_push, sum_zero, push_back}
use Rattle.nfs_inodes.proofs.law.Alike.{bytes_here, bytes_elsewhere, nlink_by}

pub next_free : {x : ℕ} (t : Tree) → LawBut x t → at t.next t.files ≡ None
next_free t law = at_next 0 t.next t.files law.rising

pub live_apart : {x : ℕ} (t : Tree) (m : ℕ) (h : File) → LawBut x t → Lives t m h → m ≢ t.next
live_apart t m h law e s = let b = (rising_bounds 0 t.next t.files m h law.rising e).1 in omega (arith, b, s)

pub live_some : {x : ℕ} (t : Tree) (m : ℕ) (h : File) → LawBut x t → Lives t m h → m ≢ 0
live_some t m h law e z = let b = (rising_bounds 0 t.next t.files m h law.rising e).0 in omega (arith, b, z)

-- a live file still lives after a new one
pub stays : {x : ℕ} (t : Tree) (f : File) (m : ℕ) (h : File) → LawBut x t → Lives t m h → Lives (with_new_file t f) m h
stays t f m h law e = at_push_other t.next m f t.files (live_apart t m h law e) ∙ e

pub new_lives : {x : ℕ} (t : Tree) (f : File) → LawBut x t → Lives (with_new_file t f) t.next f
new_lives t f law = at_push_same t.next f t.files (next_free t law)

parent_stays : (t : Tree) (f : File) (m : ℕ) → m ≢ t.next → parent_of (with_new_file t f).files m ≡ parent_of t.files m
parent_stays t f m o = ap (λ o. on_some o 0 (λ k. parent_in k.kind)) (at_push_other t.next m f t.files o)

-- a new file changes no climb of a live directory
climb_born : (t : Tree) (f : File) → Law t → (k m : ℕ) (h : File) → LivesAsDirectory t m h → climb k (with_new_file t f).files m ≡ climb k t.files m
climb_born t f law zero m h at_m = refl
climb_born t f law (suc k) m h at_m =
    let home = law.homes m h at_m in
    let up : parent_of t.files m ≡ parent_in h.kind = ap (λ o. on_some o 0 (λ k. parent_in k.kind)) at_m.0 in
    ap (climb k (with_new_file t f).files) (parent_stays t f m (live_apart t m h law at_m.0))
    ∙ climb_born t f law k (parent_of t.files m) home.0 (ap (λ j. at j t.files) up ∙ home.1.0, home.1.1)

-- names, with a file that has no entries
pub names_born : (t : Tree) (f : File) → entries_in f.kind ≡ [] → (m : ℕ) → names_of m (with_new_file t f).files ≡ names_of m t.files
names_born t f empty m =
    let s = sum_push (λ (k : File). names_in m (entries_in k.kind)) t.next f t.files in
    let z : names_in m (entries_in f.kind) ≡ 0 = ap (names_in m) empty in omega (arith, s, z)

-- sums of numbers that are equal for each element
pub sum_in : {X : Type 0} (f g : X → ℕ) (xs : List X) → ((x : X) → Contains xs x → f x ≡ g x) → sum_by f xs ≡ sum_by g xs
sum_in f g [] h = refl
sum_in f g (x ∷ xs) h =
    let here = h x (Contains-append_left (x ∷ []) xs x (Contains-push [] x)) in
    let rest = sum_in f g xs (λ y c. h y (Contains-append_right (x ∷ []) xs y c)) in
    let a = sum_by-cons f x xs in let b = sum_by-cons g x xs in omega (arith, a, b, here, rest)

pub subdirectories_born : (t : Tree) (f : File) (m : ℕ) (h : File) → Law t → Lives t m h → subdirectories (with_new_file t f).files (entries_in h.kind) ≡ subdirectories t.files (entries_in h.kind)
subdirectories_born t f m h law at_m = sum_in (λ e. one_when (names_directory (with_new_file t f).files e)) (λ e. one_when (names_directory t.files e)) (entries_in h.kind)
    (λ e c. let l = law.entries m h e at_m c in
    ap (λ o. one_when (on_some o false (λ k. is_directory k.kind))) (at_push_other t.next e.number f t.files (live_apart t e.number l.0 law l.1)))

pub nlink_born : (t : Tree) (f : File) (m : ℕ) (h : File) → Law t → entries_in f.kind ≡ [] → Lives t m h → nlink (with_new_file t f).files m h ≡ nlink t.files m h
nlink_born t f m h law empty at_m = nlink_by (is_directory h.kind) (is_directory h.kind) (subdirectories (with_new_file t f).files (entries_in h.kind)) (subdirectories t.files (entries_in h.kind)) (names_of m (with_new_file t f).files) (names_of m t.files)
    refl (subdirectories_born t f m h law at_m) (names_born t f empty m)

-- the links of the new file
pub nlink_new : (t : Tree) (f : File) → Law t → entries_in f.kind ≡ [] → nlink (with_new_file t f).files t.next f ≡ (if is_directory f.kind then 2 else 0)
nlink_new t f law empty = nlink_by (is_directory f.kind) (is_directory f.kind) (subdirectories (with_new_file t f).files (entries_in f.kind)) 0 (names_of t.next (with_new_file t f).files) 0
    refl (ap (subdirectories (with_new_file t f).files) empty) (names_born t f empty t.next ∙ law.absent t.next (next_free t law))

few_new : (n : ℕ) → 2 ≤ n → (b : Bool) → (if b then 2 else 0) ≤ n
few_new n h true = h
few_new n h false = omega arith

links_born : (t : Tree) (f : File) → Law t → entries_in f.kind ≡ [] → (m : ℕ) (h : File) → Lives (with_new_file t f) m h → nlink (with_new_file t f).files m h ≤ t.limits.links
links_born t f law empty m h e = push_back t.next m f h t.files (next_free t law) e
    (λ s is. let reported : nlink (with_new_file t f).files m h ≡ (if is_directory f.kind then 2 else 0) = ap (λ k. nlink (with_new_file t f).files k h) s ∙ ap (nlink (with_new_file t f).files t.next) (sym is) ∙ nlink_new t f law empty in
    subst (λ k. k ≤ t.limits.links) (sym reported) (few_new t.limits.links law.limits.links_2 (is_directory f.kind)))
    (λ o was. subst (λ k. k ≤ t.limits.links) (sym (nlink_born t f m h law empty was)) (law.links m h was))

-- the entries of a file, where one was born without any
entries_born : (t : Tree) (f : File) → Law t → entries_in f.kind ≡ [] → (d : ℕ) (h : File) (e : Entry) → Lives (with_new_file t f) d h → Contains (entries_in h.kind) e → Lives t d h
entries_born t f law empty d h e at_d in_h = push_back t.next d f h t.files (next_free t law) at_d
    (λ s is. absurd (not_in_empty (entries_in h.kind) e (sym (ap (λ (k : File). entries_in k.kind) is) ∙ empty) in_h))
    (λ o was. was)

-- what a new file that isn't a root needs
pub record MayBeBorn (t : Tree) (f : File) : Type 0 where
  pub tag : f.tag < 2 ^ 32
  pub number : t.next < 2 ^ 64 - 1
  pub sound : IsSound t.limits f
  pub empty : entries_in f.kind ≡ []
  pub parent : is_directory f.kind ≡ true → (d : File) × LivesAsDirectory t (parent_in f.kind) d × (d.volume ≡ f.volume)
  pub volume : Volume
  pub at_volume : slice_get t.volumes f.volume ≡ Some volume
  pub bytes : bytes_of f.volume t.files + length (bytes_in f.kind) ≤ volume.max_bytes
  pub count : files_of f.volume t.files + 1 ≤ volume.max_files

pub bytes_born : (t : Tree) (f : File) (index : ℕ) → (f.volume ≡ index → bytes_of index (with_new_file t f).files ≡ bytes_of index t.files + length (bytes_in f.kind)) × (f.volume ≢ index → bytes_of index (with_new_file t f).files ≡ bytes_of index t.files)
bytes_born t f index = let s = sum_push (bytes_for index) t.next f t.files in (
  λ h. let a = bytes_here index f h in omega (arith, s, a),
  λ o. let a = bytes_elsewhere index f o in omega (arith, s, a),
)

pub files_born : (t : Tree) (f : File) (index : ℕ) → (f.volume ≡ index → files_of index (with_new_file t f).files ≡ files_of index t.files + 1) × (f.volume ≢ index → files_of index (with_new_file t f).files ≡ files_of index t.files)
files_born t f index = let s = sum_push (one_for index) t.next f t.files in (
  λ h. let a : one_for index f ≡ 1 = ap one_when (eq-eqb f.volume index h) in omega (arith, s, a),
  λ o. let a : one_for index f ≡ 0 = by_test (nat_eq f.volume index) (λ t. absurd (o (eqb-true f.volume index t))) (λ z. ap one_when z) in omega (arith, s, a),
)

pub law_with_new_file : (t : Tree) (f : File) → Law t → MayBeBorn t f → LawBut t.next (with_new_file t f)
law_with_new_file t f law may =
    let free = next_free t law in
    let names = names_born t f may.empty in
    record {
      numbers = numbers_born t f law.numbers may.tag may.number;
      rising = rising_push 0 t.next t.files f law.rising;
      sound = λ n h e. push_back t.next n f h t.files free e (λ s is. subst (IsSound t.limits) is may.sound) (λ o was. law.sound n h was);
      placed = λ n h e. push_back t.next n f h t.files free e
          (λ s is. (may.volume, subst (λ (k : File). slice_get t.volumes k.volume ≡ Some may.volume) is may.at_volume))
          (λ o was. law.placed n h was);
      entries = λ d h e at_d in_h. let l = law.entries d h e (entries_born t f law may.empty d h e at_d in_h) in_h in (l.0, stays t f e.number l.0 law l.1, l.2);
      absent = λ n e. names n ∙ by_number n t.next
          (λ s. law.absent n (ap (λ k. at k t.files) s ∙ free))
          (λ o. law.absent n (sym (at_push_other t.next n f t.files o) ∙ e));
      roots = λ index v e. let l = law.roots index v e in (l.0, (stays t f v.root l.0 law l.1.0, l.1.1), l.2, l.3, names v.root ∙ l.4);
      once = λ n h other dir root. push_back t.next n f h t.files free dir.0
          (λ s is. absurd (other s))
          (λ o was. names n ∙ law.once n h (live_some t n h law was) (was, dir.1) root);
      parents = λ d h e g at_d in_h dir. let was = entries_born t f law may.empty d h e at_d in_h in
          let l = law.entries d h e was in_h in
          let same : l.0 ≡ g = same_some (sym (stays t f e.number l.0 law l.1) ∙ dir.0) in
          law.parents d h e g was in_h (l.1 ∙ ap Some same, dir.1);
      stands = λ n h other dir root. push_back t.next n f h t.files free dir.0
          (λ s is. absurd (other s))
          (λ o was. let l = law.stands n h (live_some t n h law was) (was, dir.1) root in (l.0, stays t f (parent_in h.kind) l.0 law l.1, l.2, l.3, l.4));
      homes = λ n h dir. push_back t.next n f h t.files free dir.0
          (λ s is. let home = may.parent (ap (λ (k : File). is_directory k.kind) is ∙ dir.1) in
          (home.0, (ap (λ k. at k (with_new_file t f).files) (sym (ap (λ (k : File). parent_in k.kind) is)) ∙ stays t f (parent_in f.kind) home.0 law home.1.0, home.1.1), home.2 ∙ ap (λ (k : File). k.volume) is))
          (λ o was. let home = law.homes n h (was, dir.1) in (home.0, (stays t f (parent_in h.kind) home.0 law home.1.0, home.1.1), home.2));
      reached = λ n h dir. push_back t.next n f h t.files free dir.0
          (λ s is. let home = may.parent (ap (λ (k : File). is_directory k.kind) is ∙ dir.1) in
          let r = law.reached (parent_in f.kind) home.0 home.1 in
          let up : parent_of (with_new_file t f).files n ≡ parent_in f.kind = ap (λ o. on_some o 0 (λ k. parent_in k.kind)) (dir.0 ∙ ap Some (sym is)) in
          (suc r.0, r.1, subst (λ k. slice_get t.volumes k ≡ Some r.1) (home.2 ∙ ap (λ (k : File). k.volume) is) r.2, ap (climb r.0 (with_new_file t f).files) up ∙ climb_born t f law r.0 (parent_in f.kind) home.0 home.1 ∙ r.3))
          (λ o was. let r = law.reached n h (was, dir.1) in (r.0, r.1, r.2, climb_born t f law r.0 n h (was, dir.1) ∙ r.3));
      named = λ n h other at_n dir. push_back t.next n f h t.files free at_n
          (λ s is. absurd (other s))
          (λ o was. subst (λ k. 1 ≤ k) (sym (names n)) (law.named n h (live_some t n h law was) was dir));
      links = links_born t f law may.empty;
      limits = law.limits;
      volumes = law.volumes;
      bytes = λ index v e. let reported = bytes_born t f index in by_number f.volume index
          (λ s. let same : may.volume ≡ v = same_some (sym may.at_volume ∙ ap (slice_get t.volumes) s ∙ e) in
          let limit : may.volume.max_bytes ≡ v.max_bytes = ap (λ (k : Volume). k.max_bytes) same in
          let sums : bytes_of f.volume t.files ≡ bytes_of index t.files = ap (λ k. bytes_of k t.files) s in
          let now = reported.0 s in let room = may.bytes in omega (arith, limit, sums, now, room))
          (λ o. let was = law.bytes index v e in let now = reported.1 o in omega (arith, was, now));
      count = λ index v e. let reported = files_born t f index in by_number f.volume index
          (λ s. let same : may.volume ≡ v = same_some (sym may.at_volume ∙ ap (slice_get t.volumes) s ∙ e) in
          let limit : may.volume.max_files ≡ v.max_files = ap (λ (k : Volume). k.max_files) same in
          let sums : files_of f.volume t.files ≡ files_of index t.files = ap (λ k. files_of k t.files) s in
          let now = reported.0 s in let room = may.count in omega (arith, limit, sums, now, room))
          (λ o. let was = law.count index v e in let now = reported.1 o in omega (arith, was, now));
    }

-- ---- a new volume

-- what a new volume and its root need
pub record MayBeFounded (t : Tree) (v : Volume) (f : File) : Type 0 where
  pub tag : f.tag < 2 ^ 32
  pub number : t.next < 2 ^ 64 - 1
  pub few : length t.volumes < 64
  pub path : length v.path ≤ 255
  pub fresh : All (λ w. w.path ≢ v.path) t.volumes
  pub root : v.root ≡ t.next
  pub files : 1 ≤ v.max_files
  pub within : IsWithin t.limits v
  pub sound : IsSound t.limits f
  pub is_dir : is_directory f.kind ≡ true
  pub parent : parent_in f.kind ≡ t.next
  pub empty : entries_in f.kind ≡ []
  pub no_bytes : bytes_in f.kind ≡ []
  pub volume : f.volume ≡ length t.volumes

-- no file has the place that a new volume takes
pub unplaced : (t : Tree) → Law t → (m : ℕ) (h : File) → Lives t m h → h.volume ≢ length t.volumes
unplaced t law m h e s = let v = law.placed m h e in let l = slice_get_within t.volumes h.volume v.0 v.1 in omega (arith, l, s)

pub no_bytes_yet : (t : Tree) → Law t → bytes_of (length t.volumes) t.files ≡ 0
no_bytes_yet t law = sum_zero (bytes_for (length t.volumes)) 0 t.next t.files law.rising (λ m h e. bytes_elsewhere (length t.volumes) h (unplaced t law m h e))

pub no_files_yet : (t : Tree) → Law t → files_of (length t.volumes) t.files ≡ 0
no_files_yet t law = sum_zero (one_for (length t.volumes)) 0 t.next t.files law.rising
    (λ m h e. by_test (nat_eq h.volume (length t.volumes)) (λ y. absurd (unplaced t law m h e (eqb-true h.volume (length t.volumes) y))) (λ z. ap one_when z))

pub law_with_new_volume : (t : Tree) (v : Volume) (f : File) → Law t → MayBeFounded t v f → Law (with_new_volume t v f)
law_with_new_volume t v f law may =
    let free = next_free t law in
    let names = names_born t f may.empty in
    let old : (index : ℕ) (w : Volume) → slice_get t.volumes index ≡ Some w → slice_get (t.volumes ++ v ∷ []) index ≡ Some w = λ index w e. get_push_old t.volumes v w index e in
    let its_root : (n : ℕ) → n ≡ t.next → IsRoot (t.volumes ++ v ∷ []) n = λ n s. (length t.volumes, v, get_push_new t.volumes v, may.root ∙ sym s) in
    let older_root : (n : ℕ) → (IsRoot (t.volumes ++ v ∷ []) n → ⊥) → IsRoot t.volumes n → ⊥ = λ n no r. no (r.0, r.1, old r.0 r.1 r.2, r.3) in
    let its_volume : (n : ℕ) (h : File) → f ≡ h → slice_get (t.volumes ++ v ∷ []) h.volume ≡ Some v = λ n h is. ap (slice_get (t.volumes ++ v ∷ [])) (ap (λ (k : File). k.volume) (sym is) ∙ may.volume) ∙ get_push_new t.volumes v in
    let home : (n : ℕ) (h : File) → n ≡ t.next → f ≡ h → parent_in h.kind ≡ n = λ n h s is. ap (λ (k : File). parent_in k.kind) (sym is) ∙ may.parent ∙ sym s in
    record {
      numbers = numbers_born t f law.numbers may.tag may.number;
      rising = rising_push 0 t.next t.files f law.rising;
      sound = λ n h e. push_back t.next n f h t.files free e (λ s is. subst (IsSound t.limits) is may.sound) (λ o was. law.sound n h was);
      placed = λ n h e. push_back t.next n f h t.files free e
          (λ s is. (v, its_volume n h is))
          (λ o was. let l = law.placed n h was in (l.0, old h.volume l.0 l.1));
      entries = λ d h e at_d in_h. let l = law.entries d h e (entries_born t f law may.empty d h e at_d in_h) in_h in (l.0, stays t f e.number l.0 law l.1, l.2);
      absent = λ n e. names n ∙ by_number n t.next
          (λ s. law.absent n (ap (λ k. at k t.files) s ∙ free))
          (λ o. law.absent n (sym (at_push_other t.next n f t.files o) ∙ e));
      roots = λ index w e. elim (get_push t.volumes v w index e) [
        | inl was ↦ let l = law.roots index w was in (l.0, (stays t f w.root l.0 law l.1.0, l.1.1), l.2, l.3, names w.root ∙ l.4)
        | inr is ↦ let here : w.root ≡ t.next = ap (λ (k : Volume). k.root) (sym is.1) ∙ may.root in
            (f, (ap (λ k. at k (with_new_file t f).files) here ∙ new_lives t f law, may.is_dir), may.parent ∙ sym here, may.volume ∙ sym is.0, names w.root ∙ ap (λ k. names_of k t.files) here ∙ law.absent t.next free)
      ];
      once = λ n h other dir root. push_back t.next n f h t.files free dir.0
          (λ s is. absurd (root (its_root n s)))
          (λ o was. names n ∙ law.once n h other (was, dir.1) (older_root n root));
      parents = λ d h e g at_d in_h dir. let was = entries_born t f law may.empty d h e at_d in_h in
          let l = law.entries d h e was in_h in
          let same : l.0 ≡ g = same_some (sym (stays t f e.number l.0 law l.1) ∙ dir.0) in
          law.parents d h e g was in_h (l.1 ∙ ap Some same, dir.1);
      stands = λ n h other dir root. push_back t.next n f h t.files free dir.0
          (λ s is. absurd (root (its_root n s)))
          (λ o was. let l = law.stands n h other (was, dir.1) (older_root n root) in (l.0, stays t f (parent_in h.kind) l.0 law l.1, l.2, l.3, l.4));
      homes = λ n h dir. push_back t.next n f h t.files free dir.0
          (λ s is. (h, (ap (λ k. at k (with_new_file t f).files) (home n h s is) ∙ dir.0, dir.1), refl))
          (λ o was. let l = law.homes n h (was, dir.1) in (l.0, (stays t f (parent_in h.kind) l.0 law l.1.0, l.1.1), l.2));
      reached = λ n h dir. push_back t.next n f h t.files free dir.0
          (λ s is. (0, v, its_volume n h is, s ∙ sym may.root))
          (λ o was. let r = law.reached n h (was, dir.1) in (r.0, r.1, old h.volume r.1 r.2, climb_born t f law r.0 n h (was, dir.1) ∙ r.3));
      named = λ n h other at_n dir. push_back t.next n f h t.files free at_n
          (λ s is. absurd (no_file h (ap (λ (k : File). is_directory k.kind) (sym is) ∙ may.is_dir) dir))
          (λ o was. subst (λ k. 1 ≤ k) (sym (names n)) (law.named n h other was dir));
      links = links_born t f law may.empty;
      limits = law.limits;
      volumes = record {
        few = let l = length-append t.volumes (v ∷ []) in let few = may.few in omega (arith, l, few);
        within = All-push (IsWithin t.limits) t.volumes v law.volumes.within may.within;
        paths = All-push (λ (w : Volume). length w.path ≤ 255) t.volumes v law.volumes.paths may.path;
        apart = all_pairs_push (λ (w u : Volume). w.path ≢ u.path) t.volumes v law.volumes.apart may.fresh;
      };
      bytes = λ index w e. let reported = bytes_born t f index in elim (get_push t.volumes v w index e) [
        | inl was ↦ let low = slice_get_within t.volumes index w was in
            let now = reported.1 (λ s. let k = may.volume in omega (arith, k, s, low)) in let l = law.bytes index w was in omega (arith, l, now)
        | inr is ↦ let now = reported.0 (may.volume ∙ sym is.0) in
            let none : bytes_of index t.files ≡ 0 = ap (λ k. bytes_of k t.files) is.0 ∙ no_bytes_yet t law in
            let zero_bytes : length (bytes_in f.kind) ≡ 0 = ap length may.no_bytes in omega (arith, now, none, zero_bytes)
      ];
      count = λ index w e. let reported = files_born t f index in elim (get_push t.volumes v w index e) [
        | inl was ↦ let low = slice_get_within t.volumes index w was in
            let now = reported.1 (λ s. let k = may.volume in omega (arith, k, s, low)) in let l = law.count index w was in omega (arith, l, now)
        | inr is ↦ let now = reported.0 (may.volume ∙ sym is.0) in
            let none : files_of index t.files ≡ 0 = ap (λ k. files_of k t.files) is.0 ∙ no_files_yet t law in
            let limit : v.max_files ≡ w.max_files = ap (λ (k : Volume). k.max_files) is.1 in
            let some = may.files in omega (arith, now, none, limit, some)
      ];
    }
  where
    no_file : (h : File) → is_directory h.kind ≡ true → is_directory h.kind ≡ false → ⊥
    no_file h y n = cc
