-- The law after a file that no entry names has come into another directory.
use Rattle.std.proofs.Common.{◌≡◌, ◌≢◌, ℕ, zero, suc, ◌≤◌, true, false, Some, refl, sym, ap, subst, ◌∙◌, arith}
use Rattle.std.specs.Prelude.{Contains, slice_get, length}
use Rattle.nfs_attrs.specs.declared.moment.Moment.{Moment}
use Rattle.nfs_inodes.specs.declared.limits.Limits.{Limits}
use Rattle.nfs_inodes.specs.Tree.{Tree, File, Kind, Regular, Directory, Link, Volume, at, with_at, on_some, entries_in, bytes_in, is_directory, parent_in, names_in, names_of, subdirectories, nlink}
use Rattle.nfs_inodes.specs.Law.{LawBut, IsSound, IsRoot, Lives, LivesAsDirectory, climb, parent_of}
use Rattle.nfs_inodes.specs.Changes.{with_file, kind_with_parent, moved_to, moved}
use Rattle.nfs_inodes.proofs.Lists.{by_test, by_number, same_some, none_from, not_both}
use Rattle.nfs_inodes.proofs.Maps.{at_with_same, at_with_other, rising_with, sum_with, with_back}
use Rattle.nfs_inodes.proofs.Numbers.{numbers_changed}
use Rattle.nfs_inodes.proofs.law.Alike.{Alike, law_with_file, room_same, nlink_by, subdirectories_same, directory_changed, count_changed, bytes_changed}
use Rattle.nfs_inodes.proofs.law.WithoutFile.{not_named}

-- ---- a file with another parent

-- two files that differ at most in their parents and times
pub record Moved (f g : File) : Type 0 where
  pub tag : g.tag ≡ f.tag
  pub volume : g.volume ≡ f.volume
  pub directory : is_directory g.kind ≡ is_directory f.kind
  pub entries : entries_in g.kind ≡ entries_in f.kind
  pub bytes : bytes_in g.kind ≡ bytes_in f.kind

pub has_moved : (f : File) (d : ℕ) (now : Moment) → Moved f (moved_to f d now)
has_moved f d now = by_kind f.kind
  where
    by_kind : (k : Kind) → Moved (record f { kind = k }) (moved_to (record f { kind = k }) d now)
    by_kind (Regular bytes) = record { tag = refl; volume = refl; directory = refl; entries = refl; bytes = refl }
    by_kind (Directory parent next entries) = record { tag = refl; volume = refl; directory = refl; entries = refl; bytes = refl }
    by_kind (Link path) = record { tag = refl; volume = refl; directory = refl; entries = refl; bytes = refl }

moved_itself : (f : File) → Moved f f
moved_itself f = record { tag = refl; volume = refl; directory = refl; entries = refl; bytes = refl }

pub moved_parent : (k : Kind) (d : ℕ) → is_directory k ≡ true → parent_in (kind_with_parent k d) ≡ d
moved_parent (Regular bytes) d e = cc
moved_parent (Directory parent next entries) d e = refl
moved_parent (Link path) d e = cc

pub moved_sound : {l : Limits} (f : File) (d : ℕ) (now : Moment) → IsSound l f → IsSound l (moved_to f d now)
moved_sound {l} f d now s = by_kind f.kind s
  where
    by_kind : (k : Kind) → IsSound l (record f { kind = k }) → IsSound l (moved_to (record f { kind = k }) d now)
    by_kind (Regular bytes) s = record { mode = s.mode; bytes = s.bytes; path = s.path; names = s.names; cookies = s.cookies; next_cookie = s.next_cookie; apart = s.apart }
    by_kind (Directory parent next entries) s = record { mode = s.mode; bytes = s.bytes; path = s.path; names = s.names; cookies = s.cookies; next_cookie = s.next_cookie; apart = s.apart }
    by_kind (Link path) s = record { mode = s.mode; bytes = s.bytes; path = s.path; names = s.names; cookies = s.cookies; next_cookie = s.next_cookie; apart = s.apart }

-- of a file that is no directory the parent is no part
moved_alike : (f : File) (d : ℕ) (now : Moment) → is_directory f.kind ≡ false → Alike f (moved_to f d now)
moved_alike f d now is_file = by_kind f.kind is_file
  where
    by_kind : (k : Kind) → is_directory k ≡ false → Alike (record f { kind = k }) (moved_to (record f { kind = k }) d now)
    by_kind (Regular bytes) e = record { placed = record { tag = refl; volume = refl; directory = refl; parent = refl }; entries = refl }
    by_kind (Directory parent next entries) e = cc
    by_kind (Link path) e = record { placed = record { tag = refl; volume = refl; directory = refl; parent = refl }; entries = refl }

pub moved_is : (t : Tree) (n d : ℕ) (now : Moment) (f : File) → Lives t n f → moved t n d now ≡ with_file t n (moved_to f d now)
moved_is t n d now f at_n = ap (λ o. on_some o t (λ f. with_file t n (moved_to f d now))) at_n

-- ---- the tree with it

-- file n may come into directory d; where it is a directory no entry names it, and d isn't below it
pub record MayMove (t : Tree) (n d : ℕ) (file : File) : Type 0 where
  pub at_file : Lives t n file
  pub target : File
  pub at_target : LivesAsDirectory t d target
  pub volume : file.volume ≡ target.volume
  pub unnamed : is_directory file.kind ≡ true → names_of n t.files ≡ 0
  pub free : IsRoot t.volumes n → ⊥
  pub off : is_directory file.kind ≡ true → (steps : ℕ) → climb steps t.files d ≢ n

module _ (t : Tree) (n d : ℕ) (now : Moment) (f : File) (at_n : Lives t n f) where
  abbrev g : File
  g = moved_to f d now

  abbrev new : Tree
  new = with_file t n g

  like : Moved f g
  like = has_moved f d now

  pub names_moved : (m : ℕ) → names_of m new.files ≡ names_of m t.files
  names_moved m =
      let s = sum_with (λ (k : File). names_in m (entries_in k.kind)) n f g t.files at_n in
      let e : names_in m (entries_in g.kind) ≡ names_in m (entries_in f.kind) = ap (names_in m) like.entries in
      omega (arith, s, e)

  -- the links of every file stay
  pub nlink_moved : (m : ℕ) (h k : File) → Moved h k → nlink new.files m k ≡ nlink t.files m h
  nlink_moved m h k same = nlink_by (is_directory k.kind) (is_directory h.kind) (subdirectories new.files (entries_in k.kind)) (subdirectories t.files (entries_in h.kind)) (names_of m new.files) (names_of m t.files)
      same.directory
      (subdirectories_same t.files new.files (directory_changed t n f g at_n like.directory) (entries_in k.kind) ∙ ap (subdirectories t.files) same.entries)
      (names_moved m)

  back : (m : ℕ) (h : File) → Lives new m h → (k : File) × Lives t m k × Moved k h
  back m h e = with_back n m f g h t.files at_n e
      (λ s is. (f, ap (λ k. at k t.files) s ∙ at_n, subst (λ k. Moved f k) is like))
      (λ o was. (h, was, moved_itself h))

  forth : (m : ℕ) (h : File) → Lives t m h → (k : File) × Lives new m k × Moved h k
  forth m h e = by_number m n
      (λ s. let is_f : f ≡ h = same_some (sym (ap (λ k. at k t.files) s ∙ at_n) ∙ e) in
      (g, ap (λ k. at k (with_at n g t.files)) s ∙ at_with_same n f g t.files at_n, subst (λ k. Moved k g) is_f like))
      (λ o. (h, at_with_other n m g t.files o ∙ e, moved_itself h))

  was_there : (m : ℕ) (h : File) → m ≢ n → Lives new m h → Lives t m h
  was_there m h o e = sym (at_with_other n m g t.files o) ∙ e

  parent_else : (m : ℕ) → m ≢ n → parent_of new.files m ≡ parent_of t.files m
  parent_else m o = ap (λ o. on_some o 0 (λ k. parent_in k.kind)) (at_with_other n m g t.files o)

  -- a way that doesn't pass file n stays
  climb_off : (k m : ℕ) → ((j : ℕ) → climb j t.files m ≢ n) → climb k new.files m ≡ climb k t.files m
  climb_off zero m off = refl
  climb_off (suc k) m off = ap (climb k new.files) (parent_else m (off 0)) ∙ climb_off k (parent_of t.files m) (λ j. off (suc j))

  module _ (law : LawBut n t) (may : MayMove t n d f) (is_dir : is_directory f.kind ≡ true) where
    goes_up : parent_in g.kind ≡ d
    goes_up = moved_parent f.kind d is_dir

    parent_here : parent_of new.files n ≡ d
    parent_here = ap (λ o. on_some o 0 (λ k. parent_in k.kind)) (at_with_same n f g t.files at_n) ∙ goes_up

    -- the way from file n goes by directory d
    way_here : (v : Volume) → slice_get t.volumes f.volume ≡ Some v → (steps : ℕ) × (climb steps new.files n ≡ v.root)
    way_here v at_v =
        let r = law.reached d may.target may.at_target in
        let same : r.1 ≡ v = same_some (sym r.2 ∙ ap (slice_get t.volumes) (sym may.volume) ∙ at_v) in
        (suc r.0, ap (climb r.0 new.files) parent_here ∙ climb_off r.0 d (may.off is_dir) ∙ r.3 ∙ ap (λ (k : Volume). k.root) same)

    way : (k m : ℕ) (h : File) (v : Volume) → LivesAsDirectory t m h → slice_get t.volumes h.volume ≡ Some v → climb k t.files m ≡ v.root → (steps : ℕ) × (climb steps new.files m ≡ v.root)
    way zero m h v at_m at_v up = (0, up)
    way (suc k) m h v at_m at_v up = by_number m n
        (λ s. let same : f ≡ h = same_some (sym at_n ∙ ap (λ k. at k t.files) (sym s) ∙ at_m.0) in
        let w = way_here v (ap (λ (k : File). slice_get t.volumes k.volume) same ∙ at_v) in
        (w.0, ap (climb w.0 new.files) s ∙ w.1))
        (λ o. let home = law.homes m h at_m in
        let is_up : parent_of t.files m ≡ parent_in h.kind = ap (λ o. on_some o 0 (λ k. parent_in k.kind)) at_m.0 in
        let w = way k (parent_of t.files m) home.0 v (ap (λ j. at j t.files) is_up ∙ home.1.0, home.1.1) (ap (slice_get t.volumes) home.2 ∙ at_v) up in
        (suc w.0, ap (climb w.0 new.files) (parent_else m o) ∙ w.1))

    law_moved_directory : LawBut n new
    law_moved_directory = record {
      numbers = numbers_changed t n f g at_n like.tag law.numbers;
      rising = rising_with 0 t.next n t.files g law.rising;
      sound = λ m h e. with_back n m f g h t.files at_n e (λ s is. subst (IsSound t.limits) is (moved_sound f d now (law.sound n f at_n))) (λ o was. law.sound m h was);
      placed = λ m h e. let b = back m h e in let l = law.placed m b.0 b.1 in (l.0, ap (slice_get t.volumes) b.2.volume ∙ l.1);
      entries = λ a h e at_a in_h. let b = back a h at_a in
          let l = law.entries a b.0 e b.1 (subst (λ es. Contains es e) b.2.entries in_h) in
          let k = forth e.number l.0 l.1 in
          (k.0, k.1, k.2.volume ∙ l.2 ∙ sym b.2.volume);
      absent = λ m e. names_moved m ∙ law.absent m (none_from (at m t.files) (λ h is. not_both e (forth m h is).1));
      roots = λ index v e. let l = law.roots index v e in
          (l.0, (at_with_other n v.root g t.files (λ s. may.free (index, v, e, s)) ∙ l.1.0, l.1.1), l.2, l.3, names_moved v.root ∙ l.4);
      once = λ m h other dir free. names_moved m ∙ law.once m h other (was_there m h other dir.0, dir.1) free;
      parents = λ a h e k at_a in_h dir. let b = back a h at_a in
          let in_b = subst (λ es. Contains es e) b.2.entries in_h in
          law.parents a b.0 e k b.1 in_b (was_there e.number k (not_named t n a b.0 e (may.unnamed is_dir) b.1 in_b) dir.0, dir.1);
      stands = λ m h other dir free. let l = law.stands m h other (was_there m h other dir.0, dir.1) free in
          let p = forth (parent_in h.kind) l.0 l.1 in
          (p.0, p.1, l.2, subst (λ es. Contains es l.2) (sym p.2.entries) l.3, l.4);
      homes = λ m h dir. with_back n m f g h t.files at_n dir.0
          (λ s is. let p = forth d may.target may.at_target.0 in
          (p.0, (ap (λ k. at k new.files) (ap (λ (k : File). parent_in k.kind) (sym is) ∙ goes_up) ∙ p.1, p.2.directory ∙ may.at_target.1), p.2.volume ∙ sym may.volume ∙ sym like.volume ∙ ap (λ (k : File). k.volume) is))
          (λ o was. let l = law.homes m h (was, dir.1) in let p = forth (parent_in h.kind) l.0 l.1.0 in
          (p.0, (p.1, p.2.directory ∙ l.1.1), p.2.volume ∙ l.2));
      reached = λ m h dir. let b = back m h dir.0 in
          let r = law.reached m b.0 (b.1, sym b.2.directory ∙ dir.1) in
          let w = way r.0 m b.0 r.1 (b.1, sym b.2.directory ∙ dir.1) r.2 r.3 in
          (w.0, r.1, ap (slice_get t.volumes) b.2.volume ∙ r.2, w.1);
      named = λ m h other at_m dir. subst (λ k. 1 ≤ k) (sym (names_moved m)) (law.named m h other (was_there m h other at_m) dir);
      links = λ m h e. let b = back m h e in subst (λ k. k ≤ t.limits.links) (sym (nlink_moved m b.0 h b.2)) (law.links m b.0 b.1);
      volumes = law.volumes;
      limits = law.limits;
      bytes = λ index v e. let reported = bytes_changed t n f g at_n like.volume index in
          let was = law.bytes index v e in
          let same : length (bytes_in g.kind) ≡ length (bytes_in f.kind) = ap length like.bytes in
          by_number f.volume index (λ s. let y = reported.0 s in omega (arith, was, same, y)) (λ o. let z = reported.1 o in omega (arith, was, z));
      count = λ index v e. subst (λ k. k ≤ v.max_files) (sym (count_changed t n f g at_n like.volume index)) (law.count index v e);
    }

pub law_moved : (t : Tree) (n d : ℕ) (now : Moment) (f : File) → LawBut n t → MayMove t n d f → LawBut n (with_file t n (moved_to f d now))
law_moved t n d now f law may = by_test (is_directory f.kind)
    (λ y. law_moved_directory t n d now f may.at_file law may y)
    (λ z. law_with_file n t n f (moved_to f d now) law may.at_file (moved_alike f d now z) (moved_sound f d now (law.sound n f may.at_file)) (room_same n t n f (moved_to f d now) law may.at_file (has_moved f d now).bytes))
