-- The law after an entry more.
use Rattle.std.proofs.Common.{inl, inr, ◌≡◌, ◌≢◌, ◌⊎◌, ℕ, ◌+◌, ◌<◌, ◌≤◌, Bool, true, false, List, [], ◌∷◌, ◌++◌, Some, refl, sym, ap, subst, ◌∙◌, arith}
use Rattle.std.specs.Prelude.{Contains, All, slice_get, length, nat_eq}
use Rattle.std.proofs.lemmas.Bool.{eqb-true, eq-eqb}
use Rattle.std.proofs.lemmas.List.Sums.{sum_by_push}
use Rattle.std.proofs.lemmas.List.Elements.{Contains-push, Contains-push_cases, All-push, All-weaker, Contains-append_left}
use Rattle.std.proofs.lemmas.List.Quantifiers.{all_pairs_push}
use Rattle.nfs_attrs.specs.declared.moment.Moment.{Moment}
use Rattle.nfs_inodes.specs.Limits.{AreLimits}
use Rattle.nfs_inodes.specs.declared.limits.Limits.{Limits}
use Rattle.nfs_inodes.specs.Tree.{Tree, File, Kind, Regular, Directory, Link, Entry, Volume, at, with_at, on_some, one_when, entries_in, bytes_in, is_directory, parent_in, next_cookie_in, names_in, names_of, names_directory, subdirectories, nlink, bytes_of, files_of}
use Rattle.nfs_inodes.specs.Law.{Law, LawBut, IsSound, AreVolumes, IsName, IsRoot, AreRising, Lives, LivesAsDirectory, parent_of}
use Rattle.nfs_inodes.specs.Changes.{with_file, entered, kind_with_entry, with_entry}
use Rattle.nfs_inodes.specs.Reading.{numbered_files}
use Rattle.nfs_handles.specs.NumberedFiles.{IsNumbered}
use Rattle.nfs_inodes.proofs.Numbers.{numbers_changed}
use Rattle.nfs_inodes.proofs.Lists.{by_test, by_number, if_true, if_false, same_some, not_both, none_from}
use Rattle.nfs_inodes.proofs.Maps.{at_with_same, at_with_other, rising_with, sum_with, with_back}
use Rattle.nfs_inodes.proofs.law.Alike.{Placed, placed_itself, climb_alike, not_root, subdirectories_same, parent_changed, directory_changed, count_changed, bytes_changed}

-- the new tree has one entry more, in directory d
pub record HasMore (d : ℕ) (new_entry : Entry) (old new : Tree) : Type 0 where
  pub numbers : IsNumbered (numbered_files old) → IsNumbered (numbered_files new)
  pub rising : AreRising 0 new.files new.next
  pub volumes : new.volumes ≡ old.volumes
  pub limits : new.limits ≡ old.limits
  pub back : (m : ℕ) (h : File) → Lives new m h → (f : File) × Lives old m f × Placed f h × ((e : Entry) → Contains (entries_in h.kind) e → Contains (entries_in f.kind) e ⊎ ((m ≡ d) × (new_entry ≡ e)))
  pub forth : (m : ℕ) (f : File) → Lives old m f → (h : File) × Lives new m h × Placed f h × ((e : Entry) → Contains (entries_in f.kind) e → Contains (entries_in h.kind) e)
  pub there : (h : File) × Lives new d h × Contains (entries_in h.kind) new_entry
  pub parents : (m : ℕ) → parent_of new.files m ≡ parent_of old.files m
  pub names : (m : ℕ) → names_of m new.files ≡ names_of m old.files + one_when (nat_eq new_entry.number m)
  pub count : (index : ℕ) → files_of index new.files ≡ files_of index old.files

-- when an entry of this name in d may name n
pub record MayGain (x : ℕ) (t : Tree) (d : ℕ) (name : List ℕ) (n : ℕ) : Type 0 where
  pub dir : File
  pub at_dir : LivesAsDirectory t d dir
  pub is_name : IsName name
  pub fresh : All (λ e. e.name ≢ name) (entries_in dir.kind)
  pub file : File
  pub at_file : Lives t n file
  pub volume : file.volume ≡ dir.volume
  pub free : IsRoot t.volumes n → ⊥
  pub once : is_directory file.kind ≡ true → (parent_in file.kind ≡ d) × (names_of n t.files ≡ 0) × (2 + subdirectories t.files (entries_in dir.kind) < t.limits.links)
  pub links : is_directory file.kind ≡ false → names_of n t.files < t.limits.links
  pub only : (m : ℕ) → m ≢ 0 → m ≢ n → m ≢ x

pub one_other : (m : ℕ) (e : Entry) → m ≢ e.number → one_when (nat_eq e.number m) ≡ 0
one_other m e o = by_test (nat_eq e.number m) (λ t. absurd (o (sym (eqb-true e.number m t)))) (λ f. ap one_when f)

pub one_same : (m : ℕ) (e : Entry) → m ≡ e.number → one_when (nat_eq e.number m) ≡ 1
one_same m e s = ap one_when (eq-eqb e.number m (sym s))

-- what the law after an entry more needs beside the tree's names
pub record FitsAfter (new : Tree) : Type 0 where
  pub sound : (m : ℕ) (h : File) → Lives new m h → IsSound new.limits h
  pub links : (m : ℕ) (h : File) → Lives new m h → nlink new.files m h ≤ new.limits.links
  pub bytes : (index : ℕ) (v : Volume) → slice_get new.volumes index ≡ Some v → bytes_of index new.files ≤ v.max_bytes

pub law_more : (x d n : ℕ) (name : List ℕ) (cookie : ℕ) (old new : Tree) → LawBut x old → HasMore d (record { cookie = cookie; name = name; number = n }) old new → MayGain x old d name n → FitsAfter new → LawBut 0 new
law_more x d n name cookie old new law more may fits =
    let e0 : Entry = record { cookie = cookie; name = name; number = n } in
    record {
      numbers = more.numbers law.numbers;
      rising = more.rising;
      sound = fits.sound;
      placed = λ m h e. let b = more.back m h e in let l = law.placed m b.0 b.1 in
          (l.0, subst (λ vs. slice_get vs h.volume ≡ Some l.0) (sym more.volumes) (subst (λ k. slice_get old.volumes k ≡ Some l.0) (sym b.2.volume) l.1));
      entries = λ a h e at_a in_h. let b = more.back a h at_a in elim (b.3 e in_h) [
        | inl was ↦ let l = law.entries a b.0 e b.1 was in
            let g = more.forth e.number l.0 l.1 in
            (g.0, g.1, g.2.volume ∙ l.2 ∙ sym b.2.volume)
        | inr is ↦ let g = more.forth n may.file may.at_file in
            let f : may.dir ≡ b.0 = same_some (sym may.at_dir.0 ∙ sym (ap (λ k. at k old.files) is.0) ∙ b.1) in
            (g.0, subst (λ k. at k new.files ≡ Some g.0) (ap (λ (k : Entry). k.number) is.1) g.1, g.2.volume ∙ may.volume ∙ ap (λ (k : File). k.volume) f ∙ sym b.2.volume)
      ];
      absent = λ m e.
          let was = law.absent m (none_from (at m old.files) (λ f g. not_both e (more.forth m f g).1)) in
          let o = one_other m e0 (λ s. not_both e ((more.forth m may.file (ap (λ k. at k old.files) s ∙ may.at_file)).1)) in
          let reported = more.names m in
          omega (arith, was, o, reported);
      roots = λ index v e. let was = subst (λ vs. slice_get vs index ≡ Some v) more.volumes e in
          let l = law.roots index v was in
          let h = more.forth v.root l.0 l.1.0 in
          let apart : v.root ≢ e0.number = λ q. may.free (index, v, was, q) in
          let none = one_other v.root e0 apart in
          let reported = more.names v.root in
          let zero_names = l.4 in
          (h.0, (h.1, h.2.directory ∙ l.1.1), h.2.parent ∙ l.2, h.2.volume ∙ l.3, omega (arith, none, reported, zero_names));
      once = λ m h other dir free. let b = more.back m h dir.0 in
          let reported = more.names m in
          let was_dir = sym b.2.directory ∙ dir.1 in
          by_number m n
          (λ s. let f : may.file ≡ b.0 = same_some (sym may.at_file ∙ sym (ap (λ k. at k old.files) s) ∙ b.1) in
          let none = (may.once (ap (λ (k : File). is_directory k.kind) f ∙ was_dir)).1 in
          let same_names : names_of m old.files ≡ names_of n old.files = ap (λ k. names_of k old.files) s in
          let one = one_same m e0 s in omega (arith, none, same_names, one, reported))
          (λ o. let l = law.once m b.0 (may.only m other o) (b.1, was_dir) (not_root old new m more.volumes free) in
          let none = one_other m e0 o in omega (arith, l, none, reported));
      parents = λ a h e g at_a in_h dir. let b = more.back a h at_a in let o = more.back e.number g dir.0 in elim (b.3 e in_h) [
        | inl was ↦ o.2.parent ∙ law.parents a b.0 e o.0 b.1 was (o.1, sym o.2.directory ∙ dir.1)
        | inr is ↦ let f : may.file ≡ o.0 = same_some (sym may.at_file ∙ ap (λ (k : Entry). at k.number old.files) is.1 ∙ o.1) in
            o.2.parent ∙ sym (ap (λ (k : File). parent_in k.kind) f) ∙ (may.once (ap (λ (k : File). is_directory k.kind) f ∙ sym o.2.directory ∙ dir.1)).0 ∙ sym is.0
      ];
      stands = λ m h other dir free. let b = more.back m h dir.0 in
          let was_dir = sym b.2.directory ∙ dir.1 in
          by_number m n
          (λ s. let f : may.file ≡ b.0 = same_some (sym may.at_file ∙ sym (ap (λ k. at k old.files) s) ∙ b.1) in
          let home : parent_in h.kind ≡ d = b.2.parent ∙ sym (ap (λ (k : File). parent_in k.kind) f) ∙ (may.once (ap (λ (k : File). is_directory k.kind) f ∙ was_dir)).0 in
          (more.there.0, ap (λ k. at k new.files) home ∙ more.there.1, e0, more.there.2, sym s))
          (λ o. let l = law.stands m b.0 (may.only m other o) (b.1, was_dir) (not_root old new m more.volumes free) in
          let p = more.forth (parent_in b.0.kind) l.0 l.1 in
          (p.0, ap (λ k. at k new.files) b.2.parent ∙ p.1, l.2, p.3 l.2 l.3, l.4));
      homes = λ m h dir. let b = more.back m h dir.0 in
          let l = law.homes m b.0 (b.1, sym b.2.directory ∙ dir.1) in
          let p = more.forth (parent_in b.0.kind) l.0 l.1.0 in
          (p.0, (ap (λ k. at k new.files) b.2.parent ∙ p.1, p.2.directory ∙ l.1.1), p.2.volume ∙ l.2 ∙ sym b.2.volume);
      reached = λ m h dir. let b = more.back m h dir.0 in
          let l = law.reached m b.0 (b.1, sym b.2.directory ∙ dir.1) in
          (l.0, l.1, subst (λ vs. slice_get vs h.volume ≡ Some l.1) (sym more.volumes) (subst (λ k. slice_get old.volumes k ≡ Some l.1) (sym b.2.volume) l.2), climb_alike old.files new.files more.parents l.0 m ∙ l.3);
      named = λ m h other at_m dir. let b = more.back m h at_m in
          let reported = more.names m in
          by_number m n
          (λ s. let one = one_same m e0 s in omega (arith, one, reported))
          (λ o. let l = law.named m b.0 (may.only m other o) b.1 (sym b.2.directory ∙ dir) in omega (arith, l, reported));
      links = fits.links;
      limits = subst AreLimits (sym more.limits) law.limits;
      volumes = subst (λ (l : Limits). AreVolumes l new.volumes) (sym more.limits) (subst (AreVolumes old.limits) (sym more.volumes) law.volumes);
      bytes = fits.bytes;
      count = λ index v e. subst (λ k. k ≤ v.max_files) (sym (more.count index)) (law.count index v (subst (λ vs. slice_get vs index ≡ Some v) more.volumes e));
    }

-- ---- a directory with one entry more

pub entered_placed : (f : File) (name : List ℕ) (n : ℕ) (now : Moment) → Placed f (entered f name n now)
entered_placed f name n now = by_kind f.kind
  where
    by_kind : (k : Kind) → Placed (record f { kind = k }) (entered (record f { kind = k }) name n now)
    by_kind (Regular bytes) = record { tag = refl; volume = refl; directory = refl; parent = refl }
    by_kind (Directory parent next entries) = record { tag = refl; volume = refl; directory = refl; parent = refl }
    by_kind (Link path) = record { tag = refl; volume = refl; directory = refl; parent = refl }

pub entered_entries : (k : Kind) (name : List ℕ) (n : ℕ) → is_directory k ≡ true → entries_in (kind_with_entry k name n) ≡ entries_in k ++ record { cookie = next_cookie_in k; name = name; number = n } ∷ []
entered_entries (Regular bytes) name n e = cc
entered_entries (Directory parent next entries) name n e = refl
entered_entries (Link path) name n e = cc

pub entered_bytes : (k : Kind) (name : List ℕ) (n : ℕ) → bytes_in (kind_with_entry k name n) ≡ bytes_in k
entered_bytes (Regular bytes) name n = refl
entered_bytes (Directory parent next entries) name n = refl
entered_bytes (Link path) name n = refl

pub entered_sound : {l : Limits} (f : File) (name : List ℕ) (n : ℕ) (now : Moment) → is_directory f.kind ≡ true → IsSound l f → IsName name → All (λ e. e.name ≢ name) (entries_in f.kind) → IsSound l (entered f name n now)
entered_sound {l} f name n now r s is_name fresh = by_kind f.kind r s fresh
  where
    by_kind : (k : Kind) → is_directory k ≡ true → IsSound l (record f { kind = k }) → All (λ e. e.name ≢ name) (entries_in k) → IsSound l (entered (record f { kind = k }) name n now)
    by_kind (Regular bytes) e s h = cc
    by_kind (Directory parent next entries) e s h =
        let low = s.next_cookie refl in
        let wider : (x : Entry) → (3 ≤ x.cookie) × (x.cookie < next) → (3 ≤ x.cookie) × (x.cookie < next + 1) = λ x b. let l = b.0 in let u = b.1 in (l, omega (arith, u)) in
        let more : All (λ (x : Entry). (3 ≤ x.cookie) × (x.cookie < next + 1)) entries = All-weaker (λ (x : Entry). (3 ≤ x.cookie) × (x.cookie < next)) (λ (x : Entry). (3 ≤ x.cookie) × (x.cookie < next + 1)) wider entries s.cookies in
        let e0 : Entry = record { cookie = next; name = name; number = n } in
        record {
          mode = s.mode;
          bytes = s.bytes;
          path = s.path;
          names = All-push (λ (x : Entry). IsName x.name) entries e0 s.names is_name;
          cookies = All-push (λ (x : Entry). (3 ≤ x.cookie) × (x.cookie < next + 1)) entries e0 more (low, omega arith);
          next_cookie = λ u. omega (arith, low);
          apart = all_pairs_push (λ (e g : Entry). (e.name ≢ g.name) × (e.cookie < g.cookie)) entries e0 s.apart (λ k d l. (h k d l, (s.cookies k d l).1));
        }
    by_kind (Link path) e s h = cc

-- one entry more in one directory
pub one_more : (t : Tree) (d n : ℕ) (now : Moment) (name : List ℕ) (f : File) → AreRising 0 t.files t.next → LivesAsDirectory t d f → HasMore d (record { cookie = next_cookie_in f.kind; name = name; number = n }) t (with_file t d (entered f name n now))
one_more t d n now name f rising at_d =
    let g : File = entered f name n now in
    let e0 : Entry = record { cookie = next_cookie_in f.kind; name = name; number = n } in
    let more : entries_in g.kind ≡ entries_in f.kind ++ e0 ∷ [] = entered_entries f.kind name n at_d.1 in
    let placed : Placed f g = entered_placed f name n now in
    let keeps : (e : Entry) → Contains (entries_in f.kind) e → Contains (entries_in g.kind) e = λ e c. subst (λ es. Contains es e) (sym more) (Contains-append_left (entries_in f.kind) (e0 ∷ []) e c) in
    record {
      numbers = numbers_changed t d f g at_d.0 placed.tag;
      rising = rising_with 0 t.next d t.files g rising;
      volumes = refl;
      limits = refl;
      back = λ m h e. with_back d m f g h t.files at_d.0 e
          (λ s is. (
            f,
            ap (λ k. at k t.files) s ∙ at_d.0,
            subst (λ k. Placed f k) is placed,
            λ a in_h. let c : Contains (entries_in f.kind ++ e0 ∷ []) a = subst (λ es. Contains es a) (ap (λ (k : File). entries_in k.kind) (sym is) ∙ more) in_h in
                elim (Contains-push_cases (entries_in f.kind) e0 a c) [
                  | inl was ↦ inl was
                  | inr same ↦ inr (s, same)
                ],
          ))
          (λ o was. (h, was, placed_itself h, λ a in_h. inl in_h));
      forth = λ m h e. by_number m d
          (λ s. let is_f : f ≡ h = same_some (sym (ap (λ k. at k t.files) s ∙ at_d.0) ∙ e) in
          (g, ap (λ k. at k (with_at d g t.files)) s ∙ at_with_same d f g t.files at_d.0, subst (λ k. Placed k g) is_f placed, subst (λ (k : File). (e : Entry) → Contains (entries_in k.kind) e → Contains (entries_in g.kind) e) is_f keeps))
          (λ o. (h, at_with_other d m g t.files o ∙ e, placed_itself h, λ a c. c));
      there = (g, at_with_same d f g t.files at_d.0, subst (λ es. Contains es e0) (sym more) (Contains-push (entries_in f.kind) e0));
      parents = parent_changed t d f g at_d.0 placed.parent;
      names = λ m. let s = sum_with (λ (k : File). names_in m (entries_in k.kind)) d f g t.files at_d.0 in
          let e : names_in m (entries_in g.kind) ≡ names_in m (entries_in f.kind) + one_when (nat_eq n m) =
          ap (names_in m) more ∙ sum_by_push (λ (a : Entry). one_when (nat_eq a.number m)) (entries_in f.kind) e0 in
          omega (arith, s, e);
      count = count_changed t d f g at_d.0 placed.volume;
    }

-- ---- the links after it

-- directory d gains the link of a subdirectory
pub nlink_there : (t : Tree) (d n : ℕ) (now : Moment) (name : List ℕ) (f file : File) → LivesAsDirectory t d f → Lives t n file → nlink (with_file t d (entered f name n now)).files d (entered f name n now) ≡ nlink t.files d f + one_when (is_directory file.kind)
nlink_there t d n now name f file at_d at_n =
    let g : File = entered f name n now in
    let new : List (ℕ × File) = (with_file t d g).files in
    let e0 : Entry = record { cookie = next_cookie_in f.kind; name = name; number = n } in
    let placed : Placed f g = entered_placed f name n now in
    let is_dir : is_directory g.kind ≡ true = placed.directory ∙ at_d.1 in
    let now_links : nlink new d g ≡ 2 + subdirectories new (entries_in g.kind) = if_true _ _ is_dir in
    let old_links : nlink t.files d f ≡ 2 + subdirectories t.files (entries_in f.kind) = if_true _ _ at_d.1 in
    let same : subdirectories new (entries_in g.kind) ≡ subdirectories t.files (entries_in g.kind) = subdirectories_same t.files new (directory_changed t d f g at_d.0 placed.directory) (entries_in g.kind) in
    let more : subdirectories t.files (entries_in g.kind) ≡ subdirectories t.files (entries_in f.kind) + one_when (names_directory t.files e0) =
    ap (subdirectories t.files) (entered_entries f.kind name n at_d.1) ∙ sum_by_push (λ (a : Entry). one_when (names_directory t.files a)) (entries_in f.kind) e0 in
    let is : one_when (names_directory t.files e0) ≡ one_when (is_directory file.kind) = ap (λ o. one_when (on_some o false (λ k. is_directory k.kind))) at_n in
    omega (arith, now_links, old_links, same, more, is)

-- any other file has the links of its names
pub nlink_elsewhere : (t : Tree) (d n : ℕ) (now : Moment) (name : List ℕ) (f : File) → AreRising 0 t.files t.next → LivesAsDirectory t d f → (m : ℕ) (h : File) → (is_directory h.kind ≡ true → nlink (with_file t d (entered f name n now)).files m h ≡ nlink t.files m h) × (is_directory h.kind ≡ false → nlink (with_file t d (entered f name n now)).files m h ≡ nlink t.files m h + one_when (nat_eq n m))
nlink_elsewhere t d n now name f rising at_d m h =
    let g : File = entered f name n now in
    let new : List (ℕ × File) = (with_file t d g).files in
    let placed : Placed f g = entered_placed f name n now in (
      λ y. let a : nlink new m h ≡ 2 + subdirectories new (entries_in h.kind) = if_true _ _ y in
          let b : nlink t.files m h ≡ 2 + subdirectories t.files (entries_in h.kind) = if_true _ _ y in
          let same : subdirectories new (entries_in h.kind) ≡ subdirectories t.files (entries_in h.kind) = subdirectories_same t.files new (directory_changed t d f g at_d.0 placed.directory) (entries_in h.kind) in
          omega (arith, a, b, same),
      λ z. let a : nlink new m h ≡ names_of m new = if_false _ _ z in
          let b : nlink t.files m h ≡ names_of m t.files = if_false _ _ z in
          let reported = (one_more t d n now name f rising at_d).names m in
          omega (arith, a, b, reported),
    )

links_after : (x : ℕ) (t : Tree) (d n : ℕ) (now : Moment) (name : List ℕ) (law : LawBut x t) (may : MayGain x t d name n) → (m : ℕ) (h : File) → Lives (with_file t d (entered may.dir name n now)) m h → nlink (with_file t d (entered may.dir name n now)).files m h ≤ t.limits.links
links_after x t d n now name law may m h e =
    let g : File = entered may.dir name n now in
    let files : List (ℕ × File) = (with_file t d g).files in
    with_back d m may.dir g h t.files may.at_dir.0 e
    (λ s is. let reported = nlink_there t d n now name may.dir may.file may.at_dir may.at_file in
    let old_links : nlink t.files d may.dir ≡ 2 + subdirectories t.files (entries_in may.dir.kind) = if_true _ _ may.at_dir.1 in
    let was = law.links d may.dir may.at_dir.0 in
    let here : nlink files m h ≡ nlink files d g = ap (λ k. nlink files k h) s ∙ ap (nlink files d) (sym is) in
    by_test (is_directory may.file.kind)
    (λ y. let one = ap one_when y in let few = (may.once y).2 in omega (arith, reported, old_links, here, one, few))
    (λ z. let none = ap one_when z in omega (arith, reported, was, here, none)))
    (λ o old. let reported = nlink_elsewhere t d n now name may.dir law.rising may.at_dir m h in
    let was = law.links m h old in
    by_test (is_directory h.kind)
    (λ y. let same = reported.0 y in omega (arith, same, was))
    (λ z. let more = reported.1 z in
    let named : nlink t.files m h ≡ names_of m t.files = if_false _ _ z in
    by_number m n
    (λ s. let same : h ≡ may.file = same_some (sym old ∙ ap (λ k. at k t.files) s ∙ may.at_file) in
    let few = may.links (sym (ap (λ (k : File). is_directory k.kind) same) ∙ z) in
    let sums : names_of m t.files ≡ names_of n t.files = ap (λ k. names_of k t.files) s in
    let one = one_when_below (nat_eq n m) in
    omega (arith, more, named, few, sums, one))
    (λ q. let none = one_other m (record { cookie = 0; name = name; number = n }) q in omega (arith, more, was, none))))
  where
    one_when_below : (b : Bool) → one_when b ≤ 1
    one_when_below true = omega arith
    one_when_below false = omega arith

pub gained_is : (t : Tree) (d n : ℕ) (now : Moment) (name : List ℕ) (f : File) → Lives t d f → with_entry t d name n now ≡ with_file t d (entered f name n now)
gained_is t d n now name f at_d = ap (λ o. on_some o t (λ h. with_file t d (entered h name n now))) at_d

pub law_with_entry : (x : ℕ) (t : Tree) (d n : ℕ) (now : Moment) (name : List ℕ) → LawBut x t → MayGain x t d name n → Law (with_entry t d name n now)
law_with_entry x t d n now name law may =
    let g : File = entered may.dir name n now in
    let placed : Placed may.dir g = entered_placed may.dir name n now in
    subst Law (sym (gained_is t d n now name may.dir may.at_dir.0))
    (law_more x d n name (next_cookie_in may.dir.kind) t (with_file t d g) law (one_more t d n now name may.dir law.rising may.at_dir) may (record {
      sound = λ m h e. with_back d m may.dir g h t.files may.at_dir.0 e
          (λ s is. subst (IsSound t.limits) is (entered_sound may.dir name n now may.at_dir.1 (law.sound d may.dir may.at_dir.0) may.is_name may.fresh))
          (λ o was. law.sound m h was);
      links = links_after x t d n now name law may;
      bytes = λ index v e. let reported = bytes_changed t d may.dir g may.at_dir.0 placed.volume index in
          let was = law.bytes index v e in
          let same : length (bytes_in g.kind) ≡ length (bytes_in may.dir.kind) = ap length (entered_bytes may.dir.kind name n) in
          by_number may.dir.volume index (λ s. let y = reported.0 s in omega (arith, was, same, y)) (λ o. let z = reported.1 o in omega (arith, was, z));
    }))
