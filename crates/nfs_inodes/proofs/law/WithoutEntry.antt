-- The law after a directory has lost an entry, whose file may as yet be named by none.
use Rattle.std.proofs.Common.{inl, inr, ◌≡◌, ℕ, ◌+◌, ◌<◌, ◌≤◌, true, false, List, Some, refl, sym, ap, subst, ◌∙◌, arith}
use Rattle.std.specs.Prelude.{◌≢◌, not, Contains, length, nat_eq}
use Rattle.std.proofs.lemmas.List.Elements.{All-filter}
use Rattle.std.proofs.lemmas.List.Kept.{AllPairs-filter}
use Rattle.nfs_attrs.specs.declared.moment.Moment.{Moment}
use Rattle.nfs_inodes.specs.declared.limits.Limits.{Limits}
use Rattle.nfs_inodes.specs.Tree.{Tree, File, Kind, Regular, Directory, Link, Entry, at, with_at, on_some, one_when, entries_in, bytes_in, is_directory, next_cookie_in, names_in, names_of, names_directory, subdirectories, nlink}
use Rattle.nfs_inodes.specs.Law.{Law, LawBut, IsName, IsSound, AreApart, AreRising, Lives, LivesAsDirectory}
use Rattle.nfs_inodes.specs.Changes.{with_file, entries_without, kind_without_entry, left, without_entry}
use Rattle.nfs_inodes.specs.Reading.{has_name, entry_named}
use Rattle.nfs_inodes.proofs.Lists.{by_test, by_number, if_true, if_false, same_some, find_contains}
use Rattle.nfs_inodes.proofs.Maps.{at_with_same, at_with_other, rising_with, sum_with, with_back}
use Rattle.nfs_inodes.proofs.Numbers.{numbers_changed}
use Rattle.nfs_inodes.proofs.law.Alike.{Placed, placed_itself, subdirectories_same, parent_changed, directory_changed, count_changed, bytes_changed}
use Rattle.nfs_inodes.proofs.law.EntryLess.{HasLess, law_less, left_was, left_or_named, found_is, sum_less}

-- ---- a directory without an entry

pub left_placed : (f : File) (name : List ℕ) (now : Moment) → Placed f (left f name now)
left_placed f name now = by_kind f.kind
  where
    by_kind : (k : Kind) → Placed (record f { kind = k }) (left (record f { kind = k }) name now)
    by_kind (Regular bytes) = record { tag = refl; volume = refl; directory = refl; parent = refl }
    by_kind (Directory parent next entries) = record { tag = refl; volume = refl; directory = refl; parent = refl }
    by_kind (Link path) = record { tag = refl; volume = refl; directory = refl; parent = refl }

pub left_entries : (k : Kind) (name : List ℕ) → entries_in (kind_without_entry k name) ≡ entries_without name (entries_in k)
left_entries (Regular bytes) name = refl
left_entries (Directory parent next entries) name = refl
left_entries (Link path) name = refl

pub left_bytes : (k : Kind) (name : List ℕ) → bytes_in (kind_without_entry k name) ≡ bytes_in k
left_bytes (Regular bytes) name = refl
left_bytes (Directory parent next entries) name = refl
left_bytes (Link path) name = refl

pub left_cookie : (k : Kind) (name : List ℕ) → next_cookie_in (kind_without_entry k name) ≡ next_cookie_in k
left_cookie (Regular bytes) name = refl
left_cookie (Directory parent next entries) name = refl
left_cookie (Link path) name = refl

pub left_sound : {l : Limits} (f : File) (name : List ℕ) (now : Moment) → IsSound l f → IsSound l (left f name now)
left_sound {l} f name now s = by_kind f.kind s
  where
    by_kind : (k : Kind) → IsSound l (record f { kind = k }) → IsSound l (left (record f { kind = k }) name now)
    by_kind (Regular bytes) s = record { mode = s.mode; bytes = s.bytes; path = s.path; names = s.names; cookies = s.cookies; next_cookie = s.next_cookie; apart = s.apart }
    by_kind (Directory parent next entries) s = record {
      mode = s.mode;
      bytes = s.bytes;
      path = s.path;
      names = All-filter (λ e. not (has_name name e)) (λ (e : Entry). IsName e.name) entries s.names;
      cookies = All-filter (λ e. not (has_name name e)) (λ (e : Entry). (3 ≤ e.cookie) × (e.cookie < next)) entries s.cookies;
      next_cookie = s.next_cookie;
      apart = AllPairs-filter (λ (e g : Entry). (e.name ≢ g.name) × (e.cookie < g.cookie)) (λ e. not (has_name name e)) entries s.apart;
    }
    by_kind (Link path) s = record { mode = s.mode; bytes = s.bytes; path = s.path; names = s.names; cookies = s.cookies; next_cookie = s.next_cookie; apart = s.apart }

pub names_apart : {l : Limits} (f : File) → IsSound l f → AreApart (entries_in f.kind)
names_apart f s i j d less within = (s.apart i j d less within).0

pub left_is : (t : Tree) (d : ℕ) (now : Moment) (name : List ℕ) (f : File) → Lives t d f → without_entry t d name now ≡ with_file t d (left f name now)
left_is t d now name f at_d = ap (λ o. on_some o t (λ h. with_file t d (left h name now))) at_d

-- ---- the tree without it

module _ (t : Tree) (d : ℕ) (now : Moment) (name : List ℕ) (f : File) (lost : Entry) (rising : AreRising 0 t.files t.next) (at_d : Lives t d f) (apart : AreApart (entries_in f.kind)) (found : entry_named name (entries_in f.kind) ≡ Some lost) where
  abbrev g : File
  g = left f name now

  abbrev new : Tree
  new = with_file t d g

  placed : Placed f g
  placed = left_placed f name now

  pub one_less : HasLess lost t new
  one_less = record {
    numbers = numbers_changed t d f g at_d placed.tag;
    rising = rising_with 0 t.next d t.files g rising;
    volumes = refl;
    limits = refl;
    back = λ m h e. with_back d m f g h t.files at_d e
        (λ s is. (
          f,
          ap (λ k. at k t.files) s ∙ at_d,
          subst (λ k. Placed f k) is placed,
          λ a in_h. left_was name (entries_in f.kind) a (subst (λ es. Contains es a) (ap (λ (k : File). entries_in k.kind) (sym is) ∙ left_entries f.kind name) in_h),
        ))
        (λ o was. (h, was, placed_itself h, λ a in_h. in_h));
    forth = λ m h e. by_number m d
        (λ s. let is_f : f ≡ h = same_some (sym (ap (λ k. at k t.files) s ∙ at_d) ∙ e) in (
          g,
          ap (λ k. at k (with_at d g t.files)) s ∙ at_with_same d f g t.files at_d,
          subst (λ k. Placed k g) is_f placed,
          λ a in_h. elim (left_or_named name (entries_in f.kind) a (subst (λ (k : File). Contains (entries_in k.kind) a) (sym is_f) in_h)) [
            | inl stays ↦ inl (subst (λ es. Contains es a) (sym (left_entries f.kind name)) stays)
            | inr named ↦ inr (found_is name (entries_in f.kind) lost a apart found (subst (λ (k : File). Contains (entries_in k.kind) a) (sym is_f) in_h) named)
          ],
        ))
        (λ o. (h, at_with_other d m g t.files o ∙ e, placed_itself h, λ a c. inl c));
    parents = parent_changed t d f g at_d placed.parent;
    names = λ m. let s = sum_with (λ (k : File). names_in m (entries_in k.kind)) d f g t.files at_d in
        let e : names_in m (entries_in g.kind) + one_when (nat_eq lost.number m) ≡ names_in m (entries_in f.kind) =
        ap (λ es. names_in m es + one_when (nat_eq lost.number m)) (left_entries f.kind name) ∙ sum_less (λ (a : Entry). one_when (nat_eq a.number m)) name (entries_in f.kind) lost apart found in
        omega (arith, s, e);
    count = count_changed t d f g at_d placed.volume;
  }

  -- directory d has lost the link of a subdirectory
  pub nlink_less_there : (file : File) → is_directory f.kind ≡ true → Lives t lost.number file → nlink new.files d g + one_when (is_directory file.kind) ≡ nlink t.files d f
  nlink_less_there file is_dir at_lost =
      let now_links : nlink new.files d g ≡ 2 + subdirectories new.files (entries_in g.kind) = if_true _ _ (placed.directory ∙ is_dir) in
      let old_links : nlink t.files d f ≡ 2 + subdirectories t.files (entries_in f.kind) = if_true _ _ is_dir in
      let same : subdirectories new.files (entries_in g.kind) ≡ subdirectories t.files (entries_in g.kind) = subdirectories_same t.files new.files (directory_changed t d f g at_d placed.directory) (entries_in g.kind) in
      let less : subdirectories t.files (entries_in g.kind) + one_when (names_directory t.files lost) ≡ subdirectories t.files (entries_in f.kind) =
      ap (λ es. subdirectories t.files es + one_when (names_directory t.files lost)) (left_entries f.kind name) ∙ sum_less (λ (a : Entry). one_when (names_directory t.files a)) name (entries_in f.kind) lost apart found in
      let is : one_when (names_directory t.files lost) ≡ one_when (is_directory file.kind) = ap (λ o. one_when (on_some o false (λ k. is_directory k.kind))) at_lost in
      omega (arith, now_links, old_links, same, less, is)

  -- any other file has the links of its names
  pub nlink_less_elsewhere : (m : ℕ) (h : File) → (is_directory h.kind ≡ true → nlink new.files m h ≡ nlink t.files m h) × (is_directory h.kind ≡ false → nlink new.files m h + one_when (nat_eq lost.number m) ≡ nlink t.files m h)
  nlink_less_elsewhere m h = (
    λ y. let a : nlink new.files m h ≡ 2 + subdirectories new.files (entries_in h.kind) = if_true _ _ y in
        let b : nlink t.files m h ≡ 2 + subdirectories t.files (entries_in h.kind) = if_true _ _ y in
        let same : subdirectories new.files (entries_in h.kind) ≡ subdirectories t.files (entries_in h.kind) = subdirectories_same t.files new.files (directory_changed t d f g at_d placed.directory) (entries_in h.kind) in
        omega (arith, a, b, same),
    λ z. let a : nlink new.files m h ≡ names_of m new.files = if_false _ _ z in
        let b : nlink t.files m h ≡ names_of m t.files = if_false _ _ z in
        let reported = one_less.names m in
        omega (arith, a, b, reported),
  )

-- the law of the other files
pub law_without_entry : (t : Tree) (d : ℕ) (now : Moment) (name : List ℕ) (f : File) (lost : Entry) → Law t → LivesAsDirectory t d f → entry_named name (entries_in f.kind) ≡ Some lost → LawBut lost.number (with_file t d (left f name now))
law_without_entry t d now name f lost law at_d found =
    let g : File = left f name now in
    let apart = names_apart f (law.sound d f at_d.0) in
    let named = law.entries d f lost at_d.0 (find_contains (has_name name) (entries_in f.kind) lost found) in
    let new : List (ℕ × File) = (with_file t d g).files in
    let less = one_less t d now name f lost law.rising at_d.0 apart found in
    law_less lost t (with_file t d g) law less (record {
      sound = λ m h e. with_back d m f g h t.files at_d.0 e (λ s is. subst (IsSound t.limits) is (left_sound f name now (law.sound d f at_d.0))) (λ o was. law.sound m h was);
      links = λ m h e. with_back d m f g h t.files at_d.0 e
          (λ s is. let reported = nlink_less_there t d now name f lost law.rising at_d.0 apart found named.0 at_d.1 named.1 in
          let was = law.links d f at_d.0 in
          let here : nlink new m h ≡ nlink new d g = ap (λ k. nlink new k h) s ∙ ap (nlink new d) (sym is) in
          omega (arith, reported, was, here))
          (λ o old. let reported = nlink_less_elsewhere t d now name f lost law.rising at_d.0 apart found m h in
          let was = law.links m h old in
          by_test (is_directory h.kind) (λ y. let a = reported.0 y in omega (arith, a, was)) (λ z. let a = reported.1 z in omega (arith, a, was)));
      bytes = λ index v e. let reported = bytes_changed t d f g at_d.0 (left_placed f name now).volume index in
          let was = law.bytes index v e in
          let same : length (bytes_in g.kind) ≡ length (bytes_in f.kind) = ap length (left_bytes f.kind name) in
          by_number f.volume index (λ s. let y = reported.0 s in omega (arith, was, same, y)) (λ o. let z = reported.1 o in omega (arith, was, z));
    })
