-- The law after changes that leave names, kinds and parents.
use Rattle.std.proofs.Common.{◌≡◌, ◌≢◌, ℕ, zero, suc, ◌+◌, ◌≤◌, Bool, true, false, List, [], ◌∷◌, sum_by, Some, refl, sym, ap, subst, ◌∙◌, arith}
use Rattle.std.specs.Prelude.{Contains, slice_get, length, nat_eq, if◌then◌else◌}
use Rattle.std.proofs.lemmas.Bool.{eqb-true, eq-eqb}
use Rattle.std.proofs.lemmas.List.Sums.{sum_by-cons}
use Rattle.nfs_inodes.specs.declared.limits.Limits.{Limits}
use Rattle.nfs_inodes.specs.Limits.{AreLimits}
use Rattle.nfs_inodes.specs.Tree.{Tree, File, Entry, Volume, at, with_at, on_some, one_when, entries_in, bytes_in, is_directory, parent_in, names_in, names_of, names_directory, subdirectories, nlink, bytes_for, one_for, bytes_of, files_of}
use Rattle.nfs_inodes.specs.Law.{LawBut, IsSound, AreVolumes, IsRoot, AreRising, Lives, climb, parent_of}
use Rattle.nfs_inodes.specs.Changes.{with_file}
use Rattle.nfs_inodes.specs.Reading.{numbered_files}
use Rattle.nfs_handles.specs.NumberedFiles.{IsNumbered}
use Rattle.nfs_inodes.proofs.Numbers.{numbers_changed}
use Rattle.nfs_inodes.proofs.Lists.{by_test, by_number, if_true, if_false, same_some, not_both, none_from}
use Rattle.nfs_inodes.proofs.Maps.{at_with_same, at_with_other, rising_with, sum_with, with_back}

-- two files with the same place in the tree, whatever their entries
pub record Placed (f g : File) : Type 0 where
  pub tag : g.tag ≡ f.tag
  pub volume : g.volume ≡ f.volume
  pub directory : is_directory g.kind ≡ is_directory f.kind
  pub parent : parent_in g.kind ≡ parent_in f.kind

-- and with the same entries
pub record Alike (f g : File) : Type 0 where
  pub placed : Placed f g
  pub entries : entries_in g.kind ≡ entries_in f.kind

pub record AreAlike (old new : Tree) : Type 0 where
  pub numbers : IsNumbered (numbered_files new)
  pub rising : AreRising 0 new.files new.next
  pub volumes : new.volumes ≡ old.volumes
  pub limits : new.limits ≡ old.limits
  pub back : (m : ℕ) (h : File) → Lives new m h → (f : File) × Lives old m f × Alike f h
  pub forth : (m : ℕ) (f : File) → Lives old m f → (h : File) × Lives new m h × Alike f h
  pub parents : (m : ℕ) → parent_of new.files m ≡ parent_of old.files m
  pub names : (m : ℕ) → names_of m new.files ≡ names_of m old.files
  pub directories : (e : Entry) → names_directory new.files e ≡ names_directory old.files e
  pub count : (index : ℕ) → files_of index new.files ≡ files_of index old.files

pub climb_alike : (old new : List (ℕ × File)) → ((m : ℕ) → parent_of new m ≡ parent_of old m) → (k m : ℕ) → climb k new m ≡ climb k old m
climb_alike old new same zero m = refl
climb_alike old new same (suc k) m = climb_alike old new same k (parent_of new m) ∙ ap (climb k old) (same m)

-- sums of equal numbers
pub sum_same : {X : Type 0} (f g : X → ℕ) (xs : List X) → ((x : X) → f x ≡ g x) → sum_by f xs ≡ sum_by g xs
sum_same f g [] h = refl
sum_same f g (x ∷ xs) h = let a = sum_by-cons f x xs in let b = sum_by-cons g x xs in let here = h x in let rest = sum_same f g xs h in omega (arith, a, b, here, rest)

pub subdirectories_same : (old new : List (ℕ × File)) → ((e : Entry) → names_directory new e ≡ names_directory old e) → (es : List Entry) → subdirectories new es ≡ subdirectories old es
subdirectories_same old new same es = sum_same (λ e. one_when (names_directory new e)) (λ e. one_when (names_directory old e)) es (λ e. ap one_when (same e))

-- the links of two such files
pub nlink_by : (b c : Bool) (s r m n : ℕ) → b ≡ c → s ≡ r → m ≡ n → (if b then 2 + s else m) ≡ (if c then 2 + r else n)
nlink_by true true s r m n e f g = ap (λ k. 2 + k) f
nlink_by false false s r m n e f g = g
nlink_by true false s r m n e f g = cc
nlink_by false true s r m n e f g = cc

pub nlink_alike : (old new : Tree) → AreAlike old new → (n : ℕ) (f g : File) → Alike f g → nlink new.files n g ≡ nlink old.files n f
nlink_alike old new like n f g a = nlink_by (is_directory g.kind) (is_directory f.kind) (subdirectories new.files (entries_in g.kind)) (subdirectories old.files (entries_in f.kind)) (names_of n new.files) (names_of n old.files)
    a.placed.directory
    (subdirectories_same old.files new.files like.directories (entries_in g.kind) ∙ ap (subdirectories old.files) a.entries)
    (like.names n)

pub not_root : (old new : Tree) (n : ℕ) → new.volumes ≡ old.volumes → (IsRoot new.volumes n → ⊥) → IsRoot old.volumes n → ⊥
not_root old new n same free r = free (subst (λ vs. IsRoot vs n) (sym same) r)

pub law_alike : (x : ℕ) (old new : Tree) → LawBut x old → AreAlike old new → ((m : ℕ) (h : File) → Lives new m h → IsSound new.limits h) → ((index : ℕ) (v : Volume) → slice_get new.volumes index ≡ Some v → bytes_of index new.files ≤ v.max_bytes) → LawBut x new
law_alike x old new law like sound bytes = record {
  numbers = like.numbers;
  rising = like.rising;
  sound = sound;
  placed = λ n h e. let b = like.back n h e in let l = law.placed n b.0 b.1 in
      (l.0, subst (λ vs. slice_get vs h.volume ≡ Some l.0) (sym like.volumes) (subst (λ k. slice_get old.volumes k ≡ Some l.0) (sym b.2.placed.volume) l.1));
  entries = λ d h e at_d in_h. let b = like.back d h at_d in
      let l = law.entries d b.0 e b.1 (subst (λ es. Contains es e) b.2.entries in_h) in
      let g = like.forth e.number l.0 l.1 in
      (g.0, g.1, g.2.placed.volume ∙ l.2 ∙ sym b.2.placed.volume);
  absent = λ n e. like.names n ∙ law.absent n (none_from (at n old.files) (λ f g. not_both e (like.forth n f g).1));
  roots = λ index v e. let l = law.roots index v (subst (λ vs. slice_get vs index ≡ Some v) like.volumes e) in
      let h = like.forth v.root l.0 l.1.0 in
      (h.0, (h.1, h.2.placed.directory ∙ l.1.1), h.2.placed.parent ∙ l.2, h.2.placed.volume ∙ l.3, like.names v.root ∙ l.4);
  once = λ n h other dir free. let b = like.back n h dir.0 in
      like.names n ∙ law.once n b.0 other (b.1, sym b.2.placed.directory ∙ dir.1) (not_root old new n like.volumes free);
  parents = λ d h e g at_d in_h dir. let b = like.back d h at_d in
      let o = like.back e.number g dir.0 in
      o.2.placed.parent ∙ law.parents d b.0 e o.0 b.1 (subst (λ es. Contains es e) b.2.entries in_h) (o.1, sym o.2.placed.directory ∙ dir.1);
  stands = λ n h other dir free. let b = like.back n h dir.0 in
      let l = law.stands n b.0 other (b.1, sym b.2.placed.directory ∙ dir.1) (not_root old new n like.volumes free) in
      let p = like.forth (parent_in b.0.kind) l.0 l.1 in
      (p.0, ap (λ k. at k new.files) b.2.placed.parent ∙ p.1, l.2, subst (λ es. Contains es l.2) (sym p.2.entries) l.3, l.4);
  homes = λ n h dir. let b = like.back n h dir.0 in
      let l = law.homes n b.0 (b.1, sym b.2.placed.directory ∙ dir.1) in
      let p = like.forth (parent_in b.0.kind) l.0 l.1.0 in
      (p.0, (ap (λ k. at k new.files) b.2.placed.parent ∙ p.1, p.2.placed.directory ∙ l.1.1), p.2.placed.volume ∙ l.2 ∙ sym b.2.placed.volume);
  reached = λ n h dir. let b = like.back n h dir.0 in
      let l = law.reached n b.0 (b.1, sym b.2.placed.directory ∙ dir.1) in
      (l.0, l.1, subst (λ vs. slice_get vs h.volume ≡ Some l.1) (sym like.volumes) (subst (λ k. slice_get old.volumes k ≡ Some l.1) (sym b.2.placed.volume) l.2), climb_alike old.files new.files like.parents l.0 n ∙ l.3);
  named = λ n h other at_n dir. let b = like.back n h at_n in
      subst (λ k. 1 ≤ k) (sym (like.names n)) (law.named n b.0 other b.1 (sym b.2.placed.directory ∙ dir));
  links = λ n h at_n. let b = like.back n h at_n in
      subst (λ k. k ≤ new.limits.links) (sym (nlink_alike old new like n b.0 h b.2)) (subst (λ (l : Limits). nlink old.files n b.0 ≤ l.links) (sym like.limits) (law.links n b.0 b.1));
  limits = subst AreLimits (sym like.limits) law.limits;
  volumes = subst (λ (l : Limits). AreVolumes l new.volumes) (sym like.limits) (subst (AreVolumes old.limits) (sym like.volumes) law.volumes);
  bytes = bytes;
  count = λ index v e. subst (λ k. k ≤ v.max_files) (sym (like.count index)) (law.count index v (subst (λ vs. slice_get vs index ≡ Some v) like.volumes e));
}

pub placed_itself : (f : File) → Placed f f
placed_itself f = record { tag = refl; volume = refl; directory = refl; parent = refl }

pub alike_itself : (f : File) → Alike f f
alike_itself f = record { placed = placed_itself f; entries = refl }

-- ---- one file changed

pub parent_changed : (t : Tree) (n : ℕ) (f g : File) → Lives t n f → parent_in g.kind ≡ parent_in f.kind → (m : ℕ) → parent_of (with_file t n g).files m ≡ parent_of t.files m
parent_changed t n f g at_n same m = by_number m n
    (λ s. ap (λ o. on_some o 0 (λ k. parent_in k.kind)) (ap (λ k. at k (with_at n g t.files)) s ∙ at_with_same n f g t.files at_n)
    ∙ same ∙ sym (ap (λ o. on_some o 0 (λ k. parent_in k.kind)) (ap (λ k. at k t.files) s ∙ at_n)))
    (λ o. ap (λ o. on_some o 0 (λ k. parent_in k.kind)) (at_with_other n m g t.files o))

pub directory_changed : (t : Tree) (n : ℕ) (f g : File) → Lives t n f → is_directory g.kind ≡ is_directory f.kind → (e : Entry) → names_directory (with_file t n g).files e ≡ names_directory t.files e
directory_changed t n f g at_n same e = by_number e.number n
    (λ s. ap (λ o. on_some o false (λ k. is_directory k.kind)) (ap (λ k. at k (with_at n g t.files)) s ∙ at_with_same n f g t.files at_n)
    ∙ same ∙ sym (ap (λ o. on_some o false (λ k. is_directory k.kind)) (ap (λ k. at k t.files) s ∙ at_n)))
    (λ o. ap (λ o. on_some o false (λ k. is_directory k.kind)) (at_with_other n e.number g t.files o))

pub one_for_same : (index : ℕ) (f g : File) → g.volume ≡ f.volume → one_for index g ≡ one_for index f
one_for_same index f g e = ap (λ k. one_when (nat_eq k index)) e

pub count_changed : (t : Tree) (n : ℕ) (f g : File) → Lives t n f → g.volume ≡ f.volume → (index : ℕ) → files_of index (with_file t n g).files ≡ files_of index t.files
count_changed t n f g at_n same index = let s = sum_with (one_for index) n f g t.files at_n in let e = one_for_same index f g same in omega (arith, s, e)

pub one_alike : (t : Tree) (n : ℕ) (f g : File) → AreRising 0 t.files t.next → IsNumbered (numbered_files t) → Lives t n f → Alike f g → AreAlike t (with_file t n g)
one_alike t n f g rising numbers at_n like = record {
  numbers = numbers_changed t n f g at_n like.placed.tag numbers;
  rising = rising_with 0 t.next n t.files g rising;
  volumes = refl;
  limits = refl;
  back = λ m h e. with_back n m f g h t.files at_n e
      (λ s is. (f, ap (λ k. at k t.files) s ∙ at_n, subst (λ k. Alike f k) is like))
      (λ o was. (h, was, alike_itself h));
  forth = λ m h e. by_number m n
      (λ s. let is_f : f ≡ h = same_some (sym (ap (λ k. at k t.files) s ∙ at_n) ∙ e) in
      (g, ap (λ k. at k (with_at n g t.files)) s ∙ at_with_same n f g t.files at_n, subst (λ k. Alike k g) is_f like))
      (λ o. (h, at_with_other n m g t.files o ∙ e, alike_itself h));
  parents = parent_changed t n f g at_n like.placed.parent;
  names = λ m. let s = sum_with (λ (k : File). names_in m (entries_in k.kind)) n f g t.files at_n in
      let e : names_in m (entries_in g.kind) ≡ names_in m (entries_in f.kind) = ap (names_in m) like.entries in
      omega (arith, s, e);
  directories = directory_changed t n f g at_n like.placed.directory;
  count = count_changed t n f g at_n like.placed.volume;
}

pub bytes_here : (index : ℕ) (f : File) → f.volume ≡ index → bytes_for index f ≡ length (bytes_in f.kind)
bytes_here index f s = if_true _ _ (eq-eqb f.volume index s)

pub bytes_elsewhere : (index : ℕ) (f : File) → f.volume ≢ index → bytes_for index f ≡ 0
bytes_elsewhere index f o = by_test (nat_eq f.volume index) (λ t. absurd (o (eqb-true f.volume index t))) (λ n. if_false _ _ n)

-- the bytes of a volume after a change of a file's bytes
pub bytes_changed : (t : Tree) (n : ℕ) (f g : File) → Lives t n f → g.volume ≡ f.volume → (index : ℕ) →
    (f.volume ≡ index → bytes_of index (with_file t n g).files + length (bytes_in f.kind) ≡ bytes_of index t.files + length (bytes_in g.kind)) × (f.volume ≢ index → bytes_of index (with_file t n g).files ≡ bytes_of index t.files)
bytes_changed t n f g at_n same index = let s = sum_with (bytes_for index) n f g t.files at_n in (
  λ h. let a = bytes_here index f h in let b = bytes_here index g (same ∙ h) in omega (arith, s, a, b),
  λ o. let a = bytes_elsewhere index f o in let b = bytes_elsewhere index g (λ q. o (sym same ∙ q)) in omega (arith, s, a, b),
)

-- the volume of file f has room for the bytes of g in its place
pub record HasRoom (t : Tree) (f g : File) : Type 0 where
  pub volume : Volume
  pub at_volume : slice_get t.volumes f.volume ≡ Some volume
  pub room : bytes_of f.volume t.files + length (bytes_in g.kind) ≤ volume.max_bytes + length (bytes_in f.kind)

pub law_with_file : (x : ℕ) (t : Tree) (n : ℕ) (f g : File) → LawBut x t → Lives t n f → Alike f g → IsSound t.limits g → HasRoom t f g → LawBut x (with_file t n g)
law_with_file x t n f g law at_n like sound has = law_alike x t (with_file t n g) law (one_alike t n f g law.rising law.numbers at_n like)
    (λ m h e. with_back n m f g h t.files at_n e (λ s is. subst (IsSound t.limits) is sound) (λ o was. law.sound m h was))
    (λ index v e. let reported = bytes_changed t n f g at_n like.placed.volume index in by_number f.volume index
    (λ s. let same : has.volume ≡ v = same_some (sym has.at_volume ∙ ap (slice_get t.volumes) s ∙ e) in
    let limit : has.volume.max_bytes ≡ v.max_bytes = ap (λ (k : Volume). k.max_bytes) same in
    let sums : bytes_of f.volume t.files ≡ bytes_of index t.files = ap (λ k. bytes_of k t.files) s in
    let now = reported.0 s in let room = has.room in omega (arith, limit, sums, now, room))
    (λ o. let was = law.bytes index v e in let now = reported.1 o in omega (arith, was, now)))

-- where a file has as many bytes as before, there is room
pub room_same : (x : ℕ) (t : Tree) (n : ℕ) (f g : File) → LawBut x t → Lives t n f → bytes_in g.kind ≡ bytes_in f.kind → HasRoom t f g
room_same x t n f g law at_n same = let v = law.placed n f at_n in
    record {
      volume = v.0;
      at_volume = v.1;
      room = let b = law.bytes f.volume v.0 v.1 in let l : length (bytes_in g.kind) ≡ length (bytes_in f.kind) = ap length same in omega (arith, b, l);
    }
