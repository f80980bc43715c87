-- Which files a walk of a lawful tree comes to, and what it lists of each directory.
use Rattle.std.proofs.Common.{inl, inr, ◌≡◌, ◌≢◌, ℕ, suc, zero, ◌≤◌, true, cond, List, [], ◌∷◌, ◌++◌, map, sum_by, nat_eq, Option, Some, None, refl, sym, ap}
use Rattle.std.proofs.Common.{subst, ◌∙◌, append-nil, arith}
use Rattle.std.specs.List.{flat_map}
use Rattle.std.specs.Prelude.{Contains, slice_get}
use Rattle.std.proofs.lemmas.List.Concat.{flat_map-append}
use Rattle.std.proofs.lemmas.List.Sums.{sum_by-cons}
use Rattle.nfs_inodes.specs.Law.{Law, Lives, LivesAsDirectory, IsRoot, AreRising, climb, parent_of}
use Rattle.nfs_inodes.specs.Reading.{entries_at}
use Rattle.nfs_inodes.specs.Tree.{Tree, File, Kind, Regular, Directory, Link, Entry, Volume, at, on_some, one_when, entries_in, parent_in, is_directory}
use Rattle.nfs_inodes.specs.Tree.{names_in, names_of}
use Rattle.nfs_inodes.proofs.Lists.{by_test, by_number, same_some, not_both, in_head, in_tail, head_or_tail, not_in_empty}
use Rattle.nfs_inodes.proofs.Maps.{apart_number, itself, sum_some, at_here, at_after, rising_bounds}
use Rattle.nfs_inodes.proofs.law.Alike.{sum_same}
use Rattle.nfs_describe.specs.Places.{FilePath, IsWalk}
use Rattle.nfs_round_trip.proofs.Walks.{Step, step_from, steps_from, steps, stands, named_from, stands_in_walk}

-- ---- sums

pub one_of_sum : {X : Type 0} (w : X → ℕ) (xs : List X) (x : X) → Contains xs x → w x ≤ sum_by w xs
one_of_sum w [] x c = absurd (not_in_empty [] x refl c)
one_of_sum w (y ∷ xs) x c = let sum = sum_by-cons w y xs in elim (head_or_tail y x xs c) [
  | inl e ↦ let is : w y ≡ w x = ap w e in omega (arith, sum, is)
  | inr r ↦ let rest = one_of_sum w xs x r in omega (arith, sum, rest)
]

pub some_of_sum : {X : Type 0} (w : X → ℕ) (xs : List X) → 1 ≤ sum_by w xs → (x : X) × Contains xs x × (1 ≤ w x)
some_of_sum w [] le = absurd (omega (arith, le))
some_of_sum w (y ∷ xs) le = let sum = sum_by-cons w y xs in by_number (w y) 0
    (λ none. let rest = some_of_sum w xs (omega (arith, le, sum, none)) in (rest.0, in_tail y rest.0 xs rest.1, rest.2))
    (λ some. (y, in_head y xs, omega (arith, some)))

pub names_some : (n : ℕ) (es : List Entry) → 1 ≤ names_in n es → (e : Entry) × Contains es e × (e.number ≡ n)
names_some n es le = let e = some_of_sum (λ (e : Entry). one_when (nat_eq e.number n)) es le in (
  e.0,
  e.1,
  by_number e.0.number n (λ s. s) (λ o. absurd (let none : one_when (nat_eq e.0.number n) ≡ 0 = ap one_when (apart_number e.0.number n o) in
      let some = e.2 in omega (arith, none, some))),
)

pub one_named : (n : ℕ) (es : List Entry) (e : Entry) → Contains es e → e.number ≡ n → 1 ≤ names_in n es
one_named n es e c is =
    let le = one_of_sum (λ (g : Entry). one_when (nat_eq g.number n)) es e c in
    let one : one_when (nat_eq e.number n) ≡ 1 = ap one_when (subst (λ m. nat_eq e.number m ≡ true) is (itself e.number)) in omega (arith, le, one)

-- a file that has a name has it in a directory
pub named_in : (n low next : ℕ) (files : List (ℕ × File)) → AreRising low files next → 1 ≤ names_of n files
    → (d : ℕ) × (f : File) × (at d files ≡ Some f) × (e : Entry) × Contains (entries_in f.kind) e × (e.number ≡ n)
named_in n low next [] r le = absurd (omega (arith, le))
named_in n low next (x ∷ files) r le = let sum = sum_by-cons (λ (e : ℕ × File). names_in n (entries_in e.1.kind)) x files in
    by_number (names_in n (entries_in x.1.kind)) 0
    (λ none.
    let rest = named_in n x.0 next files r.1 (omega (arith, le, sum, none)) in
    let low = (rising_bounds x.0 next files rest.0 rest.1 r.1 rest.2).0 in
    (rest.0, rest.1, at_after rest.0 x files (λ s. omega (arith, low, s)) ∙ rest.2, rest.3, rest.4, rest.5))
    (λ some. let e = names_some n (entries_in x.1.kind) (omega (arith, some)) in (x.0, x.1, at_here x files, e.0, e.1, e.2))

module _ (t : Tree) (law : Law t) where
  pub above_none : (n : ℕ) (f : File) → Lives t n f → n ≢ 0
  above_none n f lives s = let low = (rising_bounds 0 t.next t.files n f law.rising lives).0 in omega (arith, low, s)

  pub entries_of : (n : ℕ) (f : File) → Lives t n f → entries_at t n ≡ entries_in f.kind
  entries_of n f lives = ap (λ o. on_some o [] (λ (g : File). entries_in g.kind)) lives

  within : (n k : ℕ) (o : Option File) → at k t.files ≡ o → names_in n (on_some o [] (λ (g : File). entries_in g.kind)) ≤ names_of n t.files
  within n k None e = omega arith
  within n k (Some g) e = sum_some (λ (f : File). names_in n (entries_in f.kind)) k g t.files e

  -- a root's own number is named nowhere
  pub none_named : (n k : ℕ) → names_of n t.files ≡ 0 → names_in n (entries_at t k) ≡ 0
  none_named n k none = let le = within n k (at k t.files) refl in omega (arith, le, none)

  module _ (m : ℕ) (f : File) (lives : LivesAsDirectory t m f) (free : IsRoot t.volumes m → ⊥) where
    in_file : (k : ℕ) (o : Option File) → at k t.files ≡ o
        → names_in m (on_some o [] (λ (g : File). entries_in g.kind)) ≡ one_when (nat_eq k (parent_in f.kind))
    in_file k None e = by_number k (parent_in f.kind)
        (λ s. let home = law.homes m f lives in absurd (not_both e (ap (λ i. at i t.files) s ∙ home.1.0)))
        (λ o. sym (ap one_when (apart_number k (parent_in f.kind) o)))
    in_file k (Some g) e = by_number k (parent_in f.kind)
        (λ s.
        let home = law.stands m f (above_none m f lives.0) lives free in
        let same : g ≡ home.0 = same_some (sym e ∙ ap (λ i. at i t.files) s ∙ home.1) in
        let some = one_named m (entries_in home.0.kind) home.2 home.3 home.4 in
        let is : names_in m (entries_in g.kind) ≡ names_in m (entries_in home.0.kind) = ap (λ (h : File). names_in m (entries_in h.kind)) same in
        let few = within m k (Some g) e in
        let once = law.once m f (above_none m f lives.0) lives free in
        let one : one_when (nat_eq k (parent_in f.kind)) ≡ 1 = ap one_when (subst (λ i. nat_eq k i ≡ true) s (itself k)) in
        omega (arith, some, is, few, once, one))
        (λ o. by_number (names_in m (entries_in g.kind)) 0
        (λ none. none ∙ sym (ap one_when (apart_number k (parent_in f.kind) o)))
        (λ some.
        let entry = names_some m (entries_in g.kind) (omega (arith, some)) in
        absurd (o (sym (law.parents k g entry.0 f e entry.1 (subst (λ i. LivesAsDirectory t i f) (sym entry.2) lives))))))

    -- a directory stands in a walk as often as its parent
    pub named_by_parent : (walk : List FilePath) → named_from t m walk ≡ stands (parent_in f.kind) walk
    named_by_parent walk = sum_same (λ (p : FilePath). names_in m (entries_at t p.number)) (λ (p : FilePath). one_when (nat_eq p.number (parent_in f.kind))) walk
        (λ p. in_file p.number (at p.number t.files) refl)

  named_nowhere : (n : ℕ) (walk : List FilePath) → names_of n t.files ≡ 0 → named_from t n walk ≡ 0
  named_nowhere n [] none = refl
  named_nowhere n (p ∷ walk) none =
      let sum = sum_by-cons (λ (q : FilePath). names_in n (entries_at t q.number)) p walk in
      let here = none_named n p.number none in let rest = named_nowhere n walk none in omega (arith, sum, here, rest)

  -- the volume of a root's number
  pub root_of : (index : ℕ) (w : Volume) (m : ℕ) (f : File) → slice_get t.volumes index ≡ Some w → w.root ≡ m → Lives t m f → f.volume ≡ index
  root_of index w m f at_w is lives =
      let root = law.roots index w at_w in
      ap (λ (g : File). g.volume) (same_some (sym lives ∙ ap (λ i. at i t.files) (sym is) ∙ root.1.0)) ∙ root.3

  module _ (index : ℕ) (w : Volume) (at_w : slice_get t.volumes index ≡ Some w) (walk : List FilePath) (walked : IsWalk t w.root walk) where
    top : (m : ℕ) (f : File) (v : Volume) → slice_get t.volumes f.volume ≡ Some v → m ≡ v.root → stands m walk ≡ one_when (nat_eq w.root v.root)
    top m f v at_v s =
        let none : names_of m t.files ≡ 0 = ap (λ i. names_of i t.files) s ∙ (law.roots f.volume v at_v).4 in
        let nowhere = named_nowhere m walk none in
        let all = stands_in_walk t w.root m walk walked in
        let same : one_when (nat_eq w.root m) ≡ one_when (nat_eq w.root v.root) = ap (λ i. one_when (nat_eq w.root i)) s in omega (arith, nowhere, all, same)

    no_root : (m : ℕ) (f : File) (v : Volume) → LivesAsDirectory t m f → slice_get t.volumes f.volume ≡ Some v → m ≢ v.root → IsRoot t.volumes m → ⊥
    no_root m f v lives at_v other (i, u, at_u, is) =
        let volume = root_of i u m f at_u is lives.0 in
        other (sym is ∙ ap (λ (x : Volume). x.root) (same_some (sym at_u ∙ ap (slice_get t.volumes) (sym volume) ∙ at_v)))

    stands_reached : (count m : ℕ) (f : File) (v : Volume) → LivesAsDirectory t m f → slice_get t.volumes f.volume ≡ Some v → climb count t.files m ≡ v.root
        → stands m walk ≡ one_when (nat_eq w.root v.root)
    stands_reached zero m f v lives at_v up = top m f v at_v up
    stands_reached (suc count) m f v lives at_v up = by_number m v.root (top m f v at_v) (λ other.
        let free = no_root m f v lives at_v other in
        let home = law.homes m f lives in
        let up_one : parent_of t.files m ≡ parent_in f.kind = ap (λ o. on_some o 0 (λ (g : File). parent_in g.kind)) lives.0 in
        let rest = stands_reached count (parent_in f.kind) home.0 v home.1 (ap (slice_get t.volumes) home.2 ∙ at_v)
        (ap (climb count t.files) (sym up_one) ∙ up) in
        let all = stands_in_walk t w.root m walk walked in
        let parent = named_by_parent m f lives free walk in
        let apart : w.root ≢ m = λ s. free (index, w, at_w, s) in
        let none : one_when (nat_eq w.root m) ≡ 0 = ap one_when (apart_number w.root m apart) in omega (arith, rest, all, parent, none))

    -- a directory of the volume stands once, another not at all
    pub stands_here : (m : ℕ) (f : File) → LivesAsDirectory t m f → f.volume ≡ index → stands m walk ≡ 1
    stands_here m f lives here =
        let r = law.reached m f lives in
        let same : r.1 ≡ w = same_some (sym r.2 ∙ ap (slice_get t.volumes) here ∙ at_w) in
        stands_reached r.0 m f r.1 lives r.2 r.3 ∙ ap one_when (subst (λ (v : Volume). nat_eq w.root v.root ≡ true) (sym same) (itself w.root))

    pub stands_elsewhere : (m : ℕ) (f : File) → LivesAsDirectory t m f → f.volume ≢ index → stands m walk ≡ 0
    stands_elsewhere m f lives there =
        let r = law.reached m f lives in
        let root = law.roots f.volume r.1 r.2 in
        let apart : w.root ≢ r.1.root = λ s. there (sym root.3 ∙ root_of index w r.1.root root.0 at_w s root.1.0) in
        stands_reached r.0 m f r.1 lives r.2 r.3 ∙ ap one_when (apart_number w.root r.1.root apart)

    -- every file of the volume stands
    pub all_stand : (n : ℕ) (f : File) → Lives t n f → f.volume ≡ index → 1 ≤ stands n walk
    all_stand n f lives here = by_test (is_directory f.kind)
        (λ y. let one = stands_here n f (lives, y) here in omega (arith, one))
        (λ no.
        let named = named_in n 0 t.next t.files law.rising (law.named n f (above_none n f lives) lives no) in
        let target = law.entries named.0 named.1 named.3 named.2 named.4 in
        let same : target.0 ≡ f = same_some (sym target.1 ∙ ap (λ i. at i t.files) named.5 ∙ lives) in
        let dir : is_directory named.1.kind ≡ true = has_entries named.1.kind named.3 named.4 in
        let volume : named.1.volume ≡ index = sym target.2 ∙ ap (λ (g : File). g.volume) same ∙ here in
        let stood = stands_here named.0 named.1 (named.2, dir) volume in
        let place = some_of_sum (λ (p : FilePath). one_when (nat_eq p.number named.0)) walk (omega (arith, stood)) in
        let at_place : place.0.number ≡ named.0 = by_number place.0.number named.0 (λ s. s)
        (λ o. absurd (let none : one_when (nat_eq place.0.number named.0) ≡ 0 = ap one_when (apart_number place.0.number named.0 o) in let some = place.2 in
        omega (arith, none, some))) in
        let below = one_of_sum (λ (p : FilePath). names_in n (entries_at t p.number)) walk place.0 place.1 in
        let entry = one_named n (entries_at t place.0.number) named.3
        (subst (λ l. Contains l named.3) (sym (ap (entries_at t) at_place ∙ entries_of named.0 named.1 named.2)) named.4) named.5 in
        let all = stands_in_walk t w.root n walk walked in omega (arith, below, entry, all))
      where
        has_entries : (k : Kind) (e : Entry) → Contains (entries_in k) e → is_directory k ≡ true
        has_entries (Regular bytes) e c = absurd (not_in_empty [] e refl c)
        has_entries (Directory parent next_cookie entries) e c = refl
        has_entries (Link path) e c = absurd (not_in_empty [] e refl c)

-- ---- what steps list of a directory

abbrev pub listed_by : ℕ → Step → List Entry
listed_by d s = cond (nat_eq s.0.number d) (s.1 ∷ []) []

abbrev pub shown : List Step → ℕ → List Entry
shown all d = flat_map (listed_by d) all

pub shown_append : (one two : List Step) (d : ℕ) → shown (one ++ two) d ≡ shown one d ++ shown two d
shown_append one two d = flat_map-append (listed_by d) one two

listed_here : (d : ℕ) (s : Step) → s.0.number ≡ d → listed_by d s ≡ s.1 ∷ []
listed_here d s e = ap (λ b. cond b (s.1 ∷ []) []) (subst (λ i. nat_eq s.0.number i ≡ true) e (itself s.0.number))

listed_there : (d : ℕ) (s : Step) → s.0.number ≢ d → listed_by d s ≡ []
listed_there d s o = ap (λ b. cond b (s.1 ∷ []) []) (apart_number s.0.number d o)

pub shown_here : (done : List Step) (s : Step) (d : ℕ) → s.0.number ≡ d → shown (done ++ s ∷ []) d ≡ shown done d ++ s.1 ∷ []
shown_here done s d e = shown_append done (s ∷ []) d ∙ ap (λ l. shown done d ++ l) (append-nil (listed_by d s) ∙ listed_here d s e)

pub shown_there : (done : List Step) (s : Step) (d : ℕ) → s.0.number ≢ d → shown (done ++ s ∷ []) d ≡ shown done d
shown_there done s d o = shown_append done (s ∷ []) d ∙ ap (λ l. shown done d ++ l) (append-nil (listed_by d s) ∙ listed_there d s o)
    ∙ append-nil (shown done d)

from_here : (p : FilePath) (es : List Entry) (d : ℕ) → p.number ≡ d → shown (map (step_from p) es) d ≡ es
from_here p [] d e = refl
from_here p (x ∷ es) d e = ap (λ l. l ++ shown (map (step_from p) es) d) (listed_here d (step_from p x) e) ∙ ap (λ l. x ∷ l) (from_here p es d e)

from_there : (p : FilePath) (es : List Entry) (d : ℕ) → p.number ≢ d → shown (map (step_from p) es) d ≡ []
from_there p [] d o = refl
from_there p (x ∷ es) d o = ap (λ l. l ++ shown (map (step_from p) es) d) (listed_there d (step_from p x) o) ∙ from_there p es d o

pub shown_none : (t : Tree) (places : List FilePath) (d : ℕ) → stands d places ≡ 0 → shown (steps t places) d ≡ []
shown_none t [] d none = refl
shown_none t (p ∷ places) d none =
    let sum = sum_by-cons (λ (q : FilePath). one_when (nat_eq q.number d)) p places in
    by_number p.number d
    (λ s. absurd (let one : one_when (nat_eq p.number d) ≡ 1 = ap one_when (subst (λ i. nat_eq p.number i ≡ true) s (itself p.number)) in
    omega (arith, sum, one, none)))
    (λ o. shown_append (steps_from t p) (steps t places) d ∙ ap (λ l. l ++ shown (steps t places) d) (from_there p (entries_at t p.number) d o)
    ∙ shown_none t places d (omega (arith, sum, none)))

-- of a directory that stands once its entries are listed
pub shown_once : (t : Tree) (places : List FilePath) (d : ℕ) → stands d places ≡ 1 → shown (steps t places) d ≡ entries_at t d
shown_once t [] d once = absurd (omega (arith, once))
shown_once t (p ∷ places) d once =
    let sum = sum_by-cons (λ (q : FilePath). one_when (nat_eq q.number d)) p places in
    by_number p.number d
    (λ s. let one : one_when (nat_eq p.number d) ≡ 1 = ap one_when (subst (λ i. nat_eq p.number i ≡ true) s (itself p.number)) in
    shown_append (steps_from t p) (steps t places) d ∙ ap (λ l. l ++ shown (steps t places) d) (from_here p (entries_at t p.number) d s)
    ∙ ap (λ l. entries_at t p.number ++ l) (shown_none t places d (omega (arith, sum, one, once))) ∙ append-nil (entries_at t p.number) ∙ ap (entries_at t) s)
    (λ o. let none : one_when (nat_eq p.number d) ≡ 0 = ap one_when (apart_number p.number d o) in
    shown_append (steps_from t p) (steps t places) d ∙ ap (λ l. l ++ shown (steps t places) d) (from_there p (entries_at t p.number) d o)
    ∙ shown_once t places d (omega (arith, sum, none, once)))
