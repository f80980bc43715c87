-- All volumes, one after another.
use Rattle.std.proofs.Common.{inl, inr, ◌≡◌, ◌≢◌, ℕ, suc, zero, ◌+◌, ◌-◌, ◌<◌, ◌≤◌, Bool, true, false, List, [], ◌∷◌, ◌++◌, length, map, nat_eq, get_or, take, Option, Some}
use Rattle.std.proofs.Common.{None, option_map, Ok, refl, sym, ap, subst, ◌∙◌, append-nil, arith}
use Rattle.std.specs.List.{flat_map}
use Rattle.std.specs.Prelude.{All, AllPairs, Contains, slice_get}
use Rattle.std.proofs.lemmas.List.{length-append, map-append}
use Rattle.std.proofs.lemmas.List.Elements.{All-cons, All-nil}
use Rattle.nfs_exports.specs.Tables.{exports_of, pattern_count}
use Rattle.nfs_exports.specs.declared.export_table.Export.{Export}
use Rattle.nfs_inodes.specs.Law.{IsWithin, Lives, LivesAsDirectory}
use Rattle.nfs_inodes.specs.Reading.{attributes_at, attributes_of, entries_at}
use Rattle.nfs_inodes.specs.Tree.{Tree, File, Kind, Regular, Directory, Link, Volume, at, names_of, nlink, on_some, one_for, one_when, parent_in}
use Rattle.nfs_inodes.proofs.Lists.{by_number, in_head, in_tail, head_or_tail, not_in_empty, same_some}
use Rattle.nfs_inodes.proofs.Maps.{itself, apart_number, sum_some}
use Rattle.nfs_load.specs.Descriptions.{last_root, root_or_cause}
use Rattle.nfs_load.specs.declared.loaded.Loaded.{Loaded}
use Rattle.nfs_load.specs.declared.name_form.NameForm.{NameForm}
use Rattle.nfs_describe.specs.Lines.{export_line}
use Rattle.nfs_describe.specs.Places.{IsWalk, FilePath, can_hold}
use Rattle.nfs_describe.specs.Texts.{files_text, first_name, first_places, hard_text, own_line, own_text, place_text, root_text, times_text, volume_text, most_text_bytes}
use Rattle.nfs_round_trip.specs.Copies.{copied_volume}
use Rattle.nfs_round_trip.specs.RoundTrip.{IsDescribable, IsVolumeSaid}
use Rattle.nfs_round_trip.proofs.Directories.{all_stand, shown, shown_append, shown_none, shown_once, some_of_sum, stands_elsewhere, stands_here}
use Rattle.nfs_round_trip.proofs.Going.{named_root}
use Rattle.nfs_round_trip.proofs.Made.{Has, has_last, has_push, push_has}
use Rattle.nfs_round_trip.proofs.Parts.{IsPart}
use Rattle.nfs_round_trip.proofs.Paths.{path_held}
use Rattle.nfs_round_trip.proofs.Roots.{exports_go, root_goes}
use Rattle.nfs_round_trip.proofs.Runs.{Goes, goes_both}
use Rattle.nfs_round_trip.proofs.Times.{first_in, first_there, gets_timed, stays_as_timed, timed_all, times_go}
use Rattle.nfs_round_trip.proofs.Volumes.{IsGoing, IsStood, Numbered, all_held, files_go}
use Rattle.nfs_round_trip.proofs.Walks.{Step, place_of, places_of_steps, root_place, steps}

-- ---- lists, up to a place

pub get_within : {X : Type 0} (xs : List X) (i : ℕ) (x : X) → slice_get xs i ≡ Some x → i < length xs
get_within [] i x e = cc
get_within (y ∷ xs) zero x e = omega arith
get_within (y ∷ xs) (suc i) x e = let rest = get_within xs i x e in omega (arith, rest)

get_is : {X : Type 0} (xs : List X) (i : ℕ) (x d : X) → slice_get xs i ≡ Some x → get_or xs i d ≡ x
get_is [] i x d e = cc
get_is (y ∷ xs) zero x d e = same_some e
get_is (y ∷ xs) (suc i) x d e = get_is xs i x d e

all_get : {X : Type 0} (P : X → Type 0) (xs : List X) (i : ℕ) (x : X) → All P xs → slice_get xs i ≡ Some x → P x
all_get P xs i x all e = subst P (get_is xs i x x e) (all i x (get_within xs i x e))

take_one : {X : Type 0} (xs : List X) (i : ℕ) (x : X) → slice_get xs i ≡ Some x → take (suc i) xs ≡ take i xs ++ x ∷ []
take_one [] i x e = cc
take_one (y ∷ xs) zero x e = ap (λ z. z ∷ []) (same_some e)
take_one (y ∷ xs) (suc i) x e = ap (λ l. y ∷ l) (take_one xs i x e)

take_long : {X : Type 0} (xs : List X) (i : ℕ) → i ≤ length xs → length (take i xs) ≡ i
take_long xs zero le = refl
take_long [] (suc i) le = absurd (omega (arith, le))
take_long (x ∷ xs) (suc i) le = ap suc (take_long xs i (omega (arith, le)))

pub take_whole : {X : Type 0} (xs : List X) → take (length xs) xs ≡ xs
take_whole [] = refl
take_whole (x ∷ xs) = ap (λ l. x ∷ l) (take_whole xs)

get_last : {X : Type 0} (xs : List X) (i : ℕ) (x : X) → length xs ≡ i → slice_get (xs ++ x ∷ []) i ≡ Some x
get_last [] i x e = ap (slice_get (x ∷ [])) (sym e)
get_last (y ∷ xs) i x e = ap (slice_get (y ∷ (xs ++ x ∷ []))) (sym e) ∙ get_last xs (length xs) x refl

take_table : (table : List (List Export)) (i : ℕ) → i < length table → take (suc i) table ≡ take i table ++ exports_of table i ∷ []
take_table [] i less = absurd (omega (arith, less))
take_table (es ∷ table) zero less = refl
take_table (es ∷ table) (suc i) less = ap (λ l. es ∷ l) (take_table table i (omega (arith, less)))

few_to : (table : List (List Export)) (i : ℕ) → pattern_count (take i table) + length (exports_of table i) ≤ pattern_count table
few_to [] zero = omega arith
few_to [] (suc i) = omega arith
few_to (es ∷ table) zero = omega arith
few_to (es ∷ table) (suc i) = let rest = few_to table i in omega (arith, rest)

-- volumes before one have other paths
others_apart : (number : ℕ → ℕ) (vs : List Volume) (i : ℕ) (w : Volume) → slice_get vs i ≡ Some w → AllPairs (λ v w. v.path ≢ w.path) vs
    → All (λ v. v.path ≢ w.path) (map (copied_volume number) (take i vs))
others_apart number vs zero w e apart = All-nil (λ (v : Volume). v.path ≢ w.path)
others_apart number [] (suc i) w e apart = cc
others_apart number (v ∷ vs) (suc i) w e apart =
    All-cons (λ (v : Volume). v.path ≢ w.path) (copied_volume number v) (map (copied_volume number) (take i vs))
    (λ s. let less = get_within vs i w e in apart 0 (suc i) w (omega arith) (omega (arith, less)) (s ∙ ap (λ (v : Volume). v.path) (sym (get_is vs i w w e))))
    (others_apart number vs i w e (λ j k d less within. apart (suc j) (suc k) d (omega (arith, less)) (omega (arith, within))))

pub length_map : {X Y : Type 0} (f : X → Y) (xs : List X) → length (map f xs) ≡ length xs
length_map f [] = refl
length_map f (x ∷ xs) = ap suc (length_map f xs)

-- ---- a line for each step

one_byte : (byte : ℕ) (rest text : List ℕ) → text ≡ byte ∷ rest → 1 ≤ length text
one_byte byte rest text is = let l = ap length is in omega (arith, l)

file_long : (form : NameForm) (path name : List ℕ) (t : Tree) (n : ℕ) (f : File) (k : Kind) → 1 ≤ length (own_line form (path ++ 47 ∷ name) (attributes_of n f (nlink t.files n f)) k)
file_long form path name t n f k = long (path ++ 47 ∷ name) (some path name) k
  where
    some : (path name : List ℕ) → path ++ 47 ∷ name ≢ []
    some [] name e = cc
    some (x ∷ path) name e = cc

    long : (path : List ℕ) → path ≢ [] → (k : Kind) → 1 ≤ length (own_line form path (attributes_of n f (nlink t.files n f)) k)
    long [] o k = absurd (o refl)
    long (x ∷ path) o (Regular bytes) = omega arith
    long (x ∷ path) o (Directory parent next_cookie entries) = omega arith
    long (x ∷ path) o (Link target) = omega arith

module _ (form : NameForm) (t : Tree) where
  place_long : (s : Step) (g : File) → Lives t s.1.number g → (o : Option FilePath)
      → 1 ≤ length (on_some o (own_text form t (place_of s)) (λ first. hard_text form (place_of s).path first.path))
  place_long s g lives (Some first) = omega arith
  place_long s g lives None = subst (λ o. 1 ≤ length
      (on_some o [] (λ (f : File). own_line form (place_of s).path (attributes_of s.1.number f (nlink t.files s.1.number f)) f.kind))) (sym lives)
      (file_long form s.0.path s.1.name t s.1.number g g.kind)

  pub files_long : (before : List FilePath) (todo : List Step) → ((s : Step) → Contains todo s → (g : File) × Lives t s.1.number g)
      → length todo ≤ length (files_text form t before (map place_of todo))
  files_long before [] each = omega arith
  files_long before (s ∷ todo) each =
      let g = each s (in_head s todo) in
      let here = place_long s g.0 g.1 (first_name s.1.number before) in
      let rest = files_long (before ++ place_of s ∷ []) todo (λ r c. each r (in_tail s r todo c)) in
      let all = length-append (place_text form t before (place_of s)) (files_text form t (before ++ place_of s ∷ []) (map place_of todo)) in
      omega (arith, here, rest, all)

-- ---- one volume more

-- the first volumes are made
pub record IsThrough (form : NameForm) (t : Tree) (number : ℕ → ℕ) (table : List (List Export)) (n : ℕ) (all : List Step) (k : ℕ) (loaded : Loaded) : Type 0 where
  pub ns : List ℕ
  pub timed : ℕ → Bool
  pub part : IsPart t number timed all ns (map (copied_volume number) (take n t.volumes)) loaded.tree
  pub count : suc (length ns) ≡ k
  pub table_is : loaded.table ≡ take n table
  pub form_is : loaded.names ≡ form
  pub below : (m : ℕ) → Has m ns → (f : File) × Lives t m f × (f.volume < n)
  pub have : (m : ℕ) (f : File) → Lives t m f → f.volume < n → Has m ns
  pub full : (d : ℕ) (f : File) → LivesAsDirectory t d f → f.volume < n → shown all d ≡ entries_at t d
  pub others : (d : ℕ) (f : File) → LivesAsDirectory t d f → n ≤ f.volume → shown all d ≡ []
  pub given : (m : ℕ) (f : File) → Lives t m f → f.volume < n → timed m ≡ true
  pub early : (m : ℕ) (f : File) → Lives t m f → n ≤ f.volume → timed m ≡ false

last_root_is : (u : Tree) (vs : List Volume) (v : Volume) → u.volumes ≡ vs ++ v ∷ [] → last_root u ≡ Ok v.root
last_root_is u vs v is =
    let long : length (vs ++ v ∷ []) - 1 ≡ length vs = let l = length-append vs (v ∷ []) in omega (arith, l) in
    ap (λ l. root_or_cause (option_map (λ (x : Volume). x.root) (slice_get l (length l - 1)))) is
    ∙ ap (λ i. root_or_cause (option_map (λ (x : Volume). x.root) (slice_get (vs ++ v ∷ []) i))) long
    ∙ ap (λ o. root_or_cause (option_map (λ (x : Volume). x.root) o)) (get_last vs (length vs) v refl)

pub root_is_none : (form : NameForm) (t : Tree) (root : ℕ) (o : Option File) → on_some o [] (λ (f : File). own_line form [] (attributes_of root f (nlink t.files root f)) f.kind) ≡ []
root_is_none form t root None = refl
root_is_none form t root (Some f) = refl

module _ (Last : Option Loaded → Type 0) (form : NameForm) (t : Tree) (table : List (List Export)) (d : IsDescribable t table) (number : ℕ → ℕ)
    (n : ℕ) (all : List Step) (w : Volume) (walk : List FilePath) (k last : ℕ) (at_w : slice_get t.volumes n ≡ Some w) (walked : IsWalk t w.root walk)
    (held : can_hold form t walk ≡ true)
    (numbers : Numbered number last [] walk k) (room : length (all ++ steps t walk) ≤ most_text_bytes) where
  abbrev vs : List Volume
  vs = map (copied_volume number) (take n t.volumes)

  inside : n < length t.volumes
  inside = get_within t.volumes n w at_w

  vs_long : length vs ≡ n
  vs_long = length_map (copied_volume number) (take n t.volumes) ∙ take_long t.volumes n (let l = inside in omega (arith, l))

  vs_next : vs ++ copied_volume number w ∷ [] ≡ map (copied_volume number) (take (suc n) t.volumes)
  vs_next = sym (ap (map (copied_volume number)) (take_one t.volumes n w at_w) ∙ map-append (copied_volume number) (take n t.volumes) (w ∷ []))

  table_next : take (suc n) table ≡ take n table ++ exports_of table n ∷ []
  table_next = take_table table n (let l = inside in let e = d.lists in omega (arith, l, e))

  front_long : length (take n table) ≡ n
  front_long = take_long table n (let l = inside in let e = d.lists in omega (arith, l, e))

  walk_is : walk ≡ root_place t w.root ∷ map place_of (steps t walk)
  walk_is = walked ∙ ap (λ l. root_place t w.root ∷ l) (sym (places_of_steps t walk))

  root_numbers : (number w.root ≡ k) × Numbered number last (root_place t w.root ∷ []) (map place_of (steps t walk)) (suc k)
  root_numbers = subst (λ l. Numbered number last [] l k) walk_is numbers

  few_volumes : length t.volumes ≤ 64
  few_volumes = d.law.volumes.few

  root : (f : File) × LivesAsDirectory t w.root f × (parent_in f.kind ≡ w.root) × (f.volume ≡ n) × (names_of w.root t.files ≡ 0)
  root = d.law.roots n w at_w

  some_files : 1 ≤ w.max_files
  some_files =
      let r = root in
      let most = d.law.count n w at_w in
      let one = sum_some (λ (f : File). one_for n f) w.root r.0 t.files r.1.0 in
      let here : one_for n r.0 ≡ 1 = ap one_when (subst (λ i. nat_eq r.0.volume i ≡ true) r.3 (itself r.0.volume)) in omega (arith, most, one, here)

  files_are : files_text form t [] walk ≡ files_text form t (root_place t w.root ∷ []) (map place_of (steps t walk))
  files_are = ap (files_text form t []) walk_is
      ∙ ap (λ l. l ++ files_text form t (root_place t w.root ∷ []) (map place_of (steps t walk))) (root_is_none form t w.root (at w.root t.files))

  -- what is known of it when its files are made
  module _ (timed : ℕ → Bool) (made : Loaded)
      (going : IsGoing form t number timed (vs ++ copied_volume number w ∷ []) (take (suc n) table) n w (all ++ steps t walk) walk last made) where
    place_there : (m : ℕ) (f : File) → Lives t m f → f.volume ≡ n → (p : FilePath) × Contains walk p × (p.number ≡ m)
    place_there m f lives here =
        let place = some_of_sum (λ (p : FilePath). one_when (nat_eq p.number m)) walk (all_stand t d.law n w at_w walk walked m f lives here) in (
          place.0,
          place.1,
          by_number place.0.number m (λ s. s)
              (λ o. absurd (let none : one_when (nat_eq place.0.number m) ≡ 0 = ap one_when (apart_number place.0.number m o) in let some = place.2 in
              omega (arith, none, some))),
        )

    -- a file of another volume has none of these places
    as_before : (m : ℕ) (f : File) → Lives t m f → f.volume ≢ n → timed_all timed (first_places [] walk) m ≡ timed m
    as_before m f lives other = stays_as_timed timed (first_places [] walk) m (λ p c e.
        let stood = going.stood p (first_in walk [] p c) in
        let same : stood.file ≡ f = same_some (sym stood.lives ∙ ap (λ i. at i t.files) e ∙ lives) in
        other (ap (λ (g : File). g.volume) (sym same) ∙ stood.volume))

    -- and have their times
    through_next : (loaded : Loaded)
        → IsPart t number (timed_all timed (first_places [] walk)) (all ++ steps t walk) going.ns (vs ++ copied_volume number w ∷ []) loaded.tree
        → loaded.table ≡ take (suc n) table
        → loaded.names ≡ form
        → ((m : ℕ) (f : File) → LivesAsDirectory t m f → f.volume < n → shown all m ≡ entries_at t m)
        → ((m : ℕ) (f : File) → LivesAsDirectory t m f → n ≤ f.volume → shown all m ≡ [])
        → ((m : ℕ) (f : File) → Lives t m f → f.volume < n → timed m ≡ true)
        → ((m : ℕ) (f : File) → Lives t m f → n ≤ f.volume → timed m ≡ false)
        → IsThrough form t number table (suc n) (all ++ steps t walk) last loaded
    through_next loaded part table_is form_is full others given early = record {
      ns = going.ns;
      timed = timed_all timed (first_places [] walk);
      part = subst (λ l. IsPart t number (timed_all timed (first_places [] walk)) (all ++ steps t walk) going.ns l loaded.tree) vs_next part;
      count = going.count;
      table_is = table_is;
      form_is = form_is;
      below = going.below;
      have = λ m f lives less. by_number f.volume n
          (λ here. let place = place_there m f lives here in subst (λ i. Has i going.ns) place.2 (going.stood place.0 place.1).has)
          (λ other. going.have m f lives (omega (arith, less, other)));
      full = λ m f lives less. shown_append all (steps t walk) m ∙ by_number f.volume n
          (λ here. ap (λ l. l ++ shown (steps t walk) m) (others m f lives (omega (arith, here)))
          ∙ shown_once t walk m (stands_here t d.law n w at_w walk walked m f lives here))
          (λ other. ap (λ l. shown all m ++ l) (shown_none t walk m (stands_elsewhere t d.law n w at_w walk walked m f lives other)) ∙ append-nil (shown all m)
          ∙ full m f lives (omega (arith, less, other)));
      others = λ m f lives more. shown_append all (steps t walk) m ∙ ap (λ l. l ++ shown (steps t walk) m) (others m f lives (omega (arith, more)))
          ∙ shown_none t walk m (stands_elsewhere t d.law n w at_w walk walked m f lives (λ e. omega (arith, e, more)));
      given = λ m f lives less. by_number f.volume n
          (λ here.
          let place = place_there m f lives here in
          let first = first_there m walk [] place.0 place.1 place.2 refl in
          subst (λ i. timed_all timed (first_places [] walk) i ≡ true) first.2 (gets_timed timed (first_places [] walk) first.0 first.1))
          (λ other. as_before m f lives other ∙ given m f lives (omega (arith, less, other)));
      early = λ m f lives more. as_before m f lives (λ e. omega (arith, e, more)) ∙ early m f lives (omega (arith, more));
    }

  module _ (old : Loaded) (through : IsThrough form t number table n all k old) (All : Option Loaded → Type 0)
      (goes : (loaded : Loaded) → IsThrough form t number table (suc n) (all ++ steps t walk) last loaded → All (Some loaded)) where
    abbrev ns : List ℕ
    ns = through.ns ++ w.root ∷ []

    abbrev Rooted : List (List Export) → Option Loaded → Type 0
    Rooted exports new = (loaded : Loaded) × (new ≡ Some loaded) × IsPart t number through.timed all ns (vs ++ copied_volume number w ∷ []) loaded.tree
        × (loaded.table ≡ exports) × (loaded.names ≡ form)

    room_so_far : length all + length vs ≤ 4611686018427387968
    room_so_far = let l = length-append all (steps t walk) in let m = vs_long in let i = inside in let f = few_volumes in omega (arith, room, l, m, i, f)

    fresh : Has w.root through.ns → ⊥
    fresh has =
        let b = through.below w.root has in
        let r = root in
        let same : b.0 ≡ r.0 = same_some (sym b.1 ∙ r.1.0) in
        let less = b.2 in let volume : b.0.volume ≡ n = ap (λ (g : File). g.volume) same ∙ r.3 in omega (arith, less, volume)

    root_early : through.timed w.root ≡ false
    root_early = let r = root in let v = r.3 in through.early w.root r.0 r.1.0 (omega (arith, v))

    first_goes : Goes Last (Some old) (root_text w (attributes_at t w.root)) (Rooted (take n table ++ [] ∷ []))
    first_goes =
        let r = root in
        let said : IsVolumeSaid w = all_get IsVolumeSaid t.volumes n w d.volumes at_w in
        let within : IsWithin t.limits w = all_get (IsWithin t.limits) t.volumes n w d.law.volumes.within at_w in
        root_goes Last t d.law number through.timed all through.ns vs old through.part w r.0 (ap (slice_get t.volumes) r.3 ∙ at_w) r.1 r.2 (vs_long ∙ sym r.3)
        (root_numbers.0 ∙ sym through.count) fresh root_early (d.files w.root r.0 r.1.0) said.word said.path within.bytes some_files within.files
        (others_apart number t.volumes n w at_w d.law.volumes.apart)
        (let m = vs_long in let i = inside in let f = few_volumes in omega (arith, m, i, f))
        (all_get (λ (v : Volume). length v.path ≤ 255) t.volumes n w d.law.volumes.paths at_w) room_so_far
        (Rooted (take n table ++ [] ∷ []))
        (λ loaded part table_is names_are. (loaded, refl, part, table_is ∙ ap (λ l. l ++ [] ∷ []) through.table_is, names_are ∙ through.form_is))

    second_goes : (new : Option Loaded) → Rooted (take n table ++ [] ∷ []) new
        → Goes Last new (flat_map export_line (exports_of table n)) (Rooted (take (suc n) table))
    second_goes new it = subst (λ o. Goes Last o (flat_map export_line (exports_of table n)) (Rooted (take (suc n) table))) (sym it.1)
        (exports_go Last it.0.tree (number w.root) (take n table)
        (last_root_is it.0.tree vs (copied_volume number w) it.2.volumes)
        (ap length it.2.volumes ∙ length-append vs (copied_volume number w ∷ []) ∙ (let l = vs_long in let m = front_long in omega (arith, l, m))) form
        (exports_of table n) [] it.0 refl it.3 it.4 (let f = few_to table n in let c = d.few in omega (arith, f, c)) (λ e c. d.exports n e c)
        (Rooted (take (suc n) table))
        (λ loaded same table_is names_are. (loaded, refl, subst (IsPart t number through.timed all ns (vs ++ copied_volume number w ∷ [])) (sym same) it.2, table_is ∙ sym table_next, names_are)))

    abbrev AllMade : Option Loaded → Type 0
    AllMade new = (loaded : Loaded) × (new ≡ Some loaded)
        × IsGoing form t number through.timed (vs ++ copied_volume number w ∷ []) (take (suc n) table) n w (all ++ steps t walk) walk last loaded

    third_goes : (new : Option Loaded) → Rooted (take (suc n) table) new → Goes Last new (files_text form t [] walk) AllMade
    third_goes new it = subst (λ o. Goes Last o (files_text form t [] walk) AllMade) (sym it.1) (subst (λ l. Goes Last (Some it.0) l AllMade) (sym files_are)
        (files_go Last form t d.law d.files number through.timed all (vs ++ copied_volume number w ∷ []) (take (suc n) table) n w walk
        (record {
          at_w = at_w;
          walked = walked;
          held = held;
          others = λ m f lives e. through.others m f lives (omega (arith, e));
          early = λ m f lives e. through.early m f lives (omega (arith, e));
          at_vs = get_last vs n (copied_volume number w) vs_long;
          last = length-append vs (copied_volume number w ∷ []) ∙ (let l = vs_long in omega (arith, l));
          room = let l = vs_long in let m = length-append vs (copied_volume number w ∷ []) in let i = inside in let f = few_volumes in
              omega (arith, room, l, m, i, f);
        })
        last (steps t walk) [] (root_place t w.root ∷ []) all (suc k) it.0 refl refl (sym (append-nil all)) root_numbers.1
        (record {
          ns = ns;
          part = it.2;
          count = ap suc (length-append through.ns (w.root ∷ []) ∙ (let c = through.count in omega (arith, c)));
          table_is = it.3;
          form_is = it.4;
          stood = λ p c. elim (head_or_tail (root_place t w.root) p [] c) [
            | inl e ↦ subst (IsStood t all ns n w) e (record {
              has = has_last w.root through.ns;
              named = named_root t all w.root;
              file = root.0;
              lives = root.1.0;
              volume = root.3;
            })
            | inr none ↦ absurd (not_in_empty [] p refl none)
          ];
          below = λ m has. elim (push_has m w.root through.ns has) [
            | inl was ↦ let b = through.below m was in let less = b.2 in (b.0, b.1, omega (arith, less))
            | inr e ↦ let v = root.3 in (root.0, ap (λ i. at i t.files) (sym e) ∙ root.1.0, omega (arith, v))
          ];
          have = λ m f lives less. has_push m w.root through.ns (through.have m f lives less);
        })
        AllMade (λ loaded going. (loaded, refl, going))))

    fourth_goes : (new : Option Loaded) → AllMade new → Goes Last new (times_text form t walk) All
    fourth_goes new it =
        let going = it.2 in
        let at_root : Contains walk (root_place t w.root) =
        subst (λ l. Contains l (root_place t w.root)) (sym walk_is) (in_head (root_place t w.root) (map place_of (steps t walk))) in
        subst (λ o. Goes Last o (times_text form t walk) All) (sym it.1)
        (times_go Last form t d.law d.files number (all ++ steps t walk) going.ns (vs ++ copied_volume number w ∷ []) (take (suc n) table) n w
        (going.stood (root_place t w.root) at_root).has (λ u is. last_root_is u vs (copied_volume number w) is)
        (first_places [] walk) through.timed it.0
        (λ p c. let there = first_in walk [] p c in (going.stood p there, path_held form t p (all_held form t walk p held there)))
        going.part going.table_is going.form_is All
        (λ loaded part table_is form_is. goes loaded
        (through_next through.timed it.0 going loaded part table_is form_is through.full through.others through.given through.early)))

    -- the text of a volume
    pub volume_goes : Goes Last (Some old) (volume_text form t table n w walk) All
    volume_goes = goes_both Last (Some old) (root_text w (attributes_at t w.root) ++ flat_map export_line (exports_of table n) ++ files_text form t [] walk)
        (times_text form t walk) AllMade All
        (goes_both Last (Some old) (root_text w (attributes_at t w.root) ++ flat_map export_line (exports_of table n)) (files_text form t [] walk)
        (Rooted (take (suc n) table)) AllMade
        (goes_both Last (Some old) (root_text w (attributes_at t w.root)) (flat_map export_line (exports_of table n)) (Rooted (take n table ++ [] ∷ []))
        (Rooted (take (suc n) table)) first_goes second_goes)
        third_goes)
        fourth_goes
