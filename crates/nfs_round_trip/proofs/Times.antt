-- The lines that give times give each file of a volume its own.
use Rattle.std.proofs.Common.{inl, inr, ◌≡◌, ◌≢◌, ℕ, ◌≤◌, ◌/◌, ◌%◌, Bool, true, false, cond, ◌&&◌, List, [], ◌∷◌, ◌++◌, length, nat_eq, Option, Some, None, option_map, Ok, refl, sym, ap}
use Rattle.std.proofs.Common.{subst, ◌∙◌, arith}
use Rattle.std.specs.List.{flat_map}
use Rattle.std.specs.Prelude.{◌||◌, Contains, Err, codes, if◌then◌else◌, is_some}
use Rattle.std.proofs.lemmas.List.{length-append}
use Rattle.nfs_attrs.specs.declared.moment.Moment.{Moment}
use Rattle.nfs_exports.specs.declared.export_table.Export.{Export}
use Rattle.nfs_inodes.specs.Changes.{after_set, with_given}
use Rattle.nfs_inodes.specs.Law.{Law, Lives}
use Rattle.nfs_inodes.specs.Reading.{attributes_of}
use Rattle.nfs_inodes.specs.Tree.{Tree, File, Entry, Volume, nlink, on_some}
use Rattle.nfs_inodes.proofs.Lists.{by_number, by_test, head_or_tail, in_head, in_tail, not_both, not_in_empty, same_some}
use Rattle.nfs_inodes.proofs.Maps.{apart_number, itself, same_number}
use Rattle.nfs_inodes.proofs.law.Settings.{set_is}
use Rattle.nfs_load.specs.Descriptions.{last_root}
use Rattle.nfs_load.specs.Effects.{SetsTimes, TimesSet, living_file, start, timed_file, times_given}
use Rattle.nfs_load.specs.PathEnds.{file_at, file_or_root_at}
use Rattle.nfs_load.specs.Paths as paths
use Rattle.nfs_load.specs.Paths.{path_or_root_in}
use Rattle.nfs_load.specs.Statements.{TimesLine, times_in}
use Rattle.nfs_load.specs.declared.cause.Cause.TheVariants.{NoTarget}
use Rattle.nfs_load.specs.declared.line.Keyword.TheVariants as keyword
use Rattle.nfs_load.specs.declared.loaded.Loaded.{Loaded}
use Rattle.nfs_load.specs.Names.{is_plain, name_text}
use Rattle.nfs_load.specs.declared.name_form.NameForm.{NameForm}
use Rattle.nfs_load.specs.declared.name_form.NameForm.TheVariants.{Plain, Percent}
use Rattle.nfs_describe.specs.Lines.{path_text, times_line}
use Rattle.nfs_describe.specs.Places.{FilePath}
use Rattle.std.specs.Fmt.{digit_glyph}
use Rattle.nfs_describe.specs.Texts.{file_times, first_name, first_places, is_start, path_or_root, place_times}
use Rattle.nfs_read_back.specs.ReadBack.{is_said}
use Rattle.nfs_read_back.proofs.Statements as read_back
use Rattle.nfs_round_trip.specs.Copies.{CanBeSaid, copied}
use Rattle.nfs_round_trip.proofs.Directories.{shown}
use Rattle.nfs_round_trip.proofs.Files.{on_tree}
use Rattle.nfs_round_trip.proofs.Going.{IsNamed, file_found, named_path}
use Rattle.nfs_round_trip.proofs.Made.{Has, made_each, made_with, partly, same_made}
use Rattle.nfs_round_trip.proofs.Parts.{IsPart, file_made, so_far}
use Rattle.nfs_round_trip.proofs.Paths.{AreNames, PathHeld, other_bytes, slashed}
use Rattle.nfs_round_trip.proofs.Reaches.{leads}
use Rattle.nfs_round_trip.proofs.Runs.{Goes, goes_both, goes_none, goes_on}
use Rattle.nfs_round_trip.proofs.Truths.{both}
use Rattle.nfs_round_trip.proofs.Volumes.{IsStood}
use Rattle.nfs_round_trip.proofs.Walks.{Step}

-- ---- files whose times are given

-- with that of one place more
abbrev pub timed_with : (ℕ → Bool) → FilePath → ℕ → Bool
timed_with timed p n = nat_eq p.number n || timed n

-- with those of some places more
abbrev pub timed_all : (ℕ → Bool) → List FilePath → ℕ → Bool
timed_all timed [] = timed
timed_all timed (p ∷ places) = timed_all (timed_with timed p) places

or_right : (a b : Bool) → b ≡ true → (a || b) ≡ true
or_right true b e = refl
or_right false b e = e

stays_timed : (timed : ℕ → Bool) (places : List FilePath) (n : ℕ) → timed n ≡ true → timed_all timed places n ≡ true
stays_timed timed [] n e = e
stays_timed timed (p ∷ places) n e = stays_timed (timed_with timed p) places n (or_right (nat_eq p.number n) (timed n) e)

with_itself : (timed : ℕ → Bool) (p : FilePath) → timed_with timed p p.number ≡ true
with_itself timed p = ap (λ b. b || timed p.number) (itself p.number)

with_other : (timed : ℕ → Bool) (p : FilePath) (n : ℕ) → p.number ≢ n → timed_with timed p n ≡ timed n
with_other timed p n o = ap (λ b. b || timed n) (apart_number p.number n o)

pub gets_timed : (timed : ℕ → Bool) (places : List FilePath) (p : FilePath) → Contains places p → timed_all timed places p.number ≡ true
gets_timed timed [] p c = absurd (not_in_empty [] p refl c)
gets_timed timed (q ∷ places) p c = elim (head_or_tail q p places c) [
  | inl e ↦ stays_timed (timed_with timed q) places p.number (subst (λ (r : FilePath). timed_with timed q r.number ≡ true) e (with_itself timed q))
  | inr r ↦ gets_timed (timed_with timed q) places p r
]

pub stays_as_timed : (timed : ℕ → Bool) (places : List FilePath) (n : ℕ) → ((p : FilePath) → Contains places p → p.number ≢ n)
    → timed_all timed places n ≡ timed n
stays_as_timed timed [] n others = refl
stays_as_timed timed (p ∷ places) n others =
    stays_as_timed (timed_with timed p) places n (λ q c. others q (in_tail p q places c)) ∙ with_other timed p n (others p (in_head p places))

-- ---- first places

none_push : (n : ℕ) (before : List FilePath) (p : FilePath) → first_name n before ≡ None → p.number ≢ n → first_name n (before ++ p ∷ []) ≡ None
none_push n [] p none o = ap (λ b. cond b (Some p) None) (apart_number p.number n o)
none_push n (q ∷ before) p none o = by_test (nat_eq q.number n)
    (λ y. absurd (not_both none (ap (λ b. cond b (Some q) (first_name n before)) y)))
    (λ f. ap (λ b. cond b (Some q) (first_name n (before ++ p ∷ []))) f
    ∙ none_push n before p (sym (ap (λ b. cond b (Some q) (first_name n before)) f) ∙ none) o)

-- each file that has a place has a first one
pub first_there : (n : ℕ) (places before : List FilePath) (p : FilePath) → Contains places p → p.number ≡ n → first_name n before ≡ None
    → (q : FilePath) × Contains (first_places before places) q × (q.number ≡ n)
first_there n [] before p c is none = absurd (not_in_empty [] p refl c)
first_there n (x ∷ places) before p c is none = by_number x.number n
    (λ s. here (first_name x.number before) (ap (λ i. first_name i before) s ∙ none) s)
    (λ o. later (first_name x.number before) (elim (head_or_tail x p places c) [
      | inl e ↦ absurd (o (ap (λ (r : FilePath). r.number) e ∙ is))
      | inr r ↦ first_there n places (before ++ x ∷ []) p r is (none_push n before x none o)
    ]))
  where
    here : (o : Option FilePath) → o ≡ None → x.number ≡ n
        → (q : FilePath) × Contains (on_some o (x ∷ first_places (before ++ x ∷ []) places) (λ first. first_places (before ++ x ∷ []) places)) q × (q.number ≡ n)
    here None e s = (x, in_head x (first_places (before ++ x ∷ []) places), s)
    here (Some first) e s = cc

    later : (o : Option FilePath) → (q : FilePath) × Contains (first_places (before ++ x ∷ []) places) q × (q.number ≡ n)
        → (q : FilePath) × Contains (on_some o (x ∷ first_places (before ++ x ∷ []) places) (λ first. first_places (before ++ x ∷ []) places)) q × (q.number ≡ n)
    later None it = (it.0, in_tail x it.0 (first_places (before ++ x ∷ []) places) it.1, it.2)
    later (Some first) it = it

pub first_in : (places before : List FilePath) (q : FilePath) → Contains (first_places before places) q → Contains places q
first_in [] before q c = c
first_in (x ∷ places) before q c = of (first_name x.number before) c (first_in places (before ++ x ∷ []) q)
  where
    of : (o : Option FilePath) → Contains (on_some o (x ∷ first_places (before ++ x ∷ []) places) (λ first. first_places (before ++ x ∷ []) places)) q
        → (Contains (first_places (before ++ x ∷ []) places) q → Contains places q) → Contains (x ∷ places) q
    of None c more = elim (head_or_tail x q (first_places (before ++ x ∷ []) places) c) [
      | inl e ↦ subst (Contains (x ∷ places)) e (in_head x places)
      | inr r ↦ in_tail x q places (more r)
    ]
    of (Some first) c more = in_tail x q places (more c)

-- ---- times of which there is no line

start_is : (m : Moment) → is_start m ≡ true → start ≡ m
start_is m e = let b = both (nat_eq m.seconds 0) (nat_eq m.nanos 0) e in
    ap (λ s. record { seconds = s; nanos = 0 }) (sym (same_number m.seconds 0 b.0))
    ∙ ap (λ k. record { seconds = m.seconds; nanos = k }) (sym (same_number m.nanos 0 b.1))

record HasStart (f : File) : Type 0 where
  atime : start ≡ f.atime
  mtime : start ≡ f.mtime
  ctime : start ≡ f.ctime

has_start : (f : File) → (is_start f.atime && (is_start f.mtime && is_start f.ctime)) ≡ true → HasStart f
has_start f e =
    let one = both (is_start f.atime) (is_start f.mtime && is_start f.ctime) e in
    let two = both (is_start f.mtime) (is_start f.ctime) one.1 in
    record { atime = start_is f.atime one.0; mtime = start_is f.mtime two.0; ctime = start_is f.ctime two.1 }

as_timed : (es : List Entry) (timed : Bool) (f : File) → HasStart f → partly es timed f ≡ partly es true f
as_timed es true f has = refl
as_timed es false f has =
    let new : File = partly es true f in
    ap (λ (m : Moment). record new { atime = m; mtime = start; ctime = start }) has.atime
    ∙ ap (λ (m : Moment). record new { mtime = m; ctime = start }) has.mtime ∙ ap (λ (m : Moment). record new { ctime = m }) has.ctime

-- ---- one place

nothing : (form : NameForm) → path_text form [] ≡ []
nothing Plain = refl
nothing Percent = refl

-- the text of a path is a slash, and something after it
text_shape : (form : NameForm) (name : List ℕ) (names : List (List ℕ)) → 1 ≤ length name
    → (rest : List ℕ) × (1 ≤ length rest) × (path_text form (slashed (name ∷ names)) ≡ 47 ∷ rest)
text_shape Plain name names some = (name ++ slashed names, (let l = length-append name (slashed names) in omega (arith, l, some)), refl)
text_shape Percent name names some = (name_text (name ++ slashed names), long (name ++ slashed names) (let l = length-append name (slashed names) in omega (arith, l, some)), refl)
  where
    byte_long : (b : Bool) (one : ℕ) (two : List ℕ) (rest : List ℕ) → 1 ≤ length ((if b then one ∷ [] else 37 ∷ two) ++ rest)
    byte_long true one two rest = omega arith
    byte_long false one two rest = omega arith

    long : (xs : List ℕ) → 1 ≤ length xs → 1 ≤ length (name_text xs)
    long [] less = less
    long (x ∷ xs) less = byte_long (is_plain x) x (digit_glyph false (x / 16) ∷ digit_glyph false (x % 16) ∷ []) (name_text xs)

no_names : (names : List (List ℕ)) (name : List ℕ) (rest : List (List ℕ)) → names ≡ name ∷ rest → names ≢ []
no_names names name rest e none = cc

module _ (Last : Option Loaded → Type 0) (form : NameForm) (t : Tree) (law : Law t) (words : (n : ℕ) (f : File) → Lives t n f → CanBeSaid f) (number : ℕ → ℕ)
    (all : List Step) (ns : List ℕ) (vs : List Volume) (table : List (List Export)) (index : ℕ) (w : Volume) (has_root : Has w.root ns)
    (last_is : (u : Tree) → u.volumes ≡ vs → last_root u ≡ Ok (number w.root)) where
  -- the path of a line of times is read as the names of its place
  abbrev written : FilePath → List ℕ
  written p = path_or_root (path_text form p.path)

  path_back : (p : FilePath) (named : IsNamed all w.root p) → PathHeld form p.path → (path_or_root_in form (written p) ≡ Ok named.names) × (is_said (written p) ≡ true)
  path_back p named held = of named.names refl
    where
      of : (names : List (List ℕ)) → named.names ≡ names → (path_or_root_in form (written p) ≡ Ok named.names) × (is_said (written p) ≡ true)
      of [] e =
          let is : path_text form p.path ≡ [] = ap (path_text form) (named.path ∙ ap slashed e) ∙ nothing form in
          (ap (λ path. path_or_root_in form (path_or_root path)) is ∙ ap Ok (sym e), ap (λ path. is_said (path_or_root path)) is)
      of (name ∷ names) e =
          let read = named_path form all w.root p named (no_names named.names name names e) held in
          let shape = text_shape form name names (subst AreNames e named.are).0.0.some in
          let is : path_text form p.path ≡ 47 ∷ shape.0 = ap (path_text form) (named.path ∙ ap slashed e) ∙ shape.2 in
          let same : written p ≡ path_text form p.path = ap path_or_root is ∙ sym is in
          let other : path_text form p.path ≢ codes "/" = λ s.
          let long : length (47 ∷ shape.0) ≡ length (codes "/") = ap length (sym is ∙ s) in let some = shape.1 in omega (arith, long, some) in (
            ap (path_or_root_in form) same ∙ ap (λ b. if b then Ok [] else paths.path_in form (path_text form p.path)) (other_bytes (path_text form p.path) (codes "/") other)
                ∙ read.0,
            ap is_said same ∙ read.1,
          )

  module _ (timed : ℕ → Bool) (p : FilePath) (stood : IsStood t all ns index w p) where
    abbrev f : File
    f = stood.file

    elsewhere : (n : ℕ) → n ≢ p.number → so_far all (timed_with timed p) n ≡ so_far all timed n
    elsewhere n o = ap (partly (shown all n)) (with_other timed p n (λ e. o (sym e)))

    -- a file whose times are those of the start has them without a line
    part_with_start : (u : Tree) → IsPart t number timed all ns vs u → HasStart f → IsPart t number (timed_with timed p) all ns vs u
    part_with_start u part has = record {
      files = made_each t number (so_far all timed) (so_far all (timed_with timed p)) 1 ns u.files part.files (λ n h has_n made. by_number n p.number
          (λ s.
          let same : f ≡ made.file = same_some (sym stood.lives ∙ subst (λ m. Lives t m made.file) s made.at_file) in
          record {
            file = made.file;
            at_file = made.at_file;
            tag = made.tag;
            is = made.is ∙ ap (copied number made.tag) (as_timed (shown all n) (timed n) made.file (subst HasStart same has))
                ∙ ap (λ b. copied number made.tag (partly (shown all n) b made.file)) (sym (ap (timed_with timed p) s ∙ with_itself timed p));
          })
          (λ o. same_made t number (so_far all timed) (so_far all (timed_with timed p)) n h (elsewhere n o) made));
      next = part.next;
      known = part.known;
      begun = part.begun;
      few = part.few;
      key = part.key;
      volumes = part.volumes;
      limits = part.limits;
    }

    abbrev line : TimesLine
    line = record { path = stood.named.names; atime = f.atime; mtime = f.mtime; ctime = f.ctime }

    module _ (u : Tree) (part : IsPart t number timed all ns vs u) where
      -- a line gives them
      part_with_times : IsPart t number (timed_with timed p) all ns vs (after_set u (number p.number) (times_given line) f.ctime)
      part_with_times =
          let made = file_made t law number timed all ns vs u part p.number f stood.has stood.lives in
          let new : File = with_given made.0 (times_given line) f.ctime in
          let is : new ≡ copied number made.2 (partly (shown all p.number) true f) = ap (λ (h : File). with_given h (times_given line) f.ctime) made.3 in
          subst (IsPart t number (timed_with timed p) all ns vs) (sym (set_is u (number p.number) (times_given line) f.ctime made.0 made.1)) (record {
            files = made_with t number (so_far all timed) (so_far all (timed_with timed p)) 1 ns u.files p.number new part.files stood.has elsewhere (record {
              file = f;
              at_file = stood.lives;
              tag = made.2;
              is = is ∙ ap (λ b. copied number made.2 (partly (shown all p.number) b f)) (sym (with_itself timed p));
            });
            next = part.next;
            known = part.known;
            begun = part.begun;
            few = part.few;
            key = part.key;
            volumes = part.volumes;
            limits = part.limits;
          })

      -- the file of the place is found
      place_found : timed_file u (number w.root) line ≡ Ok (number p.number)
      place_found =
          let made = file_made t law number timed all ns vs u part p.number f stood.has stood.lives in
          ap (living_file u) (found stood.named.names refl)
          ∙ ap (λ o. if is_some (option_map (λ (h : File). attributes_of (number p.number) h (nlink u.files (number p.number) h)) o) then Ok (number p.number)
          else Err NoTarget) made.1
        where
          found : (names : List (List ℕ)) → stood.named.names ≡ names → file_or_root_at u (number w.root) stood.named.names ≡ Some (number p.number)
          found [] e = ap (file_or_root_at u (number w.root)) e
              ∙ ap (λ n. Some (number n)) (same_some (ap (leads (shown all) w.root) (sym e) ∙ stood.named.lead))
          found (name ∷ names) e = ap (file_or_root_at u (number w.root)) e ∙ ap (file_at u (number w.root)) (sym e)
              ∙ file_found t law number timed all ns vs u part w.root has_root p stood.named (no_names stood.named.names name names e)

    -- with the times of this file too
    abbrev IsTimed : Loaded → Type 0
    IsTimed loaded = IsPart t number (timed_with timed p) all ns vs loaded.tree × (loaded.table ≡ table) × (loaded.names ≡ form)

    module _ (old : Loaded) (part : IsPart t number timed all ns vs old.tree) (table_is : old.table ≡ table) (form_is : old.names ≡ form)
        (held : PathHeld form p.path)
        (All : Option Loaded → Type 0) (goes : (loaded : Loaded) → IsTimed loaded → All (Some loaded)) where
      line_goes : Goes Last (Some old) (times_line (written p) f.atime f.mtime f.ctime) All
      line_goes =
          let can = words p.number f stood.lives in
          let path = path_back p stood.named held in
          let r = read_back.times form (written p) stood.named.names f.atime f.mtime f.ctime path.1 path.0 can.atime can.mtime can.ctime in
          goes_on Last old (times_line (written p) f.atime f.mtime f.ctime) keyword.Times r.0 IsTimed All r.1 goes (λ result loaded on.
          let it = on_tree old w number (last_is old.tree part.volumes) (times_in old.names r.0) line (ap (λ m. times_in m r.0) form_is ∙ r.2) SetsTimes result loaded on in
          let set : TimesSet old.tree (Ok (number p.number)) line result loaded.tree =
          subst (λ found. TimesSet old.tree found line result loaded.tree) (place_found old.tree part) it.0 in
          inr (
            set.0,
            (subst (IsPart t number (timed_with timed p) all ns vs) (sym set.1) (part_with_times old.tree part), it.1 ∙ table_is, it.2 ∙ form_is),
          ))

      times_are : place_times form t p
          ≡ (if is_start f.atime && (is_start f.mtime && is_start f.ctime) then [] else times_line (written p) f.atime f.mtime f.ctime)
      times_are = ap (λ o. on_some (option_map (λ (g : File). attributes_of p.number g (nlink t.files p.number g)) o) [] (file_times (path_text form p.path))) stood.lives

      place_goes : Goes Last (Some old) (place_times form t p) All
      place_goes = by_test (is_start f.atime && (is_start f.mtime && is_start f.ctime))
          (λ y. subst (λ l. Goes Last (Some old) l All)
          (sym (times_are ∙ ap (λ b. if b then [] else times_line (written p) f.atime f.mtime f.ctime) y))
          (goes_none Last (Some old) All (goes old (part_with_start old.tree part (has_start f y), table_is, form_is))))
          (λ n. subst (λ l. Goes Last (Some old) l All)
          (sym (times_are ∙ ap (λ b. if b then [] else times_line (written p) f.atime f.mtime f.ctime) n)) line_goes)

  -- ---- some places, one after another

  pub times_go : (places : List FilePath) (timed : ℕ → Bool) (old : Loaded) → ((p : FilePath) → Contains places p → IsStood t all ns index w p × PathHeld form p.path)
      → IsPart t number timed all ns vs old.tree → old.table ≡ table → old.names ≡ form → (All : Option Loaded → Type 0)
      → ((loaded : Loaded) → IsPart t number (timed_all timed places) all ns vs loaded.tree → loaded.table ≡ table → loaded.names ≡ form → All (Some loaded))
      → Goes Last (Some old) (flat_map (place_times form t) places) All
  times_go [] timed old each part table_is form_is All goes = goes_none Last (Some old) All (goes old part table_is form_is)
  times_go (p ∷ places) timed old each part table_is form_is All goes =
      let here = each p (in_head p places) in
      let Between : Option Loaded → Type 0 = λ new. (loaded : Loaded) × (new ≡ Some loaded) × IsPart t number (timed_with timed p) all ns vs loaded.tree
      × (loaded.table ≡ table) × (loaded.names ≡ form) in
      goes_both Last (Some old) (place_times form t p) (flat_map (place_times form t) places) Between All
      (place_goes timed p here.0 old part table_is form_is here.1 Between (λ loaded it. (loaded, refl, it.0, it.1, it.2)))
      (λ new it. subst (λ o. Goes Last o (flat_map (place_times form t) places) All) (sym it.1)
      (times_go places (timed_with timed p) it.0 (λ q c. each q (in_tail p q places c)) it.2 it.3 it.4 All goes))
