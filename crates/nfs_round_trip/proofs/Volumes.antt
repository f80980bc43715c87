-- The files of a volume, in the order of its walk.
use Rattle.std.proofs.Common.{inl, inr, ◌≡◌, ℕ, suc, ◌+◌, ◌<◌, ◌≤◌, Bool, true, false, List, [], ◌∷◌, ◌++◌, length, map, nat_eq, Option, Some, None, refl, sym, ap}
use Rattle.std.proofs.Common.{subst, ◌∙◌, append_assoc, append-nil, arith}
use Rattle.std.specs.Prelude.{Contains, slice_get}
use Rattle.std.proofs.lemmas.List.{length-append, map-append}
use Rattle.std.proofs.lemmas.List.Elements.{Contains-append_cases, Contains-append_left}
use Rattle.std.proofs.lemmas.List.Sums.{sum_by-append, sum_by-cons}
use Rattle.nfs_exports.specs.declared.export_table.Export.{Export}
use Rattle.nfs_inodes.specs.Law.{Law, Lives, LivesAsDirectory}
use Rattle.nfs_inodes.specs.Reading.{attributes_of, entries_at}
use Rattle.nfs_inodes.specs.Tree.{Tree, File, Kind, Regular, Directory, Link, Entry, Volume, at, entries_in, is_directory, nlink, on_some, one_when}
use Rattle.nfs_inodes.proofs.Lists.{by_test, find_contains, in_head, not_in_empty, head_or_tail}
use Rattle.nfs_inodes.proofs.Maps.{itself, same_number}
use Rattle.nfs_load.specs.declared.loaded.Loaded.{Loaded}
use Rattle.nfs_load.specs.declared.name_form.NameForm.{NameForm}
use Rattle.nfs_load.specs.declared.name_form.NameForm.TheVariants.{Plain, Percent}
use Rattle.nfs_describe.specs.Places.{IsWalk, FilePath, can_hold, is_plain_place}
use Rattle.nfs_describe.specs.Texts.{files_text, first_name, hard_text, own_line, own_text, place_text}
use Rattle.nfs_round_trip.specs.Copies.{CanBeSaid, copied_volume}
use Rattle.nfs_round_trip.proofs.Directories.{entries_of, one_of_sum, shown, shown_append, shown_once, stands_here}
use Rattle.nfs_round_trip.proofs.Files.{IsNext, byte_name, fresh, hard_goes, own_goes}
use Rattle.nfs_round_trip.proofs.Going.{IsNamed, named_more, named_new, one_passes}
use Rattle.nfs_round_trip.proofs.Made.{Has, has_last, has_push, push_has}
use Rattle.nfs_round_trip.proofs.Parts.{IsPart, listed_yes}
use Rattle.nfs_round_trip.proofs.Paths.{PlaceHeld, path_held}
use Rattle.nfs_round_trip.proofs.Runs.{Goes, goes_both, goes_none}
use Rattle.nfs_round_trip.proofs.Walks.{Step, contains_middle, parent_stands, passes, place_of, places_of_steps, root_place, stands, step_is_from, steps}

-- ---- numbers in the order of the first names

abbrev pub OnFirst : Option FilePath → Type 0 → Type 0 → Type 0
OnFirst None new old = new
OnFirst (Some first) new old = old

-- the files of some places after others take the numbers from k on, each where it comes first
abbrev pub Numbered : (ℕ → ℕ) → ℕ → List FilePath → List FilePath → ℕ → Type 0
Numbered number last before [] k = k ≡ last
Numbered number last before (p ∷ after) k = OnFirst (first_name p.number before)
    ((number p.number ≡ k) × Numbered number last (before ++ p ∷ []) after (suc k))
    (Numbered number last (before ++ p ∷ []) after k)

-- ---- a volume that is to be made

-- each place of a walk whose names can be written
pub all_held : (form : NameForm) (t : Tree) (walk : List FilePath) (p : FilePath) → can_hold form t walk ≡ true → Contains walk p → PlaceHeld form t p
all_held Plain t walk p held c = one_passes (is_plain_place t) walk p held c
all_held Percent t walk p held c = tt

pub record IsToMake (form : NameForm) (t : Tree) (number : ℕ → ℕ) (timed : ℕ → Bool) (earlier : List Step) (vs : List Volume) (index : ℕ) (w : Volume) (walk : List FilePath)
    : Type 0 where
  pub at_w : slice_get t.volumes index ≡ Some w
  pub walked : IsWalk t w.root walk
  pub held : can_hold form t walk ≡ true
  pub others : (m : ℕ) (f : File) → LivesAsDirectory t m f → f.volume ≡ index → shown earlier m ≡ []
  pub early : (m : ℕ) (f : File) → Lives t m f → f.volume ≡ index → timed m ≡ false
  pub at_vs : slice_get vs index ≡ Some (copied_volume number w)
  pub last : length vs ≡ suc index
  pub room : length (earlier ++ steps t walk) + length vs ≤ 4611686018427387968

-- a place whose file is made
pub record IsStood (t : Tree) (all : List Step) (ns : List ℕ) (index : ℕ) (w : Volume) (p : FilePath) : Type 0 where
  pub has : Has p.number ns
  pub named : IsNamed all w.root p
  pub file : File
  pub lives : Lives t p.number file
  pub volume : file.volume ≡ index

-- what was made of it at some places, with the next number
pub record IsGoing (form : NameForm) (t : Tree) (number : ℕ → ℕ) (timed : ℕ → Bool) (vs : List Volume) (table : List (List Export)) (index : ℕ) (w : Volume) (all : List Step)
    (before : List FilePath) (k : ℕ) (loaded : Loaded) : Type 0 where
  pub ns : List ℕ
  pub part : IsPart t number timed all ns vs loaded.tree
  pub count : suc (length ns) ≡ k
  pub table_is : loaded.table ≡ table
  pub form_is : loaded.names ≡ form
  pub stood : (p : FilePath) → Contains before p → IsStood t all ns index w p
  pub below : (m : ℕ) → Has m ns → (f : File) × Lives t m f × (f.volume < suc index)
  pub have : (m : ℕ) (f : File) → Lives t m f → f.volume < index → Has m ns

module _ (Last : Option Loaded → Type 0) (form : NameForm) (t : Tree) (law : Law t) (words : (n : ℕ) (f : File) → Lives t n f → CanBeSaid f) (number : ℕ → ℕ)
    (timed : ℕ → Bool) (earlier : List Step) (vs : List Volume)
    (table : List (List Export)) (index : ℕ) (w : Volume) (walk : List FilePath) (to_make : IsToMake form t number timed earlier vs index w walk) (last : ℕ) where
  abbrev Going : List Step → List FilePath → ℕ → Loaded → Type 0
  Going all before k loaded = IsGoing form t number timed vs table index w all before k loaded

  has_entries : (k : Kind) (e : Entry) → Contains (entries_in k) e → is_directory k ≡ true
  has_entries (Regular bytes) e c = absurd (not_in_empty [] e refl c)
  has_entries (Directory parent next_cookie entries) e c = refl
  has_entries (Link path) e c = absurd (not_in_empty [] e refl c)

  walk_is : walk ≡ root_place t w.root ∷ map place_of (steps t walk)
  walk_is = to_make.walked ∙ ap (λ l. root_place t w.root ∷ l) (sym (places_of_steps t walk))

  walk_cut : (done todo : List Step) (s : Step) → steps t walk ≡ done ++ s ∷ todo
      → walk ≡ (root_place t w.root ∷ map place_of done) ++ place_of s ∷ map place_of todo
  walk_cut done todo s are = walk_is ∙ ap (λ l. root_place t w.root ∷ map place_of l) are
      ∙ ap (λ l. root_place t w.root ∷ l) (map-append place_of done (s ∷ todo))

  module _ (todo done : List Step) (s : Step) (before : List FilePath) (all : List Step) (k : ℕ) (old : Loaded)
      (before_is : before ≡ root_place t w.root ∷ map place_of done) (are : steps t walk ≡ done ++ s ∷ todo) (all_is : all ≡ earlier ++ done)
      (going : Going all before k old) where
    parent : IsStood t all going.ns index w s.0
    parent = going.stood s.0 (subst (λ l. Contains l s.0) (sym before_is) (parent_stands t w.root walk done s todo to_make.walked are))

    is_in : Contains (entries_in parent.file.kind) s.1
    is_in = let from = step_is_from t walk done s todo are in
        subst (λ l. Contains l s.1) (sym from.entries ∙ entries_of t law s.0.number parent.file parent.lives) (contains_middle s.1 from.one from.two)

    at_dir : LivesAsDirectory t s.0.number parent.file
    at_dir = (parent.lives, has_entries parent.file.kind s.1 is_in)

    target : (g : File) × Lives t s.1.number g × (g.volume ≡ parent.file.volume)
    target = law.entries s.0.number parent.file s.1 parent.lives is_in

    here : entries_at t s.0.number ≡ shown all s.0.number ++ s.1 ∷ shown todo s.0.number
    here =
        let once = stands_here t law index w to_make.at_w walk to_make.walked s.0.number parent.file at_dir parent.volume in
        let none : shown earlier s.0.number ≡ [] = to_make.others s.0.number parent.file at_dir parent.volume in
        let so_far : shown all s.0.number ≡ shown done s.0.number = ap (λ l. shown l s.0.number) all_is ∙ shown_append earlier done s.0.number
        ∙ ap (λ l. l ++ shown done s.0.number) none in
        sym (shown_once t walk s.0.number once) ∙ ap (λ l. shown l s.0.number) are ∙ shown_append done (s ∷ todo) s.0.number
        ∙ ap (λ l. shown done s.0.number ++ l) (listed_yes s (shown todo s.0.number) s.0.number refl) ∙ ap (λ l. l ++ s.1 ∷ shown todo s.0.number) (sym so_far)

    next : IsNext form t number timed all going.ns vs w s parent.file target.0
    next = record {
      at_w = ap (slice_get t.volumes) parent.volume ∙ to_make.at_w;
      at_vs = ap (slice_get vs) parent.volume ∙ to_make.at_vs;
      last = to_make.last ∙ ap suc (sym parent.volume);
      has_root = (going.stood (root_place t w.root) (subst (λ l. Contains l (root_place t w.root)) (sym before_is)
          (in_head (root_place t w.root) (map place_of done)))).has;
      at_dir = at_dir;
      has = parent.has;
      rest = shown todo s.0.number;
      here = here;
      lives = target.1;
      untimed = to_make.early s.0.number parent.file parent.lives parent.volume;
      early = to_make.early s.1.number target.0 target.1 (target.2 ∙ parent.volume);
      words = words s.1.number target.0 target.1;
      dir_words = words s.0.number parent.file parent.lives;
      room =
          let room = to_make.room in
          let l = length-append earlier (steps t walk) in
          let m : length (steps t walk) ≡ length done + length (s ∷ todo) = ap length are ∙ length-append done (s ∷ todo) in
          let n : length all ≡ length earlier + length done = ap length all_is ∙ length-append earlier done in omega (arith, room, l, m, n);
      named = parent.named;
      held = all_held form t walk (place_of s) to_make.held
          (subst (λ l. Contains l (place_of s)) (sym (walk_cut done todo s are))
          (contains_middle (place_of s) (root_place t w.root ∷ map place_of done) (map place_of todo)));
    }

    -- the new place, where its file is made
    new_place : (ns : List ℕ) → Has s.1.number ns → IsStood t (all ++ s ∷ []) ns index w (place_of s)
    new_place ns has = record {
      has = has;
      named = named_new all s w.root parent.named
          (byte_name Last form t law number timed all going.ns vs old going.part going.form_is w s parent.file target.0 next)
          (fresh Last form t law number timed all going.ns vs old going.part going.form_is w s parent.file target.0 next);
      file = target.0;
      lives = target.1;
      volume = target.2 ∙ parent.volume;
    }

    old_place : (ns : List ℕ) → ((n : ℕ) → Has n going.ns → Has n ns) → (p : FilePath) → IsStood t all going.ns index w p → IsStood t (all ++ s ∷ []) ns index w p
    old_place ns more p stood = record {
      has = more p.number stood.has;
      named = named_more all s w.root p stood.named;
      file = stood.file;
      lives = stood.lives;
      volume = stood.volume;
    }

    all_stood : (ns : List ℕ) → ((n : ℕ) → Has n going.ns → Has n ns) → Has s.1.number ns → (p : FilePath) → Contains (before ++ place_of s ∷ []) p
        → IsStood t (all ++ s ∷ []) ns index w p
    all_stood ns more has p c = elim (Contains-append_cases before (place_of s ∷ []) p c) [
      | inl was ↦ old_place ns more p (going.stood p was)
      | inr is ↦ elim (head_or_tail (place_of s) p [] is) [
        | inl e ↦ subst (IsStood t (all ++ s ∷ []) ns index w) e (new_place ns has)
        | inr r ↦ absurd (not_in_empty [] p refl r)
      ]
    ]

    -- a file that has a name already is no directory
    no_directory : (first : FilePath) → first_name s.1.number before ≡ Some first → is_directory target.0.kind ≡ false
    no_directory first found = by_test (is_directory target.0.kind)
        (λ y. absurd (
        let once = stands_here t law index w to_make.at_w walk to_make.walked s.1.number target.0 (target.1, y) (target.2 ∙ parent.volume) in
        let cut : stands s.1.number walk ≡ stands s.1.number before + stands s.1.number (place_of s ∷ map place_of todo) =
        ap (stands s.1.number) (walk_cut done todo s are ∙ ap (λ l. l ++ place_of s ∷ map place_of todo) (sym before_is))
        ∙ sum_by-append (λ (p : FilePath). one_when (nat_eq p.number s.1.number)) before (place_of s ∷ map place_of todo) in
        let more = sum_by-cons (λ (p : FilePath). one_when (nat_eq p.number s.1.number)) (place_of s) (map place_of todo) in
        let itself_one : one_when (nat_eq s.1.number s.1.number) ≡ 1 = ap one_when (itself s.1.number) in
        let there = one_of_sum (λ (p : FilePath). one_when (nat_eq p.number s.1.number)) before first
        (find_contains (λ (p : FilePath). nat_eq p.number s.1.number) before first found) in
        let one : one_when (nat_eq first.number s.1.number) ≡ 1 = ap one_when (passes (λ (p : FilePath). nat_eq p.number s.1.number) before first found) in
        omega (arith, once, cut, more, itself_one, there, one)))
        (λ n. n)

    own_is : own_text form t (place_of s) ≡ own_line form (place_of s).path (attributes_of s.1.number target.0 (nlink t.files s.1.number target.0)) target.0.kind
    own_is = ap (λ o. on_some o [] (λ (f : File). own_line form (place_of s).path (attributes_of s.1.number f (nlink t.files s.1.number f)) f.kind)) target.1

    -- the next place's line
    step_goes : (o : Option FilePath) → first_name s.1.number before ≡ o
        → OnFirst o ((number s.1.number ≡ k) × Numbered number last (before ++ place_of s ∷ []) (map place_of todo) (suc k))
        (Numbered number last (before ++ place_of s ∷ []) (map place_of todo) k)
        → (All : Option Loaded → Type 0)
        → ((m : ℕ) (loaded : Loaded) → Numbered number last (before ++ place_of s ∷ []) (map place_of todo) m
        → Going (all ++ s ∷ []) (before ++ place_of s ∷ []) m loaded → All (Some loaded))
        → Goes Last (Some old) (on_some o (own_text form t (place_of s)) (λ first. hard_text form (place_of s).path first.path)) All
    step_goes None found numbers All goes =
        subst (λ l. Goes Last (Some old) l All) (sym own_is)
        (own_goes Last form t law number timed all going.ns vs old going.part going.form_is w s parent.file target.0 next (numbers.0 ∙ sym going.count) All
        (λ loaded more. goes (suc k) loaded numbers.1 (record {
          ns = going.ns ++ s.1.number ∷ [];
          part = more.0;
          count = ap suc (length-append going.ns (s.1.number ∷ []) ∙ let c = going.count in omega (arith, c));
          table_is = more.1 ∙ going.table_is;
          form_is = more.2;
          stood = all_stood (going.ns ++ s.1.number ∷ []) (λ n has. has_push n s.1.number going.ns has) (has_last s.1.number going.ns);
          below = λ m has. elim (push_has m s.1.number going.ns has) [
            | inl was ↦ going.below m was
            | inr e ↦ let v = target.2 ∙ parent.volume in (target.0, ap (λ i. at i t.files) (sym e) ∙ target.1, omega (arith, v))
          ];
          have = λ m f lives less. has_push m s.1.number going.ns (going.have m f lives less);
        }))
        (nlink t.files s.1.number target.0))
    step_goes (Some first) found numbers All goes =
        let there = find_contains (λ (p : FilePath). nat_eq p.number s.1.number) before first found in
        let stood = going.stood first there in
        let same : first.number ≡ s.1.number = same_number first.number s.1.number (passes (λ (p : FilePath). nat_eq p.number s.1.number) before first found) in
        let has : Has s.1.number going.ns = subst (λ n. Has n going.ns) same stood.has in
        let held = path_held form t first (all_held form t walk first to_make.held
        (subst (λ l. Contains l first) (sym (walk_cut done todo s are ∙ ap (λ l. l ++ place_of s ∷ map place_of todo) (sym before_is)))
        (Contains-append_left before (place_of s ∷ map place_of todo) first there))) in
        hard_goes Last form t law number timed all going.ns vs old going.part going.form_is w s parent.file target.0 next first stood.named same held has (no_directory first found) All
        (λ loaded more. goes k loaded numbers (record {
          ns = going.ns;
          part = more.0;
          count = going.count;
          table_is = more.1 ∙ going.table_is;
          form_is = more.2;
          stood = all_stood going.ns (λ n it. it) has;
          below = going.below;
          have = going.have;
        }))

  -- all places, one after another
  pub files_go : (todo done : List Step) (before : List FilePath) (all : List Step) (k : ℕ) (old : Loaded)
      → before ≡ root_place t w.root ∷ map place_of done → steps t walk ≡ done ++ todo → all ≡ earlier ++ done
      → Numbered number last before (map place_of todo) k
      → Going all before k old → (All : Option Loaded → Type 0) → ((loaded : Loaded) → Going (earlier ++ steps t walk) walk last loaded → All (Some loaded))
      → Goes Last (Some old) (files_text form t before (map place_of todo)) All
  files_go [] done before all k old before_is are all_is numbers going All goes =
      let all_done : done ≡ steps t walk = sym (are ∙ append-nil done) in
      let walked : before ≡ walk = before_is ∙ ap (λ l. root_place t w.root ∷ map place_of l) all_done ∙ sym walk_is in
      goes_none Last (Some old) All (goes old
      (subst (λ l. Going l walk last old) (all_is ∙ ap (λ l. earlier ++ l) all_done)
      (subst (λ l. Going all l last old) walked (subst (λ m. Going all before m old) numbers going))))
  files_go (s ∷ todo) done before all k old before_is are all_is numbers going All goes =
      let Between : Option Loaded → Type 0 = λ new. (m : ℕ) × (loaded : Loaded) × (new ≡ Some loaded)
      × Numbered number last (before ++ place_of s ∷ []) (map place_of todo) m × Going (all ++ s ∷ []) (before ++ place_of s ∷ []) m loaded in
      goes_both Last (Some old) (place_text form t before (place_of s)) (files_text form t (before ++ place_of s ∷ []) (map place_of todo)) Between All
      (step_goes todo done s before all k old before_is are all_is going (first_name s.1.number before) refl numbers Between
      (λ m loaded numbered more. (m, loaded, refl, numbered, more)))
      (λ new it. subst (λ o. Goes Last o (files_text form t (before ++ place_of s ∷ []) (map place_of todo)) All) (sym it.2)
      (files_go todo (done ++ s ∷ []) (before ++ place_of s ∷ []) (all ++ s ∷ []) it.0 it.1
      (ap (λ l. l ++ place_of s ∷ []) before_is ∙ ap (λ l. root_place t w.root ∷ l) (sym (map-append place_of done (s ∷ []))))
      (are ∙ sym (append_assoc done (s ∷ []) todo))
      (ap (λ l. l ++ s ∷ []) all_is ∙ append_assoc earlier done (s ∷ []))
      it.3 it.4 All goes))
