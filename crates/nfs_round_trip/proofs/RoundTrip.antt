-- The whole text.
use Rattle.std.proofs.Common.{inl, inr, ◌≡◌, ◌≢◌, ◌⊎◌, ℕ, suc, zero, ◌+◌, ◌<◌, ◌≤◌, true, false, List, [], ◌∷◌, ◌++◌, length, map, take, Option, Some, None, Ok, refl}
use Rattle.std.proofs.Common.{sym, ap, subst, ◌∙◌, append_assoc, append-nil, arith}
use Rattle.std.specs.List.{flat_map}
use Rattle.std.specs.Prelude.{Contains, Err, Result, if◌then◌else◌, slice_get}
use Rattle.std.proofs.lemmas.List.{length-append}
use Rattle.std.proofs.lemmas.List.Concat.{flat_map-append}
use Rattle.nfs_text.specs.Lines.{lines}
use Rattle.nfs_exports.specs.Tables.{exports_of}
use Rattle.nfs_exports.specs.declared.export_table.Export.{Export}
use Rattle.nfs_inodes.specs.Law.{Lives}
use Rattle.nfs_inodes.specs.Limits.{default_limits}
use Rattle.nfs_inodes.specs.declared.limits.Limits.{Limits}
use Rattle.nfs_inodes.specs.Reading.{attributes_at}
use Rattle.nfs_inodes.specs.Tree.{Tree, File, Kind, Regular, Directory, Link, Entry, Volume, at, entries_in, is_directory, on_some}
use Rattle.nfs_inodes.proofs.Lists.{in_head, in_tail, head_or_tail, not_in_empty, same_some, get_push}
use Rattle.nfs_inodes.proofs.Maps.{apart_number}
use Rattle.nfs_load.specs.Descriptions.{Describes, LimitsSet, NamesSet, finished}
use Rattle.nfs_load.specs.Fields.{◌>>=◌}
use Rattle.nfs_load.specs.declared.cause.Cause.{Cause}
use Rattle.nfs_load.specs.declared.cause.Cause.TheVariants.{NoVolume}
use Rattle.nfs_load.specs.declared.line.Keyword.TheVariants as keyword
use Rattle.nfs_load.specs.declared.load_error.LoadError.{LoadError}
use Rattle.nfs_load.specs.declared.load_error.LoadError.TheVariants.{Memory}
use Rattle.nfs_load.specs.declared.loaded.Loaded.{Loaded}
use Rattle.nfs_load.specs.declared.name_form.NameForm.{NameForm}
use Rattle.nfs_load.specs.declared.name_form.NameForm.TheVariants.{Plain, Percent}
use Rattle.nfs_describe.specs.Lines.{export_line, limits_line, names_line, server_line}
use Rattle.nfs_describe.specs.Places.{IsWalk, FilePath}
use Rattle.nfs_describe.specs.Texts.{IsVolumeText, SaysTo, files_text, first_name, root_text, times_text, most_text_bytes}
use Rattle.nfs_read_back.proofs.Limits as limits_back
use Rattle.nfs_read_back.proofs.Statements as read_back
use Rattle.nfs_round_trip.specs.Copies.{copied, copied_volume, counted_from, first_seen}
use Rattle.nfs_round_trip.specs.RoundTrip as law
use Rattle.nfs_round_trip.specs.RoundTrip.{IsCopy, IsDescribable, IsRestored}
use Rattle.nfs_round_trip.proofs.Directories.{entries_of, shown}
use Rattle.nfs_round_trip.proofs.Links.{links_same}
use Rattle.nfs_round_trip.proofs.Made.{Has, made_back, made_length, made_once, partly, with_entries}
use Rattle.nfs_round_trip.proofs.Numbers.{inside_walk, numbered_from}
use Rattle.nfs_round_trip.proofs.Parts.{file_made, so_far}
use Rattle.nfs_round_trip.proofs.Runs.{Goes, Runs, describes, goes_both, goes_first, goes_none, goes_on, goes_weaker}
use Rattle.nfs_round_trip.proofs.Volumes.{Numbered}
use Rattle.nfs_round_trip.proofs.Walks.{Step, place_of, places_of_steps, root_place, steps}
use Rattle.nfs_round_trip.proofs.Whole.{IsThrough, files_long, get_within, length_map, root_is_none, take_whole, volume_goes}

-- ---- the files of all walks

contains_map : {X Y : Type 0} (f : X → Y) (xs : List X) (x : X) → Contains xs x → Contains (map f xs) (f x)
contains_map f [] x c = absurd (not_in_empty [] x refl c)
contains_map f (y ∷ xs) x c = elim (head_or_tail y x xs c) [
  | inl e ↦ subst (λ z. Contains (f y ∷ map f xs) (f z)) e (in_head (f y) (map f xs))
  | inr r ↦ in_tail (f y) (f x) (map f xs) (contains_map f xs x r)
]

has_parts : (m : ℕ) (xs ys : List ℕ) → Has m (xs ++ ys) → Has m xs ⊎ Has m ys
has_parts m [] ys has = inr has
has_parts m (x ∷ xs) ys has = elim has [
  | inl e ↦ inl (inl e)
  | inr r ↦ elim (has_parts m xs ys r) [ inl one ↦ inl (inr one) | inr two ↦ inr two ]
]

seen_have : (m : ℕ) (places before : List FilePath) → Has m (first_seen before places) → (p : FilePath) × Contains places p × (p.number ≡ m)
seen_have m [] before has = absurd has
seen_have m (p ∷ places) before has = on_first (first_name p.number before) has (seen_have m places (before ++ p ∷ []))
  where
    tail : (q : FilePath) × Contains places q × (q.number ≡ m) → (q : FilePath) × Contains (p ∷ places) q × (q.number ≡ m)
    tail it = (it.0, in_tail p it.0 places it.1, it.2)

    on_first : (o : Option FilePath) → Has m (on_some o (p.number ∷ first_seen (before ++ p ∷ []) places) (λ first. first_seen (before ++ p ∷ []) places))
        → (Has m (first_seen (before ++ p ∷ []) places) → (q : FilePath) × Contains places q × (q.number ≡ m)) → (q : FilePath) × Contains (p ∷ places) q
        × (q.number ≡ m)
    on_first None has rest = elim has [
      | inl e ↦ (p, in_head p places, e)
      | inr r ↦ tail (rest r)
    ]
    on_first (Some first) has rest = tail (rest has)

-- the server's line makes this
abbrev empty_of : List ℕ × List (List ℕ) → Result Loaded Cause
empty_of key = Ok (record { tree = record { files = []; next = 1; key = key.0; volumes = []; limits = default_limits }; table = []; names = Plain })

module _ (form : NameForm) (t : Tree) (table : List (List Export)) (d : IsDescribable t table) where
  -- the numbers of all files in the order in which they come first, and all steps
  abbrev order_to : (n : ℕ) (text : List ℕ) → SaysTo form t table n text → List ℕ
  order_to zero text says = []
  order_to (suc n) text (before, part, says, is, e) = order_to n before says ++ first_seen [] is.walk

  abbrev steps_to : (n : ℕ) (text : List ℕ) → SaysTo form t table n text → List Step
  steps_to zero text says = []
  steps_to (suc n) text (before, part, says, is, e) = steps_to n before says ++ steps t is.walk

  walks_to : (n : ℕ) (text : List ℕ) → SaysTo form t table n text → List (List FilePath)
  walks_to zero text says = []
  walks_to (suc n) text (before, part, says, is, e) = walks_to n before says ++ is.walk ∷ []

  walks_count : (n : ℕ) (text : List ℕ) (says : SaysTo form t table n text) → length (walks_to n text says) ≡ n
  unfolding walks_to
  walks_count zero text says = refl
  walks_count (suc n) text (before, part, says, is, e) =
      let rest = walks_count n before says in let l = length-append (walks_to n before says) (is.walk ∷ []) in omega (arith, rest, l)

  walks_walked : (n : ℕ) (text : List ℕ) (says : SaysTo form t table n text) (index : ℕ) (v : Volume) (walk : List FilePath) → slice_get t.volumes index ≡ Some v
      → slice_get (walks_to n text says) index ≡ Some walk → IsWalk t v.root walk
  unfolding walks_to
  walks_walked zero text says index v walk at_v at_walk = cc
  walks_walked (suc n) text (before, part, says, is, e) index v walk at_v at_walk = elim (get_push (walks_to n before says) is.walk walk index at_walk) [
    | inl was ↦ walks_walked n before says index v walk at_v was
    | inr here ↦
        let same : is.volume ≡ v = same_some (sym is.at_place ∙ ap (slice_get t.volumes) (sym (here.0 ∙ walks_count n before says)) ∙ at_v) in
        subst (IsWalk t v.root) here.1 (subst (λ (w : Volume). IsWalk t w.root is.walk) same is.walked)
  ]

  order_is : (n : ℕ) (text : List ℕ) (says : SaysTo form t table n text) → flat_map (first_seen []) (walks_to n text says) ≡ order_to n text says
  unfolding walks_to
  order_is zero text says = refl
  order_is (suc n) text (before, part, says, is, e) = flat_map-append (first_seen []) (walks_to n before says) (is.walk ∷ [])
      ∙ ap (λ l. l ++ (first_seen [] is.walk ++ [])) (order_is n before says) ∙ ap (λ l. order_to n before says ++ l) (append-nil (first_seen [] is.walk))

  abbrev IsBelow : ℕ → ℕ → Type 0
  IsBelow n m = (f : File) × Lives t m f × (f.volume < n)

  order_below : (n : ℕ) (text : List ℕ) (says : SaysTo form t table n text) (m : ℕ) → Has m (order_to n text says) → IsBelow n m
  order_below zero text says m has = absurd has
  order_below (suc n) text (before, part, says, is, e) m has = elim (has_parts m (order_to n before says) (first_seen [] is.walk) has) [
    | inl was ↦ let b = order_below n before says m was in let less = b.2 in (b.0, b.1, omega (arith, less))
    | inr new ↦
        let place = seen_have m is.walk [] new in
        let inside = inside_walk t d.law n is.volume is.walk is.at_place is.walked place.0 place.1 in
        let volume = inside.2 in (inside.0, ap (λ i. at i t.files) (sym place.2) ∙ inside.1, omega (arith, volume))
  ]

  steps_few : (n : ℕ) (text : List ℕ) (says : SaysTo form t table n text) → length (steps_to n text says) ≤ length text
  steps_few zero text says = omega arith
  steps_few (suc n) text (before, part, says, is, e) =
      let front : List ℕ = root_text is.volume (attributes_at t is.volume.root) ++ flat_map export_line (exports_of table n) in
      let rest = steps_few n before says in
      let all : length (steps_to n before says ++ steps t is.walk) ≡ length (steps_to n before says) + length (steps t is.walk) =
      length-append (steps_to n before says) (steps t is.walk) in
      let long : length text ≡ length before + length part = ap length e ∙ length-append before part in
      let part_long : length part ≡ length (front ++ files_text form t [] is.walk) + length (times_text form t is.walk) =
      ap length is.text_is ∙ length-append (front ++ files_text form t [] is.walk) (times_text form t is.walk) in
      let front_long = length-append front (files_text form t [] is.walk) in
      let walk_is : is.walk ≡ root_place t is.volume.root ∷ map place_of (steps t is.walk) = is.walked
      ∙ ap (λ l. root_place t is.volume.root ∷ l) (sym (places_of_steps t is.walk)) in
      let files : files_text form t [] is.walk ≡ files_text form t (root_place t is.volume.root ∷ []) (map place_of (steps t is.walk)) =
      ap (files_text form t []) walk_is
      ∙ ap (λ l. l ++ files_text form t (root_place t is.volume.root ∷ []) (map place_of (steps t is.walk)))
      (root_is_none form t is.volume.root (at is.volume.root t.files)) in
      let same = ap length files in
      let each = files_long form t (root_place t is.volume.root ∷ []) (steps t is.walk) (λ s c.
      let inside = inside_walk t d.law n is.volume is.walk is.at_place is.walked (place_of s)
      (subst (λ l. Contains l (place_of s)) (sym walk_is)
      (in_tail (root_place t is.volume.root) (place_of s) (map place_of (steps t is.walk)) (contains_map place_of (steps t is.walk) s c))) in
      (inside.0, inside.1)) in
      omega (arith, rest, all, long, part_long, front_long, same, each)

  module _ (order : List ℕ) (Last : Option Loaded → Type 0) where
    abbrev number : ℕ → ℕ
    number = counted_from 1 order

    walk_numbered : (n : ℕ) (before : List ℕ) (says : SaysTo form t table n before) (part : List ℕ) (is : IsVolumeText form t table n part) (later : List ℕ)
        → order ≡ order_to n before says ++ (first_seen [] is.walk ++ later)
        → Numbered number (suc (length (order_to n before says ++ first_seen [] is.walk))) [] is.walk (suc (length (order_to n before says)))
    walk_numbered n before says part is later e =
        subst (λ last. Numbered number (suc last) [] is.walk (suc (length (order_to n before says))))
        (sym (length-append (order_to n before says) (first_seen [] is.walk)))
        (numbered_from order (IsBelow n) is.walk [] (order_to n before says) later e (λ m has. inl (order_below n before says m has))
        (λ p c old.
        let inside = inside_walk t d.law n is.volume is.walk is.at_place is.walked p c in
        let same : old.0 ≡ inside.0 = same_some (sym old.1 ∙ inside.1) in
        let less = old.2 in let volume : old.0.volume ≡ n = ap (λ (f : File). f.volume) same ∙ inside.2 in omega (arith, less, volume)))

    abbrev empty_tree : Limits → NameForm → Loaded
    empty_tree limits names = record { tree = record { files = []; next = 1; key = t.key; volumes = []; limits = limits }; table = []; names = names }

    none_through : IsThrough form t number table 0 [] 1 (empty_tree t.limits form)
    none_through = record {
      ns = [];
      timed = λ m. false;
      part = record { files = tt; next = refl; known = tt; begun = λ m has. absurd has; few = omega arith; key = refl; volumes = refl; limits = refl };
      count = refl;
      table_is = refl;
      form_is = refl;
      below = λ m has. absurd has;
      have = λ m f lives less. absurd (omega (arith, less));
      full = λ m f lives less. absurd (omega (arith, less));
      others = λ m f lives more. refl;
      given = λ m f lives less. absurd (omega (arith, less));
      early = λ m f lives more. refl;
    }

    server_goes : Goes Last None (server_line t.key) (λ new. new ≡ Some (empty_tree default_limits Plain))
    server_goes =
        let r = read_back.servers t.key d.law.numbers.key_bytes d.law.numbers.key_len in
        goes_first Last (server_line t.key) keyword.Server r.0 (empty_tree default_limits Plain) (λ new. new ≡ Some (empty_tree default_limits Plain)) r.1
        (ap (λ (read : Result (List ℕ × List (List ℕ)) Cause). read >>= empty_of) r.2)
        refl

    limits_go : Goes Last (Some (empty_tree default_limits Plain)) (limits_line t.limits) (λ new. new ≡ Some (empty_tree t.limits Plain))
    limits_go = elim (limits_back.limits t.limits d.law.limits) [
      | inl none ↦ subst (λ l. Goes Last (Some (empty_tree default_limits Plain)) l (λ new. new ≡ Some (empty_tree t.limits Plain))) (sym none.0)
          (goes_none Last (Some (empty_tree default_limits Plain)) (λ new. new ≡ Some (empty_tree t.limits Plain))
          (ap (λ limits. Some (empty_tree limits Plain)) (sym none.1)))
      | inr r ↦ goes_on Last (empty_tree default_limits Plain) (limits_line t.limits) keyword.Limits r.0 (λ new. new ≡ empty_tree t.limits Plain)
          (λ new. new ≡ Some (empty_tree t.limits Plain)) r.1
          (λ new is. ap Some is)
          (λ result new on. inr (subst (λ limits. LimitsSet (empty_tree default_limits Plain) limits result new) r.2 on))
    ]

    names_go : (form : NameForm) → Goes Last (Some (empty_tree t.limits Plain)) (names_line form) (λ new. new ≡ Some (empty_tree t.limits form))
    names_go Plain = goes_none Last (Some (empty_tree t.limits Plain)) (λ new. new ≡ Some (empty_tree t.limits Plain)) refl
    names_go Percent =
        let r = read_back.forms in
        goes_on Last (empty_tree t.limits Plain) (names_line Percent) keyword.Names r.0 (λ new. new ≡ empty_tree t.limits Percent)
        (λ new. new ≡ Some (empty_tree t.limits Percent)) r.1
        (λ new is. ap Some is)
        (λ result new on. inr (subst (λ read. NamesSet (empty_tree t.limits Plain) read result new) r.2 on))

    head_goes : (All : Option Loaded → Type 0) → ((loaded : Loaded) → IsThrough form t number table 0 [] 1 loaded → All (Some loaded))
        → Goes Last None (server_line t.key ++ limits_line t.limits ++ names_line form) All
    head_goes All goes = goes_both Last None (server_line t.key ++ limits_line t.limits) (names_line form) (λ new. new ≡ Some (empty_tree t.limits Plain)) All
        (goes_both Last None (server_line t.key) (limits_line t.limits) (λ new. new ≡ Some (empty_tree default_limits Plain)) (λ new. new ≡ Some (empty_tree t.limits Plain))
        server_goes (λ new is. subst (λ o. Goes Last o (limits_line t.limits) (λ new. new ≡ Some (empty_tree t.limits Plain))) (sym is) limits_go))
        (λ new is. subst (λ o. Goes Last o (names_line form) All) (sym is)
        (goes_weaker Last (Some (empty_tree t.limits Plain)) (names_line form) (λ new. new ≡ Some (empty_tree t.limits form)) All (names_go form)
        (λ new there. subst All (sym there) (goes (empty_tree t.limits form) none_through))))

    goes_to : (n : ℕ) (text : List ℕ) (says : SaysTo form t table n text) (later : List ℕ) → order ≡ order_to n text says ++ later → length text ≤ most_text_bytes
        → (All : Option Loaded → Type 0) → ((loaded : Loaded) → IsThrough form t number table n (steps_to n text says) (suc (length (order_to n text says))) loaded
        → All (Some loaded))
        → Goes Last None text All
    goes_to zero text says later order_is short All goes = subst (λ l. Goes Last None l All) (sym says) (head_goes All goes)
    goes_to (suc n) text (before, part, says, is, e) later order_is short All goes =
        let here : order ≡ order_to n before says ++ (first_seen [] is.walk ++ later) = order_is
        ∙ append_assoc (order_to n before says) (first_seen [] is.walk) later in
        let few = steps_few (suc n) text (before, part, says, is, e) in
        let long : length text ≡ length before + length part = ap length e ∙ length-append before part in
        let Between : Option Loaded → Type 0 = λ new. (loaded : Loaded) × (new ≡ Some loaded)
        × IsThrough form t number table n (steps_to n before says) (suc (length (order_to n before says))) loaded in
        subst (λ l. Goes Last None l All) (sym e)
        (goes_both Last None before part Between All
        (goes_to n before says (first_seen [] is.walk ++ later) here (omega (arith, short, long)) Between (λ loaded through. (loaded, refl, through)))
        (λ new it. subst (λ o. Goes Last o part All) (sym it.1) (subst (λ l. Goes Last (Some it.0) l All) (sym is.text_is)
        (volume_goes Last form t table d number n (steps_to n before says) is.volume is.walk (suc (length (order_to n before says)))
        (suc (length (order_to n before says ++ first_seen [] is.walk))) is.at_place is.walked is.held (walk_numbered n before says part is later here)
        (omega (arith, few, short)) it.0 it.2 All goes))))

-- ---- the copy

all_or_none : (es : List Entry) (k : Kind) → (is_directory k ≡ true → es ≡ entries_in k) → with_entries es k ≡ k
all_or_none es (Regular bytes) same = refl
all_or_none es (Directory parent next_cookie entries) same = ap (Directory parent next_cookie) (same refl)
all_or_none es (Link path) same = refl

copy_is : (form : NameForm) (t : Tree) (table : List (List Export)) (d : IsDescribable t table) (number : ℕ → ℕ) (all : List Step) (k : ℕ) (loaded : Loaded)
    → IsThrough form t number table (length t.volumes) all k loaded → IsCopy t number loaded.tree × (loaded.table ≡ table)
copy_is form t table d number all k loaded through =
    let inside = λ (n : ℕ) (f : File) (lives : Lives t n f). through.have n f lives (let v = d.law.placed n f lives in get_within t.volumes f.volume v.0 v.1) in
    let part = through.part in (
      record {
        each = λ n f lives.
            let has : Has n through.ns = inside n f lives in
            let made = file_made t d.law number through.timed all through.ns (map (copied_volume number) (take (length t.volumes) t.volumes))
            loaded.tree part n f has lives in
            let v = d.law.placed n f lives in
            let inside_t = get_within t.volumes f.volume v.0 v.1 in
            let whole : with_entries (shown all n) f.kind ≡ f.kind = all_or_none (shown all n) f.kind
            (λ y. through.full n f (lives, y) inside_t ∙ entries_of t d.law n f lives) in (
              made.2,
              made.1 ∙ ap Some (made.3 ∙ ap (λ timed. copied number made.2 (partly (shown all n) timed f)) (through.given n f lives inside_t)
                  ∙ ap (λ kind. copied number made.2 (record f { kind = kind })) whole),
              links_same t d.law number through.timed all through.ns (map (copied_volume number) (take (length t.volumes) t.volumes)) loaded.tree part inside
                  (λ m g dir. let w = d.law.placed m g dir.0 in through.full m g dir (get_within t.volumes g.volume w.0 w.1) ∙ entries_of t d.law m g dir.0)
                  n made.2 f lives,
            );
        once = λ m n f g one two same. made_once t number (so_far all through.timed) 1 through.ns loaded.tree.files m n part.files (inside m f one) (inside n g two) same;
        all = λ j h lives. let b = made_back t number (so_far all through.timed) 1 through.ns loaded.tree.files j h part.files lives in (b.0, b.3.file, b.3.at_file, b.2);
        volumes = part.volumes ∙ ap (map (copied_volume number)) (take_whole t.volumes);
        key = part.key;
        limits = part.limits;
        next = let n = part.next in let l = made_length t number (so_far all through.timed) 1 through.ns loaded.tree.files part.files in omega (arith, n, l);
      },
      through.table_is ∙ ap (λ n. take n table) (sym d.lists) ∙ take_whole table,
    )

ends_in_order : (form : NameForm) (t : Tree) (table : List (List Export)) (number : ℕ → ℕ) (all : List Step) (k : ℕ) (old : Option Loaded) (loaded : Loaded)
    → 1 ≤ length t.volumes → old ≡ Some loaded
    → IsThrough form t number table (length t.volumes) all k loaded → finished old ≡ Ok loaded
ends_in_order form t table number all k old loaded some is through =
    let long : length loaded.tree.volumes ≡ length t.volumes = ap length (through.part.volumes ∙ ap (map (copied_volume number)) (take_whole t.volumes))
    ∙ length_map (copied_volume number) t.volumes in
    let not_none : length loaded.tree.volumes ≢ 0 = λ e. omega (arith, long, some, e) in
    ap finished is ∙ ap (λ b. if b then Err NoVolume else Ok loaded) (apart_number (length loaded.tree.volumes) 0 not_none)

loads : (form : NameForm) (t : Tree) (table : List (List Export)) (text : List ℕ) → IsDescribable t table → SaysTo form t table (length t.volumes) text
    → length text ≤ most_text_bytes → (result : Result Loaded LoadError) → Describes text result
    → (result ≡ Err Memory) ⊎ ((loaded : Loaded) × (result ≡ Ok loaded) × IsRestored t loaded.tree × (loaded.table ≡ table))
loads form t table text d says short result describes_it =
    let n = length t.volumes in
    let walks : List (List FilePath) = walks_to form t table d n text says in
    let order : List ℕ = flat_map (first_seen []) walks in
    let order_are : order ≡ order_to form t table d n text says ++ [] = order_is form t table d n text says ∙ sym (append-nil (order_to form t table d n text says)) in
    let k : ℕ = suc (length (order_to form t table d n text says)) in
    let all : List Step = steps_to form t table d n text says in
    let Last : Option Loaded → Type 0 = λ old. (loaded : Loaded) × (old ≡ Some loaded) × IsThrough form t (counted_from 1 order) table n all k loaded in
    let runs : Runs Last None (lines text) = subst (λ l. Runs Last None (lines l)) (append-nil text)
    (goes_to form t table d order Last n text says [] order_are short Last (λ loaded through. (loaded, refl, through)) [] (λ new holds. holds)) in
    elim (describes Last text result runs (λ old it. (it.0, ends_in_order form t table (counted_from 1 order) all k old it.0 d.some it.1 it.2)) describes_it) [
      | inl memory ↦ inl memory
      | inr it ↦
          let same : it.2.0 ≡ it.0 = same_some (sym it.2.1) in
          let copy = copy_is form t table d (counted_from 1 order) all k it.2.0 it.2.2 in
          inr (
            it.0,
            it.1,
            record {
              walks = walks;
              are_walks = record { each = walks_count form t table d n text says; walked = walks_walked form t table d n text says };
              copy = subst (λ (l : Loaded). IsCopy t (counted_from 1 order) l.tree) same copy.0;
            },
            ap (λ (l : Loaded). l.table) (sym same) ∙ copy.1,
          )
    ]

pub load_again : law.DescriptionsLoadAgain
load_again t table text d says short result describes_it = elim says [
  | inl plain ↦ loads Plain t table text d plain short result describes_it
  | inr escaped ↦ loads Percent t table text d escaped.1 short result describes_it
]
