-- The text of a tree is that of its copy.
use Rattle.std.proofs.Common.{inl, inr, ◌≡◌, ℕ, suc, zero, ◌+◌, ◌<◌, Bool, true, false, cond, ◌&&◌, List, [], ◌∷◌, ◌++◌, length, map, nat_eq, Option, Some, None}
use Rattle.std.proofs.Common.{option_map, refl, sym, ap, subst, ◌∙◌, arith}
use Rattle.std.specs.List.{flat_map}
use Rattle.std.specs.Prelude.{Contains, Ok, Err, Result, slice_get}
use Rattle.std.proofs.lemmas.List.{map-append}
use Rattle.std.proofs.lemmas.List.Elements.{Contains-append_cases}
use Rattle.nfs_attrs.specs.declared.fattr.Fattr.{Fattr}
use Rattle.nfs_exports.specs.Tables.{exports_of}
use Rattle.nfs_exports.specs.declared.export_table.Export.{Export}
use Rattle.nfs_inodes.specs.Law.{Law, Lives}
use Rattle.nfs_inodes.specs.Reading.{attributes_at, attributes_of, path_at, path_of}
use Rattle.nfs_inodes.specs.Tree.{Tree, File, Kind, Regular, Directory, Link, Entry, Volume, entries_in, is_directory, nlink, on_some}
use Rattle.nfs_inodes.proofs.Lists.{by_number, true_and_false, head_or_tail, in_head, in_tail, not_in_empty, same_some}
use Rattle.nfs_load.specs.declared.load_error.LoadError.{LoadError}
use Rattle.nfs_load.specs.declared.load_error.LoadError.TheVariants as error
use Rattle.nfs_load.specs.declared.loaded.Loaded.{Loaded}
use Rattle.nfs_load.specs.declared.statement.Given.{Given}
use Rattle.nfs_load.specs.declared.name_form.NameForm.{NameForm}
use Rattle.nfs_load.specs.declared.name_form.NameForm.TheVariants.{Plain, Percent}
use Rattle.nfs_describe.specs.Lines.{dir_line, export_line, file_line, is_target, limits_line, link_line, names_line, path_text, server_line, target_text, volume_line}
use Rattle.nfs_describe.specs.Places.{HasOther, IsWalk, FilePath, are_plain, can_hold, is_plain_path, is_plain_place, place_below, places_below}
use Rattle.nfs_describe.specs.Texts.{Says, SaysTo, file_times, files_text, first_name, first_places, given_of, hard_text, own_line, own_text, place_text, place_times, root_text, times_text, volume_text}
use Rattle.nfs_round_trip.specs.Copies.{copied, copied_entries, copied_kind, copied_mode, copied_volume, new_number}
use Rattle.nfs_round_trip.specs.RoundTrip as law
use Rattle.nfs_round_trip.specs.RoundTrip.{IsCopy, IsDescribable}
use Rattle.nfs_round_trip.proofs.Numbers.{inside_walk}
use Rattle.nfs_round_trip.proofs.Rooms.{same_test}
use Rattle.nfs_round_trip.proofs.RoundTrip.{load_again}
use Rattle.nfs_round_trip.proofs.Runs.{same_ok}
use Rattle.nfs_round_trip.proofs.Times.{first_in}
use Rattle.nfs_round_trip.proofs.Walks.{one_walk, root_place}
use Rattle.nfs_round_trip.proofs.Whole.{get_within, length_map}

-- ---- one description

says_once : (form : NameForm) (t : Tree) (table : List (List Export)) (n : ℕ) (one two : List ℕ) → SaysTo form t table n one → SaysTo form t table n two → one ≡ two
says_once form t table zero one two first second = first ∙ sym second
says_once form t table (suc n) one two (before, part, says, is, e) (other, rest, other_says, other_is, f) =
    let volume : is.volume ≡ other_is.volume = same_some (sym is.at_place ∙ other_is.at_place) in
    let walk : is.walk ≡ other_is.walk = one_walk t other_is.volume.root is.walk other_is.walk
    (subst (λ (v : Volume). IsWalk t v.root is.walk) volume is.walked) other_is.walked in
    let parts : part ≡ rest = is.text_is ∙ ap (λ (v : Volume). volume_text form t table n v is.walk) volume ∙ ap (volume_text form t table n other_is.volume) walk
    ∙ sym other_is.text_is in
    e ∙ ap (λ l. l ++ part) (says_once form t table n before other says other_says) ∙ ap (λ l. other ++ l) parts ∙ sym f

-- a text with names as they are has nothing else in the walks of its volumes
all_plain : (t : Tree) (table : List (List Export)) (n : ℕ) (text : List ℕ) → SaysTo Plain t table n text → (place : ℕ) (v : Volume) (walk : List FilePath) → place < n
    → slice_get t.volumes place ≡ Some v → IsWalk t v.root walk → are_plain t walk ≡ true
all_plain t table zero text says place v walk less at_v walked = absurd (omega (arith, less))
all_plain t table (suc n) text (before, part, says, is, e) place v walk less at_v walked = by_number place n
    (λ here.
    let volume : is.volume ≡ v = same_some (sym is.at_place ∙ ap (slice_get t.volumes) (sym here) ∙ at_v) in
    let same : is.walk ≡ walk = one_walk t v.root is.walk walk (subst (λ (w : Volume). IsWalk t w.root is.walk) volume is.walked) walked in
    subst (λ w. are_plain t w ≡ true) same is.held)
    (λ other. all_plain t table n before says place v walk (omega (arith, less, other)) at_v walked)

not_plain : (t : Tree) (table : List (List Export)) (text : List ℕ) → SaysTo Plain t table (length t.volumes) text → HasOther t → ⊥
not_plain t table text says other =
    true_and_false (all_plain t table (length t.volumes) text says other.place other.volume other.walk (get_within t.volumes other.place other.volume other.at_place)
    other.at_place other.walked) other.other

pub one_description : law.DescriptionsAreOne
one_description t table one two first second = elim first [
  | inl plain ↦ elim second [
    | inl too ↦ says_once Plain t table (length t.volumes) one two plain too
    | inr other ↦ absurd (not_plain t table one plain other.0)
  ]
  | inr escaped ↦ elim second [
    | inl plain ↦ absurd (not_plain t table two plain escaped.0)
    | inr too ↦ says_once Percent t table (length t.volumes) one two escaped.1 too.1
  ]
]

-- ---- places

abbrev again : (ℕ → ℕ) → FilePath → FilePath
again number p = record { path = p.path; number = number p.number }

below_copied : (number : ℕ → ℕ) (cookie : ℕ) (path : List ℕ) (es : List Entry)
    → map (place_below path) (copied_entries number cookie es) ≡ map (again number) (map (place_below path) es)
below_copied number cookie path [] = refl
below_copied number cookie path (e ∷ es) = ap (λ l. again number (place_below path e) ∷ l) (below_copied number (cookie + 1) path es)

-- ---- lines

own_same : (form : NameForm) (number : ℕ → ℕ) (path : List ℕ) (a b : Fattr) (k : Kind) → given_of b ≡ record { mode = copied_mode k a.mode; uid = a.uid; gid = a.gid }
    → own_line form path b (copied_kind number k) ≡ own_line form path a k
own_same form number [] a b k e = refl
own_same form number (x ∷ path) a b (Regular bytes) e = ap (λ (g : Given). file_line (path_text form (x ∷ path)) g bytes) e
own_same form number (x ∷ path) a b (Directory parent next_cookie entries) e = ap (λ (g : Given). dir_line (path_text form (x ∷ path)) g) e
own_same form number (x ∷ path) a b (Link target) e = ap (λ (g : Given). link_line (path_text form (x ∷ path)) g.uid g.gid (target_text form target)) e

path_of_copy : (number : ℕ → ℕ) (k : Kind) → path_of (copied_kind number k) ≡ path_of k
path_of_copy number (Regular bytes) = refl
path_of_copy number (Directory parent next_cookie entries) = refl
path_of_copy number (Link path) = refl

mode_of : (k : Kind) (mode : ℕ) → is_directory k ≡ true → copied_mode k mode ≡ mode
mode_of (Regular bytes) mode y = refl
mode_of (Directory parent next_cookie entries) mode y = refl
mode_of (Link path) mode y = cc

entries_of_copy : (number : ℕ → ℕ) (k : Kind) → entries_in (copied_kind number k) ≡ copied_entries number 3 (entries_in k)
entries_of_copy number (Regular bytes) = refl
entries_of_copy number (Directory parent next_cookie entries) = refl
entries_of_copy number (Link path) = refl

module _ (t : Tree) (law : Law t) (number : ℕ → ℕ) (u : Tree) (copy : IsCopy t number u) where
  abbrev Live : FilePath → Type 0
  Live p = (f : File) × Lives t p.number f

  below_again : (p : FilePath) → Live p → places_below u (again number p) ≡ map (again number) (places_below t p)
  below_again p live =
      let made = copy.each p.number live.0 live.1 in
      ap (λ o. map (place_below p.path) (on_some o [] (λ (f : File). entries_in f.kind))) made.1
      ∙ ap (map (place_below p.path)) (entries_of_copy number live.0.kind)
      ∙ below_copied number 3 p.path (entries_in live.0.kind)
      ∙ ap (λ o. map (again number) (map (place_below p.path) (on_some o [] (λ (f : File). entries_in f.kind)))) (sym live.1)

  all_below : (places : List FilePath) → ((p : FilePath) → Contains places p → Live p)
      → flat_map (places_below u) (map (again number) places) ≡ map (again number) (flat_map (places_below t) places)
  all_below [] live = refl
  all_below (p ∷ places) live =
      ap (λ l. l ++ flat_map (places_below u) (map (again number) places)) (below_again p (live p (in_head p places)))
      ∙ ap (λ l. map (again number) (places_below t p) ++ l) (all_below places (λ q c. live q (in_tail p q places c)))
      ∙ sym (map-append (again number) (places_below t p) (flat_map (places_below t) places))

  walk_again : (root : ℕ) (walk : List FilePath) → IsWalk t root walk → ((p : FilePath) → Contains walk p → Live p) → IsWalk u (number root) (map (again number) walk)
  walk_again root walk walked live = ap (map (again number)) walked ∙ ap (λ l. root_place u (number root) ∷ l) (sym (all_below walk live))

  path_again : (p : FilePath) → Live p → path_at u (number p.number) ≡ path_at t p.number
  path_again p live =
      let made = copy.each p.number live.0 live.1 in
      ap (λ o. on_some o None (λ (f : File). path_of f.kind)) made.1 ∙ path_of_copy number live.0.kind
      ∙ ap (λ o. on_some o None (λ (f : File). path_of f.kind)) (sym live.1)

  plain_again : (places : List FilePath) → ((p : FilePath) → Contains places p → Live p) → are_plain u (map (again number) places) ≡ are_plain t places
  plain_again [] live = refl
  plain_again (p ∷ places) live =
      ap (λ o. (is_plain_path p.path && on_some o true is_target) && are_plain u (map (again number) places)) (path_again p (live p (in_head p places)))
      ∙ ap (λ b. is_plain_place t p && b) (plain_again places (λ q c. live q (in_tail p q places c)))

  held_again : (form : NameForm) (places : List FilePath) → ((p : FilePath) → Contains places p → Live p) → can_hold form t places ≡ true
      → can_hold form u (map (again number) places) ≡ true
  held_again Plain places live held = plain_again places live ∙ held
  held_again Percent places live held = refl

  first_again : (n : ℕ) (f : File) → Lives t n f → (before : List FilePath) → ((p : FilePath) → Contains before p → Live p)
      → first_name (number n) (map (again number) before) ≡ option_map (again number) (first_name n before)
  first_again n f lives [] live = refl
  first_again n f lives (p ∷ before) live =
      let here = live p (in_head p before) in
      ap (λ b. cond b (Some (again number p)) (first_name (number n) (map (again number) before)))
      (same_test number p.number n (copy.once p.number n here.0 f here.1 lives))
      ∙ ap (λ o. cond (nat_eq p.number n) (Some (again number p)) o) (first_again n f lives before (λ q c. live q (in_tail p q before c)))
      ∙ both_ways (nat_eq p.number n) p (first_name n before)
    where
      both_ways : (b : Bool) (p : FilePath) (o : Option FilePath)
          → cond b (Some (again number p)) (option_map (again number) o) ≡ option_map (again number) (cond b (Some p) o)
      both_ways true p o = refl
      both_ways false p o = refl

  own_again : (form : NameForm) (p : FilePath) → Live p → own_text form u (again number p) ≡ own_text form t p
  own_again form p live =
      let made = copy.each p.number live.0 live.1 in
      let new : File = copied number made.0 live.0 in
      ap (λ o. on_some o [] (λ (f : File). own_line form p.path (attributes_of (number p.number) f (nlink u.files (number p.number) f)) f.kind)) made.1
      ∙ own_same form number p.path (attributes_of p.number live.0 (nlink t.files p.number live.0))
      (attributes_of (number p.number) new (nlink u.files (number p.number) new)) live.0.kind refl
      ∙ ap (λ o. on_some o [] (λ (f : File). own_line form p.path (attributes_of p.number f (nlink t.files p.number f)) f.kind)) (sym live.1)

  place_again : (form : NameForm) (before : List FilePath) (p : FilePath) → ((q : FilePath) → Contains before q → Live q) → Live p
      → place_text form u (map (again number) before) (again number p) ≡ place_text form t before p
  place_again form before p live here =
      ap (λ o. on_some o (own_text form u (again number p)) (λ (first : FilePath). hard_text form p.path first.path)) (first_again p.number here.0 here.1 before live)
      ∙ by (first_name p.number before)
    where
      by : (o : Option FilePath) → on_some (option_map (again number) o) (own_text form u (again number p)) (λ (first : FilePath). hard_text form p.path first.path)
          ≡ on_some o (own_text form t p) (λ (first : FilePath). hard_text form p.path first.path)
      by None = own_again form p here
      by (Some first) = refl

  one_more : (before : List FilePath) (p : FilePath) → ((q : FilePath) → Contains before q → Live q) → Live p
      → (q : FilePath) → Contains (before ++ p ∷ []) q → Live q
  one_more before p known here q c = elim (Contains-append_cases before (p ∷ []) q c) [
    | inl was ↦ known q was
    | inr is ↦ elim (head_or_tail p q [] is) [
      | inl e ↦ subst Live e here
      | inr none ↦ absurd (not_in_empty [] q refl none)
    ]
  ]

  files_again : (form : NameForm) (before places : List FilePath) → ((q : FilePath) → Contains before q → Live q) → ((q : FilePath) → Contains places q → Live q)
      → files_text form u (map (again number) before) (map (again number) places) ≡ files_text form t before places
  files_again form before [] known live = refl
  files_again form before (p ∷ places) known live =
      ap (λ l. l ++ files_text form u (map (again number) before ++ again number p ∷ []) (map (again number) places))
      (place_again form before p known (live p (in_head p places)))
      ∙ ap (λ l. place_text form t before p ++ files_text form u l (map (again number) places)) (sym (map-append (again number) before (p ∷ [])))
      ∙ ap (λ l. place_text form t before p ++ l) (files_again form (before ++ p ∷ []) places
      (one_more before p known (live p (in_head p places))) (λ q c. live q (in_tail p q places c)))

  -- ---- times

  firsts_again : (before places : List FilePath) → ((q : FilePath) → Contains before q → Live q) → ((q : FilePath) → Contains places q → Live q)
      → first_places (map (again number) before) (map (again number) places) ≡ map (again number) (first_places before places)
  firsts_again before [] known live = refl
  firsts_again before (p ∷ places) known live =
      let here = live p (in_head p places) in
      let rest : first_places (map (again number) before ++ again number p ∷ []) (map (again number) places) ≡ map (again number) (first_places (before ++ p ∷ []) places) =
      ap (λ l. first_places l (map (again number) places)) (sym (map-append (again number) before (p ∷ [])))
      ∙ firsts_again (before ++ p ∷ []) places (one_more before p known here) (λ q c. live q (in_tail p q places c)) in
      ap (λ o. on_some o (again number p ∷ first_places (map (again number) before ++ again number p ∷ []) (map (again number) places))
      (λ (first : FilePath). first_places (map (again number) before ++ again number p ∷ []) (map (again number) places))) (first_again p.number here.0 here.1 before known)
      ∙ ap (λ l. on_some (option_map (again number) (first_name p.number before)) (again number p ∷ l) (λ (first : FilePath). l)) rest
      ∙ by (first_name p.number before)
    where
      by : (o : Option FilePath) → on_some (option_map (again number) o) (again number p ∷ map (again number) (first_places (before ++ p ∷ []) places))
          (λ (first : FilePath). map (again number) (first_places (before ++ p ∷ []) places))
          ≡ map (again number) (on_some o (p ∷ first_places (before ++ p ∷ []) places) (λ (first : FilePath). first_places (before ++ p ∷ []) places))
      by None = refl
      by (Some first) = refl

  place_times_again : (form : NameForm) (p : FilePath) → Live p → place_times form u (again number p) ≡ place_times form t p
  place_times_again form p live =
      let made = copy.each p.number live.0 live.1 in
      ap (λ o. on_some (option_map (λ (f : File). attributes_of (number p.number) f (nlink u.files (number p.number) f)) o) [] (file_times (path_text form p.path))) made.1
      ∙ ap (λ o. on_some (option_map (λ (f : File). attributes_of p.number f (nlink t.files p.number f)) o) [] (file_times (path_text form p.path))) (sym live.1)

  all_times_again : (form : NameForm) (places : List FilePath) → ((q : FilePath) → Contains places q → Live q)
      → flat_map (place_times form u) (map (again number) places) ≡ flat_map (place_times form t) places
  all_times_again form [] live = refl
  all_times_again form (p ∷ places) live =
      ap (λ l. l ++ flat_map (place_times form u) (map (again number) places)) (place_times_again form p (live p (in_head p places)))
      ∙ ap (λ l. place_times form t p ++ l) (all_times_again form places (λ q c. live q (in_tail p q places c)))

  times_again : (form : NameForm) (walk : List FilePath) → ((q : FilePath) → Contains walk q → Live q) → times_text form u (map (again number) walk) ≡ times_text form t walk
  times_again form walk live = ap (flat_map (place_times form u)) (firsts_again [] walk (λ q c. absurd (not_in_empty [] q refl c)) live)
      ∙ all_times_again form (first_places [] walk) (λ q c. live q (first_in walk [] q c))

  root_again : (index : ℕ) (v : Volume) → slice_get t.volumes index ≡ Some v
      → root_text (copied_volume number v) (attributes_at u (number v.root)) ≡ root_text v (attributes_at t v.root)
  root_again index v at_v =
      let root = law.roots index v at_v in
      let made = copy.each v.root root.0 root.1.0 in
      let new : File = copied number made.0 root.0 in
      ap (λ o. root_text (copied_volume number v) (option_map (λ (f : File). attributes_of (number v.root) f (nlink u.files (number v.root) f)) o)) made.1
      ∙ ap (λ m. volume_line v.path v.max_bytes v.max_files (record { mode = m; uid = root.0.uid; gid = root.0.gid }))
      (mode_of root.0.kind root.0.mode root.1.1)
      ∙ ap (λ o. root_text v (option_map (λ (f : File). attributes_of v.root f (nlink t.files v.root f)) o)) (sym root.1.0)

  get_map : (vs : List Volume) (index : ℕ) (v : Volume) → slice_get vs index ≡ Some v
      → slice_get (map (copied_volume number) vs) index ≡ Some (copied_volume number v)
  get_map [] index v e = cc
  get_map (w ∷ vs) zero v e = ap (λ (x : Volume). Some (copied_volume number x)) (same_some e)
  get_map (w ∷ vs) (suc index) v e = get_map vs index v e

  says_to_again : (form : NameForm) (table : List (List Export)) (n : ℕ) (text : List ℕ) → SaysTo form t table n text → SaysTo form u table n text
  says_to_again form table zero text says = says ∙ ap (λ k. server_line k ++ limits_line t.limits ++ names_line form) (sym copy.key)
      ∙ ap (λ l. server_line u.key ++ limits_line l ++ names_line form) (sym copy.limits)
  says_to_again form table (suc n) text (before, part, says, is, e) =
      let live : (p : FilePath) → Contains is.walk p → Live p =
      λ p c. (let inside = inside_walk t law n is.volume is.walk is.at_place is.walked p c in (inside.0, inside.1)) in (
        before,
        part,
        says_to_again form table n before says,
        record {
          volume = copied_volume number is.volume;
          at_place = ap (λ l. slice_get l n) copy.volumes ∙ get_map t.volumes n is.volume is.at_place;
          walk = map (again number) is.walk;
          walked = walk_again is.volume.root is.walk is.walked live;
          held = held_again form is.walk live is.held;
          text_is = is.text_is
              ∙ ap (λ l. l ++ flat_map export_line (exports_of table n) ++ files_text form t [] is.walk ++ times_text form t is.walk) (sym (root_again n is.volume is.at_place))
              ∙ ap (λ l. root_text (copied_volume number is.volume) (attributes_at u (number is.volume.root)) ++ flat_map export_line (exports_of table n) ++ l
              ++ times_text form t is.walk)
              (sym (files_again form [] is.walk (λ q c. absurd (not_in_empty [] q refl c)) live))
              ∙ ap (λ l. root_text (copied_volume number is.volume) (attributes_at u (number is.volume.root)) ++ flat_map export_line (exports_of table n)
              ++ files_text form u [] (map (again number) is.walk) ++ l) (sym (times_again form is.walk live));
        },
        e,
      )

  other_again : HasOther t → HasOther u
  other_again other =
      let live : (p : FilePath) → Contains other.walk p → Live p =
      λ p c. (let inside = inside_walk t law other.place other.volume other.walk other.at_place other.walked p c in (inside.0, inside.1)) in
      record {
        place = other.place;
        volume = copied_volume number other.volume;
        at_place = ap (λ l. slice_get l other.place) copy.volumes ∙ get_map t.volumes other.place other.volume other.at_place;
        walk = map (again number) other.walk;
        walked = walk_again other.volume.root other.walk other.walked live;
        other = plain_again other.walk live ∙ other.other;
      }

  whole_again : (form : NameForm) (table : List (List Export)) (text : List ℕ) → SaysTo form t table (length t.volumes) text → SaysTo form u table (length u.volumes) text
  whole_again form table text says = subst (λ n. SaysTo form u table n text) (sym (ap length copy.volumes ∙ length_map (copied_volume number) t.volumes))
      (says_to_again form table (length t.volumes) text says)

  pub says_again : (table : List (List Export)) (text : List ℕ) → Says t table text → Says u table text
  says_again table text says = elim says [
    | inl plain ↦ inl (whole_again Plain table text plain)
    | inr escaped ↦ inr (other_again escaped.0, whole_again Percent table text escaped.1)
  ]

no_memory : (r : Result Loaded LoadError) (loaded : Loaded) → r ≡ Ok loaded → r ≡ Err error.Memory → ⊥
no_memory r loaded one two = cc

pub kept : law.DescriptionsAreKept
kept t table text d says short loaded describes = elim (load_again t table text d says short (Ok loaded) describes) [
  | inl memory ↦ absurd (no_memory (Ok loaded) loaded refl memory)
  | inr it ↦
      let same : it.0 ≡ loaded = same_ok {E = LoadError} (Ok loaded) it.0 loaded it.1 refl in
      subst (λ (l : Loaded). Says l.tree l.table text) same
      (subst (λ exports. Says it.0.tree exports text) (sym it.3) (says_again t d.law (new_number it.2.walks) it.0.tree it.2.copy table text says))
]
