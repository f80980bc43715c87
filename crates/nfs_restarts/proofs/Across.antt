-- What handles name from one life to the next.
use Rattle.std.proofs.Common.{◌≡◌, ◌⊎◌, ℕ, zero, suc, ◌+◌, ◌-◌, ◌<◌, ◌≤◌, max, Bool, true, false, List, [], ◌∷◌, length, Option, Some, None, is_some, option_map, inl, inr, refl, sym, ap, subst, ◌∙◌, arith}
use Rattle.std.specs.Prelude.{◌≢◌, ◌||◌, bytes_eq, nat_eq, nat_le, if◌then◌else◌}
use Rattle.std.proofs.lemmas.Slice.Eq.{bytes_eq-Decides}
use Rattle.std.proofs.lemmas.Bool.{cases_lt, leb-true, leb-false}
use Rattle.nfs_handles.specs.Handles.{handle_at, handle_text, is_shaped, key_in, live_with, number, number_in, reading, tag_in}
use Rattle.nfs_handles.specs.NumberedFiles as numbered
use Rattle.nfs_handles.specs.NumberedFiles.{TaggedFile, IsGiven}
use Rattle.nfs_handles.specs.declared.reading.Reading.{Reading}
use Rattle.nfs_handles.specs.declared.reading.Reading.TheVariants.{Live, Stale}
use Rattle.nfs_handles.proofs.Handles.{handles_name_one, judged, names, history_checks}
use Rattle.nfs_handles.proofs.Lookups.{live_is_given}
use Rattle.nfs_inodes.proofs.Lists.{not_both}
use Rattle.nfs_inodes.proofs.Maps.{at_shows}
use Rattle.nfs_inodes.specs.Law.{Law}
use Rattle.nfs_inodes.specs.Reading.{numbered_files}
use Rattle.nfs_inodes.specs.Tree.{Tree, File, at}
use Rattle.nfs_policy.proofs.Confined.{handles_name_for_good, runs_are_confined}
use Rattle.nfs_policy.specs.Naming.{NamesOn, Through}
use Rattle.nfs_server.specs.Events.{Done}
use Rattle.nfs_server.specs.Steps.{Setup, State, IsRun}
use Rattle.nfs_restarts.proofs.Made.{AllMade, MadeIn, all_filled, all_made, making}
use Rattle.nfs_restarts.proofs.Tags.{AreFilled, tag_there}
use Rattle.nfs_restarts.specs.Lives.{DescribedHandlesStay, Follows, HandlesAcrossLives, IsMadeBy, IsMadeInBoth, HandlesOfOthersAreStale, Life, ReadsOn, key_of}
use Rattle.nfs_lives.specs.Paths.{PathRow, life_key, rows_of}

abbrev tagged : File → TaggedFile File
tagged f = record { tag = f.tag; value = f }

-- what is so of each state of a run is so of its opening
at_opening : (setups : ℕ → Setup) (opening : State) (Holds : State → Type 0) (history : List Done) (state : State) (run : IsRun setups opening history state)
    → Through setups opening history state run Holds → Holds opening
at_opening setups opening Holds [] state run h = subst Holds run h
at_opening setups opening Holds (d ∷ before) state run h = at_opening setups opening Holds before run.0 run.1 h.0

-- ---- one life

module _ (life : Life) where
  lawful : Law life.state.tree
  lawful = (runs_are_confined life.setups life.opening life.opens_lawful life.history life.state life.run).0

  names_on : NamesOn life.opening.tree life.state.tree
  names_on = at_opening life.setups life.opening (λ s. NamesOn s.tree life.state.tree) life.history life.state life.run
      (handles_name_for_good life.setups life.opening life.opens_lawful life.history life.state life.run).1

  key_is : life.state.tree.key ≡ key_of life
  key_is = names_on.key ∙ ap (λ (t : Tree). t.key) life.opens

  opens_next : life.opening.tree.next ≡ max life.loaded.tree.next life.next
  opens_next = ap (λ (t : Tree). t.next) life.opens

  -- numbers from the next one on are above all that are given before
  begins_above : life.next ≤ life.state.tree.next
  begins_above = omega (arith, opens_next, names_on.next)

  -- no file lives at a number that the description didn't give
  no_file : (n : ℕ) → life.loaded.tree.next ≤ n → at n life.loaded.tree.files ≡ None
  no_file n above = of (at n life.loaded.tree.files) refl
    where
      of : (o : Option File) → at n life.loaded.tree.files ≡ o → o ≡ None
      of None e = refl
      of (Some f) e =
          let found : numbered.at (numbered_files life.loaded.tree) n ≡ Some (tagged f) = at_shows tagged n life.loaded.tree.files ∙ ap (option_map tagged) e in
          let given : IsGiven life.loaded.tree.next n = live_is_given (numbered_files life.loaded.tree) n life.lawful.numbers (ap is_some found) in
          absurd (omega (arith, above, given.below))

  never_given : (n : ℕ) → life.loaded.tree.next ≤ n → n < life.next → numbered.at (numbered_files life.state.tree) n ≡ None
  never_given n above below =
      let none : at n life.opening.tree.files ≡ None = ap (λ (t : Tree). at n t.files) life.opens ∙ no_file n above in
      at_shows tagged n life.state.tree.files ∙ ap (option_map tagged) (names_on.gone n (omega (arith, opens_next, below)) none)

  made : AllMade None life.lines 1 (making (rows_of life.lines)) life.loaded
  made = all_made life.lines life.loaded life.described

made_by : (lines : List (List ℕ)) (n m : ℕ) (row : PathRow) → n ≡ m → MadeIn None lines m row → IsMadeBy lines n row
made_by lines n m row same it = record {
  before = it.first;
  line = it.line;
  after = it.after;
  lines_are = it.lines_are;
  old = it.old;
  in_order = it.in_order;
  new = it.new;
  done = it.done;
  numbered = same ∙ it.numbered;
  row_is = it.row_is;
  makes = it.makes;
}

same_row : (row other : PathRow) → Some row ≡ Some other → other ≡ row
same_row row other e = cc

-- ---- two lives

module _ (earlier later : Life) (follows : Follows earlier later) where
  same_key : earlier.state.tree.key ≡ later.state.tree.key
  same_key = key_is earlier ∙ ap (life_key earlier.loaded.tree.key) (sym follows.paths)
      ∙ ap (λ k. life_key k (rows_of later.lines)) (sym follows.key) ∙ sym (key_is later)

  in_both : (n : ℕ) → 1 ≤ n → n < later.loaded.tree.next → IsMadeInBoth earlier later n
  in_both n some below =
      let rows : List PathRow = making (rows_of later.lines) in
      let old : AllMade None earlier.lines 1 rows earlier.loaded = subst (λ rs. AllMade None earlier.lines 1 (making rs) earlier.loaded) (sym follows.paths) (made earlier) in
      let new = made later in
      let i : ℕ = n - 1 in
      let within : i < length rows = omega (arith, some, below, new.0) in
      let first = old.1 i within in
      let second = new.1 i within in
      let count : n ≡ 1 + i = omega (arith, some) in
      let one : second.0 ≡ first.0 = same_row first.0 second.0 (sym first.1 ∙ second.1) in
      (first.0, made_by earlier.lines n (1 + i) first.0 count first.2, subst (IsMadeBy later.lines n) one (made_by later.lines n (1 + i) second.0 count second.2))

  module _ (n : ℕ) (handle : List ℕ) where
    -- by the file that lives at the number, and whether it has the tag of the handle
    reads_on : 1 ≤ n → n < later.next → (o : Option (TaggedFile File)) → numbered.at (numbered_files later.state.tree) n ≡ o
        → reading (numbered_files later.state.tree) handle ≡ live_with (tag_in handle) n o → ReadsOn earlier later n handle
    reads_on some below None e reads = inl reads
    reads_on some below (Some file) e reads = of (nat_eq (tag_in handle) file.tag) reads
      where
        given_there : (b : Bool) → nat_le later.loaded.tree.next n ≡ b → n < later.loaded.tree.next
        given_there true le = let none = never_given later n (leb-true later.loaded.tree.next n le) below in cc
        given_there false le = omega (arith, leb-false later.loaded.tree.next n le)

        of : (b : Bool) → reading (numbered_files later.state.tree) handle ≡ (if b then Live (number n) else Stale) → ReadsOn earlier later n handle
        of true reads = inr (reads, in_both n some (given_there (nat_le later.loaded.tree.next n) refl))
        of false reads = inl reads

    handle_lives_on : handle_at (numbered_files earlier.state.tree) n ≡ Some handle → ReadsOn earlier later n handle
    handle_lives_on is =
        let t = numbered_files earlier.state.tree in
        let u = numbered_files later.state.tree in
        let live : reading t handle ≡ Live (number n) = handles_name_one.read t n handle (lawful earlier).numbers is in
        let it = names t n handle live in
        let given : IsGiven t.next n = live_is_given t n (lawful earlier).numbers (ap is_some it.found) in
        let below : n < later.next = omega (arith, given.below, follows.above) in
        let here : IsGiven u.next n = record { counted = given.counted; below = omega (arith, below, begins_above later) } in
        let read = history_checks u handle n it.shaped (it.ours ∙ same_key) it.number here in
        reads_on given.counted below (numbered.at u n) refl read

pub handles_live_on : HandlesAcrossLives
handles_live_on = λ earlier later follows n handle is. handle_lives_on earlier later follows n handle is

-- ---- the handles that a description gives

module _ (earlier later : Life) (follows : Follows earlier later) where
  same_tags : (n : ℕ) → tag_there later.loaded.tree n ≡ tag_there earlier.loaded.tree n
  same_tags n = by (cases_lt n next) n refl
    where
      here : AreFilled earlier.loaded.tree
      here = all_filled earlier.lines earlier.loaded earlier.described

      there : AreFilled later.loaded.tree
      there = all_filled later.lines later.loaded later.described

      next : ℕ
      next = earlier.loaded.tree.next

      same_next : later.loaded.tree.next ≡ next
      same_next =
          let old = (made earlier).0 in
          let new = (made later).0 in
          let rows : making (rows_of later.lines) ≡ making (rows_of earlier.lines) = ap making follows.paths in
          let count : length (making (rows_of later.lines)) ≡ length (making (rows_of earlier.lines)) = ap length rows in
          omega (arith, old, new, count)

      by : (n < next) ⊎ (next ≤ n) → (m : ℕ) → m ≡ n → tag_there later.loaded.tree m ≡ tag_there earlier.loaded.tree m
      by (inr above) m is = there.above m (omega (arith, above, is, same_next)) ∙ sym (here.above m (omega (arith, above, is)))
      by (inl below) zero is = there.none ∙ sym here.none
      by (inl below) (suc m) is = there.given (suc m) (omega arith) (omega (arith, below, is, same_next)) ∙ sym (here.given (suc m) (omega arith) (omega (arith, below, is)))

handle_opened : (life : Life) (n : ℕ) → handle_at (numbered_files life.opening.tree) n ≡ option_map (λ tag. handle_text (key_of life) tag n) (tag_there life.loaded.tree n)
handle_opened life n = ap (λ (t : Tree). handle_at (numbered_files t) n) life.opens
    ∙ ap (option_map (λ (f : TaggedFile File). handle_text (key_of life) f.tag n)) (at_shows tagged n life.loaded.tree.files) ∙ of (at n life.loaded.tree.files)
  where
    of : (o : Option File) → option_map (λ (f : TaggedFile File). handle_text (key_of life) f.tag n) (option_map tagged o) ≡ option_map (λ tag. handle_text (key_of life) tag n) (option_map (λ (f : File). f.tag) o)
    of None = refl
    of (Some f) = refl

-- a life opens with the handles of the files that its description makes, and no others
is_described : (life : Life) (n : ℕ) (handle : List ℕ) → handle_at (numbered_files life.opening.tree) n ≡ Some handle → (1 ≤ n) × (n < life.loaded.tree.next)
is_described life n handle is = by n (cases_lt n life.loaded.tree.next)
    (λ none. not_both (handle_opened life n ∙ ap (option_map (λ tag. handle_text (key_of life) tag n)) none) is)
  where
    filled : AreFilled life.loaded.tree
    filled = all_filled life.lines life.loaded life.described

    by : (m : ℕ) → (m < life.loaded.tree.next) ⊎ (life.loaded.tree.next ≤ m) → (tag_there life.loaded.tree m ≡ None → ⊥) → (1 ≤ m) × (m < life.loaded.tree.next)
    by zero order some = absurd (some filled.none)
    by (suc m) (inl below) some = (omega arith, below)
    by (suc m) (inr above) some = absurd (some (filled.above (suc m) above))

pub described_handles_stay : DescribedHandlesStay
described_handles_stay earlier later follows n handle is =
    let key : key_of later ≡ key_of earlier = ap (λ k. life_key k (rows_of later.lines)) follows.key ∙ ap (life_key earlier.loaded.tree.key) follows.paths in
    let there : handle_at (numbered_files later.opening.tree) n ≡ Some handle =
    handle_opened later n ∙ ap (λ k. option_map (λ tag. handle_text k tag n) (tag_there later.loaded.tree n)) key
    ∙ ap (option_map (λ tag. handle_text (key_of earlier) tag n)) (same_tags earlier later follows n) ∙ sym (handle_opened earlier n) ∙ is in
    let given = is_described later n handle there in
    (in_both earlier later follows n given.0 given.1, (names_on later).handles handle n (handles_name_one.read (numbered_files later.opening.tree) n handle later.opens_lawful.numbers there))

-- ---- another key

stale_of : (shaped : Bool) (ours : Bool) (given : Bool) (rest : Reading) → shaped ≡ true → ours ≡ false → judged shaped ours given rest ≡ Stale
stale_of true false given rest s o = refl
stale_of true true given rest s o = cc
stale_of false ours given rest s o = cc

bytes_differ : (xs ys : List ℕ) → xs ≢ ys → bytes_eq xs ys ≡ false
bytes_differ xs ys differ = of (bytes_eq xs ys) (bytes_eq-Decides xs ys).0
  where
    of : (b : Bool) → (b ≡ true → xs ≡ ys) → b ≡ false
    of true same = absurd (differ (same refl))
    of false same = refl

pub handles_of_others_are_stale : HandlesOfOthersAreStale
handles_of_others_are_stale one other differ n handle is =
    let t = numbered_files one.state.tree in
    let u = numbered_files other.state.tree in
    let it = names t n handle (handles_name_one.read t n handle (lawful one).numbers is) in
    let m : ℕ = number_in handle in
    let ours : bytes_eq (key_in handle) u.key ≡ false = bytes_differ (key_in handle) u.key (λ same. differ (sym (key_is one) ∙ sym it.ours ∙ same ∙ key_is other)) in
    stale_of (is_shaped handle) (bytes_eq (key_in handle) u.key) (nat_eq m 0 || nat_le u.next m) (live_with (tag_in handle) m (numbered.at u m)) it.shaped ours
