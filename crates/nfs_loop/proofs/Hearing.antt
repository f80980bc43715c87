-- When clients were heard of.
use Rattle.std.proofs.Common.{◌≡◌, ◌≢◌, ◌⊎◌, ℕ, ◌/◌, ◌<◌, Bool, true, false, ◌||◌, if◌then◌else◌, List, [], ◌∷◌, ◌++◌, length, set, nat_eq, Option, Some, None, option_map, IsSome, ◌↔◌, inl, inr, refl, sym, ap, subst, ◌∙◌, append_assoc}
use Rattle.std.proofs.lemmas.Bool.{eqb-true, eqb-false, eq-eqb, true≢false}
use Rattle.std.proofs.lemmas.List.{get_or-set_other, get_or-set_same}
use Rattle.std.proofs.lemmas.List.Folds.{list_any-append}
use Rattle.slab.specs.Slab.{Slab, get, Updates}
use Rattle.nfs_queue.specs.Queues.{is_waiting, AreApart}
use Rattle.nfs_queue.proofs.Queueing.{apart_at}
use Rattle.nfs_loop.specs.declared.member.Member.{Member}
use Rattle.nfs_loop.specs.declared.watches.Hold.{Hold}
use Rattle.nfs_loop.specs.declared.watches.Watch.{Watch}
use Rattle.nfs_loop.specs.Reports.{Report, since, IsReported, IsTimeIn, ReportsMore}
use Rattle.nfs_loop.specs.Watching.{watch_at, heard_at, hold_at, nothing_known, AllBegin, AllStay, AreWatched}
use Rattle.nfs_loop.specs.Stages.{HeardInTurns, IsHeard, IsUnheard, OthersStay, first_of, seat_of, seats}
use Rattle.nfs_loop.proofs.Lengthening.{waits_last, waits_on}
use Rattle.nfs_loop.proofs.Reporting.{in_after, in_one, in_then, more_one, more_then}
use Rattle.nfs_loop.proofs.Staying.{none_some}
use Rattle.nfs_serving.specs.Service.{Seat}
use Rattle.nfs_serving.specs.declared.turn.Turn.{Turn}
use Rattle.nfs_serving.specs.declared.turn.Turn.TheVariants.{Idle}
use Rattle.nfs_xdr.specs.declared.link.Came.{Came}

-- ---- times

pub time_then : (a b c : Option (List Report)) (n : ℕ) → IsTimeIn a n b → ReportsMore b c → IsTimeIn a n c
time_then a b c n f g = (f.0, in_then a b c (since f.0) f.1 g, f.2)

pub time_after : (a b c : Option (List Report)) (n : ℕ) → ReportsMore a b → IsTimeIn b n c → IsTimeIn a n c
time_after a b c n f g = (g.0, in_after a b c (since g.0) f g.1, g.2)

time_same : (a b : Option (List Report)) (n m : ℕ) → m ≡ n → IsTimeIn a n b → IsTimeIn a m b
time_same a b n m e f = (f.0, f.1, e ∙ f.2)

-- ---- new clients

module _ {M : Type 0} where
  -- nobody came
  pub begin_none : (old new : Slab M) (a b : Option (List Report)) (watches : List Watch) → ((key : ℕ) → get new key ≡ get old key) → AllBegin old a b new watches
  begin_none old new a b watches same key none some = absurd (none_some (get new key) (same key ∙ none) some)

  -- one did
  pub begin_one : (old new : Slab M) (key vacant : ℕ) (member : M) (a b : Option (List Report)) (watches : List Watch) → key ≡ vacant → Updates old new vacant (Some member) → IsTimeIn a (heard_at watches key) b → AllBegin old a b new watches
  begin_one old new key vacant member a b watches at sits heard k none some = by_key (nat_eq k vacant) refl
    where
      by_key : (t : Bool) → nat_eq k vacant ≡ t → IsTimeIn a (heard_at watches k) b
      by_key true e = subst (λ n. IsTimeIn a (heard_at watches n) b) (at ∙ sym (eqb-true k vacant e)) heard
      by_key false e = absurd (none_some (get new k) (sits.others k (eqb-false k vacant e) ∙ none) some)

  -- something was reported before
  pub begin_after : (old new : Slab M) (a b c : Option (List Report)) (watches : List Watch) → ReportsMore a b → AllBegin old b c new watches → AllBegin old a c new watches
  begin_after old new a b c watches first f key none some = time_after a b c (heard_at watches key) first (f key none some)

  pub begin_then : (old mid new : Slab M) (a b c : Option (List Report)) (v w : List Watch) → ReportsMore a b → ReportsMore b c → AllBegin old a b mid v → AllStay mid v new w → AllBegin mid b c new w → AllBegin old a c new w
  begin_then old mid new a b c v w first second f stay g k none some = by_case (get mid k) refl
    where
      by_case : (o : Option M) → get mid k ≡ o → IsTimeIn a (heard_at w k) c
      by_case None e = time_after a b c (heard_at w k) first (g k e some)
      by_case (Some m) e =
          let there : IsSome (get mid k) = subst IsSome (sym e) refl in
          time_then a b c (heard_at w k) (time_same a b (heard_at v k) (heard_at w k) (stay k there).2 (f k none there)) second

-- ---- one turn

-- of one key: whether it had a turn and waits, why it is held, if it is, and when it was heard of, before and now
abbrev HeardBy : {L : Type 0} → (L → Option (List ℕ)) → (L → ℕ → Came → L → Type 0) → Option (List Report) → Option (List Report) → Bool → Bool → Option Hold → ℕ → ℕ → Option (Seat L) → Type 0
HeardBy incoming reports a b turned waits hold was now seat = ((now ≡ was) × (turned ≡ true → IsUnheard reports seat)) ⊎ ((turned ≡ true) × IsTimeIn a now b × IsHeard incoming reports waits hold seat)

or_last : (b : Bool) → (b || false) ≡ b
or_last true = refl
or_last false = refl

module _ {L : Type 0} (incoming : L → Option (List ℕ)) (reports : L → ℕ → Came → L → Type 0) where
  no_turn : (a b : Option (List Report)) (waits : Bool) (hold : Option Hold) (was now : ℕ) (seat : Option (Seat L)) → now ≡ was → HeardBy incoming reports a b false waits hold was now seat
  no_turn a b waits hold was now seat same = inl (same, λ t. absurd (true≢false (sym t)))

  stays_without : (a b : Option (List Report)) (waits : Bool) (hold : Option Hold) (was now : ℕ) (seat : Option (Seat L)) → HeardBy incoming reports a b false waits hold was now seat → now ≡ was
  stays_without a b waits hold was now seat (inl f) = f.0
  stays_without a b waits hold was now seat (inr f) = absurd (true≢false (sym f.0))

  -- the first has its turn
  pub first_heard : (a b : Option (List Report)) (queue rest later : List ℕ) (key : ℕ) (old new : List Watch) (seat : ℕ → Option (Seat L)) → queue ≡ key ∷ rest → ((other : ℕ) → other ≢ key → heard_at new other ≡ heard_at old other)
      → HeardBy incoming reports a b true (is_waiting key later) (hold_at new key) (heard_at old key) (heard_at new key) (seat key) → HeardInTurns incoming reports a b (first_of queue) later old new seat
  first_heard a b queue rest later key old new seat first others one = subst (λ q. HeardInTurns incoming reports a b (first_of q) later old new seat) (sym first) (λ k. by_key k (nat_eq k key) refl)
    where
      by_key : (k : ℕ) (t : Bool) → nat_eq k key ≡ t → HeardBy incoming reports a b (t || false) (is_waiting k later) (hold_at new k) (heard_at old k) (heard_at new k) (seat k)
      by_key k true e = subst (λ n. HeardBy incoming reports a b true (is_waiting n later) (hold_at new n) (heard_at old n) (heard_at new n) (seat n)) (sym (eqb-true k key e)) one
      by_key k false e = no_turn a b (is_waiting k later) (hold_at new k) (heard_at old k) (heard_at new k) (seat k) (others k (eqb-false k key e))

  -- nobody has one
  pub nobody_heard : (a b : Option (List Report)) (later : List ℕ) (watches : List Watch) (seat : ℕ → Option (Seat L)) → HeardInTurns incoming reports a b [] later watches watches seat
  nobody_heard a b later watches seat k = no_turn a b (is_waiting k later) (hold_at watches k) (heard_at watches k) (heard_at watches k) (seat k) refl

  -- ---- one turn after another

  heard_more : (waits more : Bool) (hold h : Option Hold) (was seat : Option (Seat L)) → (waits ≡ true → more ≡ true) → h ≡ hold → seat ≡ was → IsHeard incoming reports waits hold was → IsHeard incoming reports more h seat
  heard_more waits more hold h was seat on same sits heard = subst (λ o. IsHeard incoming reports more h o) (sym sits) (subst (λ x. IsHeard incoming reports more x was) (sym same) (by_seat was heard))
    where
      by_seat : (o : Option (Seat L)) → IsHeard incoming reports waits hold o → IsHeard incoming reports more hold o
      by_seat None f = tt
      by_seat (Some s) (inl again) = inl (on again)
      by_seat (Some s) (inr other) = inr other

  -- another one had its turn
  heard_on : (a b c : Option (List Report)) (turned waits more : Bool) (hold h : Option Hold) (began was now : ℕ) (sat seat : Option (Seat L)) → ReportsMore b c → (waits ≡ true → more ≡ true) → h ≡ hold → now ≡ was → seat ≡ sat
      → HeardBy incoming reports a b turned waits hold began was sat → HeardBy incoming reports a c turned more h began now seat
  heard_on a b c turned waits more hold h began was now sat seat since_then on same stays sits (inl f) = inl (stays ∙ f.0, λ t. subst (IsUnheard reports) (sym sits) (f.1 t))
  heard_on a b c turned waits more hold h began was now sat seat since_then on same stays sits (inr f) =
      inr (f.0, time_same a c was now stays (time_then a b c was f.1 since_then), heard_more waits more hold h sat seat on same sits f.2)

  -- it had no turn before
  heard_now : (a b c : Option (List Report)) (waits more : Bool) (hold : Option Hold) (began was now : ℕ) (seat : Option (Seat L)) → ReportsMore a b → (waits ≡ true → more ≡ true) → was ≡ began
      → HeardBy incoming reports b c true waits hold was now seat → HeardBy incoming reports a c true more hold began now seat
  heard_now a b c waits more hold began was now seat before on same (inl f) = inl (f.0 ∙ same, f.1)
  heard_now a b c waits more hold began was now seat before on same (inr f) = inr (f.0, time_after a b c now before f.1, heard_more waits more hold hold seat seat on refl refl f.2)

  apart_rest : (before : List ℕ) (key : ℕ) (rest : List ℕ) → AreApart (before ++ key ∷ rest) → is_waiting key rest ≡ false
  apart_rest [] key rest a = a.0
  apart_rest (k ∷ before) key rest a = apart_rest before key rest a.1

  waits_behind : (key : ℕ) (rest again more queue : List ℕ) → queue ≡ (rest ++ again) ++ more → is_waiting key rest ≡ false → is_waiting key queue ≡ true → is_waiting key (again ++ more) ≡ true
  waits_behind key rest again more queue is apart waits =
      sym (list_any-append (nat_eq key) rest (again ++ more) ∙ ap (λ t. t || is_waiting key (again ++ more)) apart) ∙ ap (is_waiting key) (sym (is ∙ append_assoc rest again more)) ∙ waits

  pub heard_then : (a b c : Option (List Report)) (keys rest again more queue now : List ℕ) (key : ℕ) (u v w : List Watch) (was seat : ℕ → Option (Seat L)) → ReportsMore a b → ReportsMore b c
      → AreApart (keys ++ key ∷ rest) → queue ≡ key ∷ (rest ++ again) → now ≡ (rest ++ again) ++ more → OthersStay key was seat → ((other : ℕ) → other ≢ key → hold_at w other ≡ hold_at v other)
      → HeardInTurns incoming reports a b keys again u v was → HeardInTurns incoming reports b c (first_of queue) now v w seat → HeardInTurns incoming reports a c (keys ++ key ∷ []) (again ++ more) u w seat
  heard_then a b c keys rest again more queue now key u v w was seat first second apart is after others holds f g k = by_key (nat_eq k key) refl
    where
      turn : (n : ℕ) → HeardBy incoming reports b c (nat_eq n key || false) (is_waiting n now) (hold_at w n) (heard_at v n) (heard_at w n) (seat n)
      turn = subst (λ q. HeardInTurns incoming reports b c (first_of q) now v w seat) is g

      this : HeardBy incoming reports b c true (is_waiting key now) (hold_at w key) (heard_at v key) (heard_at w key) (seat key)
      this = subst (λ t. HeardBy incoming reports b c (t || false) (is_waiting key now) (hold_at w key) (heard_at v key) (heard_at w key) (seat key)) (eq-eqb key key refl) (turn key)

      before : heard_at v key ≡ heard_at u key
      before = stays_without a b (is_waiting key again) (hold_at v key) (heard_at u key) (heard_at v key) (was key) (subst (λ t. HeardBy incoming reports a b t (is_waiting key again) (hold_at v key) (heard_at u key) (heard_at v key) (was key)) (apart_at keys key rest apart) (f key))

      here : HeardBy incoming reports a c (is_waiting key (keys ++ key ∷ [])) (is_waiting key (again ++ more)) (hold_at w key) (heard_at u key) (heard_at w key) (seat key)
      here = subst (λ t. HeardBy incoming reports a c t (is_waiting key (again ++ more)) (hold_at w key) (heard_at u key) (heard_at w key) (seat key)) (sym (waits_last key keys))
          (heard_now a b c (is_waiting key now) (is_waiting key (again ++ more)) (hold_at w key) (heard_at u key) (heard_at v key) (heard_at w key) (seat key) first (waits_behind key rest again more now after (apart_rest keys key rest apart)) before this)

      not_last : nat_eq k key ≡ false → is_waiting k keys ≡ is_waiting k (keys ++ key ∷ [])
      not_last e = sym (list_any-append (nat_eq k) keys (key ∷ []) ∙ ap (λ t. is_waiting k keys || (t || false)) e ∙ or_last (is_waiting k keys))

      by_key : (t : Bool) → nat_eq k key ≡ t → HeardBy incoming reports a c (is_waiting k (keys ++ key ∷ [])) (is_waiting k (again ++ more)) (hold_at w k) (heard_at u k) (heard_at w k) (seat k)
      by_key true e = subst (λ n. HeardBy incoming reports a c (is_waiting n (keys ++ key ∷ [])) (is_waiting n (again ++ more)) (hold_at w n) (heard_at u n) (heard_at w n) (seat n)) (sym (eqb-true k key e)) here
      by_key false e =
          let differ : k ≢ key = eqb-false k key e in
          let stays : heard_at w k ≡ heard_at v k = stays_without b c (is_waiting k now) (hold_at w k) (heard_at v k) (heard_at w k) (seat k) (subst (λ t. HeardBy incoming reports b c (t || false) (is_waiting k now) (hold_at w k) (heard_at v k) (heard_at w k) (seat k)) e (turn k)) in
          subst (λ t. HeardBy incoming reports a c t (is_waiting k (again ++ more)) (hold_at w k) (heard_at u k) (heard_at w k) (seat k)) (not_last e)
          (heard_on a b c (is_waiting k keys) (is_waiting k again) (is_waiting k (again ++ more)) (hold_at v k) (hold_at w k) (heard_at u k) (heard_at v k) (heard_at w k) (was k) (seat k) second (waits_on k again more) (holds k differ) stays (others k differ) (f k))

-- ---- what a turn sets

module _ (a b : List Watch) (key : ℕ) (seconds : ℕ) (is_heard : Bool) (heard : b ≡ (if is_heard then set a key (record (watch_at a key) { heard = seconds }) else a)) where
  pub others_heard : (other : ℕ) → other ≢ key → heard_at b other ≡ heard_at a other
  others_heard other differ = ap (λ ws. heard_at ws other) heard ∙ by_case is_heard
    where
      by_case : (t : Bool) → heard_at (if t then set a key (record (watch_at a key) { heard = seconds }) else a) other ≡ heard_at a other
      by_case true = ap (λ (x : Watch). x.heard) (get_or-set_other a key other _ nothing_known differ)
      by_case false = refl

  pub this_heard : key < length a → is_heard ≡ true → heard_at b key ≡ seconds
  this_heard within is = ap (λ ws. heard_at ws key) heard ∙ ap (λ t. heard_at (if t then set a key (record (watch_at a key) { heard = seconds }) else a) key) is ∙ ap (λ (x : Watch). x.heard) (get_or-set_same a key _ nothing_known within)

  pub not_heard : is_heard ≡ false → heard_at b key ≡ heard_at a key
  not_heard is = ap (λ ws. heard_at ws key) heard ∙ ap (λ t. heard_at (if t then set a key (record (watch_at a key) { heard = seconds }) else a) key) is

-- ---- what a turn brings

pub heard_unless : (b : Bool) (what is : Turn) → (b ≡ false) ↔ (what ≡ Idle) → what ≡ is → (is ≡ Idle → ⊥) → b ≡ true
heard_unless true what is i e differ = refl
heard_unless false what is i e differ = absurd (differ (sym e ∙ i.0 refl))

-- the clock reported this, and then another thing, and more
pub time_now : (a b c d : Option (List Report)) (millis : ℕ) (t : Report) → IsReported a (since millis) b → IsReported b t c → ReportsMore c d → IsTimeIn a (millis / 1000) d
time_now a b c d millis t first second more = (millis, in_then a b d (since millis) (in_one a b (since millis) first) (more_then b c d (more_one b c t second) more), refl)

module _ {L : Type 0} (incoming : L → Option (List ℕ)) (reports : L → ℕ → Came → L → Type 0) (a b : Option (List Report)) (members : Slab (Member L)) (member : Member L) (queue rest later : List ℕ) (key seconds : ℕ) (u v w : List Watch) (seat : ℕ → Option (Seat L)) (is_heard : Bool)
    (first : queue ≡ key ∷ rest) (was : get members key ≡ Some member) (watched : AreWatched members u) (heard : v ≡ (if is_heard then set u key (record (watch_at u key) { heard = seconds }) else u)) (stays : (k : ℕ) → heard_at w k ≡ heard_at v k) where
  all_others : (other : ℕ) → other ≢ key → heard_at w other ≡ heard_at u other
  all_others other differ = stays other ∙ others_heard u v key seconds is_heard heard other differ

  pub heard_turn : IsTimeIn a seconds b → is_heard ≡ true → IsHeard incoming reports (is_waiting key later) (hold_at w key) (seat key) → HeardInTurns incoming reports a b (first_of queue) later u w seat
  heard_turn time is brought = first_heard incoming reports a b queue rest later key u w seat first all_others
      (inr (refl, time_same a b seconds (heard_at w key) (stays key ∙ this_heard u v key seconds is_heard heard (watched key (subst IsSome (sym was) refl)) is) time, brought))

  pub unheard_turn : is_heard ≡ false → IsUnheard reports (seat key) → HeardInTurns incoming reports a b (first_of queue) later u w seat
  unheard_turn is nothing = first_heard incoming reports a b queue rest later key u w seat first all_others (inl (stays key ∙ not_heard u v key seconds is_heard heard is, λ t. nothing))

-- who is back, or is gone
module _ {L : Type 0} (incoming : L → Option (List ℕ)) (reports : L → ℕ → Came → L → Type 0) (waits : Bool) (hold : Option Hold) (old new : Slab (Member L)) (key : ℕ) where
  pub heard_back : (member : Member L) → Updates old new key (Some member) → IsHeard incoming reports waits hold (Some (seat_of member)) → IsHeard incoming reports waits hold (seats new key)
  heard_back member back f = subst (IsHeard incoming reports waits hold) (sym (ap (option_map seat_of) back.changed)) f

  pub heard_gone : Updates old new key None → IsHeard incoming reports waits hold (seats new key)
  heard_gone away = subst (IsHeard incoming reports waits hold) (sym (ap (option_map seat_of) away.changed)) tt

  pub unheard_back : (member : Member L) → Updates old new key (Some member) → IsUnheard reports (Some (seat_of member)) → IsUnheard reports (seats new key)
  unheard_back member back f = subst (IsUnheard reports) (sym (ap (option_map seat_of) back.changed)) f
