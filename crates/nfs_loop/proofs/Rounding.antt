-- One turn after another.
use Rattle.std.proofs.Common.{◌≡◌, ◌≢◌, ◌⊎◌, ℕ, ◌-◌, ◌<◌, Bool, true, false, ◌||◌, is_some, List, [], ◌∷◌, ◌++◌, length, nat_eq, Option, Some, None, inl, inr, refl, sym, ap, subst, ◌∙◌, append_assoc, append-nil, arith}
use Rattle.std.proofs.lemmas.Bool.{eqb-false}
use Rattle.nfs_queue.specs.Queues.{is_waiting, AreApart}
use Rattle.nfs_queue.proofs.Queueing.{apart_at, or_both, or_left, or_right}
use Rattle.nfs_loop.specs.Journals.{Journal, AreBeside, JournalGoes, LeavesRoom, SettlesBy, noted_by, settles_of}
use Rattle.nfs_loop.specs.Reports.{Report, Accounts, ComeBy}
use Rattle.nfs_loop.specs.declared.watches.Hold.{Hold}
use Rattle.nfs_loop.specs.declared.watches.Watch.{Watch}
use Rattle.nfs_loop.specs.Watching.{FirstMayBeHeld, hold_at}
use Rattle.nfs_loop.specs.Stages.{Stage, state, turned, first_of, AllOthersStay, AreTurnsBeside, HeardInTurns, IsAgain, InRound, OthersStay, Sleeps, TurnsFirst, WaitAgain, Goes}
use Rattle.nfs_loop.proofs.Hearing.{heard_then, nobody_heard}
use Rattle.nfs_loop.proofs.Reporting.{accounts_then, accounts_none, more_by}
use Rattle.nfs_loop.proofs.Staying.{others_not_held}
use Rattle.nfs_loop.proofs.Changing.{both_change, changes_then, turned_then}
use Rattle.nfs_loop.proofs.Beside.{beside_on, beside_settled, beside_then, round_holds}
use Rattle.nfs_loop.proofs.Settling.{journal_stays, journal_then, noted_before}
use Rattle.nfs_server.specs.Fits.{Held}
use Rattle.nfs_xdr.specs.declared.link.Came.{Came}
use Rattle.nfs_serving.specs.Service.{Seat, Change, AreChanges}

none_left : (left : ℕ) → 0 ≡ left → 0 < left → ⊥
none_left left e l = omega (arith, e, l)

one_less : (rest : List ℕ) (key left : ℕ) → length (key ∷ rest) ≡ left → length rest ≡ left - 1
one_less rest key left e = omega (arith, e)

-- who is not among keys with another one after them is not among them, and is not that one
not_among : (other key : ℕ) (keys : List ℕ) → is_waiting other (keys ++ key ∷ []) ≡ false → (is_waiting other keys ≡ false) × (other ≢ key)
not_among other key [] e = (refl, eqb-false other key (or_left (nat_eq other key) false e))
not_among other key (k ∷ keys) e =
    let rest = not_among other key keys (or_right (nat_eq other k) (is_waiting other (keys ++ key ∷ [])) e) in
    (or_both (nat_eq other k) (is_waiting other keys) (or_left (nat_eq other k) (is_waiting other (keys ++ key ∷ [])) e) rest.0, rest.1)

others_on : {L : Type 0} (began was seat : ℕ → Option (Seat L)) (key : ℕ) (keys : List ℕ) → AllOthersStay keys began was → OthersStay key was seat → AllOthersStay (keys ++ key ∷ []) began seat
others_on began was seat key keys before others other e = let apart = not_among other key keys e in others other apart.1 ∙ before other apart.0

module _ {L : Type 0} (incoming : L → Option (List ℕ)) (reports : L → ℕ → Came → L → Type 0) where
  -- another one had its turn
  again_others : (held : Bool) (a b : List Watch) (began was seat : ℕ → Option (Seat L)) (key : ℕ) (keys queue : List ℕ) → is_waiting key keys ≡ false → OthersStay key was seat → ((other : ℕ) → other ≢ key → hold_at b other ≡ hold_at a other)
      → WaitAgain incoming reports held a began was keys queue → WaitAgain incoming reports held b began seat keys queue
  again_others held a b began was seat key [] queue e others holds w = w
  again_others held a b began was seat key (k ∷ keys) queue e others holds (inl w) = inl (w.0, w.1, again_others held a b began was seat key keys w.0 (or_right (nat_eq key k) (is_waiting key keys) e) others holds w.2)
  again_others held a b began was seat key (k ∷ keys) queue e others holds (inr w) =
      let differ : k ≢ key = λ same. eqb-false key k (or_left (nat_eq key k) (is_waiting key keys) e) (sym same) in
      inr (
        subst (λ h. Sleeps incoming reports held h (began k) (seat k)) (sym (holds k differ)) (subst (Sleeps incoming reports held (hold_at a k) (began k)) (sym (others k differ)) w.0),
        again_others held a b began was seat key keys queue (or_right (nat_eq key k) (is_waiting key keys) e) others holds w.1,
      )

  -- and now it waits again as well, or sleeps
  again_then : (held : Bool) (watches : List Watch) (began seat : ℕ → Option (Seat L)) (key : ℕ) (keys queue again : List ℕ) → WaitAgain incoming reports held watches began seat keys queue → IsAgain incoming reports held (hold_at watches key) key again (began key) (seat key)
      → WaitAgain incoming reports held watches began seat (keys ++ key ∷ []) (queue ++ again)
  again_then held watches began seat key [] queue again w (inl e) = inl ([], ap (λ q. q ++ again) w ∙ e, refl)
  again_then held watches began seat key [] queue again w (inr s) = inr (s.1, ap (λ q. q ++ again) w ∙ s.0)
  again_then held watches began seat key (k ∷ keys) queue again (inl w) i = inl (w.0 ++ again, ap (λ q. q ++ again) w.1, again_then held watches began seat key keys w.0 again w.2 i)
  again_then held watches began seat key (k ∷ keys) queue again (inr w) i = inr (w.0, again_then held watches began seat key keys queue again w.1 i)

  -- where replies are held for a journal, the turn held them; and before it the client sat as it sat when the turns began
  sleeps_beside : (held holds : Bool) (hold : Option Hold) (was seat : Option (Seat L)) → (held ≡ true → holds ≡ true) → Sleeps incoming reports holds hold was seat → Sleeps incoming reports held hold was seat
  sleeps_beside held holds hold was None where_held s = tt
  sleeps_beside held holds hold was (Some seat) where_held (inl s) = inl (s.0, λ e. s.1 (where_held e))
  sleeps_beside held holds hold was (Some seat) where_held (inr s) = inr s

  again_beside : (held holds : Bool) (hold : Option Hold) (key : ℕ) (again : List ℕ) (began was seat : Option (Seat L)) → (held ≡ true → holds ≡ true) → was ≡ began → IsAgain incoming reports holds hold key again was seat → IsAgain incoming reports held hold key again began seat
  again_beside held holds hold key again began was seat where_held same (inl e) = inl e
  again_beside held holds hold key again began was seat where_held same (inr s) = inr (s.0, subst (λ o. Sleeps incoming reports held hold o seat) same (sleeps_beside held holds hold was seat where_held s.1))

  sleeps_or_gone : (held : Bool) (hold : Option Hold) (began was seat : Option (Seat L)) → (seat ≡ was) ⊎ (seat ≡ None) → Sleeps incoming reports held hold began was → Sleeps incoming reports held hold began seat
  sleeps_or_gone held hold began was seat (inl same) s = subst (Sleeps incoming reports held hold began) (sym same) s
  sleeps_or_gone held hold began was seat (inr gone) s = subst (Sleeps incoming reports held hold began) (sym gone) tt

  -- some have left since
  pub again_where_some_left : (held : Bool) (watches : List Watch) (began was seat : ℕ → Option (Seat L)) (keys queue : List ℕ) → ((key : ℕ) → (seat key ≡ was key) ⊎ (seat key ≡ None)) → WaitAgain incoming reports held watches began was keys queue → WaitAgain incoming reports held watches began seat keys queue
  again_where_some_left held watches began was seat [] queue left w = w
  again_where_some_left held watches began was seat (k ∷ keys) queue left (inl w) = inl (w.0, w.1, again_where_some_left held watches began was seat keys w.0 left w.2)
  again_where_some_left held watches began was seat (k ∷ keys) queue left (inr w) = inr (sleeps_or_gone held (hold_at watches k) (began k) (was k) (seat k) (left k) w.0, again_where_some_left held watches began was seat keys queue left w.1)

  round_begins : (held : Bool) (reported : Option (List Report)) (watches : List Watch) (seat : ℕ → Option (Seat L)) (queue : List ℕ) → InRound incoming reports held reported reported watches watches seat seat queue queue (length queue) []
  round_begins held reported watches seat queue = record { rest = queue; again = []; first_is = refl; queue_is = sym (append-nil queue); left_is = refl; wait_again = refl; others_stay = λ other e. refl; heard = nobody_heard incoming reports reported reported [] watches seat }

  step : (held holds : Bool) (reported reported_now reported_then : Option (List Report)) (watched a b : List Watch) (began was seat : ℕ → Option (Seat L)) (first queue now rest again : List ℕ) (left : ℕ) (changes later : List Change) → AreApart first
      → first ≡ turned changes ++ rest → queue ≡ rest ++ again → length rest ≡ left → WaitAgain incoming reports held a began was (turned changes) again → AllOthersStay (turned changes) began was → HeardInTurns incoming reports reported reported_now (turned changes) again watched a was
      → Accounts reported changes reported_now → Accounts reported_now later reported_then → 0 < left → FirstMayBeHeld queue a b → HeardInTurns incoming reports reported_now reported_then (first_of queue) now a b seat → (held ≡ true → holds ≡ true) → TurnsFirst incoming reports holds b was seat queue later now
      → InRound incoming reports held reported reported_then watched b began seat first now (left - 1) (later ++ changes)
  step held holds reported reported_now reported_then watched a b began was seat first queue now [] again left changes later apart f q l w others heard before after some may_be_held hears where_held t = absurd (none_left left l some)
  step held holds reported reported_now reported_then watched a b began was seat first queue now (key ∷ rest) again left changes later apart f q l w others heard before after some may_be_held hears where_held t =
      let s : TurnsFirst incoming reports holds b was seat (key ∷ (rest ++ again)) later now = subst (λ x. TurnsFirst incoming reports holds b was seat x later now) q t in
      let no_turn : is_waiting key (turned changes) ≡ false = apart_at (turned changes) key rest (subst AreApart f apart) in
      let goes_on : WaitAgain incoming reports held b began seat (turned changes) again = again_others held a b began was seat key (turned changes) again no_turn s.1 (others_not_held queue a b key (rest ++ again) q may_be_held) w in
      let now_again : IsAgain incoming reports held (hold_at b key) key s.2.0 (began key) (seat key) = again_beside held holds (hold_at b key) key s.2.0 (began key) (was key) (seat key) where_held (others key no_turn) s.2.2 in
      let more : turned (later ++ changes) ≡ turned changes ++ key ∷ [] = turned_then changes later ∙ ap (λ x. turned changes ++ x) s.0 in
      record {
        rest = rest;
        again = again ++ s.2.0;
        first_is = f ∙ sym (append_assoc (turned changes) (key ∷ []) rest) ∙ ap (λ x. x ++ rest) (sym more);
        queue_is = s.2.1 ∙ append_assoc rest again s.2.0;
        left_is = one_less rest key left l;
        wait_again = subst (λ x. WaitAgain incoming reports held b began seat x (again ++ s.2.0)) (sym more) (again_then held b began seat key (turned changes) again s.2.0 goes_on now_again);
        others_stay = subst (λ x. AllOthersStay x began seat) (sym more) (others_on began was seat key (turned changes) others s.1);
        heard = subst (λ x. HeardInTurns incoming reports reported reported_then x (again ++ s.2.0) watched b seat) (sym more)
            (heard_then incoming reports reported reported_now reported_then (turned changes) rest again s.2.0 queue now key watched a b was seat (more_by reported reported_now changes before) (more_by reported_now reported_then later after) (subst AreApart f apart) q s.2.1 s.1 (others_not_held queue a b key (rest ++ again) q may_be_held) heard hears);
      }

  done : (held : Bool) (reported reported_now : Option (List Report)) (watched watches : List Watch) (began seat : ℕ → Option (Seat L)) (first queue rest again : List ℕ) (changes : List Change) → first ≡ turned changes ++ rest → queue ≡ rest ++ again → length rest ≡ 0 → WaitAgain incoming reports held watches began seat (turned changes) again → HeardInTurns incoming reports reported reported_now (turned changes) again watched watches seat
      → (turned changes ≡ first) × WaitAgain incoming reports held watches began seat first queue × HeardInTurns incoming reports reported reported_now first queue watched watches seat
  done held reported reported_now watched watches began seat first queue [] again changes f q l w heard =
      let is : turned changes ≡ first = sym (f ∙ append-nil (turned changes)) in (
        is,
        subst (λ x. WaitAgain incoming reports held watches began seat x queue) is (subst (WaitAgain incoming reports held watches began seat (turned changes)) (sym q) w),
        subst (λ x. HeardInTurns incoming reports reported reported_now x queue watched watches seat) is (subst (λ x. HeardInTurns incoming reports reported reported_now (turned changes) x watched watches seat) (sym q) heard),
      )
  done held reported reported_now watched watches began seat first queue (key ∷ rest) again changes f q l w heard = absurd (none_left (length (key ∷ rest)) (sym l) (omega arith))

pub round_starts : {L : Type 0} (outgoing incoming : L → Option (List ℕ)) (reports : L → ℕ → Came → L → Type 0) (reported : Option (List Report)) (watches : List Watch) (seat : ℕ → Option (Seat L)) (journal : Option Journal) (old : Stage L) (queue : List ℕ) (left : ℕ) → left ≡ length queue
    → Goes outgoing incoming (λ changes. InRound incoming reports (is_some journal) reported reported watches watches seat seat queue queue left changes × Accounts reported changes reported × JournalGoes journal (noted_by changes) journal × AreTurnsBeside outgoing incoming journal changes old old) old old
round_starts outgoing incoming reports reported watches seat journal old queue left is = record {
  changes = [];
  are_changes = refl;
  shared_stays = refl;
  such = (subst (λ n. InRound incoming reports (is_some journal) reported reported watches watches seat seat queue queue n []) (sym is) (round_begins incoming reports (is_some journal) reported watches seat queue), accounts_none reported, journal_stays journal, refl);
}

-- ---- notes come to last, or none do

pub settle_after : {L : Type 0} (outgoing incoming : L → Option (List ℕ)) (mid new : Stage L) (shared : Bool) (noted : Option (List ℕ)) → SettlesBy noted mid.server new.server → new ≡ record mid { server = new.server } → AreChanges outgoing incoming shared (settles_of noted) (state mid) (state new)
settle_after outgoing incoming mid new shared None same is = ap state is ∙ ap (λ (s : Held). state (record mid { server = s })) same
settle_after outgoing incoming mid new shared (Some notes) s is = (state mid, refl, (s.0, ap state is ∙ ap (λ (h : Held). state (record mid { server = h })) s.1))

pub settles_no_turn : (noted : Option (List ℕ)) (changes : List Change) → turned (settles_of noted ++ changes) ≡ turned changes
settles_no_turn None changes = refl
settles_no_turn (Some notes) changes = refl

pub settles_no_report : (noted : Option (List ℕ)) (changes : List Change) (a b : Option (List Report)) → ComeBy a changes b → ComeBy a (settles_of noted ++ changes) b
settles_no_report None changes a b f = f
settles_no_report (Some notes) changes a b f = f

settles_account : (noted : Option (List ℕ)) (changes : List Change) (a b : Option (List Report)) → Accounts a changes b → Accounts a (settles_of noted ++ changes) b
settles_account None changes a b f = f
settles_account (Some notes) changes a b f = f

-- between turns
settles_in_round : {L : Type 0} (incoming : L → Option (List ℕ)) (reports : L → ℕ → Came → L → Type 0) (held : Bool) (reported reported_now : Option (List Report)) (watched watches : List Watch) (began seat : ℕ → Option (Seat L)) (first queue : List ℕ) (left : ℕ) (noted : Option (List ℕ)) (changes : List Change)
    → InRound incoming reports held reported reported_now watched watches began seat first queue left changes → InRound incoming reports held reported reported_now watched watches began seat first queue left (settles_of noted ++ changes)
settles_in_round incoming reports held reported reported_now watched watches began seat first queue left None changes r = r
settles_in_round incoming reports held reported reported_now watched watches began seat first queue left (Some notes) changes r =
    record { rest = r.rest; again = r.again; first_is = r.first_is; queue_is = r.queue_is; left_is = r.left_is; wait_again = r.wait_again; others_stay = r.others_stay; heard = r.heard }

module _ {L : Type 0} (outgoing incoming : L → Option (List ℕ)) (reports : L → ℕ → Came → L → Type 0) (watched a : List Watch) (began was : ℕ → Option (Seat L)) (first queue : List ℕ) (left : ℕ) (reported reported_now : Option (List Report)) (journal_began journal : Option Journal) (old mid : Stage L)
    (before : Goes outgoing incoming (λ changes. InRound incoming reports (is_some journal_began) reported reported_now watched a began was first queue left changes × Accounts reported changes reported_now × JournalGoes journal_began (noted_by changes) journal × AreTurnsBeside outgoing incoming journal changes old mid) old mid) where
  pub settled_on : (journal_now : Option Journal) (new : Stage L) → (noted : Option (List ℕ)) × SettlesBy noted mid.server new.server × JournalGoes journal noted journal_now → new ≡ record mid { server = new.server }
      → Goes outgoing incoming (λ changes. InRound incoming reports (is_some journal_began) reported reported_now watched a began was first queue left changes × Accounts reported changes reported_now × JournalGoes journal_began (noted_by changes) journal_now × AreTurnsBeside outgoing incoming journal_now changes old new) old new
  settled_on journal_now new settle is = record {
    changes = settles_of settle.0 ++ before.changes;
    are_changes = changes_then outgoing incoming old.written.shared before.changes (settles_of settle.0) (state old) (state mid) (state new) before.are_changes (settle_after outgoing incoming mid new old.written.shared settle.0 settle.1 is);
    shared_stays = ap (λ (s : Stage L). s.written.shared) is ∙ before.shared_stays;
    such = (
      settles_in_round incoming reports (is_some journal_began) reported reported_now watched a began was first queue left settle.0 before.changes before.such.0,
      settles_account settle.0 before.changes reported reported_now before.such.1,
      journal_then journal_began journal journal_now (noted_by before.changes) settle.0 before.changes refl before.such.2 settle.2,
      beside_then outgoing incoming old.written.shared journal_now before.changes (settles_of settle.0) (state old) (state mid) (state new)
          (beside_on outgoing incoming old.written.shared journal journal_now settle.0 before.changes (state old) (state mid) settle.2 before.such.3) (beside_settled outgoing incoming old.written.shared journal_now mid new settle.0 settle.1 is),
    );
  }

  pub round_on : (b : List Watch) (seat : ℕ → Option (Seat L)) (now : List ℕ) (reported_then : Option (List Report)) (new : Stage L) → AreApart first → 0 < left → FirstMayBeHeld queue a b → HeardInTurns incoming reports reported_now reported_then (first_of queue) now a b seat → LeavesRoom journal mid.server
      → Goes outgoing incoming (λ changes. TurnsFirst incoming reports (is_some mid.server.notes || is_some journal) b was seat queue changes now × Accounts reported_now changes reported_then × (noted_by changes ≡ None) × (LeavesRoom journal mid.server → AreTurnsBeside outgoing incoming journal changes mid new)) mid new
      → Goes outgoing incoming (λ changes. InRound incoming reports (is_some journal_began) reported reported_then watched b began seat first now (left - 1) changes × Accounts reported changes reported_then × JournalGoes journal_began (noted_by changes) journal × AreTurnsBeside outgoing incoming journal changes old new) old new
  round_on b seat now reported_then new apart some held hears room turn = record {
    changes = turn.changes ++ before.changes;
    are_changes = both_change outgoing incoming (λ changes. InRound incoming reports (is_some journal_began) reported reported_now watched a began was first queue left changes × Accounts reported changes reported_now × JournalGoes journal_began (noted_by changes) journal × AreTurnsBeside outgoing incoming journal changes old mid)
        (λ changes. TurnsFirst incoming reports (is_some mid.server.notes || is_some journal) b was seat queue changes now × Accounts reported_now changes reported_then × (noted_by changes ≡ None) × (LeavesRoom journal mid.server → AreTurnsBeside outgoing incoming journal changes mid new)) old mid new before turn;
    shared_stays = turn.shared_stays ∙ before.shared_stays;
    such = (
      step incoming reports (is_some journal_began) (is_some mid.server.notes || is_some journal) reported reported_now reported_then watched a b began was seat first queue now before.such.0.rest before.such.0.again left before.changes turn.changes apart before.such.0.first_is before.such.0.queue_is before.such.0.left_is before.such.0.wait_again before.such.0.others_stay before.such.0.heard before.such.1 turn.such.1 some held hears
          (round_holds journal_began journal (noted_by before.changes) (is_some mid.server.notes) before.such.2) turn.such.0,
      accounts_then reported reported_now reported_then before.changes turn.changes before.such.1 turn.such.1,
      subst (λ n. JournalGoes journal_began n journal) (sym (noted_before before.changes turn.changes turn.such.2)) before.such.2,
      beside_then outgoing incoming old.written.shared journal before.changes turn.changes (state old) (state mid) (state new) before.such.3
          (subst (λ s. AreBeside outgoing incoming s journal turn.changes (state mid) (state new)) before.shared_stays (turn.such.3 room)),
    );
  }

  at_end : left ≡ 0 → (turned before.changes ≡ first) × WaitAgain incoming reports (is_some journal_began) a began was first queue × HeardInTurns incoming reports reported reported_now first queue watched a was
  at_end none = done incoming reports (is_some journal_began) reported reported_now watched a began was first queue before.such.0.rest before.such.0.again before.changes before.such.0.first_is before.such.0.queue_is (before.such.0.left_is ∙ none) before.such.0.wait_again before.such.0.heard

  pub round_ends : left ≡ 0 → Goes outgoing incoming (λ changes. (turned changes ≡ first) × Accounts reported changes reported_now × JournalGoes journal_began (noted_by changes) journal × AreTurnsBeside outgoing incoming journal changes old mid) old mid
  round_ends none = record {
    changes = before.changes;
    are_changes = before.are_changes;
    shared_stays = before.shared_stays;
    such = ((at_end none).0, before.such.1, before.such.2, before.such.3);
  }

  pub all_wait_again : left ≡ 0 → WaitAgain incoming reports (is_some journal_began) a began was first queue
  all_wait_again none = (at_end none).1

  pub all_others_stay : left ≡ 0 → AllOthersStay first began was
  all_others_stay none = subst (λ keys. AllOthersStay keys began was) (at_end none).0 before.such.0.others_stay

  pub all_heard : left ≡ 0 → HeardInTurns incoming reports reported reported_now first queue watched a was
  all_heard none = (at_end none).2
