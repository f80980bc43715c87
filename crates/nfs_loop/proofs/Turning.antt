-- What a turn of the first client of a queue brings.
use Rattle.std.proofs.Common.{◌≡◌, ◌≢◌, ℕ, Bool, true, false, is_some, List, [], ◌∷◌, ◌++◌, take, Option, Some, None, option_map, inl, inr, if◌then◌else◌, nat_eq, refl, sym, ap, subst, ◌∙◌, append-nil}
use Rattle.std.proofs.lemmas.Bool.{eq-eqb}
use Rattle.slab.specs.Slab.{Updates}
use Rattle.nfs_attrs.specs.declared.moment.Moment.{Moment}
use Rattle.nfs_lines.specs.Written.{Written, Reported}
use Rattle.nfs_queue.specs.Queues.{Waiting, IsCalled, with_key}
use Rattle.nfs_queue.proofs.Queueing.{not_same}
use Rattle.nfs_loop.specs.declared.member.Member.{Member}
use Rattle.nfs_loop.specs.declared.watches.Hold.{Hold}
use Rattle.nfs_loop.specs.declared.watches.Watch.{Watch}
use Rattle.nfs_loop.specs.Journals.{Journal, LeavesRoom, noted_by}
use Rattle.nfs_loop.specs.Reports.{Report, at, IsReported, Accounts}
use Rattle.nfs_loop.specs.Watching.{hold_at}
use Rattle.nfs_loop.specs.Stages.{stage, state, seat_of, seats, turned, AreTurnsBeside, OthersStay, Sleeps, IsAgain, TurnsFirst, Goes}
use Rattle.nfs_loop.proofs.Beside.{holds_back}
use Rattle.nfs_loop.proofs.Reporting.{accounts_none, accounts_then}
use Rattle.nfs_server.specs.Feeding.{device}
use Rattle.nfs_server.specs.Fits.{Held}
use Rattle.nfs_serving.specs.Service.{Seat, ServiceState, Change, HasTurn, Leaves, turns, leaves, LeavesBy, end_text}
use Rattle.nfs_serving.specs.Turns.{SendsPending, Standing, Turns}
use Rattle.nfs_serving.specs.declared.turn.End.{End}
use Rattle.nfs_xdr.specs.Known.{Grows, StaysFailed}
use Rattle.nfs_xdr.specs.declared.link.Came.{Came}

-- the queue after a turn
queue_after : {L : Type 0} (incoming : L → Option (List ℕ)) (reports : L → ℕ → Came → L → Type 0) (holds : Bool) (hold : Option Hold) (key : ℕ) (rest queue : List ℕ) (waits : Bool) (was seat : Option (Seat L)) → queue ≡ with_key waits key rest → (waits ≡ false → Sleeps incoming reports holds hold was seat)
    → (again : List ℕ) × (queue ≡ rest ++ again) × IsAgain incoming reports holds hold key again was seat
queue_after incoming reports holds hold key rest queue true was seat e sleeps = (key ∷ [], e, inl refl)
queue_after incoming reports holds hold key rest queue false was seat e sleeps = ([], e ∙ sym (append-nil rest), inr (refl, sleeps refl))

-- nobody has a turn where nobody waits
pub nobody_turns : {L : Type 0} (outgoing incoming : L → Option (List ℕ)) (reports : L → ℕ → Came → L → Type 0) (holds : Bool) (reported : Option (List Report)) (watches : List Watch) (journal : Option Journal) (server : Held) (old new : Waiting (Member L)) (joined : ℕ) (w : Written)
    → old.1.0 ≡ [] → new ≡ old
    → Goes outgoing incoming (λ changes. TurnsFirst incoming reports holds watches (seats old.0) (seats new.0) old.1.0 changes new.1.0 × Accounts reported changes reported × (noted_by changes ≡ None)
    × (LeavesRoom journal server → AreTurnsBeside outgoing incoming journal changes (stage server old.0 joined w) (stage server new.0 joined w))) (stage server old.0 joined w) (stage server new.0 joined w)
nobody_turns {L} outgoing incoming reports holds reported watches journal server old new joined w empty same =
    subst (λ (q : Waiting (Member L)). Goes outgoing incoming (λ changes. TurnsFirst incoming reports holds watches (seats old.0) (seats q.0) old.1.0 changes q.1.0 × Accounts reported changes reported × (noted_by changes ≡ None)
    × (LeavesRoom journal server → AreTurnsBeside outgoing incoming journal changes (stage server old.0 joined w) (stage server q.0 joined w))) (stage server old.0 joined w) (stage server q.0 joined w)) (sym same)
    (record {
      changes = [];
      are_changes = refl;
      shared_stays = refl;
      such = (subst (λ (queue : List ℕ). TurnsFirst incoming reports holds watches (seats old.0) (seats old.0) queue [] queue) (sym empty) (refl, refl), accounts_none reported, refl, λ room. refl);
    })

-- a member as it comes back from its turn
abbrev pub with_client : {L : Type 0} → Member L → Standing L → Member L
with_client m now = record { client = record m.client { value = now }; number = m.number; peer = m.peer; addr = m.addr; since = m.since }

module _ {L : Type 0} (outgoing incoming : L → Option (List ℕ)) (reports : L → ℕ → Came → L → Type 0) (holds : Bool) (moment : Moment) (old mid : Waiting (Member L)) (key : ℕ) (member : Member L) (c : IsCalled old mid key member)
    (was : Standing L) (is : was ≡ member.client.value)
    (server served : Held) (joined : ℕ) (w v : Written) (stays : StaysFailed w.broken w.log v.broken v.log) (shared : v.shared ≡ w.shared) (lines : v.lines ≡ w.lines) (complete : v.complete ≡ w.complete)
    (reported first reported_now : Option (List Report)) (before : Accounts reported [] first) (report : IsReported first (at moment) reported_now)
    (now : Standing L) (turn : Turns outgoing incoming moment was now server served (device w.log v.log)) (held_back : (notes : List ℕ) → server.notes ≡ Some notes → SendsPending outgoing was now)
    (journal : Option Journal) (beside : is_some journal ≡ true → SendsPending outgoing was now) where
  sat : seats old.0 key ≡ Some (record { number = member.number; client = was })
  sat = ap (option_map seat_of) c.was ∙ ap (λ (client : Standing L). Some (record { number = member.number; client = client })) (sym is)

  turn_reported : Accounts reported (turns key moment turn.0 ∷ []) reported_now
  turn_reported = accounts_then reported first reported_now [] (turns key moment turn.0 ∷ []) before (tt, λ news e. (at moment ∷ [], report news e, ([], [], refl, tt)))

  first_turns : (watches : List Watch) (seat : ℕ → Option (Seat L)) (changes : List Change) (queue : List ℕ) → turned changes ≡ key ∷ [] → OthersStay key (seats old.0) seat → (again : List ℕ) × (queue ≡ mid.1.0 ++ again) × IsAgain incoming reports holds (hold_at watches key) key again (seats old.0 key) (seat key)
      → TurnsFirst incoming reports holds watches (seats old.0) seat old.1.0 changes queue
  first_turns watches seat changes queue e others again = subst (λ q. TurnsFirst incoming reports holds watches (seats old.0) seat q changes queue) (sym c.first) (e, others, again)

  turn_back : (new : Waiting (Member L)) → Updates mid.0 new.0 key (Some (with_client member now)) → HasTurn outgoing incoming key moment turn.0 (state (stage server old.0 joined w)) (state (stage served new.0 joined v))
  turn_back new back = record {
    number = member.number;
    was = was;
    now = now;
    sat = sat;
    sits = ap (option_map seat_of) back.changed;
    turn = turn.1;
    held_back = held_back;
    log_stays = stays;
    others = λ other differ. ap (option_map seat_of) (back.others other differ ∙ c.away.others other differ);
    joined_stays = refl;
    lines_stay = lines;
    complete_stays = complete;
  }

  -- it comes back
  pub comes_back : (watches : List Watch) (new : Waiting (Member L)) (waits : Bool) → Updates mid.0 new.0 key (Some (with_client member now)) → new.1.0 ≡ with_key waits key mid.1.0
      → (waits ≡ false → Sleeps incoming reports holds (hold_at watches key) (Some (seat_of member)) (Some (seat_of (with_client member now))))
      → Goes outgoing incoming (λ changes. TurnsFirst incoming reports holds watches (seats old.0) (seats new.0) old.1.0 changes new.1.0 × Accounts reported changes reported_now × (noted_by changes ≡ None)
      × (LeavesRoom journal server → AreTurnsBeside outgoing incoming journal changes (stage server old.0 joined w) (stage served new.0 joined v))) (stage server old.0 joined w) (stage served new.0 joined v)
  comes_back watches new waits back queue sleeps = record {
    changes = turns key moment turn.0 ∷ [];
    are_changes = (state (stage server old.0 joined w), refl, turn_back new back);
    shared_stays = shared;
    such = (
      first_turns watches (seats new.0) (turns key moment turn.0 ∷ []) new.1.0 refl (λ other differ. ap (option_map seat_of) (back.others other differ ∙ c.away.others other differ))
          (queue_after incoming reports holds (hold_at watches key) key mid.1.0 new.1.0 waits (seats old.0 key) (seats new.0 key) queue (λ e. subst (Sleeps incoming reports holds (hold_at watches key) (seats old.0 key)) (sym (ap (option_map seat_of) back.changed))
          (subst (λ was. Sleeps incoming reports holds (hold_at watches key) was (Some (seat_of (with_client member now)))) (sym (ap (option_map seat_of) c.was)) (sleeps e)))),
      turn_reported,
      refl,
      λ room. (
        state (stage server old.0 joined w),
        refl,
        turn_back new back,
        (room, holds_back outgoing incoming journal key member.number was now (state (stage server old.0 joined w)) (state (stage served new.0 joined v)) beside sat (ap (option_map seat_of) back.changed)),
      ),
    );
  }

  -- it leaves
  abbrev seats_between : ℕ → Option (Seat L)
  seats_between k = if nat_eq k key then Some (record { number = member.number; client = now }) else seats old.0 k

  abbrev between : ServiceState L
  between = record { server = served; seat = seats_between; joined = joined; log = v.log; lines = v.lines; broken = v.broken; complete = v.complete }

  there : seats_between key ≡ Some (record { number = member.number; client = now })
  there = ap (λ (t : Bool). if t then Some (record { number = member.number; client = now }) else seats old.0 key) (eq-eqb key key refl)

  elsewhere : (other : ℕ) → other ≢ key → seats_between other ≡ seats old.0 other
  elsewhere other differ = ap (λ (t : Bool). if t then Some (record { number = member.number; client = now }) else seats old.0 other) (not_same other key (nat_eq other key) refl differ)

  turn_away : HasTurn outgoing incoming key moment turn.0 (state (stage server old.0 joined w)) between
  turn_away = record {
    number = member.number;
    was = was;
    now = now;
    sat = sat;
    sits = there;
    turn = turn.1;
    held_back = held_back;
    log_stays = stays;
    others = elsewhere;
    joined_stays = refl;
    lines_stay = lines;
    complete_stays = complete;
  }

  leaves_then : (u : Written) (by : End) → LeavesBy now by → Reported (end_text member.number now.calls by) v u → Leaves w.shared key member.number now.calls by between (state (stage served mid.0 joined u))
  leaves_then u by ended written_line = record {
    client = now;
    sat = there;
    calls_are = refl;
    ended = ended;
    gone = ap (option_map seat_of) c.away.changed;
    line = take written_line.n (end_text member.number now.calls by);
    part = (written_line.n, written_line.within, refl);
    whole = written_line.whole;
    lines_grow = written_line.lines_grow;
    log_grows = subst (λ (s : Bool). Grows v.log (if s then take written_line.n (end_text member.number now.calls by) else []) u.log) (written_line.shared_stays ∙ shared) written_line.log_grows;
    log_stays = written_line.log_stays;
    others = λ other differ. ap (option_map seat_of) (c.away.others other differ) ∙ sym (elsewhere other differ);
    joined_stays = refl;
    server_stays = refl;
  }

  pub goes_away : (watches : List Watch) (u : Written) (last : Option (List Report)) → Accounts reported_now [] last → (by : End) × LeavesBy now by × Reported (end_text member.number now.calls by) v u
      → Goes outgoing incoming (λ changes. TurnsFirst incoming reports holds watches (seats old.0) (seats mid.0) old.1.0 changes mid.1.0 × Accounts reported changes last × (noted_by changes ≡ None)
      × (LeavesRoom journal server → AreTurnsBeside outgoing incoming journal changes (stage server old.0 joined w) (stage served mid.0 joined u))) (stage server old.0 joined w) (stage served mid.0 joined u)
  goes_away watches u last rest (by, ended, written_line) = record {
    changes = leaves key member.number now.calls by ∷ turns key moment turn.0 ∷ [];
    are_changes = (between, (state (stage server old.0 joined w), refl, turn_away), leaves_then u by ended written_line);
    shared_stays = written_line.shared_stays ∙ shared;
    such = (
      first_turns watches (seats mid.0) (leaves key member.number now.calls by ∷ turns key moment turn.0 ∷ []) mid.1.0 refl (λ other differ. ap (option_map seat_of) (c.away.others other differ))
          ([], sym (append-nil mid.1.0), inr (refl, subst (Sleeps incoming reports holds (hold_at watches key) (seats old.0 key)) (sym (ap (option_map seat_of) c.away.changed)) tt)),
      accounts_then reported reported_now last (leaves key member.number now.calls by ∷ turns key moment turn.0 ∷ []) [] turn_reported rest,
      refl,
      λ room. (
        between,
        (state (stage server old.0 joined w), refl, turn_away, (room, holds_back outgoing incoming journal key member.number was now (state (stage server old.0 joined w)) between beside sat there)),
        leaves_then u by ended written_line,
        tt,
      ),
    );
  }
