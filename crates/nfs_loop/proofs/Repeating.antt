-- One round after another.
use Rattle.std.proofs.Common.{◌≡◌, ◌⊎◌, ℕ, ◌≤◌, Bool, true, false, not, ◌&&◌, nat_le, if◌then◌else◌, List, [], ◌∷◌, ◌++◌, length, Option, Some, None, is_some, option_map, inl, inr, refl, sym, ap, subst, ◌∙◌, append-nil, length-append, arith}
use Rattle.std.proofs.lemmas.Bool.{leb-true, true≢false}
use Rattle.slab.specs.Slab.{Slab, get}
use Rattle.nfs_lines.specs.Queued.{Queued, is_full, put_plainly}
use Rattle.nfs_loop.specs.declared.member.Member.{Member}
use Rattle.nfs_loop.specs.declared.watches.Watch.{Watch}
use Rattle.nfs_loop.specs.Watching.{AllBegin, AllStay, ReleasesBy, SomeMayBeHeld}
use Rattle.nfs_exports.specs.declared.export_table.Export.{Export}
use Rattle.nfs_loop.specs.Attending.{MayReload}
use Rattle.nfs_loop.specs.Journals.{Journal, IsSettled, JournalGoes, SettlesBy, noted_by, settles_of}
use Rattle.nfs_loop.specs.Reports.{Report, since, Accounts, ComeBy}
use Rattle.nfs_loop.specs.Stages.{Stage, state, seat_of, seats, turned, AllOthersStay, AreTurnsBeside, AsksAll, Goes, HeardInTurns, Notes, Schedule, SilentLeave, WaitAgain, WithoutTurns, MayBeFull, IsRound, most_asked, AreRounds, Rounds, changes_of, reload_of}
use Rattle.nfs_loop.proofs.Reporting.{accounts_then, come_same, come_then, first_then}
use Rattle.nfs_loop.proofs.Changing.{both_change, changes_then, turned_then}
use Rattle.nfs_loop.proofs.Lengthening.{notes_account}
use Rattle.nfs_loop.proofs.Releasing.{releases_account}
use Rattle.nfs_loop.proofs.Rounding.{again_where_some_left, settle_after, settles_no_report, settles_no_turn}
use Rattle.nfs_serving.proofs.Failed.{failed_logs_stay}
use Rattle.nfs_server.specs.Fits.{Held}
use Rattle.nfs_serving.specs.Service.{Change, AreChanges}
use Rattle.nfs_xdr.specs.declared.link.Came.{Came}

-- who leaves for silence at the end of a round, by what was so when the round began, and is so when it ends
pub leave_in_round : {M : Type 0} (watches watches_now : List Watch) (queue later : List ℕ) (idle limit : Option ℕ) (looked looks seconds now : ℕ) (a b c : Option (List Report)) (old new : Slab M) → watches_now ≡ watches → later ≡ queue → idle ≡ limit → looked ≡ seconds → now ≡ looks → Accounts b [] c
    → SilentLeave watches queue idle looked a b looks old new → SilentLeave watches_now later limit seconds a c now old new
leave_in_round watches watches_now queue later idle limit looked looks seconds now a b c old new same_watches same_queue same_idle same_looked same_looks more silent =
    subst (λ n. SilentLeave watches_now later limit seconds a c n old new) (sym same_looks)
    (subst (λ n. SilentLeave watches_now later limit n a c looks old new) same_looked
    (subst (λ o. SilentLeave watches_now later o looked a c looks old new) same_idle
    (subst (λ q. SilentLeave watches_now q idle looked a c looks old new) (sym same_queue)
    (subst (λ w. SilentLeave w queue idle looked a c looks old new) (sym same_watches)
    (record { millis = silent.millis; is_reported = first_then a b c (since silent.millis) [] silent.is_reported more; only = silent.only; all = silent.all; looks_is = silent.looks_is })))))

-- ---- a log that is full

both_are : (a b : Bool) → (a && b) ≡ true → (a ≡ true) × (b ≡ true)
both_are true b e = (refl, e)
both_are false b e = absurd (true≢false (sym e))

not_failed : (failed : Bool) → not failed ≡ true → failed ≡ false
not_failed true e = absurd (true≢false (sym e))
not_failed false e = refl

at_least_pending : (most : ℕ) (before pending log : List ℕ) → Some (before ++ pending) ≡ Some log → most ≤ length pending → most ≤ length log
at_least_pending most before pending log e enough = subst (λ l. most ≤ length l) (some_is e) (omega (arith, enough, length-append before pending))
  where
    some_is : {X : Type 0} {a b : X} → Some a ≡ Some b → a ≡ b
    some_is e = cc

many_put : (most : ℕ) (is_plain : Bool) (taken : Option (List ℕ)) (pending log : List ℕ) → (if is_plain then option_map (λ bytes. bytes ++ pending) taken else None) ≡ Some log → most ≤ length pending → most ≤ length log
many_put most true (Some before) pending log e enough = at_least_pending most before pending log e enough
many_put most true None pending log e enough = cc
many_put most false taken pending log e enough = cc

pub full_where : {D : Type 0} (taken : D → Option (List ℕ)) (is_plain : Bool) (q : Queued D) → is_full q ≡ true → (q.failed ≡ false) × ((log : List ℕ) → put_plainly taken is_plain q ≡ Some log → 4194304 ≤ length log)
full_where taken is_plain q full = let both = both_are (not q.failed) (nat_le 4194304 (length q.pending)) full in (not_failed q.failed both.0, λ log e. many_put 4194304 is_plain (taken q.device) q.pending log e (leb-true 4194304 (length q.pending) both.1))

-- ---- one round

module _ {L : Type 0} (outgoing incoming : L → Option (List ℕ)) (reports : L → ℕ → Came → L → Type 0) where
  before_turns : (a b c : Option (List Report)) (first : List ℕ) (old mid new : Stage L) → Goes outgoing incoming (λ changes. WithoutTurns a changes b) old mid → Goes outgoing incoming (λ changes. (turned changes ≡ first) × Accounts b changes c) mid new
      → Goes outgoing incoming (λ changes. (turned changes ≡ first) × Accounts a changes c) old new
  before_turns a b c first old mid new f g = record {
    changes = g.changes ++ f.changes;
    are_changes = both_change outgoing incoming (λ changes. WithoutTurns a changes b) (λ changes. (turned changes ≡ first) × Accounts b changes c) old mid new f g;
    shared_stays = g.shared_stays ∙ f.shared_stays;
    such = (turned_then f.changes g.changes ∙ ap (λ l. l ++ turned g.changes) f.such.0 ∙ g.such.0, accounts_then a b c f.changes g.changes f.such.1 g.such.1);
  }

  after_turns : (a b c : Option (List Report)) (first : List ℕ) (old mid new : Stage L) → Goes outgoing incoming (λ changes. (turned changes ≡ first) × Accounts a changes b) old mid → Goes outgoing incoming (λ changes. WithoutTurns b changes c) mid new
      → Goes outgoing incoming (λ changes. (turned changes ≡ first) × Accounts a changes c) old new
  after_turns a b c first old mid new f g = record {
    changes = g.changes ++ f.changes;
    are_changes = both_change outgoing incoming (λ changes. (turned changes ≡ first) × Accounts a changes b) (λ changes. WithoutTurns b changes c) old mid new f g;
    shared_stays = g.shared_stays ∙ f.shared_stays;
    such = (turned_then f.changes g.changes ∙ ap (λ l. turned f.changes ++ l) g.such.0 ∙ append-nil (turned f.changes) ∙ f.such.0, accounts_then a b c f.changes g.changes f.such.1 g.such.1);
  }

  seat_or_none : (was now : Option (Member L)) → (now ≡ was) ⊎ (now ≡ None) → (option_map seat_of now ≡ option_map seat_of was) ⊎ (option_map seat_of now ≡ None)
  seat_or_none was now (inl same) = inl (ap (option_map seat_of) same)
  seat_or_none was now (inr gone) = inr (ap (option_map seat_of) gone)

  -- nothing more comes of what was reported before and after some changes
  with_reports : (a b c d : Option (List Report)) (old new : Stage L) → Accounts a [] b → Accounts c [] d → Goes outgoing incoming (λ changes. WithoutTurns b changes c) old new → Goes outgoing incoming (λ changes. WithoutTurns a changes d) old new
  with_reports a b c d old new f g goes = record {
    changes = goes.changes;
    are_changes = goes.are_changes;
    shared_stays = goes.shared_stays;
    such = (goes.such.0, accounts_then a c d goes.changes [] (subst (λ l. Accounts a l c) (append-nil goes.changes) (accounts_then a b c [] goes.changes f goes.such.1)) g);
  }

  -- other exports are put in force, or none are
  reload_after : (ended new : Stage L) (shared : Bool) → MayReload ended.server new.server → new ≡ record ended { server = new.server } → (exports : Option (List (List Export))) × AreChanges outgoing incoming shared (reload_of exports) (state ended) (state new)
  reload_after ended new shared (inl same) is = (None, ap state is ∙ ap (λ (s : Held). state (record ended { server = s })) same)
  reload_after ended new shared (inr (exports, to)) is = (Some exports, (state ended, refl, ap state is ∙ ap (λ (s : Held). state (record ended { server = s })) to))

  no_turn : (exports : Option (List (List Export))) (changes : List Change) → turned (reload_of exports ++ changes) ≡ turned changes
  no_turn None changes = refl
  no_turn (Some exports) changes = refl

  no_report : (exports : Option (List (List Export))) (changes : List Change) (a b : Option (List Report)) → ComeBy a changes b → ComeBy a (reload_of exports ++ changes) b
  no_report None changes a b f = f
  no_report (Some exports) changes a b f = f

  pub round_of : (a between before after c d : Option (List Report)) (journal_turned : Option Journal) (from to : Schedule) (ready_queue first : List ℕ) (old gathered turned_at ended reloaded new : Stage L) (held left : List Watch)
      → Notes old.members from.watches from.queue ready_queue a between → AsksAll most_asked a between → AllStay old.members from.watches gathered.members held → AllBegin old.members between before gathered.members held → ReleasesBy gathered.members from.full before after held left ready_queue first
      → MayBeFull from.full old.written → gathered.written ≡ old.written
      → Goes outgoing incoming (λ changes. WithoutTurns between changes before) old gathered
      → Goes outgoing incoming (λ changes. (turned changes ≡ first) × Accounts after changes c × JournalGoes from.journal (noted_by changes) journal_turned × AreTurnsBeside outgoing incoming journal_turned changes gathered turned_at) gathered turned_at → AllOthersStay first (seats gathered.members) (seats turned_at.members)
      → HeardInTurns incoming reports after c first to.queue left to.watches (seats turned_at.members)
      → Goes outgoing incoming (λ changes. WithoutTurns c changes d) turned_at ended
      → MayReload ended.server reloaded.server → reloaded ≡ record ended { server = reloaded.server }
      → IsSettled from.journal old.server → (noted : Option (List ℕ)) × SettlesBy noted reloaded.server new.server × JournalGoes journal_turned noted to.journal → new ≡ record reloaded { server = new.server }
      → WaitAgain incoming reports (is_some from.journal) to.watches (seats gathered.members) (seats turned_at.members) first to.queue → ((key : ℕ) → (get new.members key ≡ get turned_at.members key) ⊎ (get new.members key ≡ None))
      → SomeMayBeHeld first left to.watches → SilentLeave to.watches to.queue from.idle from.looked c d to.looked turned_at.members new.members → to.idle ≡ from.idle
      → (changes : List Change) × IsRound outgoing incoming reports changes a d from to old new
  unfolding after_turns before_turns with_reports
  round_of a between before after c d journal_turned from to ready_queue first old gathered turned_at ended reloaded new held left notes asked stay begin releases full_is nothing_written f g others heard h may_reload reloaded_is settled_first settle new_is again some_left some_held silent idle_stays =
      let joining = with_reports a between before after old gathered (notes_account old.members from.watches from.queue ready_queue a between notes) (releases_account gathered.members from.full before after held left ready_queue first releases) f in
      let serving = before_turns a after c first old gathered turned_at joining (record { changes = g.changes; are_changes = g.are_changes; shared_stays = g.shared_stays; such = (g.such.0, g.such.1) }) in
      let whole = after_turns a c d first old turned_at ended serving h in
      let reload = reload_after ended reloaded old.written.shared may_reload reloaded_is in
      let with_reload = reload_of reload.0 ++ whole.changes in
      let reload_goes = changes_then outgoing incoming old.written.shared whole.changes (reload_of reload.0) (state old) (state ended) (state reloaded) whole.are_changes reload.1 in
      let settle_goes = settle_after outgoing incoming reloaded new old.written.shared settle.0 settle.1 new_is in
      let changes = changes_then outgoing incoming old.written.shared with_reload (settles_of settle.0) (state old) (state reloaded) (state new) reload_goes settle_goes in (
        settles_of settle.0 ++ with_reload,
        record {
          are_changes = changes;
          shared_stays = ap (λ (s : Stage L). s.written.shared) new_is ∙ ap (λ (s : Stage L). s.written.shared) reloaded_is ∙ whole.shared_stays;
          accounts = settles_no_report settle.0 with_reload a d (no_report reload.0 whole.changes a d whole.such.1.1);
          between = between;
          ready_queue = ready_queue;
          notes = notes;
          asked = asked;
          gathered = gathered;
          before = before;
          joining = f.changes;
          joining_leads = f.are_changes;
          joining_accounts = f.such;
          nothing_written = nothing_written;
          held = held;
          all_stay = stay;
          all_begin = begin;
          after = after;
          left = left;
          first = first;
          releases = releases;
          full_is = full_is;
          turned_are = settles_no_turn settle.0 with_reload ∙ no_turn reload.0 whole.changes ∙ whole.such.0;
          wait_again = again_where_some_left incoming reports (is_some from.journal) to.watches (seats gathered.members) (seats turned_at.members) (seats new.members) first to.queue (λ key. seat_or_none (get turned_at.members key) (get new.members key) (some_left key)) again;
          some_held = some_held;
          served = turned_at;
          looks_at = c;
          turning = g.changes;
          turning_leads = subst (λ s. AreChanges outgoing incoming s g.changes (state gathered) (state turned_at)) f.shared_stays g.are_changes;
          turning_accounts = g.such.1;
          journal_turned = journal_turned;
          journal_in_turns = g.such.2;
          turning_beside = g.such.3;
          others_stay = others;
          some_heard = heard;
          serving = serving.changes;
          serving_leads = serving.are_changes;
          serving_accounts = serving.such.1;
          serving_is = refl;
          ending = h.changes;
          ended = ended;
          ending_leads = subst (λ s. AreChanges outgoing incoming s h.changes (state turned_at) (state ended)) serving.shared_stays h.are_changes;
          ending_accounts = h.such;
          exports = reload.0;
          reloaded = reloaded;
          reload_leads = reload.1;
          settled_first = settled_first;
          noted = settle.0;
          settle_leads = settle_goes;
          journal_goes = settle.2;
          changes_are = refl;
          silent = silent;
          idle_stays = idle_stays;
          log_stays = failed_logs_stay outgoing incoming old.written.shared (settles_of settle.0 ++ with_reload) (state old) (state new) changes;
        },
      )

  -- the changes of rounds together
  rounds_go : (rounds : List (List Change)) (reported reported_now : Option (List Report)) (from to : Schedule) (old new : Stage L) → AreRounds outgoing incoming reports rounds reported from old reported_now to new
      → AreChanges outgoing incoming old.written.shared (changes_of rounds) (state old) (state new) × (new.written.shared ≡ old.written.shared) × ComeBy reported (changes_of rounds) reported_now
  rounds_go [] reported reported_now from to old new p = (ap (λ (s : Stage L). state s) p.0, ap (λ (s : Stage L). s.written.shared) p.0, come_same reported reported_now p.1)
  rounds_go (changes ∷ earlier) reported reported_now from to old new p =
      let e = rounds_go earlier reported p.0 from p.1 old p.2 p.3 in (
        changes_then outgoing incoming old.written.shared (changes_of earlier) changes (state old) (state p.2) (state new) e.0 (subst (λ s. AreChanges outgoing incoming s changes (state p.2) (state new)) e.1 p.4.are_changes),
        p.4.shared_stays ∙ e.1,
        come_then reported p.0 reported_now (changes_of earlier) changes e.2 p.4.accounts,
      )

  pub another_round : (reported before reported_now reported_then : Option (List Report)) (from mid to : Schedule) (old between new : Stage L) → (rounds : List (List Change)) × AreRounds outgoing incoming reports rounds reported from old before mid between → reported_now ≡ before
      → (changes : List Change) × IsRound outgoing incoming reports changes reported_now reported_then mid to between new → (rounds : List (List Change)) × AreRounds outgoing incoming reports rounds reported from old reported_then to new
  another_round reported before reported_now reported_then from mid to old between new (rounds, are) same (changes, pass) =
      (changes ∷ rounds, (before, mid, between, are, subst (λ t. IsRound outgoing incoming reports changes t reported_then mid to between new) same pass))

  -- rounds, and after them changes without turns
  pub run_over : (reported reported_now after : Option (List Report)) (from to : Schedule) (old last new : Stage L) (full : Bool) → (rounds : List (List Change)) × AreRounds outgoing incoming reports rounds reported from old reported_now (record to { full = full }) last → Goes outgoing incoming (λ changes. WithoutTurns reported_now changes after) last new
      → Goes outgoing incoming (λ changes. Rounds outgoing incoming reports reported from to old changes × ComeBy reported changes after) old new
  run_over reported reported_now after from to old last new full (rounds, are) g =
      let e = rounds_go rounds reported reported_now from (record to { full = full }) old last are in
      record {
        changes = g.changes ++ changes_of rounds;
        are_changes = changes_then outgoing incoming old.written.shared (changes_of rounds) g.changes (state old) (state last) (state new) e.0 (subst (λ s. AreChanges outgoing incoming s g.changes (state last) (state new)) e.1 g.are_changes);
        shared_stays = g.shared_stays ∙ e.1;
        such = (
          record { rounds = rounds; reported_now = reported_now; last = last; full = full; are_rounds = are; after = g.changes; no_turns = g.such.0; no_reload = g.such.1.0; changes_are = refl },
          come_then reported reported_now after (changes_of rounds) g.changes e.2 g.such.1.1,
        );
      }
