-- The noted events are a history of their own.
use Rattle.std.proofs.Common.{◌≡◌, ℕ, ◌<◌, ◌≤◌, Bool, true, false, cond, not, ◌&&◌, List, [], ◌∷◌, ◌++◌, length, Option, Some, None, is_none, refl, sym, ap, subst, ◌∙◌, append-nil, arith}
use Rattle.std.specs.Prelude.{Result, Ok, Err, if◌then◌else◌, nat_eq}
use Rattle.std.specs.List.{AllByRecursion}
use Rattle.std.proofs.lemmas.Bool.{true≢false, false≢true, eq-eqb, ne_eqb}
use Rattle.nfs_exports.specs.declared.addr.Addr.{Addr}
use Rattle.nfs_journal.proofs.Stays.{stays}
use Rattle.nfs_journal.specs.Entries.{JournalIsOfNoted}
use Rattle.nfs_server.specs.Entries.{entry_of, journal_text}
use Rattle.nfs_journal.specs.Noted.{noted, noted_setups, IsServed, NotedIsHistory, NotedAreServed}
use Rattle.nfs_server.specs.Noted.{is_noted_request, is_noted_call, is_noted, has_entry}
use Rattle.nfs_reply_cache.specs.Places.{cached_reply, with_reply}
use Rattle.nfs_rpc.specs.Calls.{Call, head_at}
use Rattle.nfs_rpc.specs.Records.{fragment}
use Rattle.nfs_rpc.specs.declared.call.RpcFault.{RpcFault}
use Rattle.nfs_server.specs.Events.{Event, Done}
use Rattle.nfs_server.specs.Requests.{Request, Nothing, OfNfs, OfMount, request_of}
use Rattle.nfs_server.specs.Retransmissions.{cached_after, calls_change, is_change, is_changing, is_refused, key_of, requests_change, standing}
use Rattle.nfs_server.specs.RpcRules.{rpc_failure_of}
use Rattle.nfs_server.specs.Steps.{Setup, State, Step, IsRun, Retransmitted}
use Rattle.nfs_server.specs.declared.rpc_rules.RpcRule.{RpcRule}

-- ---- what is not noted is no changing call

unchanging_request : (r : Option Request) → is_noted_request r ≡ false → requests_change r ≡ false
unchanging_request None e = refl
unchanging_request (Some Nothing) e = refl
unchanging_request (Some (OfNfs caller args)) e = e
unchanging_request (Some (OfMount args)) e = refl

unchanging_judged : (v : Option RpcRule) (r : Option Request) → is_none v && is_noted_request r ≡ false → is_change v r ≡ false
unchanging_judged None r e = unchanging_request r e
unchanging_judged (Some rule) r e = refl

unchanging_called : (addr : Addr) (head : Result (Call × List ℕ) RpcFault) → is_noted_call addr head ≡ false → calls_change addr head ≡ false
unchanging_called addr (Err fault) e = refl
unchanging_called addr (Ok head) e = unchanging_judged (rpc_failure_of head.0 head.1) (request_of addr head.0 head.1) e

unchanging : (event : Event) → is_noted event ≡ false → is_changing event ≡ false
unchanging event e = unchanging_called event.addr (head_at event.bytes) e

-- ---- the reply cache

-- the reply cache after one more event, by whether it is a changing call
cached_next : (places : ℕ) (d : Done) (before : List Done) (b : Bool) → is_changing d.event ≡ b
    → cached_after places (d ∷ before) ≡ (if b then with_reply places (key_of d.event) (standing d.answer) (cached_after places before) else cached_after places before)
cached_next places d before b e = ap (λ x. if x then with_reply places (key_of d.event) (standing d.answer) (cached_after places before) else cached_after places before) e

cached_stays : (places : ℕ) (d : Done) (before : List Done) → has_entry d ≡ false → cached_after places (d ∷ before) ≡ cached_after places before
cached_stays places d before e = by (is_noted d.event) (is_refused d.answer.line) refl refl e
  where
    refused : is_refused d.answer.line ≡ true → (b : Bool) → is_changing d.event ≡ b → cached_after places (d ∷ before) ≡ cached_after places before
    refused r true c = cached_next places d before true c ∙ ap (λ o. with_reply places (key_of d.event) o (cached_after places before)) (ap (λ b. cond b None d.answer.reply) r)
    refused r false c = cached_next places d before false c

    by : (n r : Bool) → is_noted d.event ≡ n → is_refused d.answer.line ≡ r → n && not r ≡ false → cached_after places (d ∷ before) ≡ cached_after places before
    by false r n e f = cached_next places d before false (unchanging d.event n)
    by true false n e f = absurd (true≢false f)
    by true true n e f = refused e (is_changing d.event) refl

cached_noted : (places : ℕ) (done : List Done) → cached_after places (noted done) ≡ cached_after places done
cached_noted places [] = refl
cached_noted places (d ∷ before) = by (has_entry d) refl (cached_noted places before)
  where
    by : (b : Bool) → has_entry d ≡ b → cached_after places (noted before) ≡ cached_after places before
        → cached_after places (if b then d ∷ noted before else noted before) ≡ cached_after places (d ∷ before)
    by true e h = ap (λ ps. if is_changing d.event then with_reply places (key_of d.event) (standing d.answer) ps else ps) h
    by false e h = h ∙ sym (cached_stays places d before e)

-- ---- the setups

module _ (setups : ℕ → Setup) (now : Setup) (d : Done) (before : List Done) where
  -- one event more leaves the setups of those before it
  pub same_setup : (n : ℕ) → n < length (noted before) → noted_setups setups now (d ∷ before) n ≡ noted_setups setups now before n
  same_setup n less = by (has_entry d)
    where
      other : nat_eq n (length (noted before)) ≡ false
      other = ne_eqb n (length (noted before)) (λ e. omega (arith, e, less))

      by : (b : Bool) → (if b && nat_eq n (length (noted before)) then setups (length before) else noted_setups setups now before n) ≡ noted_setups setups now before n
      by true = ap (λ t. if t then setups (length before) else noted_setups setups now before n) other
      by false = refl

  -- its own is the one that was in force
  own_setup : has_entry d ≡ true → noted_setups setups now (d ∷ before) (length (noted before)) ≡ setups (length before)
  own_setup e =
      ap (λ b. if b && nat_eq (length (noted before)) (length (noted before)) then setups (length before) else noted_setups setups now before (length (noted before))) e
      ∙ ap (λ t. if t then setups (length before) else noted_setups setups now before (length (noted before))) (eq-eqb (length (noted before)) (length (noted before)) refl)

-- after all of them it is the one that is in force now
last_setup : (setups : ℕ → Setup) (now : Setup) (done : List Done) (n : ℕ) → length (noted done) ≤ n → noted_setups setups now done n ≡ now
last_setup setups now [] n later = refl
last_setup setups now (d ∷ before) n later = by (has_entry d) later (last_setup setups now before n)
  where
    by : (b : Bool) → length (if b then d ∷ noted before else noted before) ≤ n → (length (noted before) ≤ n → noted_setups setups now before n ≡ now)
        → (if b && nat_eq n (length (noted before)) then setups (length before) else noted_setups setups now before n) ≡ now
    by true more rest =
        ap (λ t. if t then setups (length before) else noted_setups setups now before n) (ne_eqb n (length (noted before)) (λ e. omega (arith, e, more))) ∙ rest (omega (arith, more))
    by false more rest = rest more

-- ---- the run

-- a run is one by the setups that were in force at its events
pub same_run : (setups others : ℕ → Setup) (opening : State) (done : List Done) (state : State) → ((n : ℕ) → n < length done → others n ≡ setups n)
    → IsRun setups opening done state → IsRun others opening done state
same_run setups others opening [] state same run = run
same_run setups others opening (d ∷ before) state same run = (
  run.0,
  same_run setups others opening before run.0 (λ n earlier. same n (omega (arith, earlier))) run.1,
  subst (λ setup. Step setup before run.0 d.event d.choice d.answer state) (sym (same (length before) (omega arith))) run.2,
)

step_noted : (setup : Setup) (before : List Done) (d : Done) (old new : State) → Step setup before old d.event d.choice d.answer new → Step setup (noted before) old d.event d.choice d.answer new
step_noted setup before d old new h =
    subst (λ ps. Retransmitted (if is_changing d.event then cached_reply (key_of d.event) ps else None) setup old d.event d.choice d.answer new) (sym (cached_noted setup.places before)) h

run_noted : (setups : ℕ → Setup) (now : Setup) (opening : State) (done : List Done) (state : State) → IsRun setups opening done state
    → IsRun (noted_setups setups now done) opening (noted done) state
run_noted setups now opening [] state h = h
run_noted setups now opening (d ∷ before) state h = by (has_entry d) refl
    (same_run (noted_setups setups now before) (noted_setups setups now (d ∷ before)) opening (noted before) h.0 (same_setup setups now d before) (run_noted setups now opening before h.0 h.1))
  where
    by : (b : Bool) → has_entry d ≡ b → IsRun (noted_setups setups now (d ∷ before)) opening (noted before) h.0
        → IsRun (noted_setups setups now (d ∷ before)) opening (if b then d ∷ noted before else noted before) state
    by true e run = (
      h.0,
      run,
      subst (λ setup. Step setup (noted before) h.0 d.event d.choice d.answer state) (sym (own_setup setups now d before e)) (step_noted (setups (length before)) before d h.0 state h.2),
    )
    by false e run = subst (IsRun (noted_setups setups now (d ∷ before)) opening (noted before)) (sym (stays (setups (length before)) before d h.0 state e h.2)) run

-- ---- laws

pub journal_is_of_noted : JournalIsOfNoted
journal_is_of_noted [] = refl
journal_is_of_noted (d ∷ before) = by (has_entry d) refl (journal_is_of_noted before)
  where
    by : (b : Bool) → has_entry d ≡ b → journal_text (noted before) ≡ journal_text before
        → journal_text (if b then d ∷ noted before else noted before) ≡ journal_text before ++ (if b then fragment true (entry_of d) else [])
    by true e h = ap (λ text. text ++ (if has_entry d then fragment true (entry_of d) else [])) h ∙ ap (λ b. journal_text before ++ (if b then fragment true (entry_of d) else [])) e
    by false e h = h ∙ sym (append-nil (journal_text before))

pub noted_is_history : NotedIsHistory
noted_is_history history s fits = record {
  opens = fits.opens;
  run = run_noted history.setups (history.setups (length history.done)) history.opening history.done s.state fits.run;
  in_force = λ n later. last_setup history.setups (history.setups (length history.done)) history.done n later ∙ fits.in_force (length history.done) (omega arith);
  cached = fits.cached ∙ sym (cached_noted s.setup.places history.done);
  notes_are = λ bytes e. journal_is_of_noted history.done ∙ fits.notes_are bytes e;
}

unrefused : (n r : Bool) → n && not r ≡ true → r ≡ false
unrefused true false e = refl
unrefused true true e = absurd (false≢true e)
unrefused false r e = absurd (false≢true e)

pub noted_are_served : NotedAreServed
noted_are_served [] = tt
noted_are_served (d ∷ before) = by (has_entry d) refl (noted_are_served before)
  where
    by : (b : Bool) → has_entry d ≡ b → AllByRecursion IsServed (noted before) → AllByRecursion IsServed (if b then d ∷ noted before else noted before)
    by true e h = (unrefused (is_noted d.event) (is_refused d.answer.line) e, h)
    by false e h = h
