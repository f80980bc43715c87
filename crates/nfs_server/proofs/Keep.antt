-- What the server does is a step after each history that fits, and the reply cache is the one that the longer history leaves.
use Rattle.std.proofs.Common.{◌≡◌, ℕ, Bool, true, false, not, ◌&&◌, List, [], ◌∷◌, length, Option, Some, None, refl, sym, ap, subst, ◌∙◌, arith}
use Rattle.std.specs.Prelude.{if◌then◌else◌}
use Rattle.nfs_reply_cache.specs.Places.{cached_reply, with_reply}
use Rattle.nfs_rpc.specs.Calls.{head_at}
use Rattle.nfs_rpc.specs.Records.{fragment}
use Rattle.nfs_server.specs.Entries.{entry_of, entry_text, journal_text}
use Rattle.nfs_server.specs.Events.{Event, Answer, Choice, Done}
use Rattle.nfs_server.specs.Fits.{Held, History, Fits, GoesOn}
use Rattle.nfs_server.specs.InMemory.{answered}
use Rattle.nfs_server.specs.Noted.{has_entry, is_noted}
use Rattle.nfs_server.specs.Notes.{notes_after, with_entry}
use Rattle.nfs_server.specs.OneEvent.{AnswersRecord, AnswersCached}
use Rattle.nfs_server.specs.Retransmissions.{cached_after, first_reply, is_changing, is_refused, key_of, standing}
use Rattle.nfs_server.specs.Steps.{Called, Retransmitted, Step}
use Rattle.nfs_server.specs.declared.event.Handled.{Handled}
use Rattle.nfs_server.specs.declared.event.Handled.TheVariants.{NoReply}
use Rattle.nfs_server.proofs.Noting.{noted_on, notes_are_after}

-- the reply cache after one more event, by whether it is a changing call
cached_next : (places : ℕ) (d : Done) (history : List Done) (b : Bool) → is_changing d.event ≡ b
    → cached_after places (d ∷ history) ≡ (if b then with_reply places (key_of d.event) (standing d.answer) (cached_after places history) else cached_after places history)
cached_next places d history b e = ap (λ x. if x then with_reply places (key_of d.event) (standing d.answer) (cached_after places history) else cached_after places history) e

module _ (history : History) (old : Held) (event : Event) (choice : Choice) (answer : Answer) (new : Held) (fits : Fits history old) (setup : new.setup ≡ old.setup) (notes : new.notes ≡ notes_after event answer old.notes) where
  abbrev done : Done
  done = record { event = event; choice = choice; answer = answer }

  abbrev Anew : Type 0
  Anew = Called (head_at event.bytes) old.setup old.state event choice answer new.state

  goes : Step old.setup history.done old.state event choice answer new.state → new.kept ≡ cached_after old.setup.places (done ∷ history.done) → GoesOn history old event choice answer new
  goes step cached = (
    step,
    record {
      opens = fits.opens;
      run = (old.state, fits.run, subst (λ s. Step s history.done old.state event choice answer new.state) (sym (fits.in_force (length history.done) (omega arith))) step);
      in_force = λ n later. fits.in_force n (omega (arith, later)) ∙ sym setup;
      cached = cached ∙ ap (λ s. cached_after s (done ∷ history.done)) (sym (ap (λ s. s.places) setup));
      notes_are = λ bytes e. noted_on (journal_text history.done) history.lasting (fragment true (entry_of done)) bytes (has_entry done) old.notes fits.notes_are (sym notes ∙ e);
    },
  )

  -- the reply by which it is answered
  first_by : (b : Bool) → is_changing event ≡ b → first_reply old.setup.places history.done event ≡ (if b then cached_reply (key_of event) old.kept else None)
  first_by b c = ap (λ x. if x then cached_reply (key_of event) (cached_after old.setup.places history.done) else None) c ∙ ap (λ ps. if b then cached_reply (key_of event) ps else None) (sym fits.cached)

  step_by : (o : Option (List ℕ)) → first_reply old.setup.places history.done event ≡ o → Retransmitted o old.setup old.state event choice answer new.state → Step old.setup history.done old.state event choice answer new.state
  step_by o e r = subst (λ x. Retransmitted x old.setup old.state event choice answer new.state) (sym e) r

  goes_by : (b : Bool) (o : Option (List ℕ)) → is_changing event ≡ b → cached_reply (key_of event) old.kept ≡ o → AnswersCached b o Anew old event answer new.state new.kept → GoesOn history old event choice answer new
  goes_by false o c k a = goes (step_by None (first_by false c) a.0) (a.1 ∙ fits.cached ∙ sym (cached_next old.setup.places done history.done false c))
  goes_by true (Some reply) c k a = goes (step_by (Some reply) (first_by true c ∙ k) (a.0, a.1))
      (a.2 ∙ ap (λ (x : Answer). with_reply old.setup.places (key_of event) (standing x) old.kept) (sym a.0) ∙ ap (with_reply old.setup.places (key_of event) (standing answer)) fits.cached ∙ sym (cached_next old.setup.places done history.done true c))
  goes_by true None c k a = goes (step_by None (first_by true c ∙ k) a.0)
      (a.1 ∙ ap (with_reply old.setup.places (key_of event) (standing answer)) fits.cached ∙ sym (cached_next old.setup.places done history.done true c))

pub answers_go : (history : History) (old : Held) (event : Event) (answer : Answer) (new : Held) → Fits history old → AnswersRecord old event answer new → new.notes ≡ notes_after event answer old.notes
    → (choice : Choice) × GoesOn history old event choice answer new
answers_go history old event answer new fits a notes = (a.1.0, goes_by history old event a.1.0 answer new fits a.0 notes (is_changing event) (cached_reply (key_of event) old.kept) refl refl a.1.1)

-- a record that was answered, and then noted
pub noted_record : (old mid new : Held) (event : Event) (handled : Handled) (reply : List ℕ) (b : Bool) → AnswersRecord old event (answered handled reply mid.line) mid → mid.notes ≡ old.notes → b ≡ is_noted event
    → (handled ≡ NoReply → (reply ≡ []) × (mid.line ≡ None))
    → new ≡ record mid { notes = if b && not (is_refused mid.line) then with_entry (fragment true (entry_text event reply)) mid.notes else mid.notes }
    → AnswersRecord old event (answered handled reply new.line) new × (new.notes ≡ notes_after event (answered handled reply new.line) old.notes)
noted_record old mid new event handled reply b answers same noted silent new_is =
    subst (λ (h : Held). AnswersRecord old event (answered handled reply h.line) h × (h.notes ≡ notes_after event (answered handled reply h.line) old.notes)) (sym new_is)
    (answers, notes_are_after handled event reply mid.line b mid.notes noted silent ∙ ap (notes_after event (answered handled reply mid.line)) same)
