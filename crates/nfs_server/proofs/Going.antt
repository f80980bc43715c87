-- A run goes on by one event.
use Rattle.std.proofs.Common.{◌≡◌, ℕ, ◌+◌, ◌<◌, Bool, true, List, [], ◌∷◌, ◌++◌, map, reverse, take, length, refl, sym, ap, subst, ◌∙◌}
use Rattle.std.proofs.Math.ListN.{get_or, get_or-map}
use Rattle.std.proofs.lemmas.List.{take_more, length-map, map-append, reverse-append}
use Rattle.nfs_server.specs.declared.event.Event as seen
use Rattle.nfs_server.specs.Events.{Event, Answer, Choice, Done}
use Rattle.nfs_server.specs.InMemory.{event_of}
use Rattle.nfs_server.specs.Fits.{Held, History, Fits, GoesOn}
use Rattle.nfs_server.specs.Runs.{events_of, longer, Hands}

pub hands_none : {S : Type 0} (takes : S → Answer → Bool → S → Type 0) (history : History) (events : List Event) (sink : S) (s : Held) → Fits history s → Hands takes history events 0 true sink sink s
hands_none takes history events sink s fits = record { done = []; events_are = refl; taken = refl; fits = fits }

-- what `handle` ensures, for one server before and after
abbrev pub Handles : Held → Event → Answer → Held → Type 0
Handles old event answer new = (history : History) → Fits history old → (choice : Choice) × GoesOn history old event choice answer new

pub hands_on : {S : Type 0} (takes : S → Answer → Bool → S → Type 0) (history : History) (events : List seen.Event) (d : seen.Event) (n : ℕ) (shown answer : Answer) (said b : Bool) (before between sink : S) (mid new : Held) → n < length events
    → Hands takes history (events_of events) n true before between mid
    → Handles mid (event_of (get_or events n d)) answer new
    → takes between shown said sink → shown ≡ answer → said ≡ b
    → Hands takes history (events_of events) (n + 1) b before sink new
hands_on takes history events d n shown answer said b before between sink mid new lt hands handles took showed reported =
    let event = event_of (get_or events n d) in
    let more = handles (longer history hands.done) hands.fits in
    let one : Done = record { event = event; choice = more.0; answer = answer } in
    let within : n < length (events_of events) = subst (λ k. n < k) (sym (length-map events event_of)) lt in
    let next : take (n + 1) (events_of events) ≡ take n (events_of events) ++ event ∷ [] =
    take_more (events_of events) n (event_of d) within ∙ ap (λ x. take n (events_of events) ++ x ∷ []) (get_or-map event_of events n d) in
    let turned : reverse (one ∷ hands.done) ≡ reverse hands.done ++ one ∷ [] = reverse-append (one ∷ []) hands.done in
    record {
      done = one ∷ hands.done;
      events_are = ap (map (λ (d : Done). d.event)) turned ∙ map-append (λ (d : Done). d.event) (reverse hands.done) (one ∷ []) ∙ ap (λ x. x ++ event ∷ []) hands.events_are ∙ sym next;
      taken = (between, hands.taken, subst (λ t. takes between answer t sink) reported (subst (λ a. takes between a said sink) showed took));
      fits = more.1.1;
    }
