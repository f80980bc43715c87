-- What is printed of a run, outcome by outcome.
use Rattle.std.proofs.Common.{inl, inr, ◌≡◌, ◌⊎◌, ℕ, suc, zero, ◌<◌, ◌≤◌, Bool, true, false, List, [], ◌∷◌, ◌++◌, length, take, map, reverse, Option, Some, None, refl, sym, ap, subst, ◌∙◌, append-nil, arith}
use Rattle.std.specs.Prelude.{IsNone, IsSome}
use Rattle.nfs_load.proofs.Writes.{part_of_second}
use Rattle.nfs_server.specs.Events.{Event, Answer, Done}
use Rattle.nfs_server.specs.Fits.{Held, History}
use Rattle.nfs_server.specs.Runs.{RunsThrough, Took}
use Rattle.nfs_xdr.specs.Known.{Grows, GrowsByPart}
use Rattle.nfs_xdr.proofs.Knowing.{Grows-then}
use Rattle.nfs_replay.specs.Printed.{ArePrinted, IsPrinted, RunsPrinted, Says, Takes, after_calls, later, next_names}
use Rattle.nfs_replay.specs.declared.fault.RunFault.{RunFault}
use Rattle.nfs_replay.specs.declared.queued_call.QueuedCall.{QueuedCall}

-- no fault comes before the newest outcome
abbrev EndsBy : Bool → List Done → Option RunFault → Option RunFault → Option (List ℕ) → List ℕ → Option (List ℕ) → Type 0
EndsBy last [] was fault before text after = (fault ≡ was) × Grows before text after
EndsBy true (d ∷ earlier) was fault before text after = (fault ≡ was) × Grows before text after
EndsBy false (d ∷ earlier) was fault before text after = IsSome fault × GrowsByPart before text after

goes_on : (done : List Done) (was fault : Option RunFault) (before : Option (List ℕ)) (text : List ℕ) (after : Option (List ℕ)) → EndsBy true done was fault before text after
    → (fault ≡ was) × Grows before text after
goes_on [] was fault before text after ends = ends
goes_on (d ∷ earlier) was fault before text after ends = ends

one_more : (d : Done) (earlier : List Done) (last : Bool) (was between fault : Option RunFault) (before middle after : Option (List ℕ)) (text own : List ℕ)
    → (between ≡ was) × Grows before text middle → Says own last between fault middle after → EndsBy last (d ∷ earlier) was fault before (text ++ own) after
one_more d earlier true was between fault before middle after text own first says = (says.0 ∙ first.0, Grows-then before middle after text own first.1 says.1)
one_more d earlier false was between fault before middle after text own first says = (says.0, part_of_second before middle after text own first.1 says.1)

some_taken : (n : ℕ) (events : List Event) → 0 < n → n ≤ length events → [] ≡ take n events → ⊥
some_taken zero events some within e = absurd (omega (arith, some))
some_taken (suc n) [] some within e = absurd (omega (arith, within))
some_taken (suc n) (x ∷ events) some within e = cc

pub within_map : {X Y : Type 0} (f : X → Y) (xs : List X) (n : ℕ) → n ≤ length xs → n ≤ length (map f xs)
within_map f [] n within = within
within_map f (x ∷ xs) zero within = omega arith
within_map f (x ∷ xs) (suc n) within = let rest = within_map f xs n (omega (arith, within)) in omega (arith, rest)

none_some : (fault : Option RunFault) → IsNone fault → IsSome fault → ⊥
none_some None none some = cc
none_some (Some f) none some = cc

-- of the states of what prints them
module _ {S : Type 0} (takes : S → Answer → Bool → S → Type 0) (decoded : S → Bool) (calls : S → List QueuedCall) (fault : S → Option RunFault) (contents : S → Option (List ℕ))
    (each : (old : S) (a : Answer) (said : Bool) (new : S) → takes old a said new
    → Takes (decoded old) (calls old) a said (fault old) (fault new) (contents old) (contents new) × (calls new ≡ later (calls old)) × (decoded new ≡ decoded old)) where
  record Ran (last : Bool) (before : S) (done : List Done) (sink : S) : Type 0 where
    text : List ℕ
    printed : ArePrinted (decoded before) (calls before) done text
    calls_are : calls sink ≡ after_calls (length done) (calls before)
    decoded_is : decoded sink ≡ decoded before
    ends : EndsBy last done (fault before) (fault sink) (contents before) text (contents sink)

  ran : (last : Bool) (before : S) (done : List Done) (sink : S) → Took takes last before done sink → Ran last before done sink
  ran last before [] sink took = record {
    text = [];
    printed = refl;
    calls_are = ap calls took;
    decoded_is = ap decoded took;
    ends = (ap fault took, λ old e. ap contents took ∙ e ∙ ap Some (sym (append-nil old)));
  }
  ran last before (d ∷ earlier) sink took =
      let first = ran true before earlier took.0 took.1 in
      let it = each took.0 d.answer last sink took.2 in
      record {
        text = first.text ++ it.0.0;
        printed = (
          first.text,
          it.0.0,
          first.printed,
          subst (λ b. IsPrinted b (next_names (after_calls (length earlier) (calls before))) d.answer it.0.0) first.decoded_is
              (subst (λ cs. IsPrinted (decoded took.0) (next_names cs) d.answer it.0.0) first.calls_are it.0.1),
          refl,
        );
        calls_are = it.1 ∙ ap later first.calls_are;
        decoded_is = it.2 ∙ first.decoded_is;
        ends = one_more d earlier last (fault before) (fault took.0) (fault sink) (contents before) (contents took.0) (contents sink) first.text it.0.0
            (goes_on earlier (fault before) (fault took.0) (contents before) first.text (contents took.0) first.ends) it.0.2;
      }

  either : (last : Bool) (done : List Done) (was is : Option RunFault) (before after : Option (List ℕ)) (text : List ℕ) → EndsBy last done was is before text after
      → ((is ≡ was) × Grows before text after) ⊎ (IsSome is × GrowsByPart before text after)
  either last [] was is before after text ends = inl ends
  either true (d ∷ earlier) was is before after text ends = inl ends
  either false (d ∷ earlier) was is before after text ends = inr ends

  all_taken : (last : Bool) (done : List Done) (was is : Option RunFault) (before after : Option (List ℕ)) (text : List ℕ) (events : List Event) (n : ℕ) → EndsBy last done was is before text after
      → n ≤ length events → (last ≡ true → n ≡ length events) → (last ≡ false → 0 < n) → (done ≡ [] → [] ≡ take n events) → IsNone is → n ≡ length events
  all_taken true done was is before after text events n ends within all some empty none = all refl
  all_taken false [] was is before after text events n ends within all some empty none = absurd (some_taken n events (some refl) within (empty refl))
  all_taken false (d ∷ earlier) was is before after text events n ends within all some empty none = absurd (none_some is none ends.0)

  no_events : (done : List Done) (events : List Event) (n : ℕ) → map (λ (d : Done). d.event) (reverse done) ≡ take n events → done ≡ [] → [] ≡ take n events
  no_events [] events n e none = e
  no_events (d ∷ done) events n e none = cc

  pub runs_printed : (history : History) (events : List Event) (n : ℕ) (before sink : S) (s : Held) → n ≤ length events → RunsThrough takes history events n before sink s
      → RunsPrinted (decoded before) (calls before) history events n (fault before) (fault sink) (contents before) (contents sink) s
  runs_printed history events n before sink s within run =
      let hands = run.1 in
      let it = ran run.0 before hands.done sink hands.taken in
      record {
        done = hands.done;
        events_are = hands.events_are;
        fits = hands.fits;
        text = it.text;
        printed = it.printed;
        ends = either run.0 hands.done (fault before) (fault sink) (contents before) (contents sink) it.text it.ends;
        all = all_taken run.0 hands.done (fault before) (fault sink) (contents before) (contents sink) it.text events n it.ends within run.2 run.3
            (no_events hands.done events n hands.events_are);
      }
