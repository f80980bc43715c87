-- What is read of a description, line by line and chunk by chunk.
use Rattle.std.proofs.Common.{◌≡◌, ◌⊎◌, inl, inr, ℕ, ◌+◌, ◌-◌, ◌^◌, ◌<◌, ◌≤◌, true, false, min, List, [], ◌∷◌, ◌++◌, length, Option, Some, None, Ok, Err, refl, sym, ap, subst, ◌∙◌, append_assoc, append-nil, arith}
use Rattle.std.specs.Option.{is_some}
use Rattle.std.specs.Prelude.{IfOk, OnOk, Result}
use Rattle.std.proofs.lemmas.Bool.{false≢true}
use Rattle.std.proofs.lemmas.List.{length-append}
use Rattle.nfs_load.specs.declared.load_error.LoadError.{LoadError}
use Rattle.nfs_load.specs.declared.loaded.Loaded.{Loaded}
use Rattle.nfs_load.specs.Descriptions.{Describes, Through}
use Rattle.nfs_load.specs.Errors.{reported_at}
use Rattle.nfs_load.specs.Loadings.{Becomes, LineTaken, SoFar, number_after}
use Rattle.nfs_load.proofs.Descriptions.{lines_few, reported, through_more}
use Rattle.nfs_load.proofs.Loadings.{ends}
use Rattle.nfs_text.specs.Lines.{lines}
use Rattle.nfs_source.specs.Status.{IsOfReading, status_of}
use Rattle.nfs_source.specs.declared.fault.Fault.{Fault}
use Rattle.nfs_source.specs.declared.description.Reader.{Reader}
use Rattle.nfs_source.specs.declared.description.Reading.{Reading}
use Rattle.nfs_source.specs.Readings.{AreLoaded, AreRead, CutsInto, HasRead, HasText, IsFaultOf, Keeps, StopWith, is_open, outcome_of, taken_or}
use Rattle.nfs_describe.specs.Outputs.{Takes}
use Rattle.nfs_describe.specs.Texts.{most_text_bytes}
use Rattle.nfs_source.proofs.Cuts.{cuts_all, cuts_line, cuts_more, one_line, open_more}

-- ---- one line more

counted : (done : List (List ℕ)) (line : List ℕ) (old new : ℕ) → old ≡ min (length done) (2 ^ 64 - 1) → new ≡ number_after old
    → new ≡ min (length (done ++ line ∷ [])) (2 ^ 64 - 1)
counted done line old new was is = omega (arith, length-append done (line ∷ []), was, is)

stopped : (done : List (List ℕ)) (line : List ℕ) (old : SoFar) (error : LoadError) (new : Option Loaded)
    → Through None done old.described → old.count ≡ min (length done) (2 ^ 64 - 1) → Becomes old line (Err error) new → StopWith (done ++ line ∷ []) error
stopped done line old error new through was (refusal, is, refused, gone) =
    let number : number_after old.count ≡ min (length done + 1) (2 ^ 64 - 1) = omega (arith, was) in
    record {
      number = length done + 1;
      refusal = refusal;
      stops = record {
        before = done;
        line = line;
        after = [];
        all_are = refl;
        number_is = refl;
        old = old.described;
        in_order = through;
        new = refused.new;
        refused = refused.refused;
      };
      reported = is ∙ ap (λ n. reported_at n refusal) number;
    }

pub read_more : {D : Type 0} (has : D → List (List ℕ) → Type 0) (fault : Option LoadError) (old new : SoFar) (digest now : D) (done : List (List ℕ)) (line : List ℕ)
    → AreLoaded has old digest done → has now (done ++ line ∷ []) → LineTaken old line (taken_or fault) new → AreRead has fault new now (done ++ line ∷ [])
read_more has None old new digest now done line loaded digested taken = record {
  in_order = through_more None done line old.described new.described loaded.in_order taken.1;
  counted = counted done line old.count new.count loaded.counted taken.0;
  digested = digested;
}
read_more has (Some error) old new digest now done line loaded digested taken = stopped done line old error new.described loaded.in_order loaded.counted taken.1

-- ---- all lines

stop_more : (all more : List (List ℕ)) (error : LoadError) → StopWith all error → StopWith (all ++ more) error
stop_more all more error stop = record {
  number = stop.number;
  refusal = stop.refusal;
  stops = record {
    before = stop.stops.before;
    line = stop.stops.line;
    after = stop.stops.after ++ more;
    all_are = ap (λ it. it ++ more) stop.stops.all_are ∙ append_assoc stop.stops.before (stop.stops.line ∷ stop.stops.after) more;
    number_is = stop.stops.number_is;
    old = stop.stops.old;
    in_order = stop.stops.in_order;
    new = stop.stops.new;
    refused = stop.stops.refused;
  };
  reported = stop.reported;
}

few_lines : (text : List ℕ) → length text ≤ most_text_bytes → length (lines text) < 2 ^ 64 - 1
few_lines text few = omega (arith, lines_few text, few)

small : (text : List ℕ) (number : ℕ) (before after : List (List ℕ)) (line : List ℕ) → length text ≤ most_text_bytes
    → lines text ≡ before ++ line ∷ after → number ≡ length before + 1 → min number (2 ^ 64 - 1) ≡ number
small text number before after line few all is =
    omega (arith, ap length all, length-append before (line ∷ after), few_lines text few, is)

pub all_described : {D : Type 0} (has : D → List (List ℕ) → Type 0) (fault : Option LoadError) (loading : SoFar) (digest : D) (text : List ℕ)
    → length text ≤ most_text_bytes → AreRead has fault loading digest (lines text) → Describes text (outcome_of fault loading)
all_described has None loading digest text few read =
    ends text loading.count loading.described read.in_order (omega (arith, read.counted, few_lines text few))
all_described has (Some error) loading digest text few stop =
    reported text stop.number stop.refusal error
    (stop.reported ∙ ap (λ n. reported_at n stop.refusal) (small text stop.number stop.stops.before stop.stops.after stop.stops.line few stop.stops.all_are stop.stops.number_is))
    stop.stops

pub all_digested : {D : Type 0} (has : D → List (List ℕ) → Type 0) (fault : Option LoadError) (loading : SoFar) (digest : D) (done : List (List ℕ)) (loaded : Loaded)
    → outcome_of fault loading ≡ Ok loaded → AreRead has fault loading digest done → has digest done
all_digested has None loading digest done loaded is read = read.digested
all_digested has (Some error) loading digest done loaded is stop = cc

-- ---- the bytes of a line that ends

at_start : (fault : Option LoadError) (kept : List ℕ) → kept ≡ [] → Keeps fault kept []
at_start None kept none = (none, refl)
at_start (Some error) kept none = tt

pub ends_line : {D : Type 0} (has : D → List (List ℕ) → Type 0) (old new : Reader D) (part line : List ℕ)
    → old.reading.fault ≡ None → is_open part ≡ true → line ≡ old.line ++ part → new.line ≡ []
    → ((done : List (List ℕ)) → HasRead has old.reading done → HasRead has new.reading (done ++ line ∷ []))
    → Takes (HasText has) old (part ++ 10 ∷ []) new
ends_line has old new part line in_order open_part line_is none reads text it =
    let kept : (old.line ≡ it.rest) × (is_open it.rest ≡ true) = subst (λ fault. Keeps fault old.line it.rest) in_order it.kept in
    record {
      done = it.done ++ line ∷ [];
      rest = [];
      cut = subst (λ l. CutsInto (text ++ (part ++ 10 ∷ [])) (it.done ++ l ∷ []) []) (sym (line_is ∙ ap (λ t. t ++ part) kept.0))
          (cuts_line text it.done it.rest part kept.1 open_part it.cut);
      read = reads it.done it.read;
      kept = at_start new.reading.fault new.line none;
    }

-- ---- the bytes of one that doesn't

pub on_any : {T E : Type 0} (result : Result T E) (P : Type 0) → P → OnOk result P
on_any (Ok x) P p = p
on_any (Err e) P p = tt

pub keeps_part : {D : Type 0} (has : D → List (List ℕ) → Type 0) (old new : Reader D) (part : List ℕ)
    → old.reading.fault ≡ None → is_open part ≡ true → new.reading ≡ old.reading → new.line ≡ old.line ++ part
    → Takes (HasText has) old part new
keeps_part {D = D} has old new part in_order open_part same line_is text it =
    let kept : (old.line ≡ it.rest) × (is_open it.rest ≡ true) = subst (λ fault. Keeps fault old.line it.rest) in_order it.kept in
    let now : Keeps None new.line (it.rest ++ part) = (line_is ∙ ap (λ t. t ++ part) kept.0, open_more it.rest part kept.1 open_part) in
    record {
      done = it.done;
      rest = it.rest ++ part;
      cut = cuts_more text it.done it.rest part it.cut;
      read = subst (λ reading. HasRead has reading it.done) (sym same) it.read;
      kept = subst (λ fault. Keeps fault new.line (it.rest ++ part)) (sym (ap (λ (reading : Reading D). reading.fault) same ∙ in_order)) now;
    }

anything : (fault : Option LoadError) (kept rest : List ℕ) → is_some fault ≡ true → Keeps fault kept rest
anything None kept rest is = cc
anything (Some error) kept rest is = tt

-- what the tests for a fault say
pub is_in_order : (fault : Option LoadError) → is_some fault ≡ false → fault ≡ None
is_in_order None is = refl
is_in_order (Some error) is = cc

-- after a fault
pub ignores : {D : Type 0} (has : D → List (List ℕ) → Type 0) (it : Reader D) (part : List ℕ) → is_some it.reading.fault ≡ true → Takes (HasText has) it part it
ignores has it part is text was = record {
  done = was.done;
  rest = was.rest ++ part;
  cut = cuts_more text was.done was.rest part was.cut;
  read = was.read;
  kept = anything it.reading.fault it.line (was.rest ++ part) is;
}

-- ---- the end

read_on : {D : Type 0} (has : D → List (List ℕ) → Type 0) (fault : Option LoadError) (loading : SoFar) (digest : D) (done more : List (List ℕ))
    → is_some fault ≡ true → AreRead has fault loading digest done → AreRead has fault loading digest (done ++ more)
read_on has None loading digest done more is read = cc
read_on has (Some error) loading digest done more is stop = stop_more done more error stop

pub ends_faulty : {D : Type 0} (has : D → List (List ℕ) → Type 0) (it : Reader D) (text : List ℕ) → is_some it.reading.fault ≡ true → HasText has it text → HasRead has it.reading (lines text)
ends_faulty has it text is was =
    subst (HasRead has it.reading) (sym (cuts_all text was.done was.rest was.cut))
    (read_on has it.reading.fault it.reading.loading it.reading.digest was.done (lines was.rest) is was.read)

pub ends_whole : {D : Type 0} (has : D → List (List ℕ) → Type 0) (it : Reader D) (text : List ℕ) → it.reading.fault ≡ None → it.line ≡ [] → HasText has it text → HasRead has it.reading (lines text)
ends_whole has it text in_order none was =
    let kept : (it.line ≡ was.rest) × (is_open was.rest ≡ true) = subst (λ fault. Keeps fault it.line was.rest) in_order was.kept in
    subst (HasRead has it.reading)
    (sym (cuts_all text was.done was.rest was.cut ∙ ap (λ t. was.done ++ lines t) (sym kept.0 ∙ none) ∙ append-nil was.done)) was.read

pub ends_last : {D : Type 0} (has : D → List (List ℕ) → Type 0) (it : Reader D) (new : Reading D) (text : List ℕ) → it.reading.fault ≡ None → (it.line ≡ [] → ⊥)
    → ((done : List (List ℕ)) → HasRead has it.reading done → HasRead has new (done ++ it.line ∷ []))
    → HasText has it text → HasRead has new (lines text)
ends_last has it new text in_order some reads was =
    let kept : (it.line ≡ was.rest) × (is_open was.rest ≡ true) = subst (λ fault. Keeps fault it.line was.rest) in_order was.kept in
    let last : lines was.rest ≡ it.line ∷ [] =
    one_line was.rest kept.1 (λ none. some (kept.0 ∙ none)) ∙ ap (λ l. l ∷ []) (sym kept.0) in
    subst (HasRead has new) (sym (cuts_all text was.done was.rest was.cut ∙ ap (λ t. was.done ++ t) last)) (reads was.done was.read)

-- what is in order has not ended before its end
pub ended_in_order : {D : Type 0} (old new : Reading D) → is_some old.fault ≡ true → new ≡ old → new.fault ≡ None → ⊥
ended_in_order {D = D} old new ended same in_order = false≢true (sym (ap is_some (sym (ap (λ (it : Reading D). it.fault) same) ∙ in_order)) ∙ ended)

pub both_ok : {T E : Type 0} (r : Result T E) (P Q : T → Type 0) → IfOk r P → IfOk r Q → IfOk r (λ x. P x × Q x)
both_ok (Ok x) P Q one two = (one, two)
both_ok (Err e) P Q one two = tt

-- ---- the fault that it has

pub of_reading : (old new : Option (List ℕ)) (fault : Fault) → (status_of fault ≡ 3) ⊎ ((text : List ℕ) × IsFaultOf old text new fault) → IsOfReading fault
of_reading old new fault (inl machine) = inl machine
of_reading old new fault (inr (text, inl (rest, reports))) = inr (text, reports)
of_reading old new fault (inr (text, inr (read, reports))) = inr (text ++ [], reports [] (omega (arith, length-append text [], read.short)))
