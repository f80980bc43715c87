-- Journals that are run again segment by segment.
use Rattle.std.proofs.Common.{◌≡◌, ℕ, ◌+◌, ◌-◌, ◌<◌, ◌≤◌, Bool, true, false, ◌&&◌, List, [], ◌∷◌, ◌++◌, map, reverse, take, drop, length, refl, sym, ap, subst, ◌∙◌, append_assoc, arith}
use Rattle.std.specs.Prelude.{if◌then◌else◌, nat_eq, nat_lt}
use Rattle.std.specs.List.{AllByRecursion}
use Rattle.std.proofs.lemmas.Bool.{eq-eqb, le-ltb, lt-ltb, ltb-false, ltb-true, true≢false}
use Rattle.std.proofs.lemmas.List.{length-append, nil_from_length, take-append-drop}
use Rattle.nfs_exports.specs.declared.export_table.Export.{Export}
use Rattle.nfs_journal.proofs.Alike.{alike_length}
use Rattle.nfs_journal.proofs.Matching.{IsOwn, alike_join, all_back, all_front, fronts, none_in_none, whole_again, without_end}
use Rattle.nfs_journal.proofs.Noted.{journal_is_of_noted, same_setup}
use Rattle.nfs_journal.specs.Alike.{AllAlike}
use Rattle.nfs_journal.specs.Noted.{noted, noted_setups}
use Rattle.nfs_journal.specs.Recovering.{HasRerunAll, IsRerun, SegmentsBegin, SegmentsGoOn}
use Rattle.nfs_journal.specs.Segments.{AreSegments, IsFront, Segment, exports_after, segment_of, without_last}
use Rattle.nfs_rpc.specs.Progress.{Progress, Unfinished}
use Rattle.nfs_rpc.specs.Records.{AreRecords, IsRecord}
use Rattle.nfs_server.proofs.Feeding.{all_append}
use Rattle.nfs_server.proofs.Reloads.{reloaded_fits}
use Rattle.nfs_server.specs.Entries.{entry_of, journal_text}
use Rattle.nfs_server.specs.Events.{Done}
use Rattle.nfs_server.specs.Fits.{Held, History, Fits, exporting, opening_with, reloaded}
use Rattle.nfs_server.specs.Noted.{has_entry}
use Rattle.nfs_server.specs.Runs.{longer}
use Rattle.nfs_server.specs.Steps.{Setup, State}
use Rattle.nfs_xdr.specs.Encoding.{BeginsNone}

-- by whether one number is below another
pub by_order : {Y : Type 0} (n k : ℕ) → (n < k → Y) → (k ≤ n → Y) → Y
by_order {Y} n k below above = by (nat_lt n k) refl
  where
    by : (b : Bool) → nat_lt n k ≡ b → Y
    by true e = below (ltb-true n k e)
    by false e = above (ltb-false n k e)

split_length : {X : Type 0} (xs ys zs : List X) → xs ≡ ys ++ zs → length xs ≡ length ys + length zs
split_length xs ys zs e = ap length e ∙ length-append ys zs

split_later : {X : Type 0} (all xs ys us vs : List X) → all ≡ xs ++ ys → ys ≡ us ++ vs → all ≡ (xs ++ us) ++ vs
split_later all xs ys us vs e f = e ∙ ap (λ l. xs ++ l) f ∙ sym (append_assoc xs us vs)

-- ---- by the setups in force at the events alone

pub same_segments : (setup : Setup) (setups others : ℕ → Setup) (journal : List Segment) (done : List Done) → ((n : ℕ) → n < length done → others n ≡ setups n)
    → AreSegments setup setups journal done → AreSegments setup others journal done
same_segments setup setups others [] done same s = s
same_segments setup setups others (segment ∷ before) done same s =
    let len = split_length done s.0 s.1 s.2 in (
      s.0,
      s.1,
      s.2,
      s.3,
      λ n later below. same n below ∙ s.4 n later below,
      same_segments setup setups others before s.1 (λ n below. same n (omega (arith, below, len))) s.5,
    )

-- the same setup but for its exports
pub of_setup : (a b : Setup) (setups : ℕ → Setup) (journal : List Segment) (done : List Done) → a.places ≡ b.places → AreSegments a setups journal done → AreSegments b setups journal done
of_setup a b setups [] done e s = s
of_setup a b setups (segment ∷ before) done e s =
    (s.0, s.1, s.2, s.3, λ n later below. s.4 n later below ∙ same_exporting a b segment.exports e, of_setup a b setups before s.1 e s.5)
  where
    same_exporting : (a b : Setup) (exports : List (List Export)) → a.places ≡ b.places → exporting exports a ≡ exporting exports b
    same_exporting a b exports e = λ i. record { places = e i; exports = exports }

-- ---- the noted events

noted_append : (own earlier : List Done) → noted (own ++ earlier) ≡ noted own ++ noted earlier
noted_append [] earlier = refl
noted_append (d ∷ own) earlier = by (has_entry d) (noted_append own earlier)
  where
    by : (b : Bool) → noted (own ++ earlier) ≡ noted own ++ noted earlier
        → (if b then d ∷ noted (own ++ earlier) else noted (own ++ earlier)) ≡ (if b then d ∷ noted own else noted own) ++ noted earlier
    by true e = ap (λ l. d ∷ l) e
    by false e = e

module _ (setups : ℕ → Setup) (now : Setup) (earlier : List Done) where
  -- more events leave the setups of the noted ones before them
  earlier_setups : (own : List Done) (n : ℕ) → n < length (noted earlier) → noted_setups setups now (own ++ earlier) n ≡ noted_setups setups now earlier n
  earlier_setups [] n below = refl
  earlier_setups (d ∷ own) n below =
      let len = split_length (noted (own ++ earlier)) (noted own) (noted earlier) (noted_append own earlier) in
      same_setup setups now d (own ++ earlier) n (omega (arith, below, len)) ∙ earlier_setups own n below

  -- their own are those that were in force at them
  own_setups : (setup : Setup) (own : List Done) → ((m : ℕ) → length earlier ≤ m → m < length (own ++ earlier) → setups m ≡ setup)
      → (n : ℕ) → length (noted earlier) ≤ n → n < length (noted (own ++ earlier)) → noted_setups setups now (own ++ earlier) n ≡ setup
  own_setups setup [] judged n later below = absurd (omega (arith, later, below))
  own_setups setup (d ∷ own) judged n later below = by (has_entry d) below (own_setups setup own (λ m le lt. judged m le (omega (arith, lt))) n later)
    where
      own_one : setups (length (own ++ earlier)) ≡ setup
      own_one = judged (length (own ++ earlier)) (omega (arith, length-append own earlier)) (omega arith)

      at : (t : Bool) → nat_eq n (length (noted (own ++ earlier))) ≡ t → n < length (d ∷ noted (own ++ earlier))
          → (n < length (noted (own ++ earlier)) → noted_setups setups now (own ++ earlier) n ≡ setup)
          → (if t then setups (length (own ++ earlier)) else noted_setups setups now (own ++ earlier) n) ≡ setup
      at true e less rest = own_one
      at false e less rest = rest (by_order n (length (noted (own ++ earlier))) (λ lt. lt)
          (λ le. absurd (true≢false (sym (eq-eqb n (length (noted (own ++ earlier))) (omega (arith, le, less))) ∙ e))))

      by : (b : Bool) → n < length (if b then d ∷ noted (own ++ earlier) else noted (own ++ earlier))
          → (n < length (noted (own ++ earlier)) → noted_setups setups now (own ++ earlier) n ≡ setup)
          → (if b && nat_eq n (length (noted (own ++ earlier))) then setups (length (own ++ earlier)) else noted_setups setups now (own ++ earlier) n) ≡ setup
      by true less rest = at (nat_eq n (length (noted (own ++ earlier)))) refl less rest
      by false less rest = rest less

-- The journal of a history is that of its noted events.
pub noted_segments : (setup : Setup) (setups : ℕ → Setup) (now : Setup) (journal : List Segment) (done : List Done) → AreSegments setup setups journal done
    → AreSegments setup (noted_setups setups now done) journal (noted done)
noted_segments setup setups now [] done s = ap noted s
noted_segments setup setups now (segment ∷ before) done s =
    subst (λ ds. AreSegments setup (noted_setups setups now ds) (segment ∷ before) (noted ds)) (sym s.2) (
      noted s.0,
      noted s.1,
      noted_append s.0 s.1,
      s.3 ∙ sym (journal_is_of_noted s.0),
      own_setups setups now s.1 (exporting segment.exports setup) s.0 (λ m le lt. s.4 m le (subst (λ ds. m < length ds) (sym s.2) lt)),
      same_segments setup (noted_setups setups now s.1) (noted_setups setups now (s.0 ++ s.1)) before (noted s.1) (earlier_setups setups now s.1 s.0)
          (noted_segments setup setups now before s.1 s.5),
    )

-- ---- what was run again

-- The events were run again from the entries of the segments, each under the exports of its segment; this is left at the end.
abbrev AreCut : Setup → (ℕ → Setup) → List Segment → List ℕ → List Done → Type 0
AreCut setup setups [] rest done = (done ≡ []) × (rest ≡ [])
AreCut setup setups (segment ∷ before) rest done = (own : List Done) × (earlier : List Done) × (done ≡ own ++ earlier) × AreRecords segment.bytes (map entry_of (reverse own)) rest
    × ((n : ℕ) → length earlier ≤ n → n < length done → setups n ≡ exporting segment.exports setup) × AreCut setup setups before [] earlier

same_cut : (setup : Setup) (setups others : ℕ → Setup) (journal : List Segment) (rest : List ℕ) (done : List Done) → ((n : ℕ) → n < length done → others n ≡ setups n)
    → AreCut setup setups journal rest done → AreCut setup others journal rest done
same_cut setup setups others [] rest done same c = c
same_cut setup setups others (segment ∷ before) rest done same c =
    let len = split_length done c.0 c.1 c.2 in (
      c.0,
      c.1,
      c.2,
      c.3,
      λ n later below. same n below ∙ c.4 n later below,
      same_cut setup setups others before [] c.1 (λ n below. same n (omega (arith, below, len))) c.5,
    )

-- what is known of a server that has run all segments again
pub record Knows (setup : Setup) (opening : State) (journal : List Segment) (unfinished : ℕ) (to : History) (s : Held) (p : Progress) : Type 0 where
  pub rest : List ℕ
  pub rest_is : Unfinished rest p
  pub unfinished_is : length rest ≡ unfinished
  pub cut : AreCut setup to.setups journal rest to.done
  pub rerun : AllByRecursion IsRerun to.done
  pub fits : Fits to s
  pub opening_is : to.opening ≡ opening
  pub last : (n : ℕ) → length to.done ≤ n → to.setups n ≡ exporting (exports_after setup.exports journal) setup

module _ (history : History) (exports : List (List Export)) where
  -- the setups that are in force before other exports are, and after that
  pub before_reload : (n : ℕ) → n < length history.done → (reloaded history exports).setups n ≡ history.setups n
  before_reload n below = ap (λ b. if b then history.setups n else exporting exports (history.setups n)) (lt-ltb n (length history.done) below)

  pub after_reload : (setup : Setup) (n : ℕ) → length history.done ≤ n → history.setups n ≡ setup → (reloaded history exports).setups n ≡ exporting exports setup
  after_reload setup n later e =
      ap (λ b. if b then history.setups n else exporting exports (history.setups n)) (le-ltb n (length history.done) later) ∙ ap (exporting exports) e

pub knows : (setup : Setup) (opening : State) (journal : List Segment) (unfinished : ℕ) (to : History) (s : Held) (p : Progress)
    → HasRerunAll (opening_with setup opening) journal unfinished to s p → Knows setup opening journal unfinished to s p
knows setup opening [] unfinished to s p r = subst (λ h. Knows setup opening [] unfinished h s p) (sym r.0) (record {
  rest = [];
  rest_is = r.3;
  unfinished_is = sym r.2;
  cut = (refl, refl);
  rerun = tt;
  fits = r.1;
  opening_is = refl;
  last = λ n later. refl;
})
knows setup opening (segment ∷ before) unfinished to s p r =
    let k = knows setup opening before 0 r.0 r.1 r.2 r.3 in
    let len : length (r.5.done ++ r.0.done) ≡ length r.5.done + length r.0.done = length-append r.5.done r.0.done in
    let judged : (n : ℕ) → length r.0.done ≤ n → (reloaded r.0 segment.exports).setups n ≡ exporting segment.exports setup =
    λ n later. after_reload r.0 segment.exports (exporting (exports_after setup.exports before) setup) n later (k.last n later) in
    subst (λ h. Knows setup opening (segment ∷ before) unfinished h s p) (sym r.6) (record {
      rest = r.5.rest;
      rest_is = r.5.rest_is;
      unfinished_is = r.5.unfinished_is;
      cut = (
        r.5.done,
        r.0.done,
        refl,
        r.5.cut,
        λ n later below. judged n later,
        same_cut setup r.0.setups (reloaded r.0 segment.exports).setups before [] r.0.done (before_reload r.0 segment.exports)
            (subst (λ rest. AreCut setup r.0.setups before rest r.0.done) (nil_from_length k.rest k.unfinished_is) k.cut),
      );
      rerun = all_append IsRerun r.5.done r.0.done r.5.rerun k.rerun;
      fits = r.5.fits;
      opening_is = k.opening_is;
      last = λ n later. judged n (omega (arith, later, len));
    })

-- ---- one segment after another

pub segments_begin : SegmentsBegin
segments_begin offset history s at fresh fits = (refl, fits, fresh.unfinished, fresh.begins)

-- The server fits where it is, and where nothing is unfinished the next bytes begin an entry.
fits_all : (from : History) (journal : List Segment) (unfinished : ℕ) (to : History) (s : Held) (p : Progress) → HasRerunAll from journal unfinished to s p → Fits to s
fits_all from [] unfinished to s p r = subst (λ h. Fits h s) (sym r.0) r.1
fits_all from (segment ∷ before) unfinished to s p r = subst (λ h. Fits h s) (sym r.6) r.5.fits

begins_entry : (from : History) (journal : List Segment) (unfinished : ℕ) (to : History) (s : Held) (p : Progress) → HasRerunAll from journal unfinished to s p → unfinished ≡ 0 → Unfinished [] p
begins_entry from [] unfinished to s p r none = r.3
begins_entry from (segment ∷ before) unfinished to s p r none = subst (λ rest. Unfinished rest p) (nil_from_length r.5.rest (r.5.unfinished_is ∙ none)) r.5.rest_is

pub segments_go_on : SegmentsGoOn
segments_go_on from between before segment was s old new r none advances =
    let next = reloaded between segment.exports in
    let rerun = advances.runs next (reloaded_fits between segment.exports was (fits_all from before old.unfinished between was old.progress r)) []
    (begins_entry from before old.unfinished between was old.progress r none) (sym none) in
    (longer next rerun.done, (between, was, old.progress, subst (λ n. HasRerunAll from before n between was old.progress) none r, advances.entries, rerun, refl))

-- ---- segment by segment

-- these events and those are alike, the same setup was in force at each, and these segments are the journal of those
pub record IsMatch (setup : Setup) (setups others : ℕ → Setup) (whole : List Segment) (done again : List Done) : Type 0 where
  pub alike : AllAlike done again
  pub same : (n : ℕ) → n < length again → setups n ≡ others n
  pub segments : AreSegments setup others whole again

module _ (setup : Setup) (setups others : ℕ → Setup) where
  no_match : (done again : List Done) → done ≡ [] → again ≡ [] → IsMatch setup setups others [] done again
  no_match done again d a = record {
    alike = subst (λ ds. AllAlike ds again) (sym d) (subst (AllAlike []) (sym a) tt);
    same = λ n below. absurd (omega (arith, below, ap length a));
    segments = a;
  }

  -- one segment more
  join : (segment : Segment) (before : List Segment) (own own_again earlier earlier_again done again : List Done) → AllAlike own own_again
      → IsMatch setup setups others before earlier earlier_again → done ≡ own ++ earlier → again ≡ own_again ++ earlier_again → segment.bytes ≡ journal_text own_again
      → ((n : ℕ) → length earlier ≤ n → n < length done → setups n ≡ exporting segment.exports setup)
      → ((n : ℕ) → length earlier_again ≤ n → n < length again → others n ≡ exporting segment.exports setup) → IsMatch setup setups others (segment ∷ before) done again
  join segment before own own_again earlier earlier_again done again alike older d a bytes judged again_judged =
      let lens = alike_length earlier earlier_again older.alike in
      let all : AllAlike done again = subst (λ ds. AllAlike ds again) (sym d) (subst (AllAlike (own ++ earlier)) (sym a) (alike_join own own_again earlier earlier_again alike older.alike)) in
      let whole = alike_length done again all in
      record {
        alike = all;
        same = λ n below. by_order n (length earlier_again) (older.same n)
            (λ later. judged n (omega (arith, later, lens)) (omega (arith, below, whole)) ∙ sym (again_judged n later below));
        segments = (own_again, earlier_again, a, bytes, again_judged, older.segments);
      }

  pub match_all : (journal : List Segment) (rest : List ℕ) (done again : List Done) → AllByRecursion IsOwn done → AllByRecursion IsRerun again → AreSegments setup setups journal done
      → AreCut setup others journal rest again → BeginsNone IsRecord rest → (rest ≡ []) × IsMatch setup setups others journal done again
  match_all [] rest done again are rerun s c none = (c.1, no_match done again s c.0)
  match_all (segment ∷ before) rest done again are rerun s c none =
      let owns = subst (AllByRecursion IsOwn) s.2 are in
      let reruns = subst (AllByRecursion IsRerun) c.2 rerun in
      let older = match_all before [] s.1 c.1 (all_back IsOwn s.0 s.1 owns) (all_back IsRerun c.0 c.1 reruns) s.5 c.5 none_in_none in
      let one = whole_again s.0 c.0 segment.bytes rest (all_front IsOwn s.0 s.1 owns) (all_front IsRerun c.0 c.1 reruns) s.3 c.3 none in
      (one.rest_is, join segment before s.0 c.0 s.1 c.1 done again one.alike older.1 s.2 c.2 one.bytes_are s.4 c.4)

  -- the first of these events match those that were run again from the front of their journal
  pub record MatchesFront (found : List Segment) (rest : List ℕ) (done again : List Done) : Type 0 where
    pub later : List Done
    pub earlier : List Done
    pub done_is : done ≡ later ++ earlier
    pub is_match : IsMatch setup setups others (without_last (length rest) found) earlier again

  match_oldest : (journal : List Segment) (n : ℕ) (rest : List ℕ) (done again : List Done) → AllByRecursion IsOwn done → AllByRecursion IsRerun again → AreSegments setup setups journal done
      → AreCut setup others (without_last n journal) rest again → MatchesFront (without_last n journal) rest done again
  match_oldest [] n rest done again are rerun s c = record { later = []; earlier = done; done_is = refl; is_match = no_match done again s c.0 }
  match_oldest (segment ∷ before) n rest done again are rerun s c =
      let k = length segment.bytes - n in
      let bytes = take k segment.bytes in
      let owns = subst (AllByRecursion IsOwn) s.2 are in
      let reruns = subst (AllByRecursion IsRerun) c.2 rerun in
      let older = match_all before [] s.1 c.1 (all_back IsOwn s.0 s.1 owns) (all_back IsRerun c.0 c.1 reruns) s.5 c.5 none_in_none in
      let one = fronts s.0 c.0 bytes rest (drop k segment.bytes) (all_front IsOwn s.0 s.1 owns) (all_front IsRerun c.0 c.1 reruns) (take-append-drop k segment.bytes ∙ s.3) c.3 in
      let split : done ≡ reverse one.later ++ (one.first ++ s.1) = s.2 ∙ ap (λ ds. ds ++ s.1) one.own_is ∙ append_assoc (reverse one.later) one.first s.1 in
      let len = split_length done (reverse one.later) (one.first ++ s.1) split in
      record {
        later = reverse one.later;
        earlier = one.first ++ s.1;
        done_is = split;
        is_match = join (segment_of segment.exports (take (length bytes - length rest) bytes)) before one.first c.0 s.1 c.1 (one.first ++ s.1) again one.alike older.1 refl c.2
            (without_end bytes (journal_text c.0) rest one.bytes_are) (λ m le lt. s.4 m le (omega (arith, lt, len))) c.4;
      }

  oldest : (newer journal : List Segment) (done : List Done) → AreSegments setup setups (newer ++ journal) done
      → (later : List Done) × (earlier : List Done) × (done ≡ later ++ earlier) × AreSegments setup setups journal earlier
  oldest [] journal done s = ([], done, refl, s)
  oldest (segment ∷ newer) journal done s =
      let more = oldest newer journal s.1 s.5 in
      (s.0 ++ more.0, more.1, split_later done s.0 s.1 more.0 more.1 s.2 more.2, more.3)

  pub match_front : (journal found : List Segment) (rest : List ℕ) (done again : List Done) → IsFront found journal → AllByRecursion IsOwn done → AllByRecursion IsRerun again
      → AreSegments setup setups journal done → AreCut setup others found rest again → MatchesFront found rest done again
  match_front journal found rest done again front are rerun s c =
      let old = oldest front.0 front.1 done (subst (λ j. AreSegments setup setups j done) front.3 s) in
      let one = match_oldest front.1 front.2 rest old.1 again (all_back IsOwn old.0 old.1 (subst (AllByRecursion IsOwn) old.2 are)) rerun old.3
      (subst (λ f. AreCut setup others f rest again) front.4 c) in
      subst (λ f. MatchesFront f rest done again) (sym front.4) (record {
        later = old.0 ++ one.later;
        earlier = one.earlier;
        done_is = split_later done old.0 old.1 one.later one.earlier old.2 one.done_is;
        is_match = one.is_match;
      })
