-- A server that runs a journal again comes to hold what the other held.
use Rattle.std.proofs.Common.{◌≡◌, ℕ, ◌<◌, ◌≤◌, List, [], ◌∷◌, ◌++◌, None, length, refl, sym, ap, subst, ◌∙◌, arith}
use Rattle.std.specs.List.{AllByRecursion}
use Rattle.nfs_exports.specs.declared.export_table.Export.{Export}
use Rattle.nfs_journal.proofs.Alike.{alike_hold_the_same, alike_length}
use Rattle.nfs_journal.proofs.Answered.{noted_are_answered}
use Rattle.nfs_journal.proofs.Matching.{IsOwn, all_back, all_noted, all_of, noted_have, own_of}
use Rattle.nfs_journal.proofs.Noted.{noted_are_served, noted_is_history, same_run}
use Rattle.nfs_journal.proofs.Segments.{IsMatch, Knows, MatchesFront, after_reload, before_reload, by_order, knows, match_all, match_front, noted_segments, of_setup}
use Rattle.nfs_journal.specs.Alike.{HoldTheSame}
use Rattle.nfs_journal.specs.Entries.{FitsEntry}
use Rattle.nfs_journal.specs.Noted.{IsServed, noted, noted_history, noted_setups}
use Rattle.nfs_journal.specs.Recovered.{FrontIsEarlier, HasRecovered, HoldsAsEarlier, IsLife, RecoveryIsExact}
use Rattle.nfs_journal.specs.Recovering.{IsRerun}
use Rattle.nfs_journal.specs.Segments.{AreSegments, IsFront, Segment, exports_after}
use Rattle.nfs_server.proofs.OneRecord.{is_left}
use Rattle.nfs_server.specs.Events.{Done}
use Rattle.nfs_server.specs.Fits.{Held, History, Fits, exporting, reloaded}
use Rattle.nfs_server.specs.Retransmissions.{cached_after}
use Rattle.nfs_server.specs.Steps.{Setup, State, IsRun}

run_front : (setups : ℕ → Setup) (opening : State) (later earlier : List Done) (state : State) → IsRun setups opening (later ++ earlier) state → (between : State) × IsRun setups opening earlier between
run_front setups opening [] earlier state run = (state, run)
run_front setups opening (d ∷ later) earlier state run = run_front setups opening later earlier run.0 run.1

served_of : (done : List Done) → AllByRecursion IsRerun done → AllByRecursion IsServed done
served_of done rerun = all_of IsRerun IsServed done (λ d is. is.served) rerun

same_setups : (a b : Setup) → a.places ≡ b.places → a.exports ≡ b.exports → a ≡ b
same_setups a b p e = λ i. record { places = p i; exports = e i }

-- every setup of a journal has as many places
places_of : (setup : Setup) (setups : ℕ → Setup) (journal : List Segment) (done : List Done) → AreSegments setup setups journal done → (n : ℕ) → n < length done → (setups n).places ≡ setup.places
places_of setup setups [] done s n below = absurd (omega (arith, below, ap length s))
places_of setup setups (segment ∷ before) done s n below = by_order n (length s.1) (places_of setup setups before s.1 s.5 n)
    (λ later. ap (λ (u : Setup). u.places) (s.4 n later below))

module _ (history : History) (journal found : List Segment) (s t : Held) (setup : Setup) (life : IsLife history journal s) (places : setup.places ≡ s.setup.places) (it : HasRecovered setup history.opening found t) where
  abbrev pub are : List Done
  are = noted history.done

  abbrev pub setups : ℕ → Setup
  setups = noted_setups history.setups (history.setups (length history.done)) history.done

  pub known : Knows setup history.opening found it.unfinished it.history t it.progress
  known = knows setup history.opening found it.unfinished it.history t it.progress it.rerun

  fitting : Fits (noted_history history) s
  fitting = noted_is_history history s life.fits

  pub are_own : AllByRecursion IsOwn are
  are_own = own_of are (all_noted FitsEntry history.done life.entries) (noted_have history.done) (noted_are_served history.done) (noted_are_answered history s life.fits)

  segments : AreSegments setup setups journal are
  segments = of_setup s.setup setup setups journal are (sym places) (noted_segments s.setup history.setups (history.setups (length history.done)) journal history.done life.segments)

  -- after the noted events the setup is that of the other, and all setups have as many places
  at_end : (n : ℕ) → length are ≤ n → setups n ≡ s.setup
  at_end n later = fitting.in_force n later

  all_places : (n : ℕ) → (setups n).places ≡ setup.places
  all_places n = by_order n (length are) (places_of setup setups journal are segments n) (λ later. ap (λ (u : Setup). u.places) (at_end n later) ∙ sym places)

  -- ---- the front of a journal

  module _ (front : IsFront found journal) where
    pub first : MatchesFront setup setups it.history.setups found known.rest are it.history.done
    first = match_front setup setups it.history.setups journal found known.rest are it.history.done front are_own known.rerun segments known.cut

    abbrev exports : List (List Export)
    exports = exports_after setup.exports found

    abbrev so_far : History
    so_far = record (noted_history history) { done = first.earlier }

    abbrev until : History
    until = reloaded so_far exports

    lens : length first.earlier ≡ length it.history.done
    lens = alike_length first.earlier it.history.done first.is_match.alike

    -- the setup that is in force from there on
    then_setup : (n : ℕ) → length first.earlier ≤ n → until.setups n ≡ exporting exports setup
    then_setup n later = after_reload so_far exports (setups n) n later refl ∙ same_setups (exporting exports (setups n)) (exporting exports setup) (all_places n) refl

    same_until : (n : ℕ) → until.setups n ≡ it.history.setups n
    same_until n = by_order n (length first.earlier)
        (λ below. before_reload so_far exports n below ∙ first.is_match.same n (omega (arith, below, lens)))
        (λ later. then_setup n later ∙ sym (known.last n (omega (arith, later, lens))))

    between : (between : State) × IsRun setups history.opening first.earlier between
    between = run_front setups history.opening first.later first.earlier s.state (subst (λ ds. IsRun setups history.opening ds s.state) first.done_is fitting.run)

    abbrev u : Held
    u = record { setup = exporting exports setup; state = between.0; kept = cached_after setup.places first.earlier; line = None; notes = None }

    fits : Fits until u
    fits = record {
      opens = fitting.opens;
      run = same_run setups until.setups history.opening first.earlier between.0 (before_reload so_far exports) between.1;
      in_force = then_setup;
      cached = refl;
      notes_are = λ bytes e. cc;
    }

    as_earlier : HoldsAsEarlier history exports (length it.history.done) t
    as_earlier = record {
      later = first.later;
      earlier = first.earlier;
      noted_are = first.done_is;
      entries_are = lens;
      s = u;
      fits = fits;
      same = alike_hold_the_same until it.history u t fits known.fits (record { opening_is = sym known.opening_is; setup_is = same_until })
          (all_of IsOwn IsServed first.earlier (λ d is. is.rerun.served) (all_back IsOwn first.later first.earlier (subst (AllByRecursion IsOwn) first.done_is are_own)))
          (served_of it.history.done known.rerun) first.is_match.alike;
    }

pub front_is_earlier : FrontIsEarlier
front_is_earlier history journal found s t setup life front places it = as_earlier history journal found s t setup life places it front

-- ---- the whole journal

module _ (history : History) (journal : List Segment) (s t : Held) (setup : Setup) (life : IsLife history journal s) (places : setup.places ≡ s.setup.places) (it : HasRecovered setup history.opening journal t) where
  abbrev all_setups : ℕ → Setup
  all_setups = setups history journal journal s t setup life places it

  all_known : Knows setup history.opening journal it.unfinished it.history t it.progress
  all_known = known history journal journal s t setup life places it

  all : (all_known.rest ≡ []) × IsMatch setup all_setups it.history.setups journal (noted history.done) it.history.done
  all = match_all setup all_setups it.history.setups journal all_known.rest (noted history.done) it.history.done (are_own history journal journal s t setup life places it) all_known.rerun
      (segments history journal journal s t setup life places it) all_known.cut (is_left all_known.rest it.progress it.between all_known.rest_is).none_whole

  all_lens : length (noted history.done) ≡ length it.history.done
  all_lens = alike_length (noted history.done) it.history.done all.1.alike

  at_last : exporting (exports_after setup.exports journal) setup ≡ s.setup
  at_last = same_setups (exporting (exports_after setup.exports journal) setup) s.setup places (life.in_force setup.exports)

  setup_is : (n : ℕ) → all_setups n ≡ it.history.setups n
  setup_is n = by_order n (length (noted history.done)) (λ below. all.1.same n (omega (arith, below, all_lens)))
      (λ later. at_end history journal journal s t setup life places it n later ∙ sym at_last ∙ sym (all_known.last n (omega (arith, later, all_lens))))

  holds_the_same : HoldTheSame s t
  holds_the_same = alike_hold_the_same (noted_history history) it.history s t (fitting history journal journal s t setup life places it) all_known.fits
      (record { opening_is = sym all_known.opening_is; setup_is = setup_is }) (noted_are_served history.done) (served_of it.history.done all_known.rerun) all.1.alike

  nothing_left : it.unfinished ≡ 0
  nothing_left = sym all_known.unfinished_is ∙ ap length all.0

pub recovery_is_exact : RecoveryIsExact
recovery_is_exact history journal s t setup life places it = (nothing_left history journal s t setup life places it, holds_the_same history journal s t setup life places it)
