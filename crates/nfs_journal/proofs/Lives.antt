-- Over any number of lives the journal is that of one history.
use Rattle.std.proofs.Common.{inl, inr, suc, zero, ◌≡◌, ℕ, ◌+◌, ◌<◌, ◌≤◌, List, [], ◌∷◌, ◌++◌, length, refl, sym, ap, subst, ◌∙◌, append_assoc, arith}
use Rattle.std.specs.List.{AllByRecursion}
use Rattle.std.proofs.lemmas.List.{length-append}
use Rattle.nfs_exports.specs.declared.export_table.Export.{Export}
use Rattle.nfs_journal.proofs.Matching.{IsOwn, all_back, all_of, fit_alike, journal_append}
use Rattle.nfs_journal.proofs.Recovered.{are, are_own, first, front_is_earlier, known, recovery_is_exact, setups}
use Rattle.nfs_journal.proofs.Segments.{Knows, MatchesFront, after_reload, before_reload, by_order, same_segments}
use Rattle.nfs_journal.specs.Entries.{FitsEntry}
use Rattle.nfs_journal.specs.Lives.{IsLived, IsOneHistory, LivesAreOneHistory, NextHoldsEarlier, NextHoldsTheSame, history_of}
use Rattle.nfs_journal.specs.Segments.{AppendsTo, AreSegments, IsFront, Segment, exports_after, segment_of, without_last}
use Rattle.nfs_server.proofs.Feeding.{all_append}
use Rattle.nfs_server.specs.Entries.{journal_text}
use Rattle.nfs_server.specs.Events.{Done}
use Rattle.nfs_server.specs.Fits.{Held, History, Fits, exporting, reloaded}
use Rattle.nfs_server.specs.Steps.{Setup, State}

-- ---- more entries

module _ (setup : Setup) (setups others : ℕ → Setup) (own done : List Done) (before left : List Segment) (exports : List (List Export))
    (stay : (n : ℕ) → n < length done → others n ≡ setups n) (from_there : (n : ℕ) → length done ≤ n → others n ≡ exporting exports setup) (are : AreSegments setup setups before done) where
  -- they are put in force
  new_segment : left ≡ segment_of exports (journal_text own) ∷ before → AreSegments setup others left (own ++ done)
  new_segment e = subst (λ j. AreSegments setup others j (own ++ done)) (sym e)
      (own, done, refl, refl, λ n later below. from_there n later, same_segments setup setups others before done stay are)

  -- they stay
  old_segment : (last : List ℕ) (older : List Segment) → before ≡ segment_of exports last ∷ older → left ≡ segment_of exports (last ++ journal_text own) ∷ older
      → AreSegments setup others left (own ++ done)
  old_segment last older e f =
      let a : AreSegments setup setups (segment_of exports last ∷ older) done = subst (λ j. AreSegments setup setups j done) e are in
      let len : length done ≡ length a.0 + length a.1 = ap length a.2 ∙ length-append a.0 a.1 in
      subst (λ j. AreSegments setup others j (own ++ done)) (sym f) (
        own ++ a.0,
        a.1,
        ap (λ ds. own ++ ds) a.2 ∙ sym (append_assoc own a.0 a.1),
        ap (λ t. t ++ journal_text own) a.3 ∙ sym (journal_append own a.0),
        λ n later below. by_order n (length done) (λ less. stay n less ∙ a.4 n later less) (from_there n),
        same_segments setup setups others older a.1 (λ n less. stay n (omega (arith, less, len))) a.5,
      )

  appended : AppendsTo before exports (journal_text own) left → AreSegments setup others left (own ++ done)
  appended (inl e) = new_segment e
  appended (inr more) = old_segment more.0 more.1 more.2 more.3

in_force_last : (before left : List Segment) (exports any : List (List Export)) (bytes : List ℕ) → AppendsTo before exports bytes left → exports_after any left ≡ exports
in_force_last before left exports any bytes (inl e) = ap (exports_after any) e
in_force_last before left exports any bytes (inr more) = ap (exports_after any) more.3

-- ---- one life more

module _ (opening : State) (before found left : List Segment) (was s : Held) (setup : Setup) (one : IsOneHistory opening before was) (front : IsFront found before) (places : setup.places ≡ was.setup.places) (lived : IsLived setup opening found left s) where
  abbrev history : History
  history = history_of opening one.setups one.done one.lasting

  abbrev again : History
  again = lived.begun.history

  abbrev anew : History
  anew = reloaded again setup.exports

  abbrev it : Knows setup opening found lived.begun.unfinished again lived.recovered lived.begun.progress
  it = known history before found was lived.recovered setup one.life places lived.begun

  matched : MatchesFront setup (setups history before found was lived.recovered setup one.life places lived.begun) again.setups found it.rest (are history before found was lived.recovered setup one.life places lived.begun) again.done
  matched = first history before found was lived.recovered setup one.life places lived.begun front

  again_fit : AllByRecursion FitsEntry again.done
  again_fit = fit_alike matched.earlier again.done matched.is_match.alike
      (all_of IsOwn FitsEntry matched.earlier (λ d is. is.fits)
      (all_back IsOwn matched.later matched.earlier (subst (AllByRecursion IsOwn) matched.done_is (are_own history before found was lived.recovered setup one.life places lived.begun))))
      it.rerun

  own_setup : (n : ℕ) → length again.done ≤ n → anew.setups n ≡ setup
  own_setup n later = after_reload again setup.exports (exporting (exports_after setup.exports found) setup) n later (it.last n later)

  setup_is : setup ≡ s.setup
  setup_is = sym (own_setup (length (lived.own ++ again.done)) (omega (arith, length-append lived.own again.done))) ∙ lived.fits.in_force (length (lived.own ++ again.done)) (omega arith)

  whole : AreSegments setup again.setups (without_last lived.begun.unfinished found) again.done
  whole = subst (λ n. AreSegments setup again.setups (without_last n found) again.done) it.unfinished_is matched.is_match.segments

  one_more : IsOneHistory opening left s
  one_more = record {
    setups = anew.setups;
    done = lived.own ++ again.done;
    lasting = lived.lasting;
    life = record {
      fits = subst (λ start. Fits (history_of start anew.setups (lived.own ++ again.done) lived.lasting) s) it.opening_is lived.fits;
      entries = all_append FitsEntry lived.own again.done lived.own_fit again_fit;
      segments = subst (λ (u : Setup). AreSegments u anew.setups left (lived.own ++ again.done)) setup_is
          (appended setup again.setups anew.setups lived.own again.done (without_last lived.begun.unfinished found) left setup.exports (before_reload again setup.exports) own_setup whole lived.left_is);
      in_force = λ exports. in_force_last (without_last lived.begun.unfinished found) left setup.exports exports (journal_text lived.own) lived.left_is ∙ ap (λ (u : Setup). u.exports) setup_is;
    };
  }

-- ---- any number of lives

pub lives_are_one_history : LivesAreOneHistory
lives_are_one_history opening zero left s lives = record {
  setups = λ n. s.setup;
  done = [];
  lasting = [];
  life = record {
    fits = lives.1;
    entries = tt;
    segments = subst (λ j. AreSegments s.setup (λ n. s.setup) j []) (sym lives.0) ([], [], refl, refl, λ n later below. refl, refl);
    in_force = λ exports. ap (exports_after exports) lives.0;
  };
}
lives_are_one_history opening (suc n) left s lives =
    let one = lives_are_one_history opening n lives.0 lives.1 lives.2 in
    one_more opening lives.0 lives.3 left lives.1 s lives.5 one lives.4 lives.6 lives.7

pub next_holds_the_same : NextHoldsTheSame
next_holds_the_same opening n left s t setup lives places begun =
    let one = lives_are_one_history opening n left s lives in
    recovery_is_exact (history_of opening one.setups one.done one.lasting) left s t setup one.life places begun

pub next_holds_earlier : NextHoldsEarlier
next_holds_earlier opening n left found s t setup lives front places begun =
    let one = lives_are_one_history opening n left s lives in
    (one, front_is_earlier (history_of opening one.setups one.done one.lasting) left found s t setup one.life front places begun)
