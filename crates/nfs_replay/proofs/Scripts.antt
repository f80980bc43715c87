-- Words that are read one after another, and lines that are run so.
use Rattle.std.proofs.Common.{◌≡◌, ℕ, suc, ◌+◌, ◌-◌, ◌^◌, ◌<◌, Bool, true, false, List, [], ◌∷◌, ◌++◌, length, Option, Some, None, Result, Ok, Err, IsErr, IsErrAnd, refl, sym, ap, subst, ◌∙◌, append_assoc, append-nil}
use Rattle.std.specs.Prelude.{◌||◌, IfErr, if◌then◌else◌}
use Rattle.std.proofs.lemmas.Bool.{false≢true}
use Rattle.nfs_xdr.proofs.Finding.{ok_is}
use Rattle.nfs_xdr.specs.Reading.{◌>>=◌}
use Rattle.nfs_text.specs.Lines.{lines}
use Rattle.nfs_inodes.specs.Tree.{Tree}
use Rattle.nfs_load.proofs.Loadings.{number_is}
use Rattle.nfs_load.specs.Loadings.{number_after}
use Rattle.nfs_ask.specs.ScriptFaults.{IsOfMachine}
use Rattle.nfs_ask.specs.declared.script_fault.LineCause.{LineCause}
use Rattle.nfs_ask.specs.declared.script_fault.ScriptFault.{ScriptFault}
use Rattle.nfs_ask.specs.declared.script_fault.ScriptFault.TheVariants as script
use Rattle.nfs_ask.specs.declared.fault.AskFault.{AskFault}
use Rattle.nfs_replay.specs.Orders.{Asked, Nothing, Attach, Feed, Detach, Call, Ask, Again, Show, has_again, is_again, order_in}
use Rattle.nfs_replay.specs.Scripts.{AllRun, AreRun, AskForNone, FaultsBy, HasCause, IsCauseOf, IsRefused, IsReported, IsRun, Runs, SayNone, Sends, StopsBy, bytes_in, fault_of, onto, word_in, xid_of}
use Rattle.nfs_replay.specs.Sending.{Sent, kept_of}
use Rattle.nfs_replay.specs.declared.queued_call.QueuedCall.{QueuedCall}
use Rattle.nfs_replay.specs.declared.sent.SentRecords.{SentRecords}
use Rattle.nfs_replay.specs.declared.fault.RunFault.{RunFault}
use Rattle.nfs_replay.specs.declared.line_fault.LineFault.{LineFault}
use Rattle.nfs_replay.specs.declared.line_fault.LineFault.TheVariants.{OfLine, OfRun}

-- ---- words

one_more : (word rest : Result (List ℕ) LineCause) (before new : List ℕ) → onto before word ≡ Ok new
    → onto new rest ≡ onto before (word >>= λ first. rest >>= λ others. Ok (first ++ others))
one_more (Err cause) rest before new e = absurd cc
one_more (Ok first) (Err cause) before new e = refl
one_more (Ok first) (Ok others) before new e = ap (λ (b : List ℕ). Ok (b ++ others)) (sym (ok_is (before ++ first) new e)) ∙ ap Ok (append_assoc before first others)

-- the next word was read
pub word_more : (t : Tree) (all left rest : List (List ℕ)) (word before new : List ℕ) → onto before (bytes_in t left) ≡ bytes_in t all → left ≡ word ∷ rest
    → onto before (word_in t word) ≡ Ok new → onto new (bytes_in t rest) ≡ bytes_in t all
word_more t all left rest word before new so next e = one_more (word_in t word) (bytes_in t rest) before new e ∙ ap (λ ws. onto before (bytes_in t ws)) (sym next) ∙ so

cause_first : (word rest : Result (List ℕ) LineCause) (before : List ℕ) (cause : LineCause) → word ≡ Err cause
    → onto before (word >>= λ first. rest >>= λ others. Ok (first ++ others)) ≡ Err cause
cause_first (Ok first) rest before cause e = absurd cc
cause_first (Err other) rest before cause e = e

-- the next word has a cause
pub word_fails : (t : Tree) (all left rest : List (List ℕ)) (word before : List ℕ) (e : LineFault) → onto before (bytes_in t left) ≡ bytes_in t all → left ≡ word ∷ rest
    → IsCauseOf (word_in t word) e → IsCauseOf (bytes_in t all) e
word_fails t all left rest word before (OfRun e) so next has = has
word_fails t all left rest word before (OfLine cause) so next has =
    sym so ∙ ap (λ ws. onto before (bytes_in t ws)) next ∙ cause_first (word_in t word) (bytes_in t rest) before cause has

-- no word is left
pub words_end : (t : Tree) (all left : List (List ℕ)) (before : List ℕ) → onto before (bytes_in t left) ≡ bytes_in t all → left ≡ [] → bytes_in t all ≡ Ok before
words_end t all left before so none = sym so ∙ ap (λ ws. onto before (bytes_in t ws)) none ∙ ap Ok (append-nil before)

-- ---- faults

-- the fault of the machine is handed on
pub by_machine : {T : Type 0} (Cause : LineCause → Type 0) (result : Result T LineFault) (e : RunFault) → IsErr result × IsErrAnd result (λ it. it ≡ OfRun e) → IfErr result (FaultsBy Cause)
by_machine Cause (Ok x) e h = absurd (false≢true h.0)
by_machine Cause (Err it) e h = subst (FaultsBy Cause) (sym h.1) tt

-- the fault of a line is handed on
pub by_line : {T : Type 0} (Cause : LineCause → Type 0) (result : Result T LineFault) (e : LineFault) → IsErr result × IsErrAnd result (λ it. it ≡ e) → FaultsBy Cause e → IfErr result (FaultsBy Cause)
by_line Cause (Ok x) e h has = absurd (false≢true h.0)
by_line Cause (Err it) e h has = subst (FaultsBy Cause) (sym h.1) has

machine_stops : (text : List ℕ) (e : ScriptFault) → IsOfMachine e → StopsBy text e
machine_stops text (script.Line line cause) of = absurd of
machine_stops text script.Write of = tt
machine_stops text script.Memory of = tt

pub stopped_by_machine : {T : Type 0} (text : List ℕ) (result : Result T ScriptFault) → IsErr result × IsErrAnd result IsOfMachine → IfErr result (StopsBy text)
stopped_by_machine text (Ok x) h = absurd (false≢true h.0)
stopped_by_machine text (Err it) h = machine_stops text it h.1

pub stopped_so : {T : Type 0} (text : List ℕ) (result : Result T ScriptFault) (e : ScriptFault) → IsErr result × IsErrAnd result (λ it. it ≡ e) → StopsBy text e → IfErr result (StopsBy text)
stopped_so text (Ok x) e h stops = absurd (false≢true h.0)
stopped_so text (Err it) e h stops = subst (StopsBy text) (sym h.1) stops

-- ---- lines

-- one line more is run
pub run_more : (before : List (Option Sent)) (lines : List (List ℕ)) (sents : List (Option Sent)) (line : List ℕ) (sent : Option Sent)
    → AreRun before lines sents → IsRun (before ++ sents) line sent → AreRun before (lines ++ line ∷ []) (sents ++ sent ∷ [])
run_more before [] [] line sent all is = (subst (λ b. IsRun b line sent) (append-nil before) is, tt)
run_more before [] (one ∷ sents) line sent all is = absurd all
run_more before (first ∷ lines) [] line sent all is = absurd all
run_more before (first ∷ lines) (one ∷ sents) line sent all is =
    (all.0, run_more (before ++ one ∷ []) lines sents line sent all.1 (subst (λ b. IsRun b line sent) (sym (append_assoc before (one ∷ []) sents)) is))

-- each line sent a record or none
pub each_sent : (before : List (Option Sent)) (lines : List (List ℕ)) (sents : List (Option Sent)) → AreRun before lines sents → length sents ≡ length lines
each_sent before [] [] all = refl
each_sent before [] (one ∷ sents) all = absurd all
each_sent before (first ∷ lines) [] all = absurd all
each_sent before (first ∷ lines) (one ∷ sents) all = ap suc (each_sent (before ++ one ∷ []) lines sents all.1)

-- ---- what is kept

-- it is what the lines so far sent, or else none of those left asks for it
pub record Accounts (kept : SentRecords) (sents : List (Option Sent)) (left : List (List ℕ)) : Type 0 where
  pub kept_so : kept.is_kept ≡ true → kept_of kept ≡ sents
  pub none_again : kept.is_kept ≡ false → has_again left ≡ false

none_of : (first others : Bool) → first || others ≡ false → (first ≡ false) × (others ≡ false)
none_of true others e = absurd (false≢true (sym e))
none_of false others e = (refl, e)

-- what other lines ask for doesn't depend on it
other_sends : (line : ℕ) (one two : List (Option Sent)) (o : Option Asked) (sent : Option Sent) → is_again o ≡ false → Sends line one o sent → Sends line two o sent
other_sends line one two None sent none is = is
other_sends line one two (Some Nothing) sent none is = is
other_sends line one two (Some (Attach conn addr)) sent none is = is
other_sends line one two (Some (Feed conn moment left)) sent none is = is
other_sends line one two (Some (Detach conn)) sent none is = is
other_sends line one two (Some (Call addr moment left)) sent none is = is
other_sends line one two (Some (Ask addr moment left)) sent none is = is
other_sends line one two (Some (Again number moment addr)) sent none is = absurd (false≢true (sym none))
other_sends line one two (Some Show) sent none is = is

other_fails : (line : ℕ) (one two : List (Option Sent)) (o : Option Asked) (e : LineFault) → is_again o ≡ false → FaultsBy (HasCause line one o) e → FaultsBy (HasCause line two o) e
other_fails line one two None e none has = has
other_fails line one two (Some Nothing) e none has = has
other_fails line one two (Some (Attach conn addr)) e none has = has
other_fails line one two (Some (Feed conn moment left)) e none has = has
other_fails line one two (Some (Detach conn)) e none has = has
other_fails line one two (Some (Call addr moment left)) e none has = has
other_fails line one two (Some (Ask addr moment left)) e none has = has
other_fails line one two (Some (Again number moment addr)) e none has = absurd (false≢true (sym none))
other_fails line one two (Some Show) e none has = has

-- so a line does what it does over all that was sent
pub accounted_sends : (line : ℕ) (is_kept : Bool) (kept sents : List (Option Sent)) (o : Option Asked) (sent : Option Sent)
    → (is_kept ≡ true → kept ≡ sents) → (is_kept ≡ false → is_again o ≡ false) → Sends line kept o sent → Sends line sents o sent
accounted_sends line true kept sents o sent so none is = subst (λ k. Sends line k o sent) (so refl) is
accounted_sends line false kept sents o sent so none is = other_sends line kept sents o sent (none refl) is

pub accounted_fails : (line : ℕ) (is_kept : Bool) (kept sents : List (Option Sent)) (o : Option Asked) (e : LineFault)
    → (is_kept ≡ true → kept ≡ sents) → (is_kept ≡ false → is_again o ≡ false) → FaultsBy (HasCause line kept o) e → FaultsBy (HasCause line sents o) e
accounted_fails line true kept sents o e so none has = subst (λ k. FaultsBy (HasCause line k o) e) (so refl) has
accounted_fails line false kept sents o e so none has = other_fails line kept sents o e (none refl) has

again_next : (kept : SentRecords) (sents : List (Option Sent)) (left rest : List (List ℕ)) (line : List ℕ) → left ≡ line ∷ rest → Accounts kept sents left
    → kept.is_kept ≡ false → (is_again (order_in line) ≡ false) × (has_again rest ≡ false)
again_next kept sents left rest line more account none = none_of (is_again (order_in line)) (has_again rest) (ap has_again (sym more) ∙ account.none_again none)

kept_more : (is_kept : Bool) (old new sents : List (Option Sent)) (sent : Option Sent)
    → new ≡ (if is_kept then old ++ sent ∷ [] else old) → (is_kept ≡ true → old ≡ sents) → is_kept ≡ true → new ≡ sents ++ sent ∷ []
kept_more true old new sents sent is so kept = is ∙ ap (λ k. k ++ sent ∷ []) (so refl)
kept_more false old new sents sent is so kept = absurd (false≢true kept)

-- the next line is run
pub line_run : (text : List ℕ) (past : List (List ℕ)) (sents : List (Option Sent)) (left rest : List (List ℕ)) (line : List ℕ) (count : ℕ) (kept new : SentRecords) (calls : List QueuedCall)
    → AreRun [] past sents → lines text ≡ past ++ left → left ≡ line ∷ rest → count ≡ length past → length text < 2 ^ 64 - 1 → Accounts kept sents left
    → Runs count kept (order_in line) new calls
    → (sent : Option Sent) × AreRun [] (past ++ line ∷ []) (sents ++ sent ∷ []) × Accounts new (sents ++ sent ∷ []) rest
line_run text past sents left rest line count kept new calls run all more counted few account runs =
    let number : number_after count ≡ length sents + 1 = number_is text past left count all counted few ∙ ap (λ n. n + 1) (sym (each_sent [] past sents run)) in
    let sends : Sends (length sents + 1) (kept_of kept) (order_in line) runs.sent = subst (λ n. Sends n (kept_of kept) (order_in line) runs.sent) number runs.sends in (
      runs.sent,
      run_more [] past sents line runs.sent run (accounted_sends _ kept.is_kept (kept_of kept) sents (order_in line) runs.sent account.kept_so (λ none. (again_next kept sents left rest line more account none).0) sends),
      record {
        kept_so = λ is. kept_more kept.is_kept (kept_of kept) (kept_of new) sents runs.sent runs.keeps.kept account.kept_so (sym runs.keeps.is_kept ∙ is);
        none_again = λ none. (again_next kept sents left rest line more account (sym runs.keeps.is_kept ∙ none)).1;
      },
    )

-- a line is faulty, after so many that were run
pub line_stops : (text : List ℕ) (past : List (List ℕ)) (sents : List (Option Sent)) (left rest : List (List ℕ)) (line : List ℕ) (count : ℕ) (kept : SentRecords) (found : LineFault) (reported : ScriptFault)
    → AreRun [] past sents → lines text ≡ past ++ left → left ≡ line ∷ rest → count ≡ length past → length text < 2 ^ 64 - 1 → Accounts kept sents left
    → FaultsBy (HasCause (number_after count) (kept_of kept) (order_in line)) found → IsReported found (number_after count) reported → StopsBy text reported
line_stops text past sents left rest line count kept found (script.Line number cause) run all more counted few account has so =
    let is : number_after count ≡ length past + 1 = number_is text past left count all counted few in
    let has_now : FaultsBy (HasCause (number_after count) sents (order_in line)) found =
    accounted_fails _ kept.is_kept (kept_of kept) sents (order_in line) found account.kept_so (λ none. (again_next kept sents left rest line more account none).0) has in
    record {
      before = past;
      line = line;
      after = rest;
      all_are = all ∙ ap (λ it. past ++ it) more;
      number_is = so.1 ∙ is;
      sent = sents;
      are_run = run;
      is_faulty = subst (λ n. HasCause n sents (order_in line) cause) (is ∙ ap (λ n. n + 1) (sym (each_sent [] past sents run)))
          (subst (FaultsBy (HasCause (number_after count) sents (order_in line))) so.0 has_now);
    }
line_stops text past sents left rest line count kept found script.Write run all more counted few account has so = tt
line_stops text past sents left rest line count kept found script.Memory run all more counted few account has so = tt

-- no line is left
pub all_run : (text : List ℕ) (past : List (List ℕ)) (sents : List (Option Sent)) (left : List (List ℕ)) → AreRun [] past sents → lines text ≡ past ++ left → left ≡ [] → AllRun (lines text)
all_run text past sents left run all none = (sents, subst (λ it. AreRun [] it sents) (sym (all ∙ ap (λ it. past ++ it) none ∙ append-nil past)) run)

-- ---- the words of a line

pub say_none : (t : Tree) (left : List (List ℕ)) (e : LineFault) → IsCauseOf (bytes_in t left) e → FaultsBy (SayNone left) e
say_none t left (OfLine cause) has = (t, has)
say_none t left (OfRun e) has = has

pub ask_for_none : (t : Tree) (line : ℕ) (left : List (List ℕ)) (e : AskFault) (it : LineFault) → it ≡ fault_of e → IsRefused t (xid_of line) left e → FaultsBy (AskForNone line left) it
ask_for_none t line left e (OfLine cause) so refused = (t, e, refused, sym so)
ask_for_none t line left e (OfRun r) so refused = tt
