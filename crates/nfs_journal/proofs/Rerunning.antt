-- A journal is run again entry by entry.
use Rattle.std.proofs.Common.{inr, ◌≡◌, ℕ, ◌+◌, ◌-◌, ◌≤◌, false, List, [], ◌∷◌, ◌++◌, map, reverse, take, drop, length, Option, refl, sym, ap, subst, ◌∙◌, append_assoc, append-nil, add-zero, zero-add, add_assoc, arith}
use Rattle.std.proofs.lemmas.List.{map-append, reverse-append, length-append, length-drop, take-append-drop, take_all}
use Rattle.std.proofs.lemmas.Bool.{true≢false}
use Rattle.nfs_inodes.proofs.Lists.{same_some}
use Rattle.std.specs.Prelude.{Result, Ok, Err, OnOk, IfErr, None, is_none}
use Rattle.nfs_journal.specs.Entries.{AreWords}
use Rattle.nfs_server.specs.Entries.{entry_of, entry_text}
use Rattle.nfs_journal.specs.Recovering.{Advances, AllAreCounted, Breaks, BreaksOn, ChunksAreOne, Fails, FailsNext, HasRerun, IsOther, IsRerun, Position, Reruns, RunsOn, Stops}
use Rattle.nfs_journal.specs.declared.broken_entry.BrokenEntry.{BrokenEntry}
use Rattle.nfs_journal.specs.declared.recovery.RecoveryFault.{RecoveryFault}
use Rattle.nfs_journal.specs.declared.recovery.RecoveryFault.TheVariants.{BadEntry, OtherReply, Memory}
use Rattle.nfs_rpc.proofs.Streams.{records_grow}
use Rattle.nfs_rpc.specs.Progress.{Progress, Moves, Unfinished}
use Rattle.nfs_rpc.specs.Records.{AreRecords}
use Rattle.nfs_rpc.specs.declared.framer.Stage.TheVariants.{Ready}
use Rattle.nfs_server.proofs.Feeding.{all_append, records_append}
use Rattle.nfs_server.proofs.Going.{Handles}
use Rattle.nfs_server.proofs.OneRecord.{is_cut, whole}
use Rattle.nfs_server.specs.Events.{Event, silence}
use Rattle.nfs_server.specs.Fits.{Held, Fits}
use Rattle.nfs_server.specs.InMemory.{reported}
use Rattle.nfs_server.specs.Retransmissions.{is_refused}
use Rattle.nfs_server.specs.Runs.{longer}
use Rattle.nfs_server.specs.Taking.{BeginsAnew}
use Rattle.nfs_server.specs.declared.audit_line.AuditLine.{AuditLine}
use Rattle.nfs_xdr.proofs.Knowing.{taken_on}

-- what is handled is run again where the reply is that of the entry
pub reruns : (event : Event) (reply shown bytes : List ℕ) (line : Option AuditLine) (old new : Held) → Handles old event (reported shown line) new → shown ≡ reply
    → entry_text event reply ≡ bytes → AreWords event reply → is_refused line ≡ false → Reruns bytes old new
reruns event reply shown bytes line old new handles same spelled words served history fits =
    let h = handles history fits in (
      record { event = event; choice = h.0; answer = reported shown line },
      ap (entry_text event) same ∙ spelled,
      record { served = served; answered = refl; words = subst (AreWords event) (sym same) words },
      h.1.1,
    )

-- ---- one is not

module _ (event : Event) (reply shown bytes : List ℕ) (line : Option AuditLine) (old new : Held) (spelled : entry_text event reply ≡ bytes) where
  -- what is handled is answered otherwise, or refused
  pub fails : (fault : RecoveryFault) → Handles old event (reported shown line) new → IsOther fault shown reply line → Fails fault bytes old new
  fails BadEntry handles other = absurd other
  fails OtherReply handles other = λ history fits.
      let h = handles history fits in
      (record { event = event; choice = h.0; answer = reported shown line }, reply, spelled, other.0, λ e. other.1 (same_some e), h.1.1)
  fails Memory handles other = λ history fits.
      let h = handles history fits in
      (record { event = event; choice = h.0; answer = reported shown line }, reply, spelled, other, h.1.1)

  -- or not at all
  pub fails_silent : Handles old event silence new → Fails OtherReply bytes old new
  fails_silent handles history fits =
      let h = handles history fits in
      (record { event = event; choice = h.0; answer = silence }, reply, spelled, refl, λ e. true≢false (ap is_none e), h.1.1)

-- what holds of a fault gives something else of it
pub of_fault : {X E : Type 0} (P Q : E → Type 0) (r : Result X E) → IfErr r P → ((e : E) → P e → Q e) → IfErr r Q
of_fault P Q (Ok x) p f = tt
of_fault P Q (Err e) p f = f e p

-- ---- chunks

-- no entry is whole
pub runs_none : (bytes : List ℕ) (unfinished : ℕ) (s : Held) (from to : Progress) → Moves from bytes to → RunsOn bytes unfinished 0 (unfinished + length bytes) s s from to
runs_none bytes unfinished s from to moves history fits text u len = record {
  done = [];
  rest = text ++ bytes;
  cut = refl;
  rerun = tt;
  fits = fits;
  rest_is = moves text u;
  entries_are = refl;
  unfinished_is = length-append text bytes ∙ ap (λ k. k + length bytes) len;
}

-- one is
pub runs_one : (bytes : List ℕ) (unfinished : ℕ) (old new : Held) (from mid to : Progress) → Moves from bytes mid → mid.stage ≡ Ready → Reruns mid.content old new → BeginsAnew to
    → RunsOn bytes unfinished 1 0 old new from to
runs_one bytes unfinished old new from mid to moves ready reruns anew history fits text u len =
    let r = reruns history fits in
    let w = whole mid (text ++ bytes) ready (moves text u) in
    record {
      done = r.0 ∷ [];
      rest = [];
      cut = subst (λ entry. AreRecords (text ++ bytes) (entry ∷ []) []) (sym r.1) (is_cut mid.content (text ++ bytes) [] (text ++ bytes) w.1 (sym (append-nil (text ++ bytes))));
      rerun = (r.2, tt);
      fits = r.3;
      rest_is = anew.1;
      entries_are = refl;
      unfinished_is = refl;
    }

pub runs_on : (xs ys : List ℕ) (a b c n m : ℕ) (old mid new : Held) (from between to : Progress) → RunsOn xs a n b old mid from between → RunsOn ys b m c mid new between to
    → RunsOn (xs ++ ys) a (n + m) c old new from to
runs_on xs ys a b c n m old mid new from between to before then history fits text u len =
    let f = before history fits text u len in
    let g = then (longer history f.done) f.fits f.rest f.rest_is f.unfinished_is in
    let entries : map entry_of (reverse (g.done ++ f.done)) ≡ map entry_of (reverse f.done) ++ map entry_of (reverse g.done) =
    ap (map entry_of) (reverse-append g.done f.done) ∙ map-append entry_of (reverse f.done) (reverse g.done) in
    record {
      done = g.done ++ f.done;
      rest = g.rest;
      cut = subst (λ es. AreRecords (text ++ (xs ++ ys)) es g.rest) (sym entries) (subst (λ t. AreRecords t (map entry_of (reverse f.done) ++ map entry_of (reverse g.done)) g.rest) (append_assoc text xs ys)
          (records_append ((text ++ xs) ++ ys) (map entry_of (reverse f.done)) (map entry_of (reverse g.done)) (f.rest ++ ys) g.rest (records_grow (text ++ xs) (map entry_of (reverse f.done)) f.rest ys f.cut) g.cut));
      rerun = all_append IsRerun g.done f.done g.rerun f.rerun;
      fits = subst (λ d. Fits (record history { done = d }) new) (sym (append_assoc g.done f.done history.done)) g.fits;
      rest_is = g.rest_is;
      entries_are = length-append g.done f.done ∙ omega (arith, f.entries_are, g.entries_are);
      unfinished_is = g.unfinished_is;
    }

-- ---- a chunk

module _ (chunk : List ℕ) (i a b n : ℕ) (old mid : Held) (from between : Progress) (before : RunsOn (take i chunk) a n b old mid from between) where
  pub takes_on : (k m c : ℕ) (new : Held) (to : Progress) → RunsOn (take k (take (length chunk - i) (drop i chunk))) b m c mid new between to → RunsOn (take (i + k) chunk) a (n + m) c old new from to
  takes_on k m c new to one =
      subst (λ t. RunsOn t a (n + m) c old new from to) (taken_on chunk i k) (runs_on (take i chunk) (take k (take (length chunk - i) (drop i chunk))) a b c n m old mid new from between to before one)

-- what both hold of an answer that is no fault gives a third
pub both_ok : {X E : Type 0} (A B C : Type 0) (r : Result X E) → OnOk r A → OnOk r B → (A → B → C) → OnOk r C
both_ok A B C (Ok x) a b f = f a b
both_ok A B C (Err e) a b f = tt

-- ---- chunks that break off

-- nothing of it is run again
pub breaks_now : (fault : RecoveryFault) (bytes : List ℕ) (before : ℕ) (old new : Held) (from : Progress) → ((text : List ℕ) → Unfinished text from → Breaks fault from.limit (text ++ bytes) old new)
    → BreaksOn fault bytes before 0 (before + length bytes) old new from
breaks_now fault bytes before old new from breaks history fits text u len = record {
  done = [];
  rest = text ++ bytes;
  cut = refl;
  rerun = tt;
  between = old;
  fits = fits;
  breaks = breaks text u;
  entries_are = refl;
  left_is = length-append text bytes ∙ ap (λ k. k + length bytes) len;
}

next_breaks : (fault : RecoveryFault) (limit : ℕ) (bytes : List ℕ) (old new : Held) → FailsNext fault bytes old new → Breaks fault limit bytes old new
next_breaks BadEntry limit bytes old new f = inr f
next_breaks OtherReply limit bytes old new f = f
next_breaks Memory limit bytes old new f = inr f

-- the record that is whole fails as an entry
pub breaks_one : (fault : RecoveryFault) (chunk : List ℕ) (used before : ℕ) (old new : Held) (from mid : Progress) → Moves from (take used chunk) mid → mid.stage ≡ Ready → Fails fault mid.content old new
    → BreaksOn fault chunk before 0 (before + length chunk) old new from
breaks_one fault chunk used before old new from mid moves ready failed = breaks_now fault chunk before old new from
    (λ text u. next_breaks fault from.limit (text ++ chunk) old new (
      mid.content,
      drop used chunk,
      record {
        text = text ++ take used chunk;
        encoded = (whole mid (text ++ take used chunk) ready (moves text u)).1;
        bytes_are = ap (λ t. text ++ t) (sym (take-append-drop used chunk)) ∙ sym (append_assoc text (take used chunk) (drop used chunk));
      },
      failed,
    ))

breaks_after : (fault : RecoveryFault) (xs ys : List ℕ) (a b n m left : ℕ) (old mid new : Held) (from between : Progress) → RunsOn xs a n b old mid from between → between.limit ≡ from.limit
    → BreaksOn fault ys b m left mid new between → BreaksOn fault (xs ++ ys) a (n + m) left old new from
breaks_after fault xs ys a b n m left old mid new from between before limit then history fits text u len =
    let f = before history fits text u len in
    let g = then (longer history f.done) f.fits f.rest f.rest_is f.unfinished_is in
    let entries : map entry_of (reverse (g.done ++ f.done)) ≡ map entry_of (reverse f.done) ++ map entry_of (reverse g.done) =
    ap (map entry_of) (reverse-append g.done f.done) ∙ map-append entry_of (reverse f.done) (reverse g.done) in
    record {
      done = g.done ++ f.done;
      rest = g.rest;
      cut = subst (λ es. AreRecords (text ++ (xs ++ ys)) es g.rest) (sym entries) (subst (λ t. AreRecords t (map entry_of (reverse f.done) ++ map entry_of (reverse g.done)) g.rest) (append_assoc text xs ys)
          (records_append ((text ++ xs) ++ ys) (map entry_of (reverse f.done)) (map entry_of (reverse g.done)) (f.rest ++ ys) g.rest (records_grow (text ++ xs) (map entry_of (reverse f.done)) f.rest ys f.cut) g.cut));
      rerun = all_append IsRerun g.done f.done g.rerun f.rerun;
      between = g.between;
      fits = subst (λ d. Fits (record history { done = d }) g.between) (sym (append_assoc g.done f.done history.done)) g.fits;
      breaks = subst (λ k. Breaks fault k g.rest g.between new) limit g.breaks;
      entries_are = length-append g.done f.done ∙ omega (arith, f.entries_are, g.entries_are);
      left_is = g.left_is;
    }

-- ---- positions

-- what the end of a part of the bytes is, from what is unfinished then
pub counted_end : (end unfinished n later : ℕ) → later ≤ unfinished + n → (end + unfinished + n - later) + later ≡ end + unfinished + n
counted_end end unfinished n later le = omega (arith, le)

-- a part of a chunk was run again
pub advances_one : (part : List ℕ) (n entries : ℕ) (old new : Position) (from to : Held) → length part ≡ n → new.unfinished ≤ old.unfinished + n
    → RunsOn part old.unfinished entries new.unfinished from to old.progress new.progress
    → new.entries ≡ old.entries + entries → new.end ≡ old.end + old.unfinished + n - new.unfinished → new.progress.limit ≡ old.progress.limit → new.broken ≡ None → Advances part old new from to
advances_one part n entries old new from to len le runs entries_are end_is limit unbroken = record {
  entries = entries;
  runs = runs;
  entries_are = entries_are;
  bytes_are = ap (λ k. k + new.unfinished) end_is ∙ counted_end old.end old.unfinished n new.unfinished le ∙ ap (λ k. old.end + old.unfinished + k) (sym len);
  limit_stays = limit;
  unbroken = unbroken;
}

-- the first entry of a chunk is at fault
pub stops_one : (broken : BrokenEntry) (chunk : List ℕ) (old new : Position) (from to : Held)
    → BreaksOn broken.fault chunk old.unfinished 0 (old.unfinished + length chunk) from to old.progress → new.entries ≡ old.entries → new.end ≡ old.end
    → broken.entry ≡ old.entries + 1 → broken.offset ≡ old.end → Stops broken chunk old new from to
stops_one broken chunk old new from to breaks entries end entry_is offset_is = record {
  entries = 0;
  left = old.unfinished + length chunk;
  breaks = breaks;
  entries_are = entries ∙ sym (add-zero old.entries);
  bytes_are = ap (λ k. k + (old.unfinished + length chunk)) end ∙ sym (add_assoc old.end old.unfinished (length chunk));
  entry_is = entry_is ∙ ap (λ k. k + 1) (sym entries);
  offset_is = offset_is ∙ sym end;
}

-- nothing has come yet
pub advances_none : (at : Position) (s : Held) → at.broken ≡ None → Advances [] at at s s
advances_none at s unbroken = record {
  entries = 0;
  runs = subst (λ k. RunsOn [] at.unfinished 0 k s s at.progress at.progress) (add-zero at.unfinished)
      (runs_none [] at.unfinished s at.progress at.progress (λ text u. subst (λ t. Unfinished t at.progress) (sym (append-nil text)) u));
  entries_are = sym (add-zero at.entries);
  bytes_are = sym (add-zero (at.end + at.unfinished));
  limit_stays = refl;
  unbroken = unbroken;
}

summed : (a b c total mid first : ℕ) → a + b ≡ c → mid ≡ first + a → total ≡ mid + b → total ≡ first + c
summed a b c total mid first p q r = omega (arith, p, q, r)

module _ (chunk : List ℕ) (i : ℕ) (old mid new : Position) (from between to : Held) (before : Advances (take i chunk) old mid from between) (within : i ≤ length chunk) where
  left_is : take (length chunk - i) (drop i chunk) ≡ drop i chunk
  left_is = take_all (length chunk - i) (drop i chunk) (omega (arith, length-drop i chunk))

  -- some more of it
  pub advances_on : (n : ℕ) → n ≤ length (take (length chunk - i) (drop i chunk)) → Advances (take n (take (length chunk - i) (drop i chunk))) mid new between to → Advances (take (i + n) chunk) old new from to
  advances_on n le then = record {
    entries = before.entries + then.entries;
    runs = takes_on chunk i old.unfinished mid.unfinished before.entries from between old.progress mid.progress before.runs n then.entries new.unfinished to new.progress then.runs;
    entries_are = then.entries_are ∙ omega (arith, before.entries_are);
    bytes_are = summed (length (take i chunk)) (length (take n (take (length chunk - i) (drop i chunk)))) (length (take (i + n) chunk)) (new.end + new.unfinished) (mid.end + mid.unfinished) (old.end + old.unfinished)
        (sym (length-append (take i chunk) (take n (take (length chunk - i) (drop i chunk)))) ∙ ap length (taken_on chunk i n)) before.bytes_are then.bytes_are;
    limit_stays = then.limit_stays ∙ before.limit_stays;
    unbroken = then.unbroken;
  }

  -- an entry of the rest is at fault
  pub stops_on : (broken : BrokenEntry) → Stops broken (take (length chunk - i) (drop i chunk)) mid new between to → Stops broken chunk old new from to
  stops_on broken then =
      let all : take i chunk ++ take (length chunk - i) (drop i chunk) ≡ chunk = ap (λ t. take i chunk ++ t) left_is ∙ take-append-drop i chunk in
      record {
        entries = before.entries + then.entries;
        left = then.left;
        breaks = subst (λ t. BreaksOn broken.fault t old.unfinished (before.entries + then.entries) then.left from to old.progress) all
            (breaks_after broken.fault (take i chunk) (take (length chunk - i) (drop i chunk)) old.unfinished mid.unfinished before.entries then.entries then.left from between to old.progress mid.progress before.runs before.limit_stays then.breaks);
        entries_are = then.entries_are ∙ omega (arith, before.entries_are);
        bytes_are = summed (length (take i chunk)) (length (take (length chunk - i) (drop i chunk))) (length chunk) (new.end + then.left) (mid.end + mid.unfinished) (old.end + old.unfinished)
            (sym (length-append (take i chunk) (take (length chunk - i) (drop i chunk))) ∙ ap length all) before.bytes_are then.bytes_are;
        entry_is = then.entry_is;
        offset_is = then.offset_is;
      }

-- all of it was run again
pub advances_all : (chunk : List ℕ) (i : ℕ) (old new : Position) (from to : Held) → length chunk ≤ i → Advances (take i chunk) old new from to → Advances chunk old new from to
advances_all chunk i old new from to le a = subst (λ t. Advances t old new from to) (take_all i chunk le) a

pub chunks_are_one : ChunksAreOne
chunks_are_one xs ys a b c from between to first then = record {
  entries = first.entries + then.entries;
  runs = runs_on xs ys a.unfinished b.unfinished c.unfinished first.entries then.entries from between to a.progress b.progress c.progress first.runs then.runs;
  entries_are = then.entries_are ∙ omega (arith, first.entries_are);
  bytes_are = summed (length xs) (length ys) (length (xs ++ ys)) (c.end + c.unfinished) (b.end + b.unfinished) (a.end + a.unfinished) (sym (length-append xs ys)) first.bytes_are then.bytes_are;
  limit_stays = then.limit_stays ∙ first.limit_stays;
  unbroken = then.unbroken;
}

pub all_are_counted : AllAreCounted
all_are_counted offset bytes old new from to history fresh all fits =
    let entries : all.entries ≡ new.entries = sym (all.entries_are ∙ ap (λ k. k + all.entries) fresh.entries ∙ zero-add all.entries) in
    subst (λ n. HasRerun history bytes n new.unfinished to new.progress) entries (all.runs history fits [] fresh.begins (sym fresh.unfinished))
