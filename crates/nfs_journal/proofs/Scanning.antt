-- A journal is looked at entry by entry.
use Rattle.std.proofs.Common.{inr, ◌≡◌, ℕ, ◌+◌, ◌-◌, ◌≤◌, List, [], ◌∷◌, ◌++◌, take, drop, length, refl, sym, ap, subst, ◌∙◌, append_assoc, append-nil, add-zero, add_assoc, arith}
use Rattle.std.proofs.lemmas.List.{length-append, length-drop, take-append-drop, take_all}
use Rattle.std.specs.Prelude.{None}
use Rattle.nfs_journal.specs.Entries.{IsNoEntry}
use Rattle.nfs_journal.specs.Recovering.{Position}
use Rattle.nfs_journal.specs.Scanning.{HasFault, FaultOn, IsEntry, ReadsOn, Scans, StopsScan}
use Rattle.nfs_journal.specs.declared.broken_entry.BrokenEntry.{BrokenEntry}
use Rattle.nfs_journal.specs.declared.recovery.RecoveryFault.{RecoveryFault}
use Rattle.nfs_journal.specs.declared.recovery.RecoveryFault.TheVariants.{BadEntry}
use Rattle.nfs_journal.proofs.Rerunning.{counted_end}
use Rattle.nfs_rpc.proofs.Streams.{records_grow}
use Rattle.nfs_rpc.specs.Progress.{Progress, Moves, Unfinished}
use Rattle.nfs_rpc.specs.Records.{AreRecords}
use Rattle.nfs_rpc.specs.declared.framer.Stage.TheVariants.{Ready}
use Rattle.nfs_server.proofs.Feeding.{all_append, records_append}
use Rattle.nfs_server.proofs.OneRecord.{is_cut, whole}
use Rattle.nfs_server.specs.Taking.{BeginsAnew}
use Rattle.nfs_xdr.proofs.Knowing.{taken_on}

-- no entry is whole
pub reads_none : (bytes : List ℕ) (unfinished : ℕ) (from to : Progress) → Moves from bytes to → ReadsOn bytes unfinished 0 (unfinished + length bytes) from to
reads_none bytes unfinished from to moves text u len = record {
  entries = [];
  rest = text ++ bytes;
  cut = refl;
  are_entries = tt;
  rest_is = moves text u;
  count_is = refl;
  unfinished_is = length-append text bytes ∙ ap (λ k. k + length bytes) len;
}

-- one is
pub reads_one : (bytes : List ℕ) (unfinished : ℕ) (from mid to : Progress) → Moves from bytes mid → mid.stage ≡ Ready → IsEntry mid.content → BeginsAnew to → ReadsOn bytes unfinished 1 0 from to
reads_one bytes unfinished from mid to moves ready is anew text u len =
    let w = whole mid (text ++ bytes) ready (moves text u) in
    record {
      entries = mid.content ∷ [];
      rest = [];
      cut = is_cut mid.content (text ++ bytes) [] (text ++ bytes) w.1 (sym (append-nil (text ++ bytes)));
      are_entries = (is, tt);
      rest_is = anew.1;
      count_is = refl;
      unfinished_is = refl;
    }

reads_on : (xs ys : List ℕ) (a b c n m : ℕ) (from between to : Progress) → ReadsOn xs a n b from between → ReadsOn ys b m c between to → ReadsOn (xs ++ ys) a (n + m) c from to
reads_on xs ys a b c n m from between to before then text u len =
    let f = before text u len in
    let g = then f.rest f.rest_is f.unfinished_is in
    record {
      entries = f.entries ++ g.entries;
      rest = g.rest;
      cut = subst (λ t. AreRecords t (f.entries ++ g.entries) g.rest) (append_assoc text xs ys)
          (records_append ((text ++ xs) ++ ys) f.entries g.entries (f.rest ++ ys) g.rest (records_grow (text ++ xs) f.entries f.rest ys f.cut) g.cut);
      are_entries = all_append IsEntry f.entries g.entries f.are_entries g.are_entries;
      rest_is = g.rest_is;
      count_is = length-append f.entries g.entries ∙ omega (arith, f.count_is, g.count_is);
      unfinished_is = g.unfinished_is;
    }

-- ---- faults

-- it comes before any entry
pub fault_now : (fault : RecoveryFault) (bytes : List ℕ) (before : ℕ) (from : Progress) → ((text : List ℕ) → Unfinished text from → HasFault fault from.limit (text ++ bytes))
    → FaultOn fault bytes before 0 (before + length bytes) from
fault_now fault bytes before from faults text u len = record {
  entries = [];
  rest = text ++ bytes;
  cut = refl;
  are_entries = tt;
  faults = faults text u;
  count_is = refl;
  left_is = length-append text bytes ∙ ap (λ k. k + length bytes) len;
}

-- the record that is whole is no entry
pub fault_one : (chunk : List ℕ) (used before : ℕ) (from mid : Progress) → Moves from (take used chunk) mid → mid.stage ≡ Ready → IsNoEntry mid.content
    → FaultOn BadEntry chunk before 0 (before + length chunk) from
fault_one chunk used before from mid moves ready none = fault_now BadEntry chunk before from (λ text u. inr (
  mid.content,
  drop used chunk,
  record {
    text = text ++ take used chunk;
    encoded = (whole mid (text ++ take used chunk) ready (moves text u)).1;
    bytes_are = ap (λ t. text ++ t) (sym (take-append-drop used chunk)) ∙ sym (append_assoc text (take used chunk) (drop used chunk));
  },
  none,
))

fault_after : (fault : RecoveryFault) (xs ys : List ℕ) (a b n m left : ℕ) (from between : Progress) → ReadsOn xs a n b from between → between.limit ≡ from.limit → FaultOn fault ys b m left between
    → FaultOn fault (xs ++ ys) a (n + m) left from
fault_after fault xs ys a b n m left from between before limit then text u len =
    let f = before text u len in
    let g = then f.rest f.rest_is f.unfinished_is in
    record {
      entries = f.entries ++ g.entries;
      rest = g.rest;
      cut = subst (λ t. AreRecords t (f.entries ++ g.entries) g.rest) (append_assoc text xs ys)
          (records_append ((text ++ xs) ++ ys) f.entries g.entries (f.rest ++ ys) g.rest (records_grow (text ++ xs) f.entries f.rest ys f.cut) g.cut);
      are_entries = all_append IsEntry f.entries g.entries f.are_entries g.are_entries;
      faults = subst (λ k. HasFault fault k g.rest) limit g.faults;
      count_is = length-append f.entries g.entries ∙ omega (arith, f.count_is, g.count_is);
      left_is = g.left_is;
    }

-- ---- positions

-- a part of a chunk was looked at
pub scans_one : (part : List ℕ) (n entries : ℕ) (old new : Position) → length part ≡ n → new.unfinished ≤ old.unfinished + n → ReadsOn part old.unfinished entries new.unfinished old.progress new.progress
    → new.entries ≡ old.entries + entries → new.end ≡ old.end + old.unfinished + n - new.unfinished → new.progress.limit ≡ old.progress.limit → new.broken ≡ None → Scans part old new
scans_one part n entries old new len le reads entries_are end_is limit unbroken = record {
  entries = entries;
  reads = reads;
  entries_are = entries_are;
  bytes_are = ap (λ k. k + new.unfinished) end_is ∙ counted_end old.end old.unfinished n new.unfinished le ∙ ap (λ k. old.end + old.unfinished + k) (sym len);
  limit_stays = limit;
  unbroken = unbroken;
}

-- the first entry of a chunk is at fault
pub stops_one : (broken : BrokenEntry) (chunk : List ℕ) (old new : Position) → FaultOn broken.fault chunk old.unfinished 0 (old.unfinished + length chunk) old.progress
    → new.entries ≡ old.entries → new.end ≡ old.end → broken.entry ≡ old.entries + 1 → broken.offset ≡ old.end → StopsScan broken chunk old new
stops_one broken chunk old new faults entries end entry_is offset_is = record {
  entries = 0;
  left = old.unfinished + length chunk;
  faults = faults;
  entries_are = entries ∙ sym (add-zero old.entries);
  bytes_are = ap (λ k. k + (old.unfinished + length chunk)) end ∙ sym (add_assoc old.end old.unfinished (length chunk));
  entry_is = entry_is ∙ ap (λ k. k + 1) (sym entries);
  offset_is = offset_is ∙ sym end;
}

module _ (chunk : List ℕ) (i : ℕ) (old mid new : Position) (before : Scans (take i chunk) old mid) (within : i ≤ length chunk) where
  abbrev rest : List ℕ
  rest = take (length chunk - i) (drop i chunk)

  counted : (a b c total mid first : ℕ) → a + b ≡ c → mid ≡ first + a → total ≡ mid + b → total ≡ first + c
  counted a b c total mid first p q r = omega (arith, p, q, r)

  -- some more of it
  pub scans_on : (n : ℕ) → Scans (take n rest) mid new → Scans (take (i + n) chunk) old new
  scans_on n then = record {
    entries = before.entries + then.entries;
    reads = subst (λ t. ReadsOn t old.unfinished (before.entries + then.entries) new.unfinished old.progress new.progress) (taken_on chunk i n)
        (reads_on (take i chunk) (take n rest) old.unfinished mid.unfinished new.unfinished before.entries then.entries old.progress mid.progress new.progress before.reads then.reads);
    entries_are = then.entries_are ∙ omega (arith, before.entries_are);
    bytes_are = counted (length (take i chunk)) (length (take n rest)) (length (take (i + n) chunk)) (new.end + new.unfinished) (mid.end + mid.unfinished) (old.end + old.unfinished)
        (sym (length-append (take i chunk) (take n rest)) ∙ ap length (taken_on chunk i n)) before.bytes_are then.bytes_are;
    limit_stays = then.limit_stays ∙ before.limit_stays;
    unbroken = then.unbroken;
  }

  -- an entry of the rest is at fault
  pub stops_on : (broken : BrokenEntry) → StopsScan broken rest mid new → StopsScan broken chunk old new
  stops_on broken then =
      let left : rest ≡ drop i chunk = take_all (length chunk - i) (drop i chunk) (omega (arith, length-drop i chunk)) in
      let all : take i chunk ++ rest ≡ chunk = ap (λ t. take i chunk ++ t) left ∙ take-append-drop i chunk in
      record {
        entries = before.entries + then.entries;
        left = then.left;
        faults = subst (λ t. FaultOn broken.fault t old.unfinished (before.entries + then.entries) then.left old.progress) all
            (fault_after broken.fault (take i chunk) rest old.unfinished mid.unfinished before.entries then.entries then.left old.progress mid.progress before.reads before.limit_stays then.faults);
        entries_are = then.entries_are ∙ omega (arith, before.entries_are);
        bytes_are = counted (length (take i chunk)) (length rest) (length chunk) (new.end + then.left) (mid.end + mid.unfinished) (old.end + old.unfinished)
            (sym (length-append (take i chunk) rest) ∙ ap length all) before.bytes_are then.bytes_are;
        entry_is = then.entry_is;
        offset_is = then.offset_is;
      }
