-- What one step does to a connection.
use Rattle.std.proofs.Common.{◌≡◌, ◌≢◌, ℕ, ◌≤◌, Bool, List, [], ◌∷◌, ◌++◌, take, drop, length, Option, Some, Result, Ok, Err, IfErr, IsErrAnd, refl, sym, ap, subst, ◌∙◌, append_assoc, append-nil}
use Rattle.std.proofs.lemmas.List.{take-append-drop}
use Rattle.nfs_rpc.specs.Progress.{Progress, Leads, Unfinished, Moves, BringsTooLong, AsksForRoom, StageReports}
use Rattle.nfs_rpc.specs.declared.framer.Stage.{Stage}
use Rattle.nfs_rpc.specs.declared.framer.Stage.TheVariants.{Header, Body, Ready, Failed}
use Rattle.nfs_rpc.specs.Records.{AreRecords, IsRecord, ReachesTooLong, ReachesWithin}
use Rattle.nfs_rpc.specs.declared.framer.FrameFault.{FrameFault}
use Rattle.nfs_rpc.specs.declared.framer.FrameFault.TheVariants as frame
use Rattle.nfs_rpc.proofs.Streams.{unfinished_reports}
use Rattle.nfs_server.proofs.Going.{Handles}
use Rattle.nfs_server.specs.Connections.{IsBetween, session_fault}
use Rattle.nfs_server.specs.Events.{Event, Answer, Done, silence}
use Rattle.nfs_server.specs.Feeding.{Device, device, WritesAll, Serves, IsLeft, Ends, replies_of, event_at, EndsWith}
use Rattle.nfs_server.specs.Fits.{Held, History, Fits}
use Rattle.nfs_server.specs.Runs.{longer}
use Rattle.nfs_server.specs.Taking.{AnswersEvent, BeginsAnew, FeedsWith, IsOneAtMost, Writes}
use Rattle.nfs_server.specs.declared.session_fault.SessionFault.{SessionFault}
use Rattle.nfs_server.specs.declared.session_fault.SessionFault.TheVariants.{ConnectionTaken, UnknownConnection, Ended, TooLong, Memory, AuditFault, WriteFault}
use Rattle.nfs_server.specs.declared.taking.Origin.{Origin}
use Rattle.nfs_xdr.specs.Known.{Grows}

-- ---- nothing is written

pub grows_none : (a : Option (List ℕ)) → Grows a [] a
grows_none a before e = e ∙ ap Some (sym (append-nil before))

pub nothing_written : (a v : Option (List ℕ)) → WritesAll [] (device a a) (device v v)
nothing_written a v = record { lines_are = grows_none a; replies_are = grows_none v }

-- ---- what is left

stage_left : (stage : Stage) (limit : ℕ) (content text : List ℕ) → stage ≢ Ready → stage ≢ Failed → Leads limit stage content text → StageReports stage limit content text → IsLeft text (record { limit = limit; stage = stage; content = content })
stage_left (Header bytes have) limit content text r f u t = record { unfinished = u; none_whole = t.0; none_long = t.1 }
stage_left (Body last left) limit content text r f u t = record { unfinished = u; none_whole = t.0; none_long = t.1 }
stage_left Ready limit content text r f u t = absurd (r refl)
stage_left Failed limit content text r f u t = absurd (f refl)

pub is_left : (text : List ℕ) (p : Progress) → IsBetween p → Unfinished text p → IsLeft text p
is_left text p between u = stage_left p.stage p.limit p.content text between.0 between.1 u (unfinished_reports text p u)

-- ---- no record is whole

serves_none : (history : History) (origin : Origin) (limit : ℕ) (bytes : List ℕ) (s : Held) → Fits history s → Serves history origin limit bytes [] bytes s
serves_none history origin limit bytes s fits = record { records = []; cut = refl; within = tt; events_are = refl; fits = fits }

module _ (Also : List Done → Type 0) (origin : Origin) (s : Held) (from to : Progress) (a v : Option (List ℕ)) (also : Also []) where
  pub feeds_none : (bytes : List ℕ) → IsBetween to → Moves from bytes to → FeedsWith Also origin bytes (Ok 0) s s from to (device a a) (device v v)
  feeds_none bytes between moves history fits text u = (
    record {
      done = [];
      rest = text ++ bytes;
      serves = serves_none history origin to.limit (text ++ bytes) s fits;
      ends = (refl, is_left (text ++ bytes) to between (moves text u), nothing_written a v);
    },
    also,
  )

  pub feeds_too_long : (chunk : List ℕ) → to.limit ≡ from.limit → BringsTooLong from chunk → FeedsWith Also origin chunk (Err TooLong) s s from to (device a a) (device v v)
  feeds_too_long chunk limit long history fits text u = (
    record {
      done = [];
      rest = text ++ chunk;
      serves = serves_none history origin to.limit (text ++ chunk) s fits;
      ends = (subst (λ k. ReachesTooLong k (text ++ chunk)) (sym limit) (long text u), nothing_written a v);
    },
    also,
  )

  pub feeds_no_room : (chunk : List ℕ) → to.limit ≡ from.limit → AsksForRoom from chunk → FeedsWith Also origin chunk (Err Memory) s s from to (device a a) (device v v)
  feeds_no_room chunk limit asks history fits text u = (
    record {
      done = [];
      rest = text ++ chunk;
      serves = serves_none history origin to.limit (text ++ chunk) s fits;
      ends = (subst (λ k. ReachesWithin k (text ++ chunk)) (sym limit) (asks text u), nothing_written a v);
    },
    also,
  )

-- ---- a record is whole

pub whole : (p : Progress) (text : List ℕ) → p.stage ≡ Ready → Unfinished text p → (length p.content ≤ p.limit) × IsRecord p.content text
whole p text e u = subst (λ stage. Leads p.limit stage p.content text) e u

pub is_cut : (content text after bytes : List ℕ) → IsRecord content text → bytes ≡ text ++ after → AreRecords bytes (content ∷ []) after
is_cut content text after bytes is e = (after, record { text = text; encoded = is; bytes_are = e }, refl)

serves_one : (history : History) (origin : Origin) (mid : Progress) (text after bytes : List ℕ) (d : Done) (new : Held) → mid.stage ≡ Ready → Unfinished text mid → bytes ≡ text ++ after → d.event ≡ event_at origin mid.content → Fits (longer history (d ∷ [])) new
    → Serves history origin mid.limit bytes (d ∷ []) after new
serves_one history origin mid text after bytes d new ready u e event fits =
    let w = whole mid text ready u in
    record { records = mid.content ∷ []; cut = is_cut mid.content text after bytes w.1 e; within = (w.0, tt); events_are = ap (λ k. k ∷ []) event; fits = fits }

-- a device fails at the record
pub ends_broken : (to : Progress) (audit replies : Device) (fault : SessionFault) (d : Done) (rest : List ℕ) → Writes d.answer (Err fault) audit replies → Ends (Err fault) (d ∷ []) rest to audit replies
ends_broken to audit replies AuditFault d rest w = w
ends_broken to audit replies WriteFault d rest w = w
ends_broken to audit replies TooLong d rest w = absurd w
ends_broken to audit replies Memory d rest w = absurd w
ends_broken to audit replies ConnectionTaken d rest w = absurd w
ends_broken to audit replies UnknownConnection d rest w = absurd w
ends_broken to audit replies Ended d rest w = absurd w

module _ (origin : Origin) (old new : Held) (from mid to : Progress) (audit replies : Device) (ready : mid.stage ≡ Ready) (limit : to.limit ≡ mid.limit) where
  pub feeds_whole : (bytes : List ℕ) (n : ℕ) → Moves from bytes mid → BeginsAnew to → AnswersEvent (event_at origin mid.content) (Ok n) old new audit replies → FeedsWith (λ done. IsOneAtMost done × (n ≡ length (replies_of done))) origin bytes (Ok 1) old new from to audit replies
  feeds_whole bytes n moves anew answers history fits text u =
      let a = answers history fits in
      let serves = serves_one history origin mid (text ++ bytes) [] (text ++ bytes) a.0 new ready (moves text u) (sym (append-nil (text ++ bytes))) a.1 a.2 in (
        record {
          done = a.0 ∷ [];
          rest = [];
          serves = subst (λ k. Serves history origin k (text ++ bytes) (a.0 ∷ []) [] new) (sym limit) serves;
          ends = (refl, is_left [] to anew.0 anew.1, record { lines_are = a.3.1; replies_are = a.3.2 });
        },
        (tt, a.3.0),
      )

  pub feeds_broken : (Also : List Done → Type 0) → ((d : Done) → Also (d ∷ [])) → (chunk : List ℕ) (n : ℕ) (fault : SessionFault) → Moves from (take n chunk) mid → AnswersEvent (event_at origin mid.content) (Err fault) old new audit replies → FeedsWith Also origin chunk (Err fault) old new from to audit replies
  feeds_broken Also also chunk n fault moves answers history fits text u =
      let a = answers history fits in
      let cut : text ++ chunk ≡ (text ++ take n chunk) ++ drop n chunk = ap (λ t. text ++ t) (sym (take-append-drop n chunk)) ∙ sym (append_assoc text (take n chunk) (drop n chunk)) in
      let serves = serves_one history origin mid (text ++ take n chunk) (drop n chunk) (text ++ chunk) a.0 new ready (moves text u) cut a.1 a.2 in (
        record {
          done = a.0 ∷ [];
          rest = drop n chunk;
          serves = subst (λ k. Serves history origin k (text ++ chunk) (a.0 ∷ []) (drop n chunk) new) (sym limit) serves;
          ends = ends_broken to audit replies fault a.0 (drop n chunk) a.3;
        },
        also a.0,
      )

-- ---- how an event is answered

pub answers_by : (event : Event) (old new : Held) (shown answer : Answer) (result : Result ℕ SessionFault) (audit replies : Device) → Handles old event answer new → shown ≡ answer → Writes shown result audit replies → AnswersEvent event result old new audit replies
answers_by event old new shown answer result audit replies handles e writes history fits =
    let h = handles history fits in
    (record { event = event; choice = h.0; answer = answer }, refl, h.1.1, subst (λ a. Writes a result audit replies) e writes)

-- there is no reply
pub answers_none : (event : Event) (old new : Held) (a v : Option (List ℕ)) → Handles old event silence new → AnswersEvent event (Ok 0) old new (device a a) (device v v)
answers_none event old new a v handles = answers_by event old new silence silence (Ok 0) (device a a) (device v v) handles refl (refl, grows_none a, grows_none v)

-- ---- faults

-- what an error that was passed on is
pub passed_on : {X : Type 0} (P : Result X SessionFault → Type 0) (r : Result X SessionFault) (fault : SessionFault) → IsErrAnd r (λ e. e ≡ fault) → P (Err fault) → P r
passed_on P (Ok x) fault is p = absurd is
passed_on P (Err e) fault is p = subst (λ k. P (Err k)) (sym is) p

-- a reader of records failed
pub feeds_frame_fault : (origin : Origin) (s : Held) (from to : Progress) (a v : Option (List ℕ)) (Also : List Done → Type 0) → Also [] → (fault : FrameFault) (chunk : List ℕ) → to.limit ≡ from.limit
    → (fault ≡ frame.TooLong → BringsTooLong from chunk)
    → (fault ≡ frame.Memory → AsksForRoom from chunk)
    → (fault ≡ frame.Failed → ⊥)
    → FeedsWith Also origin chunk (Err (session_fault fault)) s s from to (device a a) (device v v)
feeds_frame_fault origin s from to a v Also also frame.TooLong chunk limit long asks failed = feeds_too_long Also origin s from to a v also chunk limit (long refl)
feeds_frame_fault origin s from to a v Also also frame.Memory chunk limit long asks failed = feeds_no_room Also origin s from to a v also chunk limit (asks refl)
feeds_frame_fault origin s from to a v Also also frame.Failed chunk limit long asks failed = absurd (failed refl)

-- a connection that a fault ends has not ended before
pub not_ended : {X : Type 0} (r : Result X SessionFault) (audit_failed replies_failed : Bool) → IfErr r (EndsWith audit_failed replies_failed) → r ≡ Err Ended → ⊥
not_ended r audit_failed replies_failed ends e = subst (λ k. IfErr k (EndsWith audit_failed replies_failed)) e ends
