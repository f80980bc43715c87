-- A stream is served record by record, and read by read.
use Rattle.std.proofs.Common.{◌≡◌, ℕ, ◌+◌, ◌-◌, ◌<◌, ◌≤◌, List, [], ◌∷◌, ◌++◌, map, reverse, take, drop, length, Option, Result, Ok, Err, IfOk, inl, inr, refl, sym, ap, subst, ◌∙◌, append_assoc, append-nil, add-zero, arith}
use Rattle.std.proofs.lemmas.Grind.{common_steps}
use Rattle.std.proofs.lemmas.List.{map-append, reverse-append, length-append, take-append-drop, take_all}
use Rattle.nfs_attrs.specs.declared.moment.Moment.{Moment}
use Rattle.nfs_exports.specs.declared.addr.Addr.{Addr}
use Rattle.nfs_rpc.specs.Progress.{Progress, Unfinished, Moves, BringsTooLong, AsksForRoom}
use Rattle.nfs_rpc.specs.Records.{AreRecords, ReachesTooLong, ReachesWithin}
use Rattle.nfs_rpc.specs.declared.framer.FrameFault.{FrameFault}
use Rattle.nfs_rpc.specs.declared.framer.FrameFault.TheVariants as frame
use Rattle.nfs_rpc.specs.declared.framer.Stage.TheVariants.{Ready}
use Rattle.nfs_rpc.proofs.Streams.{records_grow}
use Rattle.nfs_server.specs.Connections.{IsBetween, max_record_bytes, session_fault}
use Rattle.nfs_server.specs.Events.{Event, Done}
use Rattle.nfs_server.specs.Feeding.{Device, device, Ends, IsLeft, event_at}
use Rattle.nfs_server.specs.Fits.{Held, History, Fits}
use Rattle.nfs_server.specs.Runs.{longer}
use Rattle.nfs_server.specs.Streams.{Course, course, Reads, bytes_read, read_bytes, Asks, StreamServes, IsRest, StreamEnds, ReadsEnd, Streams, StreamFeeds, IsReportedAs}
use Rattle.nfs_server.specs.Taking.{AnswersEvent, BeginsAnew}
use Rattle.nfs_server.specs.declared.serve_fault.ServeFault.{ServeFault}
use Rattle.nfs_server.specs.declared.serve_fault.ServeFault.TheVariants as serve
use Rattle.nfs_server.specs.declared.session_fault.SessionFault.{SessionFault}
use Rattle.nfs_server.specs.declared.session_fault.SessionFault.TheVariants.{ConnectionTaken, UnknownConnection, Ended, TooLong, Memory, AuditFault, WriteFault}
use Rattle.nfs_server.specs.declared.stream.Part.{Part}
use Rattle.nfs_server.specs.declared.stream.Served.{Served}
use Rattle.nfs_server.proofs.Feeding.{all_append, ends_on, records_append, added}
use Rattle.nfs_server.proofs.ChunkByChunk.{rest_of}
use Rattle.nfs_xdr.proofs.Knowing.{taken_on}
use Rattle.nfs_server.proofs.OneRecord.{ends_broken, is_cut, is_left, nothing_written, whole}

abbrev bytes_of : List Done → List (List ℕ)
bytes_of done = map (λ (d : Done). d.event.bytes) (reverse done)

-- ---- no record is whole

serves_none : (history : History) (addr : Addr) (limit : ℕ) (bytes : List ℕ) (s : Held) → Fits history s → StreamServes history addr limit bytes [] bytes s
serves_none history addr limit bytes s fits = record { cut = refl; within = tt; fits = fits }

module _ {C : Type 0} (reports : C → Moment → C → Type 0) (addr : Addr) (s : Held) (from to : Progress) (clock : C) (a v : Option (List ℕ)) (bytes : List ℕ) where
  quiet : (result : Result ℕ SessionFault) (left : Course ℕ) → ((text : List ℕ) → Unfinished text from → Ends result [] (text ++ bytes) to (device a a) (device v v))
      → ((text : List ℕ) → IfOk result (λ n. length text ≡ left.before → length (text ++ bytes) ≡ left.after))
      → StreamFeeds reports addr bytes result left (course s s) (course from to) (course clock clock) (device a a) (device v v)
  quiet result left ends counts history fits text u = (
    record {
      done = [];
      rest = text ++ bytes;
      serves = serves_none history addr to.limit (text ++ bytes) s fits;
      asks = refl;
      ends = ends text u;
    },
    counts text,
  )

  pub stream_none : (unfinished after : ℕ) → after ≡ unfinished + length bytes → IsBetween to → Moves from bytes to → StreamFeeds reports addr bytes (Ok 0) (course unfinished after) (course s s) (course from to) (course clock clock) (device a a) (device v v)
  stream_none unfinished after e between moves = quiet (Ok 0) (course unfinished after)
      (λ text u. (refl, is_left (text ++ bytes) to between (moves text u), nothing_written a v))
      (λ text len. length-append text bytes ∙ ap (λ k. k + length bytes) len ∙ sym e)

  pub stream_begins : (unfinished : ℕ) → bytes ≡ [] → IsBetween to → Moves from bytes to → StreamFeeds reports addr bytes (Ok 0) (course unfinished unfinished) (course s s) (course from to) (course clock clock) (device a a) (device v v)
  stream_begins unfinished none between moves =
      let same : unfinished ≡ unfinished + length bytes = sym (add-zero unfinished) ∙ ap (λ (l : List ℕ). unfinished + length l) (sym none) in
      stream_none unfinished unfinished same between moves

  pub stream_frame_fault : (left : Course ℕ) (fault : FrameFault) → to.limit ≡ from.limit
      → (fault ≡ frame.TooLong → BringsTooLong from bytes)
      → (fault ≡ frame.Memory → AsksForRoom from bytes)
      → (fault ≡ frame.Failed → ⊥)
      → StreamFeeds reports addr bytes (Err (session_fault fault)) left (course s s) (course from to) (course clock clock) (device a a) (device v v)
  stream_frame_fault left frame.TooLong limit long asks failed = quiet (Err TooLong) left (λ text u. (subst (λ k. ReachesTooLong k (text ++ bytes)) (sym limit) (long refl text u), nothing_written a v)) (λ text. tt)
  stream_frame_fault left frame.Memory limit long asks failed = quiet (Err Memory) left (λ text u. (subst (λ k. ReachesWithin k (text ++ bytes)) (sym limit) (asks refl text u), nothing_written a v)) (λ text. tt)
  stream_frame_fault left frame.Failed limit long asks failed = absurd (failed refl)

pub taken_len : (n : ℕ) (xs : List ℕ) → n ≤ length xs → length (take n xs) ≡ n
taken_len n xs h = grind (arith, common_steps)

pub stream_goes_on : {C : Type 0} (reports : C → Moment → C → Type 0) (addr : Addr) (s : Held) (from to : Progress) (clock : C) (a v : Option (List ℕ)) (chunk : List ℕ) (n unfinished : ℕ) → n ≤ length chunk → IsBetween to → Moves from (take n chunk) to
    → StreamFeeds reports addr (take n chunk) (Ok 0) (course unfinished (unfinished + n)) (course s s) (course from to) (course clock clock) (device a a) (device v v)
stream_goes_on reports addr s from to clock a v chunk n unfinished le between moves =
    stream_none reports addr s from to clock a v (take n chunk) unfinished (unfinished + n) (ap (λ k. unfinished + k) (sym (taken_len n chunk le))) between moves

-- ---- a record is whole

serves_one : (history : History) (addr : Addr) (moment : Moment) (mid : Progress) (limit : ℕ) (text after bytes : List ℕ) (d : Done) (new : Held) → mid.stage ≡ Ready → limit ≡ mid.limit → Unfinished text mid → bytes ≡ text ++ after
    → d.event ≡ event_at (record { addr = addr; moment = moment }) mid.content → Fits (longer history (d ∷ [])) new
    → StreamServes history addr limit bytes (d ∷ []) after new
serves_one history addr moment mid limit text after bytes d new ready same u e event fits =
    let w = whole mid text ready u in
    let content : d.event.bytes ≡ mid.content = ap (λ (v : Event). v.bytes) event in
    let within : length mid.content ≤ limit = subst (λ k. length mid.content ≤ k) (sym same) w.0 in
    record {
      cut = subst (λ k. AreRecords bytes (k ∷ []) after) (sym content) (is_cut mid.content text after bytes w.1 e);
      within = ((ap (λ (v : Event). v.addr) event, subst (λ k. length k ≤ limit) (sym content) within), tt);
      fits = fits;
    }

module _ {C : Type 0} (reports : C → Moment → C → Type 0) (addr : Addr) (moment : Moment) (old new : Held) (from mid to : Progress) (before after : C) (audit replies : Device) (ready : mid.stage ≡ Ready) (limit : to.limit ≡ mid.limit) (reported : reports before moment after) where
  asks_one : (d : Done) (content : List ℕ) → d.event ≡ event_at (record { addr = addr; moment = moment }) content → Asks reports before (d ∷ []) after
  asks_one d content event = (before, refl, subst (λ (m : Moment). reports before m after) (sym (ap (λ (v : Event). v.moment) event)) reported)

  pub stream_whole : (bytes : List ℕ) (n unfinished : ℕ) → Moves from bytes mid → BeginsAnew to → AnswersEvent (event_at (record { addr = addr; moment = moment }) mid.content) (Ok n) old new audit replies
      → StreamFeeds reports addr bytes (Ok 1) (course unfinished 0) (course old new) (course from to) (course before after) audit replies
  stream_whole bytes n unfinished moves anew answers history fits text u =
      let a = answers history fits in (
        record {
          done = a.0 ∷ [];
          rest = [];
          serves = serves_one history addr moment mid to.limit (text ++ bytes) [] (text ++ bytes) a.0 new ready limit (moves text u) (sym (append-nil (text ++ bytes))) a.1 a.2;
          asks = asks_one a.0 mid.content a.1;
          ends = (refl, is_left [] to anew.0 anew.1, record { lines_are = a.3.1; replies_are = a.3.2 });
        },
        λ len. refl,
      )

  pub stream_broken : (chunk : List ℕ) (n : ℕ) (left : Course ℕ) (fault : SessionFault) → Moves from (take n chunk) mid → AnswersEvent (event_at (record { addr = addr; moment = moment }) mid.content) (Err fault) old new audit replies
      → StreamFeeds reports addr chunk (Err fault) left (course old new) (course from to) (course before after) audit replies
  stream_broken chunk n left fault moves answers history fits text u =
      let a = answers history fits in
      let cut : text ++ chunk ≡ (text ++ take n chunk) ++ drop n chunk = ap (λ t. text ++ t) (sym (take-append-drop n chunk)) ∙ sym (append_assoc text (take n chunk) (drop n chunk)) in (
        record {
          done = a.0 ∷ [];
          rest = drop n chunk;
          serves = serves_one history addr moment mid to.limit (text ++ take n chunk) (drop n chunk) (text ++ chunk) a.0 new ready limit (moves text u) cut a.1 a.2;
          asks = asks_one a.0 mid.content a.1;
          ends = ends_broken to audit replies fault a.0 (drop n chunk) a.3;
        },
        tt,
      )

-- ---- bytes, and then more

asks_on : {C : Type 0} (reports : C → Moment → C → Type 0) (x y z : C) (done later : List Done) → Asks reports x done y → Asks reports y later z → Asks reports x (later ++ done) z
asks_on reports x y z done [] f g = subst (λ c. Asks reports x done c) (sym g) f
asks_on reports x y z done (d ∷ later) f g = (g.0, asks_on reports x y g.0 done later f g.1, g.2)

serves_on : (history : History) (addr : Addr) (limit : ℕ) (bytes more : List ℕ) (done later : List Done) (rest left : List ℕ) (mid new : Held) → StreamServes history addr limit bytes done rest mid → StreamServes (longer history done) addr limit (rest ++ more) later left new
    → StreamServes history addr limit (bytes ++ more) (later ++ done) left new
serves_on history addr limit bytes more done later rest left mid new f g =
    let both : bytes_of (later ++ done) ≡ bytes_of done ++ bytes_of later = ap (map (λ (d : Done). d.event.bytes)) (reverse-append later done) ∙ map-append (λ (d : Done). d.event.bytes) (reverse done) (reverse later) in
    record {
      cut = subst (λ rs. AreRecords (bytes ++ more) rs left) (sym both) (records_append (bytes ++ more) (bytes_of done) (bytes_of later) (rest ++ more) left (records_grow bytes (bytes_of done) rest more f.cut) g.cut);
      within = all_append (λ (d : Done). (d.event.addr ≡ addr) × (length d.event.bytes ≤ limit)) later done g.within f.within;
      fits = subst (λ ds. Fits (record history { done = ds }) new) (sym (append_assoc later done history.done)) g.fits;
    }

counts_on : (n : ℕ) (result : Result ℕ SessionFault) (text rest left : List ℕ) (x y z : ℕ) → (length text ≡ x → length rest ≡ y) → IfOk result (λ n. length rest ≡ y → length left ≡ z) → IfOk (added n result) (λ n. length text ≡ x → length left ≡ z)
counts_on n (Ok m) text rest left x y z f g = λ e. g (f e)
counts_on n (Err fault) text rest left x y z f g = tt

pub streams_on : {C : Type 0} (reports : C → Moment → C → Type 0) (addr : Addr) (xs ys : List ℕ) (n : ℕ) (result : Result ℕ SessionFault) (k l m : ℕ) (old mid new : Held) (from between to : Progress) (x y z : C) (a b c u v w : Option (List ℕ))
    → to.limit ≡ between.limit
    → StreamFeeds reports addr xs (Ok n) (course k l) (course old mid) (course from between) (course x y) (device a b) (device u v)
    → StreamFeeds reports addr ys result (course l m) (course mid new) (course between to) (course y z) (device b c) (device v w)
    → StreamFeeds reports addr (xs ++ ys) (added n result) (course k m) (course old new) (course from to) (course x z) (device a c) (device u w)
streams_on reports addr xs ys n result k l m old mid new from between to x y z a b c u v w limit f g history fits text unfinished =
    let first = f history fits text unfinished in
    let done = first.0.done in
    let then = g (longer history done) first.0.serves.fits first.0.rest first.0.ends.1.unfinished in
    let serves = subst (λ k. StreamServes history addr k (text ++ xs) done first.0.rest mid) (sym limit) first.0.serves in
    let both = serves_on history addr to.limit (text ++ xs) ys done then.0.done first.0.rest then.0.rest mid new serves then.0.serves in
    let ends = ends_on a b c u v w result done then.0.done then.0.rest to first.0.ends.2 then.0.ends in (
      record {
        done = then.0.done ++ done;
        rest = then.0.rest;
        serves = subst (λ t. StreamServes history addr to.limit t (then.0.done ++ done) then.0.rest new) (append_assoc text xs ys) both;
        asks = asks_on reports x y z done then.0.done first.0.asks then.0.asks;
        ends = subst (λ k. Ends (added k result) (then.0.done ++ done) then.0.rest to (device a c) (device u w)) (sym first.0.ends.0) ends;
      },
      counts_on n result text first.0.rest then.0.rest k l m first.1 then.1,
    )

module _ {C : Type 0} (reports : C → Moment → C → Type 0) (addr : Addr) (chunk : List ℕ) (i n k l : ℕ) (old mid : Held) (from between : Progress) (x y : C) (a b v w : Option (List ℕ))
    (before : StreamFeeds reports addr (take i chunk) (Ok n) (course k l) (course old mid) (course from between) (course x y) (device a b) (device v w)) where
  module _ (new : Held) (to : Progress) (z : C) (c u : Option (List ℕ)) (limit : to.limit ≡ between.limit) where
    pub takes_on : (part : Part) → StreamFeeds reports addr (take part.used (take (length chunk - i) (drop i chunk))) (Ok part.served.calls) (course l part.served.rest) (course mid new) (course between to) (course y z) (device b c) (device w u)
        → StreamFeeds reports addr (take (i + part.used) chunk) (Ok (n + part.served.calls)) (course k part.served.rest) (course old new) (course from to) (course x z) (device a c) (device v u)
    takes_on part one = subst (λ t. StreamFeeds reports addr t (Ok (n + part.served.calls)) (course k part.served.rest) (course old new) (course from to) (course x z) (device a c) (device v u)) (taken_on chunk i part.used)
        (streams_on reports addr (take i chunk) (take part.used (take (length chunk - i) (drop i chunk))) n (Ok part.served.calls) k l part.served.rest old mid new from between to x y z a b c v w u limit before one)

    pub breaks_on : (fault : SessionFault) (m : ℕ) → StreamFeeds reports addr (take (length chunk - i) (drop i chunk)) (Err fault) (course l m) (course mid new) (course between to) (course y z) (device b c) (device w u)
        → StreamFeeds reports addr chunk (Err fault) (course k m) (course old new) (course from to) (course x z) (device a c) (device v u)
    breaks_on fault m one = subst (λ t. StreamFeeds reports addr t (Err fault) (course k m) (course old new) (course from to) (course x z) (device a c) (device v u)) (rest_of chunk i)
        (streams_on reports addr (take i chunk) (take (length chunk - i) (drop i chunk)) n (Err fault) k l m old mid new from between to x y z a b c v w u limit before one)

  pub all_taken : length chunk ≤ i → StreamFeeds reports addr chunk (Ok n) (course k l) (course old mid) (course from between) (course x y) (device a b) (device v w)
  all_taken le = subst (λ t. StreamFeeds reports addr t (Ok n) (course k l) (course old mid) (course from between) (course x y) (device a b) (device v w)) (take_all i chunk le) before

-- ---- the end of a stream

is_rest : (rest : List ℕ) (p : Progress) → p.limit ≡ max_record_bytes → IsLeft rest p → IsRest max_record_bytes rest
is_rest rest p limit left = record { none_whole = left.none_whole; none_long = λ long. left.none_long (subst (λ k. ReachesTooLong k rest) (sym limit) long) }

reported_ends : (fault : SessionFault) (reported : ServeFault) (reads : List (List ℕ)) (done : List Done) (rest : List ℕ) (p : Progress) (audit replies : Device) → p.limit ≡ max_record_bytes → IsReportedAs fault reported → Ends (Err fault) done rest p audit replies → StreamEnds (Err reported) reads done rest audit replies
reported_ends TooLong reported reads done rest p audit replies limit is e = subst (λ t. StreamEnds (Err t) reads done rest audit replies) (sym is) (subst (λ k. ReachesTooLong k rest) limit e.0, e.1)
reported_ends Memory reported reads done rest p audit replies limit is e = subst (λ t. StreamEnds (Err t) reads done rest audit replies) (sym is) (inr (subst (λ k. ReachesWithin k rest) limit e.0), e.1)
reported_ends AuditFault reported reads done rest p audit replies limit is e = subst (λ t. StreamEnds (Err t) reads done rest audit replies) (sym is) e
reported_ends WriteFault reported reads done rest p audit replies limit is e = subst (λ t. StreamEnds (Err t) reads done rest audit replies) (sym is) e
reported_ends ConnectionTaken reported reads done rest p audit replies limit is e = absurd is
reported_ends UnknownConnection reported reads done rest p audit replies limit is e = absurd is
reported_ends Ended reported reads done rest p audit replies limit is e = absurd is

-- after a fault of its records no more is read
reported_reads : {R : Type 0} (gives : R → List ℕ → R → Type 0) (breaks : R → R → Type 0) (fault : SessionFault) (reported : ServeFault) (turns reads : ℕ) (reader : R) → IsReportedAs fault reported → reads ≤ turns → ReadsEnd gives breaks (Err reported) turns reads (course reader reader)
reported_reads gives breaks TooLong reported turns reads reader is le = subst (λ t. ReadsEnd gives breaks (Err t) turns reads (course reader reader)) (sym is) (le, refl)
reported_reads gives breaks Memory reported turns reads reader is le = subst (λ t. ReadsEnd gives breaks (Err t) turns reads (course reader reader)) (sym is) (le, refl)
reported_reads gives breaks AuditFault reported turns reads reader is le = subst (λ t. ReadsEnd gives breaks (Err t) turns reads (course reader reader)) (sym is) (le, refl)
reported_reads gives breaks WriteFault reported turns reads reader is le = subst (λ t. ReadsEnd gives breaks (Err t) turns reads (course reader reader)) (sym is) (le, refl)
reported_reads gives breaks ConnectionTaken reported turns reads reader is le = absurd is
reported_reads gives breaks UnknownConnection reported turns reads reader is le = absurd is
reported_reads gives breaks Ended reported turns reads reader is le = absurd is

ok_left : (result : Result ℕ SessionFault) (text rest : List ℕ) (n : ℕ) → length text ≡ 0 → IfOk result (λ k. length text ≡ 0 → length rest ≡ n) → IfOk result (λ k. length rest ≡ n)
ok_left (Ok k) text rest n e f = f e
ok_left (Err fault) text rest n e f = tt

module _ {R C : Type 0} (gives : R → List ℕ → R → Type 0) (breaks : R → R → Type 0) (reports : C → Moment → C → Type 0) (addr : Addr) (turns : ℕ) (old new : Held) (from to : Progress) (x y : C) (audit replies : Device) (begins : Unfinished [] from) (limit : to.limit ≡ max_record_bytes) (first last after : R) where
  ended : (result : Result Served ServeFault) (part : Result ℕ SessionFault) (n : ℕ) (reads : List (List ℕ)) → Reads gives first reads last → ReadsEnd gives breaks result turns (length reads) (course last after)
      → StreamFeeds reports addr (bytes_read reads) part (course 0 n) (course old new) (course from to) (course x y) audit replies
      → ((done : List Done) (rest : List ℕ) → Ends part done rest to audit replies → IfOk part (λ k. length rest ≡ n) → StreamEnds result reads done rest audit replies)
      → (history : History) → Fits history old → Streams gives breaks reports history addr turns result new (course first after) (course x y) audit replies
  ended result part n reads read stops feeds ends history fits =
      let b = feeds history fits [] begins in
      record {
        reads = reads;
        between = last;
        read = read;
        read_ends = stops;
        done = b.0.done;
        rest = b.0.rest;
        serves = subst (λ k. StreamServes history addr k (bytes_read reads) b.0.done b.0.rest new) limit b.0.serves;
        asks = b.0.asks;
        ends = ends b.0.done b.0.rest b.0.ends (ok_left part [] b.0.rest n refl b.1);
      }

  pub streams_served : (served : Served) (reads : List (List ℕ)) → Reads gives first reads last → ReadsEnd gives breaks (Ok served) turns (length reads) (course last after)
      → StreamFeeds reports addr (bytes_read reads) (Ok served.calls) (course 0 served.rest) (course old new) (course from to) (course x y) audit replies
      → (history : History) → Fits history old → Streams gives breaks reports history addr turns (Ok served) new (course first after) (course x y) audit replies
  streams_served served reads read stops feeds = ended (Ok served) (Ok served.calls) served.rest reads read stops feeds (λ done rest e len. (e.0, sym len, is_rest rest to limit e.1, e.2))

  pub streams_unread : (calls n : ℕ) (reads : List (List ℕ)) → Reads gives first reads last → ReadsEnd gives breaks (Err serve.ReadFault) turns (length reads) (course last after)
      → StreamFeeds reports addr (bytes_read reads) (Ok calls) (course 0 n) (course old new) (course from to) (course x y) audit replies
      → (history : History) → Fits history old → Streams gives breaks reports history addr turns (Err serve.ReadFault) new (course first after) (course x y) audit replies
  streams_unread calls n reads read stops feeds = ended (Err serve.ReadFault) (Ok calls) n reads read stops feeds (λ done rest e len. (is_rest rest to limit e.1, e.2))

  pub streams_spent : (calls n : ℕ) (reads : List (List ℕ)) → Reads gives first reads last → ReadsEnd gives breaks (Err serve.TurnsSpent) turns (length reads) (course last after)
      → StreamFeeds reports addr (bytes_read reads) (Ok calls) (course 0 n) (course old new) (course from to) (course x y) audit replies
      → (history : History) → Fits history old → Streams gives breaks reports history addr turns (Err serve.TurnsSpent) new (course first after) (course x y) audit replies
  streams_spent calls n reads read stops feeds = ended (Err serve.TurnsSpent) (Ok calls) n reads read stops feeds (λ done rest e len. (is_rest rest to limit e.1, e.2))

module _ {R C : Type 0} (gives : R → List ℕ → R → Type 0) (breaks : R → R → Type 0) (reports : C → Moment → C → Type 0) (addr : Addr) (turns : ℕ) (old new : Held) (from to : Progress) (x y : C) (audit replies : Device) (begins : Unfinished [] from) (limit : to.limit ≡ max_record_bytes) (first last : R) where
  pub streams_broken : (fault : SessionFault) (reported : ServeFault) → IsReportedAs fault reported → (n : ℕ) (reads : List (List ℕ)) → length reads ≤ turns → Reads gives first reads last
      → StreamFeeds reports addr (bytes_read reads) (Err fault) (course 0 n) (course old new) (course from to) (course x y) audit replies
      → (history : History) → Fits history old → Streams gives breaks reports history addr turns (Err reported) new (course first last) (course x y) audit replies
  streams_broken fault reported is n reads le read feeds = ended gives breaks reports addr turns old new from to x y audit replies begins limit first last last (Err reported) (Err fault) n reads read (reported_reads gives breaks fault reported turns (length reads) last is le) feeds
      (λ done rest e len. reported_ends fault reported reads done rest to audit replies limit is e)

-- no memory for the replies
pub streams_refused : {R C : Type 0} (gives : R → List ℕ → R → Type 0) (breaks : R → R → Type 0) (reports : C → Moment → C → Type 0) (addr : Addr) (turns : ℕ) (s : Held) (reader : R) (clock : C) (a v : Option (List ℕ)) → (history : History) → Fits history s
    → Streams gives breaks reports history addr turns (Err serve.Memory) s (course reader reader) (course clock clock) (device a a) (device v v)
streams_refused gives breaks reports addr turns s reader clock a v history fits = record {
  reads = [];
  between = reader;
  read = refl;
  read_ends = (omega arith, refl);
  done = [];
  rest = [];
  serves = serves_none history addr max_record_bytes [] s fits;
  asks = refl;
  ends = (inl refl, nothing_written a v);
}

-- ---- one read more

module _ {R C : Type 0} (gives : R → List ℕ → R → Type 0) (breaks : R → R → Type 0) (reports : C → Moment → C → Type 0) (addr : Addr) (turns i calls left : ℕ) (old mid new : Held) (from between to : Progress) (x y z : C) (a b c u v w : Option (List ℕ)) (first before last : R) (chunk : List ℕ)
    (so_far : (reads : List (List ℕ)) × (length reads ≡ i) × Reads gives first reads before × StreamFeeds reports addr (bytes_read reads) (Ok calls) (course 0 left) (course old mid) (course from between) (course x y) (device a b) (device u v))
    (gave : gives before chunk last) (some : 0 < length chunk) (few : length chunk ≤ read_bytes) (limit : to.limit ≡ between.limit) where
  one_more : (reads : List (List ℕ)) → length reads ≡ i → length (chunk ∷ reads) ≡ i + 1
  one_more reads e = omega (arith, e)

  next_read : Reads gives first (chunk ∷ so_far.0) last
  next_read = (before, so_far.2, gave, some, few)

  next_feeds : (result : Result ℕ SessionFault) (n : ℕ) → StreamFeeds reports addr chunk result (course left n) (course mid new) (course between to) (course y z) (device b c) (device v w)
      → StreamFeeds reports addr (bytes_read (chunk ∷ so_far.0)) (added calls result) (course 0 n) (course old new) (course from to) (course x z) (device a c) (device u w)
  next_feeds result n one = streams_on reports addr (bytes_read so_far.0) chunk calls result 0 left n old mid new from between to x y z a b c u v w limit so_far.3 one

  pub read_on : (n m : ℕ) → StreamFeeds reports addr chunk (Ok n) (course left m) (course mid new) (course between to) (course y z) (device b c) (device v w)
      → (reads : List (List ℕ)) × (length reads ≡ i + 1) × Reads gives first reads last × StreamFeeds reports addr (bytes_read reads) (Ok (calls + n)) (course 0 m) (course old new) (course from to) (course x z) (device a c) (device u w)
  read_on n m one = (chunk ∷ so_far.0, one_more so_far.0 so_far.1, next_read, next_feeds (Ok n) m one)

  pub read_broken : Unfinished [] from → to.limit ≡ max_record_bytes → i < turns → (fault : SessionFault) (reported : ServeFault) → IsReportedAs fault reported → (n : ℕ) → StreamFeeds reports addr chunk (Err fault) (course left n) (course mid new) (course between to) (course y z) (device b c) (device v w)
      → (history : History) → Fits history old → Streams gives breaks reports history addr turns (Err reported) new (course first last) (course x z) (device a c) (device u w)
  read_broken begins most lt fault reported is n one =
      let le : length (chunk ∷ so_far.0) ≤ turns = omega (arith, one_more so_far.0 so_far.1, lt) in
      streams_broken gives breaks reports addr turns old new from to x z (device a c) (device u w) begins most first last fault reported is n (chunk ∷ so_far.0) le next_read (next_feeds (Err fault) n one)
