-- Whatever changes a service is one history.
use Rattle.std.proofs.Common.{◌≡◌, ℕ, Bool, true, false, List, [], ◌∷◌, ◌++◌, map, reverse, take, drop, Option, Some, None, Result, Ok, Err, IsOk, is_err, inl, inr, if◌then◌else◌, nat_eq, refl, sym, ap, subst, ◌∙◌, append_assoc, append-nil}
use Rattle.std.specs.List.{AllByRecursion}
use Rattle.std.proofs.lemmas.Bool.{eqb-true, eqb-false, true≢false}
use Rattle.std.proofs.lemmas.List.{map-append, reverse-append, take-append-drop}
use Rattle.nfs_attrs.specs.declared.moment.Moment.{Moment}
use Rattle.nfs_exports.specs.declared.addr.Addr.{Addr}
use Rattle.nfs_exports.specs.declared.export_table.Export.{Export}
use Rattle.nfs_rpc.specs.Progress.{Progress, Unfinished}
use Rattle.nfs_rpc.specs.Records.{AreRecords, ReachesTooLong, header, unended}
use Rattle.nfs_rpc.proofs.Streams.{records_grow}
use Rattle.nfs_server.proofs.Feeding.{records_append, replies_append}
use Rattle.nfs_server.specs.Connections.{Joined}
use Rattle.nfs_server.specs.Events.{Event, Done}
use Rattle.nfs_server.specs.Feeding.{Device, device, Brings, Ends, event_at, lines_of, line_bytes, replies_of, framed}
use Rattle.nfs_server.specs.Fits.{Held, History, Fits, reloaded, settled}
use Rattle.nfs_server.specs.Runs.{longer}
use Rattle.nfs_server.specs.declared.serve_fault.ServeFault.{ServeFault}
use Rattle.nfs_server.specs.declared.serve_fault.ServeFault.TheVariants as reported
use Rattle.nfs_server.specs.declared.session_fault.SessionFault.{SessionFault}
use Rattle.nfs_server.specs.declared.session_fault.SessionFault.TheVariants.{ConnectionTaken, UnknownConnection, Ended, TooLong, Memory, AuditFault, WriteFault}
use Rattle.nfs_server.specs.declared.taking.Origin.{Origin}
use Rattle.nfs_server.proofs.Reloads.{reloaded_fits}
use Rattle.nfs_serving.proofs.Settling.{settled_fits}
use Rattle.nfs_server.proofs.Together.{fed_on}
use Rattle.nfs_serving.specs.Service.{Seat, ServiceState, IsNew, Change, joins, turns, leaves, passes, reloads, settles, Joins, HasTurn, Leaves, PassesOn, Reloads, Settles, own_bytes, own_events, addr_at, IsClientServed, IsPartServed, history_after, log_of, lines_written, IsLog, AreFrom, end_lines, IsSeatServed, HasLeft, IsOneHistory, ServiceIsOneHistory}
use Rattle.nfs_serving.specs.Turns.{Standing, IsEndBy, IsEndedBy, Rests, StandsAfter, Takes, TurnsBy, origin_of, written}
use Rattle.nfs_serving.proofs.Turning.{grows_none, passes_keep, shrinks_none, shrinks_then}
use Rattle.nfs_serving.specs.declared.turn.End.{End}
use Rattle.nfs_serving.specs.declared.turn.End.TheVariants.{Fault}
use Rattle.nfs_xdr.specs.Known.{Grows, Shrinks}
use Rattle.nfs_xdr.proofs.Knowing.{Grows-then, Grows-none}

-- ---- where events are from

all_append : {X : Type 0} (P : X → Type 0) (xs ys : List X) → AllByRecursion P (xs ++ ys) → AllByRecursion P xs × AllByRecursion P ys
all_append P [] ys a = (tt, a)
all_append P (x ∷ xs) ys a = let r = all_append P xs ys a.1 in ((a.0, r.0), r.1)

all_joined : {X : Type 0} (P : X → Type 0) (xs ys : List X) → AllByRecursion P xs → AllByRecursion P ys → AllByRecursion P (xs ++ ys)
all_joined P [] ys a b = b
all_joined P (x ∷ xs) ys a b = (a.0, all_joined P xs ys a.1 b)

all_reversed : {X : Type 0} (P : X → Type 0) (xs : List X) → AllByRecursion P (reverse xs) → AllByRecursion P xs
all_reversed P [] a = tt
all_reversed P (x ∷ xs) a =
    let r = all_append P (reverse xs) (x ∷ []) (subst (AllByRecursion P) (reverse-append (x ∷ []) xs) a) in
    (r.1.0, all_reversed P xs r.0)

abbrev OfOrigin : Origin → Event → Type 0
OfOrigin origin e = (e.addr ≡ origin.addr) × (e.moment ≡ origin.moment)

of_records : (origin : Origin) (records : List (List ℕ)) → AllByRecursion (OfOrigin origin) (map (event_at origin) records)
of_records origin [] = tt
of_records origin (r ∷ records) = ((refl, refl), of_records origin records)

of_events : (origin : Origin) (done : List Done) → AllByRecursion (OfOrigin origin) (map (λ (d : Done). d.event) done) → AllByRecursion (λ (d : Done). OfOrigin origin d.event) done
of_events origin [] a = tt
of_events origin (d ∷ done) a = (a.0, of_events origin done a.1)

as_from : (addr : Option Addr) (origin : Origin) (done : List Done) → addr ≡ Some origin.addr → AllByRecursion (λ (d : Done). OfOrigin origin d.event) done → AreFrom addr origin.moment done
as_from addr origin [] e a = tt
as_from addr origin (d ∷ done) e a = ((e ∙ ap Some (sym a.0.0), a.0.1), as_from addr origin done e a.1)

pub are_from : (addr : Option Addr) (origin : Origin) (done : List Done) (records : List (List ℕ)) → addr ≡ Some origin.addr → map (λ (d : Done). d.event) (reverse done) ≡ map (event_at origin) records → AreFrom addr origin.moment done
are_from addr origin done records e same = as_from addr origin done e (all_reversed (λ (d : Done). OfOrigin origin d.event) done
    (of_events origin (reverse done) (subst (AllByRecursion (OfOrigin origin)) (sym same) (of_records origin records))))

-- ---- what is written of events

-- the log of a feed
pub logged : (result : Result ℕ SessionFault) (done : List Done) (rest : List ℕ) (p : Progress) (a b : Option (List ℕ)) (replies : Device) → Ends result done rest p (device a b) replies → (log : List ℕ) × IsLog done log × Grows a log b
logged (Ok n) done rest p a b replies e = (lines_of done, inl refl, e.2.lines_are)
logged (Err TooLong) done rest p a b replies e = (lines_of done, inl refl, e.1.lines_are)
logged (Err Memory) done rest p a b replies e = (lines_of done, inl refl, e.1.lines_are)
logged (Err AuditFault) [] rest p a b replies e = absurd e
logged (Err AuditFault) (d ∷ earlier) rest p a b replies e = (lines_of earlier ++ take e.0.n (line_bytes d.answer.line), inr (e.0.n, e.0.within, refl), e.0.wrote)
logged (Err WriteFault) [] rest p a b replies e = absurd e
logged (Err WriteFault) (d ∷ earlier) rest p a b replies e = (lines_of (d ∷ earlier), inl refl, e.1)
logged (Err ConnectionTaken) done rest p a b replies e = absurd e
logged (Err UnknownConnection) done rest p a b replies e = absurd e
logged (Err Ended) done rest p a b replies e = absurd e

none_more : (a b c : Option (List ℕ)) (xs : List ℕ) → c ≡ b → Grows a xs b → Grows a (xs ++ []) c
none_more a b c xs same grows = subst (λ o. Grows a (xs ++ []) o) (sym same) (subst (λ t. Grows a t b) (sym (append-nil xs)) grows)

some_same : {X : Type 0} {x y : X} → Some x ≡ Some y → x ≡ y
some_same e = cc

none_some : {X : Type 0} {x : X} → None ≡ Some x → ⊥
none_some e = cc

-- ---- what was written of replies, also where a fault ended the client

abbrev bytes_of : List Done → List (List ℕ)
bytes_of done = map (λ (d : Done). d.event.bytes) (reverse done)

records_are : (origin : Origin) (done : List Done) (records : List (List ℕ)) → map (λ (d : Done). d.event) (reverse done) ≡ map (event_at origin) records → bytes_of done ≡ records
records_are origin done records e = sym (map-map (reverse done)) ∙ ap (map (λ (v : Event). v.bytes)) e ∙ back records
  where
    map-map : (ds : List Done) → map (λ (v : Event). v.bytes) (map (λ (d : Done). d.event) ds) ≡ map (λ (d : Done). d.event.bytes) ds
    map-map [] = refl
    map-map (d ∷ ds) = ap (λ l. d.event.bytes ∷ l) (map-map ds)

    back : (rs : List (List ℕ)) → map (λ (v : Event). v.bytes) (map (event_at origin) rs) ≡ rs
    back [] = refl
    back (r ∷ rs) = ap (λ l. r ∷ l) (back rs)

-- what was written of the replies of a feed, and what was not
written_part : (result : Result ℕ SessionFault) (done : List Done) (rest : List ℕ) (p : Progress) (audit : Device) (a b : Option (List ℕ)) → Ends result done rest p audit (device a b)
    → (put unput : List ℕ) × (replies_of done ≡ put ++ unput) × Grows a put b
written_part (Ok n) done rest p audit a b e = (replies_of done, [], sym (append-nil (replies_of done)), e.2.replies_are)
written_part (Err TooLong) done rest p audit a b e = (replies_of done, [], sym (append-nil (replies_of done)), e.1.replies_are)
written_part (Err Memory) done rest p audit a b e = (replies_of done, [], sym (append-nil (replies_of done)), e.1.replies_are)
written_part (Err AuditFault) [] rest p audit a b e = absurd e
written_part (Err AuditFault) (d ∷ earlier) rest p audit a b e = (replies_of earlier, framed d.answer.reply, refl, e.1)
written_part (Err WriteFault) [] rest p audit a b e = absurd e
written_part (Err WriteFault) (d ∷ earlier) rest p audit a b e =
    let one = framed d.answer.reply in (
      replies_of earlier ++ take e.0.n one,
      drop e.0.n one,
      ap (λ t. replies_of earlier ++ t) (sym (take-append-drop e.0.n one)) ∙ sym (append_assoc (replies_of earlier) (take e.0.n one) (drop e.0.n one)),
      e.0.wrote,
    )
written_part (Err ConnectionTaken) done rest p audit a b e = absurd e
written_part (Err UnknownConnection) done rest p audit a b e = absurd e
written_part (Err Ended) done rest p audit a b e = absurd e

-- ---- one client

-- an end for a record that is too long comes of one
long_reported : (fault : SessionFault) → IsEndedBy fault reported.TooLong → fault ≡ TooLong
long_reported TooLong e = refl
long_reported Memory e = absurd (differ e)
  where
    differ : reported.TooLong ≡ reported.Memory → ⊥
    differ e = cc
long_reported AuditFault e = absurd (differ e)
  where
    differ : reported.TooLong ≡ reported.AuditFault → ⊥
    differ e = cc
long_reported WriteFault e = absurd (differ e)
  where
    differ : reported.TooLong ≡ reported.Memory → ⊥
    differ e = cc
long_reported ConnectionTaken e = absurd e
long_reported UnknownConnection e = absurd e
long_reported Ended e = absurd e

same_fault : {a b : ServeFault} → Some (Fault a) ≡ Some (Fault b) → a ≡ b
same_fault e = cc

long_ended : (result : Result ℕ SessionFault) (end : Option End) → IsEndBy result end → end ≡ Some (Fault reported.TooLong) → result ≡ Err TooLong
long_ended (Ok n) end none e = absurd (none_some (sym none ∙ e))
long_ended (Err fault) end by e = ap Err (long_reported fault (subst (IsEndedBy fault) (same_fault (sym by.1 ∙ e)) by.2))

long_after : {L : Type 0} (result : Result ℕ SessionFault) (c : Standing L) → StandsAfter result c → c.end ≡ Some (Fault reported.TooLong) → result ≡ Err TooLong
long_after result c (inl broken) e = absurd (differ (same_fault (sym broken.0 ∙ e)))
  where
    differ : reported.WriteFault ≡ reported.TooLong → ⊥
    differ e = cc
long_after result c (inr by) e = long_ended result c.end by e

long_by : (result : Result ℕ SessionFault) (done : List Done) (rest : List ℕ) (p : Progress) (audit replies : Device) → result ≡ Err TooLong → Ends result done rest p audit replies → ReachesTooLong p.limit rest
long_by result done rest p audit replies is e = (subst (λ r. Ends r done rest p audit replies) is e).0

is_ok : {X : Type 0} (r : Result X SessionFault) → false ≡ is_err r → IsOk r
is_ok (Ok x) e = refl
is_ok (Err fault) e = absurd (true≢false (sym e))

module _ {L : Type 0} (outgoing incoming : L → Option (List ℕ)) where
  -- a turn in which nothing was taken
  served_rests : (bytes came : List ℕ) (done : List Done) (first mid new : Standing L) → IsClientServed outgoing bytes done first mid → Rests outgoing incoming came mid new → IsClientServed outgoing (bytes ++ came) done first new
  served_rests bytes came done first mid new s r = record {
    taken = s.taken;
    bytes_are = ap (λ t. t ++ came) s.bytes_are ∙ append_assoc s.taken mid.chunk came ∙ ap (λ t. s.taken ++ t) (sym r.chunk_is);
    serves = record {
      rest = s.serves.rest;
      cut = s.serves.cut;
      unfinished = subst (λ (j : Joined). Unfinished s.serves.rest j.progress) (sym r.connection_stays) s.serves.unfinished;
      wrote = Grows-none (written outgoing first) (written outgoing mid) (written outgoing new) (replies_of done) s.serves.wrote
          (passes_keep (outgoing mid.channel.link) (outgoing new.channel.link) mid.channel.pending new.channel.pending r.passes);
    };
  }

  -- a turn in which some were taken
  served_takes : (history : History) (moment : Moment) (bytes came : List ℕ) (done : List Done) (first mid new : Standing L) (server now : Held) (audit : Device) (own : IsClientServed outgoing bytes done first mid)
      (takes : Takes outgoing incoming moment came mid new server now audit)
      (brought : Brings history (origin_of mid moment) (own.serves.rest ++ takes.taken) takes.result now new.connection.progress audit (device (written outgoing mid) (written outgoing new)))
      → new.connection.ended ≡ false → IsClientServed outgoing (bytes ++ came) (brought.done ++ done) first new
  served_takes history moment bytes came done first mid new server now audit own takes brought alive = record {
    taken = own.taken ++ takes.taken;
    bytes_are = ap (λ b. b ++ came) own.bytes_are ∙ append_assoc own.taken mid.chunk came ∙ ap (λ b. own.taken ++ b) takes.in_order ∙ sym (append_assoc own.taken takes.taken new.chunk);
    serves = fed_on history (origin_of mid moment) own.taken takes.taken done mid.connection.progress new.connection.progress
        (written outgoing first) (written outgoing mid) (written outgoing new) audit.before audit.after takes.result now own.serves brought (is_ok takes.result (sym alive ∙ takes.ended_is));
  }

  abbrev InSeat : (bytes : List ℕ) (done : List Done) (addr : Option Addr) → Option (Seat L) → Type 0
  InSeat bytes done addr o = (seat : Seat L) → o ≡ Some seat → IsSeatServed outgoing incoming bytes done addr seat.client

  -- a record that is too long is so with more after it
  more_after : (front head after more bytes : List ℕ) → bytes ≡ front ++ (head ++ after) → bytes ++ more ≡ front ++ (head ++ (after ++ more))
  more_after front head after more bytes e = ap (λ b. b ++ more) e ∙ append_assoc front (head ++ after) more ∙ ap (λ b. front ++ b) (append_assoc head after more)

  still_too_long : (limit : ℕ) (bytes more : List ℕ) → ReachesTooLong limit bytes → ReachesTooLong limit (bytes ++ more)
  still_too_long limit bytes more r = record {
    parts = r.parts;
    are_parts = r.are_parts;
    last = r.last;
    n = r.n;
    below = r.below;
    too_long = r.too_long;
    after = r.after ++ more;
    bytes_are = more_after (unended r.parts) (header r.last r.n) r.after more bytes r.bytes_are;
  }

  -- one whom nothing new was answered
  part_rests : (bytes came : List ℕ) (done : List Done) (first mid new : Standing L) → IsPartServed outgoing incoming bytes done first mid → Rests outgoing incoming came mid new → IsPartServed outgoing incoming (bytes ++ came) done first new
  part_rests bytes came done first mid new s r = record {
    comes = shrinks_then (incoming first.channel.link) (incoming mid.channel.link) (incoming new.channel.link) bytes came s.comes r.comes;
    rest = s.rest ++ came;
    cut = records_grow bytes (bytes_of done) s.rest came s.cut;
    put = s.put;
    unput = s.unput;
    replies_are = s.replies_are;
    wrote = Grows-none (written outgoing first) (written outgoing mid) (written outgoing new) s.put s.wrote (passes_keep (outgoing mid.channel.link) (outgoing new.channel.link) mid.channel.pending new.channel.pending r.passes);
    too_long = λ e. subst (λ (j : Joined). ReachesTooLong j.progress.limit (s.rest ++ came)) (sym r.connection_stays) (still_too_long mid.connection.progress.limit s.rest came (s.too_long (r.none_too_long e)));
  }

  -- one who was answered
  part_takes : (history : History) (moment : Moment) (bytes came : List ℕ) (done : List Done) (first mid new : Standing L) (server now : Held) (audit : Device) (comes : Shrinks (incoming first.channel.link) bytes (incoming mid.channel.link)) (own : IsClientServed outgoing bytes done first mid)
      (takes : Takes outgoing incoming moment came mid new server now audit)
      (brought : Brings history (origin_of mid moment) (own.serves.rest ++ takes.taken) takes.result now new.connection.progress audit (device (written outgoing mid) (written outgoing new)))
      → IsPartServed outgoing incoming (bytes ++ came) (brought.done ++ done) first new
  part_takes history moment bytes came done first mid new server now audit comes own takes brought =
      let wrote = written_part takes.result brought.done brought.rest new.connection.progress audit (written outgoing mid) (written outgoing new) brought.ends in
      let both : bytes_of (brought.done ++ done) ≡ bytes_of done ++ bytes_of brought.done = ap (map (λ (d : Done). d.event.bytes)) (reverse-append brought.done done) ∙ map-append (λ (d : Done). d.event.bytes) (reverse done) (reverse brought.done) in
      let all : bytes ++ came ≡ (own.taken ++ takes.taken) ++ new.chunk = ap (λ b. b ++ came) own.bytes_are ∙ append_assoc own.taken mid.chunk came ∙ ap (λ b. own.taken ++ b) takes.in_order ∙ sym (append_assoc own.taken takes.taken new.chunk) in
      let later : AreRecords (own.serves.rest ++ takes.taken) (bytes_of brought.done) brought.rest = subst (λ rs. AreRecords (own.serves.rest ++ takes.taken) rs brought.rest)
      (sym (records_are (origin_of mid moment) brought.done brought.serves.records brought.serves.events_are)) brought.serves.cut in
      let cut : AreRecords (own.taken ++ takes.taken) (bytes_of (brought.done ++ done)) brought.rest = subst (λ rs. AreRecords (own.taken ++ takes.taken) rs brought.rest) (sym both)
      (records_append (own.taken ++ takes.taken) (bytes_of done) (bytes_of brought.done) (own.serves.rest ++ takes.taken) brought.rest (records_grow own.taken (bytes_of done) own.serves.rest takes.taken own.serves.cut) later) in
      record {
        comes = shrinks_then (incoming first.channel.link) (incoming mid.channel.link) (incoming new.channel.link) bytes came comes takes.comes;
        rest = brought.rest ++ new.chunk;
        cut = subst (λ b. AreRecords b (bytes_of (brought.done ++ done)) (brought.rest ++ new.chunk)) (sym all) (records_grow (own.taken ++ takes.taken) (bytes_of (brought.done ++ done)) brought.rest new.chunk cut);
        put = replies_of done ++ wrote.0;
        unput = wrote.1;
        replies_are = replies_append brought.done done ∙ ap (λ t. replies_of done ++ t) wrote.2 ∙ sym (append_assoc (replies_of done) wrote.0 wrote.1);
        wrote = Grows-then (written outgoing first) (written outgoing mid) (written outgoing new) (replies_of done) wrote.0 own.serves.wrote wrote.3;
        too_long = λ e. still_too_long new.connection.progress.limit brought.rest new.chunk
            (long_by takes.result brought.done brought.rest new.connection.progress audit (device (written outgoing mid) (written outgoing new)) (long_after takes.result new takes.stands e) brought.ends);
      }

  module _ (shared : Bool) (history : History) (earlier : List Change) (old between new : ServiceState L) (before : IsOneHistory outgoing incoming shared history earlier old between) where
    -- those of other keys, for whom nothing changes
    still : (key : ℕ) → new.seat key ≡ between.seat key → InSeat (own_bytes key earlier) (own_events key before.outcomes) (addr_at key earlier) (new.seat key)
    still key stays seat sits = before.seats_served key seat (sym stays ∙ sits)

    -- a change that writes no line of a connection
    whole_still : new.complete ≡ between.complete → new.complete ≡ true → (old.complete ≡ true) × (lines_written before.outcomes ++ [] ≡ end_lines earlier)
    whole_still same is = let all = before.whole (sym same ∙ is) in (all.0, append-nil (lines_written before.outcomes) ∙ all.1)

    -- ---- one joins
    module _ (key number : ℕ) (addr : Addr) (j : Joins key number addr between new) where
      fresh : IsNew j.client → IsClientServed outgoing [] [] j.client j.client
      fresh n = record { taken = []; bytes_are = sym n.nothing_came; serves = record { rest = []; cut = refl; unfinished = n.begins; wrote = grows_none (written outgoing j.client) } }

      joined : (k : ℕ) (t : Bool) → nat_eq k key ≡ t → InSeat (if t then [] else own_bytes k earlier) (if t then [] else own_events k before.outcomes) (if t then Some addr else addr_at k earlier) (new.seat k)
      joined k true e seat sits =
          let same : record { number = number; client = j.client } ≡ seat = some_same (sym j.sits ∙ ap new.seat (sym (eqb-true k key e)) ∙ sits) in
          let is : j.client ≡ seat.client = ap (λ (s : Seat L). s.client) same in
          subst (λ c. IsSeatServed outgoing incoming [] [] (Some addr) c) is
          (record { first = j.client; begins = j.begins; addr_is = ap Some (sym j.addr_is); part = record { comes = shrinks_none (incoming j.client.channel.link); rest = []; cut = refl; put = []; unput = []; replies_are = refl; wrote = grows_none (written outgoing j.client); too_long = λ e. absurd (none_some (sym j.begins.goes_on ∙ e)) }; served = λ alive. fresh j.begins })
      joined k false e seat sits = still k (j.others k (eqb-false k key e)) seat sits

      joins_on : IsOneHistory outgoing incoming shared history (joins key number addr ∷ earlier) old new
      joins_on = record {
        outcomes = record { change = joins key number addr; done = []; log = []; line = [] } ∷ before.outcomes;
        outcomes_are = ap (λ l. joins key number addr ∷ l) before.outcomes_are;
        are_outcomes = ((refl, refl, refl), before.are_outcomes);
        fits = subst (λ s. Fits (history_after history before.outcomes) s) (sym j.server_stays) before.fits;
        log_is = none_more old.log between.log new.log (log_of before.outcomes) j.log_stays before.log_is;
        lines_are = none_more old.lines between.lines new.lines (lines_written before.outcomes) j.lines_stay before.lines_are;
        whole = whole_still j.complete_stays;
        seats_served = λ k. joined k (nat_eq k key) refl;
      }

    -- ---- one leaves
    module _ (key number calls : ℕ) (end : End) (l : Leaves shared key number calls end between new) where
      left : (k : ℕ) (t : Bool) → nat_eq k key ≡ t → InSeat (own_bytes k earlier) (own_events k before.outcomes) (addr_at k earlier) (new.seat k)
      left k true e seat sits = absurd (none_some (sym l.gone ∙ ap new.seat (sym (eqb-true k key e)) ∙ sits))
      left k false e seat sits = still k (l.others k (eqb-false k key e)) seat sits

      was : HasLeft outgoing incoming shared key number calls end [] (if shared then l.line else []) l.line before.outcomes
      was = record {
        no_events = refl;
        part = l.part;
        log_is = refl;
        client = l.client;
        calls_are = l.calls_are;
        ended = l.ended;
        was_served = subst (λ cs. IsSeatServed outgoing incoming (own_bytes key cs) (own_events key before.outcomes) (addr_at key cs) l.client) (sym before.outcomes_are)
            (before.seats_served key (record { number = number; client = l.client }) l.sat);
      }

      leaves_on : IsOneHistory outgoing incoming shared history (leaves key number calls end ∷ earlier) old new
      leaves_on = record {
        outcomes = record { change = leaves key number calls end; done = []; log = if shared then l.line else []; line = l.line } ∷ before.outcomes;
        outcomes_are = ap (λ cs. leaves key number calls end ∷ cs) before.outcomes_are;
        are_outcomes = (was, before.are_outcomes);
        fits = subst (λ s. Fits (history_after history before.outcomes) s) (sym l.server_stays) before.fits;
        log_is = Grows-then old.log between.log new.log (log_of before.outcomes) (if shared then l.line else []) before.log_is l.log_grows;
        lines_are = Grows-then old.lines between.lines new.lines (lines_written before.outcomes) l.line before.lines_are l.lines_grow;
        whole = λ is.
            let own = l.whole is in
            let all = before.whole own.0 in
            (all.0, ap (λ t. t ++ l.line) all.1 ∙ ap (λ t. end_lines earlier ++ t) own.1);
        seats_served = λ k. left k (nat_eq k key) refl;
      }

    -- ---- lines are passed on
    passes_on : PassesOn between new → IsOneHistory outgoing incoming shared history (passes ∷ earlier) old new
    passes_on p = record {
      outcomes = record { change = passes; done = []; log = []; line = [] } ∷ before.outcomes;
      outcomes_are = ap (λ cs. passes ∷ cs) before.outcomes_are;
      are_outcomes = ((refl, refl, refl), before.are_outcomes);
      fits = subst (λ s. Fits (history_after history before.outcomes) s) (sym p.server_stays) before.fits;
      log_is = Grows-then old.log between.log new.log (log_of before.outcomes) [] before.log_is p.log_is;
      lines_are = Grows-then old.lines between.lines new.lines (lines_written before.outcomes) [] before.lines_are p.lines_stay;
      whole = whole_still p.complete_stays;
      seats_served = λ k. still k (ap (λ (seats : ℕ → Option (Seat L)). seats k) p.seats_stay);
    }

    -- ---- other exports are put in force
    reloads_on : (exports : List (List Export)) → Reloads exports between new → IsOneHistory outgoing incoming shared history (reloads exports ∷ earlier) old new
    reloads_on exports r = record {
      outcomes = record { change = reloads exports; done = []; log = []; line = [] } ∷ before.outcomes;
      outcomes_are = ap (λ cs. reloads exports ∷ cs) before.outcomes_are;
      are_outcomes = ((refl, refl, refl), before.are_outcomes);
      fits = subst (Fits (reloaded (history_after history before.outcomes) exports)) (sym (ap (λ (s : ServiceState L). s.server) r))
          (reloaded_fits (history_after history before.outcomes) exports between.server before.fits);
      log_is = none_more old.log between.log new.log (log_of before.outcomes) (ap (λ (s : ServiceState L). s.log) r) before.log_is;
      lines_are = none_more old.lines between.lines new.lines (lines_written before.outcomes) (ap (λ (s : ServiceState L). s.lines) r) before.lines_are;
      whole = whole_still (ap (λ (s : ServiceState L). s.complete) r);
      seats_served = λ k. still k (ap (λ (s : ServiceState L). s.seat k) r);
    }

    -- ---- notes come to last
    settles_on : (notes : List ℕ) → Settles notes between new → IsOneHistory outgoing incoming shared history (settles notes ∷ earlier) old new
    settles_on notes s = record {
      outcomes = record { change = settles notes; done = []; log = []; line = [] } ∷ before.outcomes;
      outcomes_are = ap (λ cs. settles notes ∷ cs) before.outcomes_are;
      are_outcomes = ((refl, refl, refl), before.are_outcomes);
      fits = subst (Fits (settled (history_after history before.outcomes))) (sym (ap (λ (s : ServiceState L). s.server) s.1))
          (settled_fits (history_after history before.outcomes) between.server before.fits);
      log_is = none_more old.log between.log new.log (log_of before.outcomes) (ap (λ (s : ServiceState L). s.log) s.1) before.log_is;
      lines_are = none_more old.lines between.lines new.lines (lines_written before.outcomes) (ap (λ (s : ServiceState L). s.lines) s.1) before.lines_are;
      whole = whole_still (ap (λ (s : ServiceState L). s.complete) s.1);
      seats_served = λ k. still k (ap (λ (s : ServiceState L). s.seat k) s.1);
    }

    -- ---- one has a turn
    module _ (key : ℕ) (moment : Moment) (came : List ℕ) (h : HasTurn outgoing incoming key moment came between new) where
      own : IsSeatServed outgoing incoming (own_bytes key earlier) (own_events key before.outcomes) (addr_at key earlier) h.was
      own = before.seats_served key (record { number = h.number; client = h.was }) h.sat

      had : (bytes : List ℕ) (done : List Done) → IsSeatServed outgoing incoming bytes done (addr_at key earlier) h.now → (seat : Seat L) → new.seat key ≡ Some seat → IsSeatServed outgoing incoming bytes done (addr_at key earlier) seat.client
      had bytes done served seat sits = subst (λ c. IsSeatServed outgoing incoming bytes done (addr_at key earlier) c) (ap (λ (s : Seat L). s.client) (some_same (sym h.sits ∙ sits))) served

      had_by : (done : List Done) → IsSeatServed outgoing incoming (own_bytes key earlier ++ came) (done ++ own_events key before.outcomes) (addr_at key earlier) h.now
          → (k : ℕ) (t : Bool) → nat_eq k key ≡ t → InSeat (own_bytes k earlier ++ (if t then came else [])) ((if t then done else []) ++ own_events k before.outcomes) (addr_at k earlier) (new.seat k)
      had_by done served k true e seat sits =
          (subst (λ i. InSeat (own_bytes i earlier ++ came) (done ++ own_events i before.outcomes) (addr_at i earlier) (new.seat i)) (sym (eqb-true k key e))
          (had (own_bytes key earlier ++ came) (done ++ own_events key before.outcomes) served)) seat sits
      had_by done served k false e seat sits =
          subst (λ b. IsSeatServed outgoing incoming b (own_events k before.outcomes) (addr_at k earlier) seat.client) (sym (append-nil (own_bytes k earlier)))
          (still k (h.others k (eqb-false k key e)) seat sits)

      abbrev TurnOn : Type 0
      TurnOn = IsOneHistory outgoing incoming shared history (turns key moment came ∷ earlier) old new

      turn_on : (done : List Done) (log : List ℕ) → AreFrom (addr_at key earlier) moment done → IsLog done log → Fits (longer (history_after history before.outcomes) done) new.server → Grows between.log log new.log
          → IsSeatServed outgoing incoming (own_bytes key earlier ++ came) (done ++ own_events key before.outcomes) (addr_at key earlier) h.now → TurnOn
      turn_on done log from is fits grows served = record {
        outcomes = record { change = turns key moment came; done = done; log = log; line = [] } ∷ before.outcomes;
        outcomes_are = ap (λ b. turns key moment came ∷ b) before.outcomes_are;
        are_outcomes = ((subst (λ b. AreFrom (addr_at key b) moment done) (sym before.outcomes_are) from, is, refl), before.are_outcomes);
        fits = fits;
        log_is = Grows-then old.log between.log new.log (log_of before.outcomes) log before.log_is grows;
        lines_are = none_more old.lines between.lines new.lines (lines_written before.outcomes) h.lines_stay before.lines_are;
        whole = whole_still h.complete_stays;
        seats_served = λ k. had_by done served k (nat_eq k key) refl;
      }

      rested : Rests outgoing incoming came h.was h.now → new.server ≡ between.server → new.log ≡ between.log → TurnOn
      rested rests server log = turn_on [] [] tt (inl refl)
          (subst (λ s. Fits (history_after history before.outcomes) s) (sym server) before.fits)
          (subst (λ o. Grows between.log [] o) (sym log) (grows_none between.log))
          (record {
            first = own.first;
            begins = own.begins;
            addr_is = own.addr_is ∙ ap (λ (j : Joined). Some j.addr) (sym rests.connection_stays);
            part = part_rests (own_bytes key earlier) came (own_events key before.outcomes) own.first h.was h.now own.part rests;
            served = λ alive. served_rests (own_bytes key earlier) came (own_events key before.outcomes) own.first h.was h.now (own.served (ap (λ (j : Joined). j.ended) (sym rests.connection_stays) ∙ alive)) rests;
          })

      module _ (takes : Takes outgoing incoming moment came h.was h.now between.server new.server (device between.log new.log)) where
        was_served : IsClientServed outgoing (own_bytes key earlier) (own_events key before.outcomes) own.first h.was
        was_served = own.served takes.alive

        brought : Brings (history_after history before.outcomes) (origin_of h.was moment) (was_served.serves.rest ++ takes.taken) takes.result new.server h.now.connection.progress (device between.log new.log) (device (written outgoing h.was) (written outgoing h.now))
        brought = takes.feeds (history_after history before.outcomes) before.fits was_served.serves.rest was_served.serves.unfinished

        took : TurnOn
        took =
            let log = logged takes.result brought.done brought.rest h.now.connection.progress between.log new.log (device (written outgoing h.was) (written outgoing h.now)) brought.ends in
            turn_on brought.done log.0
            (are_from (addr_at key earlier) (origin_of h.was moment) brought.done brought.serves.records own.addr_is brought.serves.events_are)
            log.1
            brought.serves.fits
            log.2
            (record {
              first = own.first;
              begins = own.begins;
              addr_is = own.addr_is ∙ ap Some (sym takes.addr_stays);
              part = part_takes (history_after history before.outcomes) moment (own_bytes key earlier) came (own_events key before.outcomes) own.first h.was h.now between.server new.server (device between.log new.log) own.part.comes was_served takes brought;
              served = λ alive. served_takes (history_after history before.outcomes) moment (own_bytes key earlier) came (own_events key before.outcomes) own.first h.was h.now between.server new.server (device between.log new.log) was_served takes brought alive;
            })

      turned : TurnsBy outgoing incoming moment came h.was h.now between.server new.server (device between.log new.log) → TurnOn
      turned (inl rests) = rested rests.0 rests.1 rests.2
      turned (inr takes) = took takes

  none_yet : (shared : Bool) (history : History) (old : ServiceState L) → Fits history old.server → ((key : ℕ) → old.seat key ≡ None) → IsOneHistory outgoing incoming shared history [] old old
  none_yet shared history old fits none = record {
    outcomes = [];
    outcomes_are = refl;
    are_outcomes = tt;
    fits = fits;
    log_is = grows_none old.log;
    lines_are = grows_none old.lines;
    whole = λ is. (is, refl);
    seats_served = λ key seat sits. absurd (none_some (sym (none key) ∙ sits));
  }

  pub service_is_one_history : ServiceIsOneHistory outgoing incoming
  service_is_one_history shared [] old new none are history fits = subst (λ s. IsOneHistory outgoing incoming shared history [] old s) (sym are) (none_yet shared history old fits none)
  service_is_one_history shared (joins key number addr ∷ earlier) old new none are history fits =
      joins_on shared history earlier old are.0 new (service_is_one_history shared earlier old are.0 none are.1 history fits) key number addr are.2
  service_is_one_history shared (turns key moment came ∷ earlier) old new none are history fits =
      turned shared history earlier old are.0 new (service_is_one_history shared earlier old are.0 none are.1 history fits) key moment came are.2 are.2.turn
  service_is_one_history shared (leaves key number calls end ∷ earlier) old new none are history fits =
      leaves_on shared history earlier old are.0 new (service_is_one_history shared earlier old are.0 none are.1 history fits) key number calls end are.2
  service_is_one_history shared (passes ∷ earlier) old new none are history fits =
      passes_on shared history earlier old are.0 new (service_is_one_history shared earlier old are.0 none are.1 history fits) are.2
  service_is_one_history shared (reloads exports ∷ earlier) old new none are history fits =
      reloads_on shared history earlier old are.0 new (service_is_one_history shared earlier old are.0 none are.1 history fits) exports are.2
  service_is_one_history shared (settles notes ∷ earlier) old new none are history fits =
      settles_on shared history earlier old are.0 new (service_is_one_history shared earlier old are.0 none are.1 history fits) notes are.2
