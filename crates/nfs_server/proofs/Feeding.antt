-- What is fed in two chunks, one after the other, is fed in one.
use Rattle.std.proofs.Common.{◌≡◌, ℕ, ◌+◌, ◌≤◌, List, [], ◌∷◌, ◌++◌, map, reverse, take, length, Option, Result, Ok, Err, sym, ap, subst, ◌∙◌, append_assoc, append-nil, arith}
use Rattle.std.specs.List.{AllByRecursion}
use Rattle.std.proofs.lemmas.List.{map-append, reverse-append, length-append}
use Rattle.nfs_rpc.specs.Progress.{Progress}
use Rattle.nfs_rpc.specs.Records.{AreRecords}
use Rattle.nfs_rpc.proofs.Streams.{records_grow}
use Rattle.nfs_server.specs.Events.{Done}
use Rattle.nfs_server.specs.Feeding.{device, BreaksOff, WritesAll, Serves, Ends, line_bytes, framed, lines_of, replies_of, event_at}
use Rattle.nfs_server.specs.Fits.{Held, History, Fits}
use Rattle.nfs_server.specs.Runs.{longer}
use Rattle.nfs_server.specs.Taking.{FeedsWith}
use Rattle.nfs_server.specs.declared.session_fault.SessionFault.{SessionFault}
use Rattle.nfs_server.specs.declared.session_fault.SessionFault.TheVariants.{ConnectionTaken, UnknownConnection, Ended, TooLong, Memory, AuditFault, WriteFault}
use Rattle.nfs_server.specs.declared.taking.Origin.{Origin}
use Rattle.nfs_xdr.specs.Known.{Grows}
use Rattle.nfs_xdr.proofs.Knowing.{Grows-then}

pub records_append : (bytes : List ℕ) (records others : List (List ℕ)) (rest left : List ℕ) → AreRecords bytes records rest → AreRecords rest others left → AreRecords bytes (records ++ others) left
records_append bytes [] others rest left r s = subst (λ t. AreRecords t others left) r s
records_append bytes (content ∷ records) others rest left r s = (r.0, r.1, records_append r.0 records others rest left r.2 s)

pub all_append : {X : Type 0} (P : X → Type 0) (xs ys : List X) → AllByRecursion P xs → AllByRecursion P ys → AllByRecursion P (xs ++ ys)
all_append P [] ys a b = b
all_append P (x ∷ xs) ys a b = (a.0, all_append P xs ys a.1 b)

lines_append : (later done : List Done) → lines_of (later ++ done) ≡ lines_of done ++ lines_of later
lines_append [] done = sym (append-nil (lines_of done))
lines_append (d ∷ later) done = ap (λ t. t ++ line_bytes d.answer.line) (lines_append later done) ∙ append_assoc (lines_of done) (lines_of later) (line_bytes d.answer.line)

pub replies_append : (later done : List Done) → replies_of (later ++ done) ≡ replies_of done ++ replies_of later
replies_append [] done = sym (append-nil (replies_of done))
replies_append (d ∷ later) done = ap (λ t. t ++ framed d.answer.reply) (replies_append later done) ∙ append_assoc (replies_of done) (replies_of later) (framed d.answer.reply)

-- what was written before, and what was written then
lines_on : (a b c : Option (List ℕ)) (later done : List Done) → Grows a (lines_of done) b → Grows b (lines_of later) c → Grows a (lines_of (later ++ done)) c
lines_on a b c later done f g = subst (λ t. Grows a t c) (sym (lines_append later done)) (Grows-then a b c (lines_of done) (lines_of later) f g)

replies_on : (a b c : Option (List ℕ)) (later done : List Done) → Grows a (replies_of done) b → Grows b (replies_of later) c → Grows a (replies_of (later ++ done)) c
replies_on a b c later done f g = subst (λ t. Grows a t c) (sym (replies_append later done)) (Grows-then a b c (replies_of done) (replies_of later) f g)

breaks_on : (a b c : Option (List ℕ)) (before all both part : List ℕ) → both ≡ before ++ all → Grows a before b → BreaksOff (device b c) all part → BreaksOff (device a c) both part
breaks_on a b c before all both part e f k = record {
  n = k.n;
  within = k.within;
  wrote = subst (λ t. Grows a t c) (sym (append_assoc before all (take k.n part)) ∙ ap (λ t. t ++ take k.n part) (sym e)) (Grows-then a b c before (all ++ take k.n part) f k.wrote);
}

-- with so many records more
abbrev pub added : ℕ → Result ℕ SessionFault → Result ℕ SessionFault
added n (Ok m) = Ok (n + m)
added n (Err fault) = Err fault

module _ (a b c v w x : Option (List ℕ)) (done later : List Done) where
  both_on : WritesAll done (device a b) (device v w) → WritesAll later (device b c) (device w x) → WritesAll (later ++ done) (device a c) (device v x)
  both_on f g = record { lines_are = lines_on a b c later done f.lines_are g.lines_are; replies_are = replies_on v w x later done f.replies_are g.replies_are }

pub ends_on : (a b c v w x : Option (List ℕ)) (result : Result ℕ SessionFault) (done later : List Done) (left : List ℕ) (p : Progress) → WritesAll done (device a b) (device v w) → Ends result later left p (device b c) (device w x) → Ends (added (length done) result) (later ++ done) left p (device a c) (device v x)
ends_on a b c v w x (Ok n) done later left p f e =
    let len : length (later ++ done) ≡ length later + length done = length-append later done in
    (omega (arith, e.0, len), e.1, both_on a b c v w x done later f e.2)
ends_on a b c v w x (Err TooLong) done later left p f e = (e.0, both_on a b c v w x done later f e.1)
ends_on a b c v w x (Err Memory) done later left p f e = (e.0, both_on a b c v w x done later f e.1)
ends_on a b c v w x (Err AuditFault) done [] left p f e = absurd e
ends_on a b c v w x (Err AuditFault) done (d ∷ later) left p f e =
    (breaks_on a b c (lines_of done) (lines_of later) (lines_of (later ++ done)) (line_bytes d.answer.line) (lines_append later done) f.lines_are e.0, replies_on v w x later done f.replies_are e.1)
ends_on a b c v w x (Err WriteFault) done [] left p f e = absurd e
ends_on a b c v w x (Err WriteFault) done (d ∷ later) left p f e =
    (breaks_on v w x (replies_of done) (replies_of later) (replies_of (later ++ done)) (framed d.answer.reply) (replies_append later done) f.replies_are e.0, lines_on a b c (d ∷ later) done f.lines_are e.1)
ends_on a b c v w x (Err ConnectionTaken) done later left p f e = e
ends_on a b c v w x (Err UnknownConnection) done later left p f e = e
ends_on a b c v w x (Err Ended) done later left p f e = e

serves_on : (history : History) (origin : Origin) (limit : ℕ) (bytes more : List ℕ) (done later : List Done) (rest left : List ℕ) (mid new : Held) → Serves history origin limit bytes done rest mid → Serves (longer history done) origin limit (rest ++ more) later left new → Serves history origin limit (bytes ++ more) (later ++ done) left new
serves_on history origin limit bytes more done later rest left mid new f g = record {
  records = f.records ++ g.records;
  cut = records_append (bytes ++ more) f.records g.records (rest ++ more) left (records_grow bytes f.records rest more f.cut) g.cut;
  within = all_append (λ (content : List ℕ). length content ≤ limit) f.records g.records f.within g.within;
  events_are = ap (map (λ (d : Done). d.event)) (reverse-append later done) ∙ map-append (λ (d : Done). d.event) (reverse done) (reverse later) ∙ ap (λ t. t ++ map (λ (d : Done). d.event) (reverse later)) f.events_are
      ∙ ap (λ t. map (event_at origin) f.records ++ t) g.events_are ∙ sym (map-append (event_at origin) f.records g.records);
  fits = subst (λ d. Fits (record history { done = d }) new) (sym (append_assoc later done history.done)) g.fits;
}

pub feeds_on : (First Then Both : List Done → Type 0) (origin : Origin) (xs ys : List ℕ) (n : ℕ) (result : Result ℕ SessionFault) (old mid new : Held) (from between to : Progress) (a b c v w x : Option (List ℕ))
    → between.limit ≡ to.limit
    → ((done later : List Done) → First done → Then later → Both (later ++ done))
    → FeedsWith First origin xs (Ok n) old mid from between (device a b) (device v w)
    → FeedsWith Then origin ys result mid new between to (device b c) (device w x)
    → FeedsWith Both origin (xs ++ ys) (added n result) old new from to (device a c) (device v x)
feeds_on First Then Both origin xs ys n result old mid new from between to a b c v w x limit joins f g history fits text unfinished =
    let first = f history fits text unfinished in
    let done = first.0.done in
    let then = g (longer history done) first.0.serves.fits first.0.rest first.0.ends.1.unfinished in
    let serves = subst (λ k. Serves history origin k (text ++ xs) done first.0.rest mid) limit first.0.serves in
    let both = serves_on history origin to.limit (text ++ xs) ys done then.0.done first.0.rest then.0.rest mid new serves then.0.serves in
    let ends = ends_on a b c v w x result done then.0.done then.0.rest to first.0.ends.2 then.0.ends in (
      record {
        done = then.0.done ++ done;
        rest = then.0.rest;
        serves = subst (λ t. Serves history origin to.limit t (then.0.done ++ done) then.0.rest new) (append_assoc text xs ys) both;
        ends = subst (λ k. Ends (added k result) (then.0.done ++ done) then.0.rest to (device a c) (device v x)) (sym first.0.ends.0) ends;
      },
      joins done then.0.done first.1 then.1,
    )
