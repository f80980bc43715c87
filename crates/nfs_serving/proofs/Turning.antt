-- What a turn does, step by step.
use Rattle.std.proofs.Common.{◌≡◌, ◌≢◌, ◌⊎◌, ◌<◌, ◌≤◌, ℕ, Bool, true, false, List, [], ◌∷◌, ◌++◌, take, drop, Option, Some, None, Result, Ok, Err, OnOk, OnErr, is_err, nat_eq, inl, inr, refl, sym, ap, subst, ◌∙◌, append_assoc, append-nil}
use Rattle.std.proofs.Math.Nat.{eq-or-lt_of_le}
use Rattle.std.proofs.lemmas.Bool.{eqb-false}
use Rattle.std.proofs.lemmas.List.{take-append-drop}
use Rattle.nfs_attrs.specs.declared.moment.Moment.{Moment}
use Rattle.nfs_rpc.specs.Progress.{Progress}
use Rattle.nfs_server.specs.Connections.{Joined}
use Rattle.nfs_server.specs.Events.{Done}
use Rattle.nfs_server.specs.Feeding.{Device, device, Ends, EndsWith, Feeds, replies_of, framed}
use Rattle.nfs_server.specs.Fits.{Held}
use Rattle.nfs_server.specs.ReplyRoom.{Buffered}
use Rattle.nfs_server.specs.Taking.{FeedsSome, bytes_taken, count_taken}
use Rattle.nfs_server.specs.declared.session_fault.SessionFault.{SessionFault}
use Rattle.nfs_server.specs.declared.session_fault.SessionFault.TheVariants.{ConnectionTaken, UnknownConnection, Ended, TooLong, Memory, AuditFault, WriteFault}
use Rattle.nfs_server.specs.declared.taking.Origin.{Origin}
use Rattle.nfs_server.specs.declared.taking.Taken.{Taken}
use Rattle.nfs_serving.specs.Outgoing.{Outgoing, Passes, with_pending}
use Rattle.nfs_serving.specs.Turns.{Standing, Gathers, IsEndBy, StandsBy, StandsAfter, Rests, Takes, Turns, calls_after, origin_of, written}
use Rattle.nfs_serving.specs.declared.turn.End.{End}
use Rattle.nfs_serving.specs.declared.turn.End.TheVariants.{Closed, Fault}
use Rattle.nfs_server.specs.declared.serve_fault.ServeFault.{ServeFault}
use Rattle.nfs_server.specs.declared.serve_fault.ServeFault.TheVariants as reported
use Rattle.nfs_xdr.specs.Known.{Grows, Shrinks}
use Rattle.nfs_xdr.proofs.Knowing.{Grows-then}

none_some : {X : Type 0} {x : X} → None ≡ Some x → ⊥
none_some e = cc

some_same : {X : Type 0} {x y : X} → Some x ≡ Some y → x ≡ y
some_same e = cc

pub fewer : (n room : ℕ) → n ≤ room → nat_eq n room ≡ false → n < room
fewer n room le differ = by_case (eq-or-lt_of_le le)
  where
    by_case : (n ≡ room) ⊎ (n < room) → n < room
    by_case (inl same) = absurd (eqb-false n room differ same)
    by_case (inr less) = less

-- ---- what is known of bytes

pub grows_none : (a : Option (List ℕ)) → Grows a [] a
grows_none a before e = e ∙ ap Some (sym (append-nil before))

pub shrinks_none : (a : Option (List ℕ)) → Shrinks a [] a
shrinks_none a before e = (before, e, refl)

pub shrinks_then : (a b c : Option (List ℕ)) (xs ys : List ℕ) → Shrinks a xs b → Shrinks b ys c → Shrinks a (xs ++ ys) c
shrinks_then a b c xs ys first second before e =
    let f = first before e in
    let g = second f.0 f.1 in
    (g.0, g.1, f.2 ∙ ap (λ t. xs ++ t) g.2 ∙ sym (append_assoc xs ys g.0))

pub passes_none : (a : Option (List ℕ)) (pending : List ℕ) → Passes a pending a pending
passes_none a pending = record { sent = []; pending_is = refl; grows = grows_none a }

none_after : (sent left : List ℕ) → sent ++ left ≡ [] → left ≡ []
none_after [] left e = e
none_after (x ∷ sent) left e = cc

-- what is left of what was pending was pending
pub left_was_pending : (before after : Option (List ℕ)) (pending left : List ℕ) → Passes before pending after left → left ≢ [] → pending ≢ []
left_was_pending before after pending left p some e = some (none_after p.sent left (sym p.pending_is ∙ e))

-- some first bytes were sent, and the others are left
pub passes_some : (a b : Option (List ℕ)) (pending left bytes : List ℕ) (n : ℕ) → bytes ≡ pending → left ≡ drop n pending → Grows a (take n bytes) b → Passes a pending b left
passes_some a b pending left bytes n same rest grows = record {
  sent = take n pending;
  pending_is = sym (take-append-drop n pending) ∙ ap (λ t. take n pending ++ t) (sym rest);
  grows = subst (λ l. Grows a (take n l) b) same grows;
}

passes_on : (a b c : Option (List ℕ)) (x y z : List ℕ) → Passes a x b y → Passes b y c z → Passes a x c z
passes_on a b c x y z f g = record {
  sent = f.sent ++ g.sent;
  pending_is = f.pending_is ∙ ap (λ t. f.sent ++ t) g.pending_is ∙ sym (append_assoc f.sent g.sent z);
  grows = Grows-then a b c f.sent g.sent f.grows g.grows;
}

-- what is passed on was written before
pub passes_keep : (a b : Option (List ℕ)) (x y : List ℕ) → Passes a x b y → Grows (with_pending a x) [] (with_pending b y)
passes_keep None b x y p before e = absurd (none_some e)
passes_keep (Some s) b x y p before e =
    let sent : b ≡ Some (s ++ p.sent) = p.grows s refl in
    let all : s ++ x ≡ (s ++ p.sent) ++ y = ap (λ t. s ++ t) p.pending_is ∙ sym (append_assoc s p.sent y) in
    ap (λ o. with_pending o y) sent ∙ ap Some (sym all ∙ some_same e ∙ sym (append-nil before))

-- what has gathered stands after what was sent
gives_over : (a : Option (List ℕ)) (batch xs : List ℕ) → Grows (Some []) xs (Some batch) → Grows (with_pending a []) xs (with_pending a batch)
gives_over None batch xs g before e = absurd (none_some e)
gives_over (Some s) batch xs g before e =
    let is : batch ≡ xs = some_same (g [] refl) in
    ap (λ t. Some (s ++ t)) is ∙ ap (λ t. Some (t ++ xs)) (sym (append-nil s) ∙ some_same e)

-- what has gathered was sent, or is pending then
sent_on : (a b : Option (List ℕ)) (gathered left xs : List ℕ) → Passes a gathered b left → Grows (Some []) xs (Some gathered) → Grows (with_pending a []) xs (with_pending b left)
sent_on a b gathered left xs p g = subst (λ t. Grows (with_pending a []) t (with_pending b left)) (append-nil xs)
    (Grows-then (with_pending a []) (with_pending a gathered) (with_pending b left) xs [] (gives_over a gathered xs g) (passes_keep a b gathered left p))

-- ---- a feed whose replies go elsewhere

module _ (x y v w : Option (List ℕ)) (by : (xs : List ℕ) → Grows x xs y → Grows v xs w) (audit : Device) where
  ends_by : (result : Result ℕ SessionFault) (done : List Done) (rest : List ℕ) (p : Progress) → Ends result done rest p audit (device x y) → Ends result done rest p audit (device v w)
  ends_by (Ok n) done rest p e = (e.0, e.1, record { lines_are = e.2.lines_are; replies_are = by (replies_of done) e.2.replies_are })
  ends_by (Err TooLong) done rest p e = (e.0, record { lines_are = e.1.lines_are; replies_are = by (replies_of done) e.1.replies_are })
  ends_by (Err Memory) done rest p e = (e.0, record { lines_are = e.1.lines_are; replies_are = by (replies_of done) e.1.replies_are })
  ends_by (Err AuditFault) [] rest p e = e
  ends_by (Err AuditFault) (d ∷ earlier) rest p e = (e.0, by (replies_of earlier) e.1)
  ends_by (Err WriteFault) [] rest p e = e
  ends_by (Err WriteFault) (d ∷ earlier) rest p e = (record { n = e.0.n; within = e.0.within; wrote = by (replies_of earlier ++ take e.0.n (framed d.answer.reply)) e.0.wrote }, e.1)
  ends_by (Err ConnectionTaken) done rest p e = e
  ends_by (Err UnknownConnection) done rest p e = e
  ends_by (Err Ended) done rest p e = e

  feeds_by : (origin : Origin) (chunk : List ℕ) (result : Result ℕ SessionFault) (old new : Held) (from to : Progress) → Feeds origin chunk result old new from to audit (device x y) → Feeds origin chunk result old new from to audit (device v w)
  feeds_by origin chunk result old new from to f history fits text u =
      let b = f history fits text u in
      record { done = b.done; rest = b.rest; serves = b.serves; ends = ends_by result b.done b.rest to b.ends }

-- ---- what a feed leaves

abbrev pub left_of : Result Taken SessionFault → List ℕ → List ℕ
left_of (Ok taken) chunk = drop taken.used chunk
left_of (Err fault) chunk = []

all_there : (result : Result Taken SessionFault) (chunk left : List ℕ) → left ≡ left_of result chunk → chunk ++ [] ≡ bytes_taken result chunk ++ left
all_there (Ok taken) chunk left e = append-nil chunk ∙ sym (take-append-drop taken.used chunk) ∙ ap (λ t. take taken.used chunk ++ t) (sym e)
all_there (Err fault) chunk left e = ap (λ t. chunk ++ t) (sym e)

ended_as : (result : Result Taken SessionFault) (ended : Bool) → OnOk result (ended ≡ false) → OnErr result (ended ≡ true) → ended ≡ is_err (count_taken result)
ended_as (Ok taken) ended ok err = ok
ended_as (Err fault) ended ok err = err

-- a device that ends a connection has failed
pub has_failed : (fault : SessionFault) (audit_failed replies_failed : Bool) → EndsWith audit_failed replies_failed fault → fault ≡ WriteFault → replies_failed ≡ true
has_failed fault audit_failed replies_failed ends e = subst (EndsWith audit_failed replies_failed) e ends

-- ---- how a client stands

stands_ended : (result : Result ℕ SessionFault) (reply : Buffered) (end : Option End) → StandsBy result reply end → IsEndBy result end
stands_ended (Ok n) reply end s = s
stands_ended (Err fault) reply end s = s.0

-- also after the channel's own end
stands_on : {L : Type 0} (result : Result ℕ SessionFault) (mid new : Standing L) → new.channel ≡ mid.channel → StandsAfter result mid
    → (new.end ≡ mid.end) ⊎ ((new.end ≡ Some (Fault reported.WriteFault)) × (new.channel.failed ≡ true)) → StandsAfter result new
stands_on result mid new out stands (inr broken) = inl broken
stands_on {L} result mid new out (inl broken) (inl same) = inl (same ∙ broken.0, ap (λ (o : Outgoing L). o.failed) out ∙ broken.1)
stands_on result mid new out (inr by) (inl same) = inr (subst (IsEndBy result) (sym same) by)

-- ---- an end that no record brings

abbrev pub IsOtherEnd : Option End → Type 0
IsOtherEnd end = end ≡ Some (Fault reported.TooLong) → ⊥

too_long_before : (old new : Option End) → (new ≡ old) ⊎ IsOtherEnd new → new ≡ Some (Fault reported.TooLong) → old ≡ Some (Fault reported.TooLong)
too_long_before old new (inl same) e = sym same ∙ e
too_long_before old new (inr other) e = absurd (other e)

pub other_fault : (fault : ServeFault) → fault ≢ reported.TooLong → IsOtherEnd (Some (Fault fault))
other_fault fault differ e = differ (faults e)
  where
    faults : {a b : ServeFault} → Some (Fault a) ≡ Some (Fault b) → a ≡ b
    faults e = cc

pub closed_alone : IsOtherEnd (Some Closed)
closed_alone e = cc

write_fault : reported.WriteFault ≢ reported.TooLong
write_fault e = cc

-- ---- turns

module _ {L : Type 0} (outgoing incoming : L → Option (List ℕ)) where
  pub rests_none : (c : Standing L) → Rests outgoing incoming [] c c
  rests_none c = record {
    comes = shrinks_none (incoming c.channel.link);
    chunk_is = sym (append-nil c.chunk);
    connection_stays = refl;
    calls_stay = refl;
    passes = passes_none (outgoing c.channel.link) c.channel.pending;
    none_too_long = λ e. e;
  }

  -- some bytes came
  pub rests_came : (old new : Standing L) → old.chunk ≡ [] → Shrinks (incoming old.channel.link) new.chunk (incoming new.channel.link) → outgoing new.channel.link ≡ outgoing old.channel.link → new.channel.pending ≡ old.channel.pending → new.connection ≡ old.connection → new.calls ≡ old.calls → new.end ≡ old.end → Rests outgoing incoming new.chunk old new
  rests_came old new none comes out pending same calls end = record {
    comes = comes;
    chunk_is = ap (λ t. t ++ new.chunk) (sym none);
    connection_stays = same;
    calls_stay = calls;
    passes = subst (λ o. Passes (outgoing old.channel.link) old.channel.pending o new.channel.pending) (sym out) (subst (λ l. Passes (outgoing old.channel.link) old.channel.pending (outgoing old.channel.link) l) (sym pending) (passes_none (outgoing old.channel.link) old.channel.pending));
    none_too_long = λ e. sym end ∙ e;
  }

  -- nothing came, and what was pending was passed on, or the link is broken
  pub rests_by : {X F : Type 0} (r : Result X F) (old new : Standing L) → new.chunk ≡ old.chunk → new.connection ≡ old.connection → new.calls ≡ old.calls → incoming new.channel.link ≡ incoming old.channel.link
      → OnOk r (Passes (outgoing old.channel.link) old.channel.pending (outgoing new.channel.link) new.channel.pending)
      → OnErr r (outgoing new.channel.link ≡ outgoing old.channel.link)
      → OnErr r (new.channel.pending ≡ old.channel.pending)
      → (new.end ≡ old.end) ⊎ IsOtherEnd new.end
      → Rests outgoing incoming [] old new
  rests_by (Ok x) old new chunk same calls come passes out pending end = record {
    comes = subst (λ o. Shrinks (incoming old.channel.link) [] o) (sym come) (shrinks_none (incoming old.channel.link));
    chunk_is = chunk ∙ sym (append-nil old.chunk);
    connection_stays = same;
    calls_stay = calls;
    passes = passes;
    none_too_long = too_long_before old.end new.end end;
  }
  rests_by (Err fault) old new chunk same calls come passes out pending end = record {
    comes = subst (λ o. Shrinks (incoming old.channel.link) [] o) (sym come) (shrinks_none (incoming old.channel.link));
    chunk_is = chunk ∙ sym (append-nil old.chunk);
    connection_stays = same;
    calls_stay = calls;
    passes = subst (λ o. Passes (outgoing old.channel.link) old.channel.pending o new.channel.pending) (sym out) (subst (λ l. Passes (outgoing old.channel.link) old.channel.pending (outgoing old.channel.link) l) (sym pending) (passes_none (outgoing old.channel.link) old.channel.pending));
    none_too_long = too_long_before old.end new.end end;
  }

  pub rests_on : (came more : List ℕ) (old mid new : Standing L) → Rests outgoing incoming came old mid → Rests outgoing incoming more mid new → Rests outgoing incoming (came ++ more) old new
  rests_on came more old mid new f g = record {
    comes = shrinks_then (incoming old.channel.link) (incoming mid.channel.link) (incoming new.channel.link) came more f.comes g.comes;
    chunk_is = g.chunk_is ∙ ap (λ t. t ++ more) f.chunk_is ∙ append_assoc old.chunk came more;
    connection_stays = g.connection_stays ∙ f.connection_stays;
    calls_stay = g.calls_stay ∙ f.calls_stay;
    passes = passes_on (outgoing old.channel.link) (outgoing mid.channel.link) (outgoing new.channel.link) old.channel.pending mid.channel.pending new.channel.pending f.passes g.passes;
    none_too_long = λ e. f.none_too_long (g.none_too_long e);
  }

  module _ (moment : Moment) (server served : Held) (audit : Device) where
    pub rests_then_takes : (came more : List ℕ) (old mid new : Standing L) → Rests outgoing incoming came old mid → Takes outgoing incoming moment more mid new server served audit → Takes outgoing incoming moment (came ++ more) old new server served audit
    rests_then_takes came more old mid new f g =
        let o = outgoing old.channel.link in
        let m = outgoing mid.channel.link in
        let n = outgoing new.channel.link in
        let order : old.chunk ++ (came ++ more) ≡ g.taken ++ new.chunk = sym (append_assoc old.chunk came more) ∙ ap (λ t. t ++ more) (sym f.chunk_is) ∙ g.in_order in
        let pending : f.passes.sent ++ (mid.channel.pending ++ g.more) ≡ old.channel.pending ++ g.more = sym (append_assoc f.passes.sent mid.channel.pending g.more) ∙ ap (λ t. t ++ g.more) (sym f.passes.pending_is) in
        let moved = feeds_by (written outgoing mid) (written outgoing new) (written outgoing old) (written outgoing new)
        (λ xs grows. Grows-then (written outgoing old) (written outgoing mid) (written outgoing new) [] xs (passes_keep o m old.channel.pending mid.channel.pending f.passes) grows)
        audit (origin_of mid moment) g.taken g.result server served mid.connection.progress new.connection.progress g.feeds in
        record {
          comes = shrinks_then (incoming old.channel.link) (incoming mid.channel.link) (incoming new.channel.link) came more f.comes g.comes;
          taken = g.taken;
          in_order = order;
          more = g.more;
          settles = subst (λ t. Grows o t n) pending (Grows-then o m n f.passes.sent (mid.channel.pending ++ g.more) f.passes.grows g.settles);
          result = g.result;
          alive = subst (λ (j : Joined). j.ended ≡ false) f.connection_stays g.alive;
          ended_is = g.ended_is;
          addr_stays = g.addr_stays ∙ ap (λ (j : Joined). j.addr) f.connection_stays;
          limit_stays = g.limit_stays ∙ ap (λ (j : Joined). j.progress.limit) f.connection_stays;
          calls_are = g.calls_are ∙ ap (λ n. calls_after n g.result) f.calls_stay;
          stands = g.stands;
          feeds = subst (λ (j : Joined). Feeds (record { addr = j.addr; moment = moment }) g.taken g.result server served j.progress new.connection.progress audit (device (written outgoing old) (written outgoing new))) f.connection_stays moved;
        }

    pub takes_then_rests : (came : List ℕ) (old mid new : Standing L) (takes : Takes outgoing incoming moment came old mid server served audit) → Rests outgoing incoming [] mid new → StandsAfter takes.result new → Takes outgoing incoming moment came old new server served audit
    takes_then_rests came old mid new f g stands =
        let o = outgoing old.channel.link in
        let m = outgoing mid.channel.link in
        let n = outgoing new.channel.link in
        let chunk : new.chunk ≡ mid.chunk = g.chunk_is ∙ append-nil mid.chunk in
        let moved = feeds_by (written outgoing old) (written outgoing mid) (written outgoing old) (written outgoing new)
        (λ xs grows. subst (λ t. Grows (written outgoing old) t (written outgoing new)) (append-nil xs)
        (Grows-then (written outgoing old) (written outgoing mid) (written outgoing new) xs [] grows (passes_keep m n mid.channel.pending new.channel.pending g.passes)))
        audit (origin_of old moment) f.taken f.result server served old.connection.progress mid.connection.progress f.feeds in
        record {
          comes = subst (λ t. Shrinks (incoming old.channel.link) t (incoming new.channel.link)) (append-nil came) (shrinks_then (incoming old.channel.link) (incoming mid.channel.link) (incoming new.channel.link) came [] f.comes g.comes);
          taken = f.taken;
          in_order = f.in_order ∙ ap (λ t. f.taken ++ t) (sym chunk);
          more = f.more ++ g.passes.sent;
          settles = subst (λ t. Grows o t n) (append_assoc old.channel.pending f.more g.passes.sent) (Grows-then o m n (old.channel.pending ++ f.more) g.passes.sent f.settles g.passes.grows);
          result = f.result;
          alive = f.alive;
          ended_is = ap (λ (j : Joined). j.ended) g.connection_stays ∙ f.ended_is;
          addr_stays = ap (λ (j : Joined). j.addr) g.connection_stays ∙ f.addr_stays;
          limit_stays = ap (λ (j : Joined). j.progress.limit) g.connection_stays ∙ f.limit_stays;
          calls_are = g.calls_stay ∙ f.calls_are;
          stands = stands;
          feeds = subst (λ (j : Joined). Feeds (origin_of old moment) f.taken f.result server served old.connection.progress j.progress audit (device (written outgoing old) (written outgoing new))) (sym g.connection_stays) moved;
        }

    pub gathers_fed : (old new : Standing L) (result : Result Taken SessionFault) (room : Option ℕ) (chunk first : List ℕ) (reply : Buffered)
        → old.connection.ended ≡ false
        → OnOk result (new.connection.ended ≡ false)
        → OnErr result (new.connection.ended ≡ true)
        → new.connection.addr ≡ old.connection.addr
        → new.connection.progress.limit ≡ old.connection.progress.limit
        → new.channel ≡ old.channel
        → new.chunk ≡ left_of result old.chunk
        → chunk ≡ old.chunk
        → first ≡ []
        → FeedsSome (origin_of old moment) chunk room result server served old.connection.progress new.connection.progress audit (device (Some first) (Some reply.earlier))
        → StandsBy (count_taken result) reply new.end
        → new.calls ≡ calls_after old.calls (count_taken result)
        → Gathers moment old new server served audit reply
    gathers_fed old new result room chunk first reply alive ok err addr limit channel left whole empty feeds stands calls =
        let emptied = subst (λ b. FeedsSome (origin_of old moment) chunk room result server served old.connection.progress new.connection.progress audit (device (Some b) (Some reply.earlier))) empty feeds in
        let fed = subst (λ p. FeedsSome (origin_of old moment) p room result server served old.connection.progress new.connection.progress audit (device (Some []) (Some reply.earlier))) whole emptied in
        record {
          taken = bytes_taken result old.chunk;
          in_order = sym (append-nil old.chunk) ∙ all_there result old.chunk new.chunk left;
          result = count_taken result;
          alive = alive;
          ended_is = ended_as result new.connection.ended ok err;
          addr_stays = addr;
          limit_stays = limit;
          channel_stays = channel;
          feeds = λ history fits text u. (fed history fits text u).0;
          stands = stands;
          calls_are = calls;
        }

    pub gathers_then_sent : (old mid new : Standing L) (reply : Buffered) → Gathers moment old mid server served audit reply
        → old.channel.pending ≡ []
        → new.connection ≡ mid.connection
        → new.chunk ≡ mid.chunk
        → new.calls ≡ mid.calls
        → new.end ≡ mid.end
        → incoming new.channel.link ≡ incoming mid.channel.link
        → Passes (outgoing mid.channel.link) reply.earlier (outgoing new.channel.link) new.channel.pending
        → Takes outgoing incoming moment [] old new server served audit
    gathers_then_sent old mid new reply f none same chunk calls end come passed =
        let gathered = reply.earlier in
        let a = outgoing old.channel.link in
        let b = outgoing new.channel.link in
        let passes : Passes a gathered b new.channel.pending = subst (λ (o : Outgoing L). Passes (outgoing o.link) gathered b new.channel.pending) f.channel_stays passed in
        let come_is : incoming new.channel.link ≡ incoming old.channel.link = come ∙ ap (λ (o : Outgoing L). incoming o.link) f.channel_stays in
        let moved = feeds_by (Some []) (Some gathered) (with_pending a []) (written outgoing new) (λ xs g. sent_on a b gathered new.channel.pending xs passes g)
        audit (origin_of old moment) f.taken f.result server served old.connection.progress mid.connection.progress f.feeds in
        let from = subst (λ pending. Feeds (origin_of old moment) f.taken f.result server served old.connection.progress mid.connection.progress audit (device (with_pending a pending) (written outgoing new))) (sym none) moved in
        record {
          comes = subst (λ o. Shrinks (incoming old.channel.link) [] o) (sym come_is) (shrinks_none (incoming old.channel.link));
          taken = f.taken;
          in_order = append-nil old.chunk ∙ f.in_order ∙ ap (λ t. f.taken ++ t) (sym chunk);
          more = passes.sent;
          settles = subst (λ pending. Grows a (pending ++ passes.sent) b) (sym none) passes.grows;
          result = f.result;
          alive = f.alive;
          ended_is = ap (λ (j : Joined). j.ended) same ∙ f.ended_is;
          addr_stays = ap (λ (j : Joined). j.addr) same ∙ f.addr_stays;
          limit_stays = ap (λ (j : Joined). j.progress.limit) same ∙ f.limit_stays;
          calls_are = calls ∙ f.calls_are;
          stands = inr (subst (IsEndBy f.result) (sym end) (stands_ended f.result reply mid.end f.stands));
          feeds = subst (λ (j : Joined). Feeds (origin_of old moment) f.taken f.result server served old.connection.progress j.progress audit (device (written outgoing old) (written outgoing new))) (sym same) from;
        }

    -- ---- a turn

    pub rests_then_turns : (old mid new : Standing L) → Rests outgoing incoming [] old mid → Turns outgoing incoming moment mid new server served audit → Turns outgoing incoming moment old new server served audit
    rests_then_turns old mid new rests (came, inl r) = (came, inl (rests_on [] came old mid new rests r.0, r.1, r.2))
    rests_then_turns old mid new rests (came, inr takes) = (came, inr (rests_then_takes [] came old mid new rests takes))

    pub came_then_takes : (old mid new : Standing L) → (came : List ℕ) × Rests outgoing incoming came old mid → Takes outgoing incoming moment [] mid new server served audit → Turns outgoing incoming moment old new server served audit
    came_then_takes old mid new rests takes = (rests.0, inr (subst (λ came. Takes outgoing incoming moment came old new server served audit) (append-nil rests.0) (rests_then_takes rests.0 [] old mid new rests.1 takes)))

    pub came_alone : (old new : Standing L) → (came : List ℕ) × Rests outgoing incoming came old new → served ≡ server → audit.after ≡ audit.before → Turns outgoing incoming moment old new server served audit
    came_alone old new rests same quiet = (rests.0, inl (rests.1, same, quiet))

    by_end : (mid new : Option End) (failed : Bool) → (new ≡ mid) ⊎ ((new ≡ Some (Fault reported.WriteFault)) × (failed ≡ true)) → (new ≡ mid) ⊎ IsOtherEnd new
    by_end mid new failed (inl same) = inl same
    by_end mid new failed (inr broken) = inr (subst IsOtherEnd (sym broken.0) (other_fault reported.WriteFault write_fault))

    -- what a turn that takes bytes leaves, by how it ends
    pub takes_as : (old mid new : Standing L) → new.connection ≡ mid.connection → new.channel ≡ mid.channel → new.chunk ≡ mid.chunk → new.calls ≡ mid.calls
        → (new.end ≡ mid.end) ⊎ ((new.end ≡ Some (Fault reported.WriteFault)) × (new.channel.failed ≡ true))
        → Takes outgoing incoming moment [] old mid server served audit → Takes outgoing incoming moment [] old new server served audit
    takes_as old mid new same out chunk calls end takes =
        let whole : Result (Unit {0}) SessionFault = Ok tt in
        takes_then_rests [] old mid new takes (rests_by whole mid new chunk same calls (ap (λ (o : Outgoing L). incoming o.link) out)
        (subst (λ (o : Outgoing L). Passes (outgoing mid.channel.link) mid.channel.pending (outgoing o.link) o.pending) (sym out) (passes_none (outgoing mid.channel.link) mid.channel.pending)) tt tt (by_end mid.end new.end new.channel.failed end))
        (stands_on takes.result mid new out takes.stands end)
