use Rattle.std.proofs.Common.{◌≡◌, length, None, Some, refl, ap, sym, subst, ◌∙◌, rules}
use Rattle.nfs_reply_cache.specs.Places.{Key, cached_reply, with_reply}
use Rattle.nfs_reply_cache.proofs.Shows.{none_found}
use Rattle.nfs_procs.specs.Procedures.{doing_of}
use Rattle.nfs_rpc.specs.Calls.{call_of}
use Rattle.nfs_server.specs.Fits.{Held}
use Rattle.nfs_server.specs.OneEvent.{AnswersChange, scene_for}
use Rattle.nfs_server.specs.Retransmissions.{wants_memory}
use Rattle.nfs_server.specs.ReplyRoom.{after}
use Rattle.nfs_server.specs.InMemory.{event_of, held, reported}
use Rattle.nfs_server.proofs.Changes.{cache_stays, reply_cached}
use Rattle.nfs_server.proofs.Performed.{no_place}
use Rattle.nfs_server.proofs.Room.{adds_none, after_is, given_up}
use Rattle.nfs_server.proofs.server.Server.answer_change.Goals as goal

pub returns-in-Err-clause-answers : goal.returns-in-Err-clause-answers
returns-in-Err-clause-answers c =
    let inside = c.self.inside in let event = event_of c.args.event in
    let old : Held = held inside.kept inside.table inside.tree inside.mounts inside.line inside.notes in
    let new : Held = held c.prepare.new.self inside.table inside.tree inside.mounts (Some c.of.result) inside.notes in
    let scene = scene_for old event c.args.cred.now c.args.args.now in
    let answer = reported (after c.args.out.now c.give_up.new.out) (Some c.of.result) in
    let none : cached_reply (c.args.event.addr, c.args.event.bytes.now) old.kept ≡ None = none_found (c.args.event.addr, c.args.event.bytes.now) old.kept (sym c.find.ensures.found ∙ c.if-find.false) in
    let same : c.prepare.new.self.places ≡ inside.kept.places = search rules in
    subst (λ (h : Held). AnswersChange (scene_for h event c.args.cred.now c.args.args.now) (call_of c.args.head.now) h event answer new) c.self.view_is
    (cache_stays scene (call_of c.args.head.now) old event answer new none (no_place scene (doing_of c.args.args.now) inside.tree (call_of c.args.head.now) _ _ c.requires.change refl (after_is c.args.out.now c.give_up.new.out _ (given_up c.args.out.now c.args.out.now c.give_up.new.out (length c.bytes-start.result.now) _ (adds_none c.args.out.now c.args.out.now refl) (ap length c.bytes-start.ensures) c.give_up.ensures.bytes c.give_up.ensures.room).bytes) c.of.ensures, refl) (ap (λ l. wants_memory l.reason) c.of.ensures) same)

pub returns-then-wants_memory-clause-answers : goal.returns-then-wants_memory-clause-answers
returns-then-wants_memory-clause-answers c =
    let inside = c.self.inside in let event = event_of c.args.event in
    let old : Held = held inside.kept inside.table inside.tree inside.mounts inside.line inside.notes in
    let new : Held = held c.release.new.self inside.table c.answer_call.new.tree inside.mounts c.answer_call.new.line inside.notes in
    let scene = scene_for old event c.args.cred.now c.args.args.now in
    let answer = reported (after c.args.out.now c.answer_call.new.out) c.answer_call.new.line in
    let none : cached_reply (c.args.event.addr, c.args.event.bytes.now) old.kept ≡ None = none_found (c.args.event.addr, c.args.event.bytes.now) old.kept (sym c.find.ensures.found ∙ c.if-find.false) in
    let same : c.release.new.self.places ≡ inside.kept.places = search rules in
    subst (λ (h : Held). AnswersChange (scene_for h event c.args.cred.now c.args.args.now) (call_of c.args.head.now) h event answer new) c.self.view_is
    (cache_stays scene (call_of c.args.head.now) old event answer new none (c.answer_call.ensures.answers, refl) (sym c.wants_memory.ensures ∙ c.if-wants_memory.true) same)

pub returns-else-wants_memory-clause-answers : goal.returns-else-wants_memory-clause-answers
returns-else-wants_memory-clause-answers c =
    let inside = c.self.inside in let event = event_of c.args.event in
    let key : Key = (c.args.event.addr, c.args.event.bytes.now) in
    let old : Held = held inside.kept inside.table inside.tree inside.mounts inside.line inside.notes in
    let new : Held = held c.keep.new.self inside.table c.answer_call.new.tree inside.mounts c.answer_call.new.line inside.notes in
    let scene = scene_for old event c.args.cred.now c.args.args.now in
    let reply = after c.args.out.now c.answer_call.new.out in
    let answer = reported reply c.answer_call.new.line in
    let none : cached_reply key old.kept ≡ None = none_found key old.kept (sym c.find.ensures.found ∙ c.if-find.false) in
    let kept : c.keep.new.self.places ≡ with_reply inside.kept.most key (Some reply) inside.kept.places = search rules in
    subst (λ (h : Held). AnswersChange (scene_for h event c.args.cred.now c.args.args.now) (call_of c.args.head.now) h event answer new) c.self.view_is
    (reply_cached scene (call_of c.args.head.now) old event answer new none (c.answer_call.ensures.answers, refl) reply (sym c.wants_memory.ensures ∙ c.if-wants_memory.false) refl kept)
