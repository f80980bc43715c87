use Rattle.std.proofs.Common.{refl, subst}
use Rattle.nfs_rpc.specs.Calls.{call_of}
use Rattle.nfs_server.specs.Fits.{Held}
use Rattle.nfs_server.specs.OneEvent.{PerformsAnew, scene_for}
use Rattle.nfs_server.specs.ReplyRoom.{after}
use Rattle.nfs_server.specs.InMemory.{event_of, held, reported}
use Rattle.nfs_server.proofs.server.Server.answer_anew.Goals as goal

pub returns-clause-answers : goal.returns-clause-answers
returns-clause-answers c =
    let inside = c.self.inside in
    let new : Held = held inside.kept inside.table c.answer_call.new.tree inside.mounts c.answer_call.new.line inside.notes in
    subst (λ (h : Held). PerformsAnew (scene_for h (event_of c.args.event) c.args.cred.now c.args.args.now) (call_of c.args.head.now) (reported (after c.args.out.now c.answer_call.new.out) c.answer_call.new.line) h new) c.self.view_is
    (c.answer_call.ensures.answers, refl)
