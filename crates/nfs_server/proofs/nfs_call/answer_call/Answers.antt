use Rattle.std.proofs.Common.{Some, length, refl, ap, ◌∙◌}
use Rattle.nfs_rpc.specs.Calls.{call_of}
use Rattle.nfs_server.proofs.Performed.{denied_done, granted_done, nothing_done, refused_done}
use Rattle.nfs_server.proofs.Room.{adds, adds_then, after_is, given_up, reply_text}
use Rattle.nfs_server.proofs.nfs_call.answer_call.Goals as goal

pub returns-in-Some-Denied-clause-answers : goal.returns-in-Some-Denied-clause-answers
returns-in-Some-Denied-clause-answers c = denied_done _ _ _ _ _ _ (call_of c.args.head.now) _ _ _ _ (c.in-Some-Denied.is ∙ ap Some c.in-Some-Denied.field-0-is) c.write_result.ensures.performs
    (λ text written. reply_text c.args.out.now c.write_accepted.new.out c.write_result.new.out _ text c.write_accepted.ensures written) c.of.ensures

pub returns-in-Some-Memory-clause-answers : goal.returns-in-Some-Memory-clause-answers
returns-in-Some-Memory-clause-answers c = refused_done _ _ _ _ _ _ (call_of c.args.head.now) _ _ _ refl (c.in-Some-Memory.is ∙ ap Some c.in-Some-Memory.field-0-is) c.write_result.ensures.performs
    (after_is c.args.out.now c.give_up.new.out _ (given_up c.args.out.now c.write_result.new.out c.give_up.new.out (length c.bytes-start.result.now) _
    (adds_then c.args.out.now c.write_accepted.new.out c.write_result.new.out (adds _ c.args.out.now c.write_accepted.new.out c.write_accepted.ensures) c.write_result.ensures.adds)
    (ap length c.bytes-start.ensures) c.give_up.ensures.bytes c.give_up.ensures.room).bytes) c.of-in-Some-Memory.ensures

pub returns-in-Some-Granted-clause-answers : goal.returns-in-Some-Granted-clause-answers
returns-in-Some-Granted-clause-answers c = granted_done _ _ _ _ _ _ (call_of c.args.head.now) _ _ c.requires.line (c.in-Some-Granted.is ∙ ap Some c.in-Some-Granted.field-0-is) c.write_result.ensures.performs
    (λ text written. reply_text c.args.out.now c.write_accepted.new.out c.write_result.new.out _ text c.write_accepted.ensures written)

pub returns-in-None-clause-answers : goal.returns-in-None-clause-answers
returns-in-None-clause-answers c = nothing_done _ _ _ _ _ _ (call_of c.args.head.now) _ _ c.requires.line c.in-None.is c.write_result.ensures.performs
    (λ text written. reply_text c.args.out.now c.write_accepted.new.out c.write_result.new.out _ text c.write_accepted.ensures written)
