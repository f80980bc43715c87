use Rattle.std.proofs.Common.{◌≡◌, Some, false, Ok, Err, refl, ap, subst, ◌∙◌}
use Rattle.nfs_server.specs.Feeding.{device}
use Rattle.nfs_server.specs.ReplyRoom.{is_full}
use Rattle.nfs_serving.specs.Turns.{Standing, Gathers}
use Rattle.nfs_serving.specs.declared.turn.End.TheVariants.{Fault}
use Rattle.nfs_serving.proofs.Turning.{gathers_fed, has_failed}
use Rattle.nfs_serving.proofs.client.Client.answer.Goals as goal

pub returns-in-Ok-clause-gathers : goal.returns-in-Ok-clause-gathers
returns-in-Ok-clause-gathers g c =
    let alive : c.self.inside.connection.ended ≡ false = c.self.invariant (ap (λ (s : Standing g.row.L.Denot). s.end) c.self.view_is ∙ c.requires.alive) in
    let old : Standing g.row.L.Denot = record { connection = c.self.inside.connection; channel = c.self.inside.channel; chunk = c.self.inside.chunk.bytes; end = c.self.inside.end; calls = c.self.inside.calls } in
    let new : Standing g.row.L.Denot = record { connection = c.feed.new.self; channel = c.self.inside.channel; chunk = c.take.new.self.bytes; end = c.self.inside.end; calls = c.saturating_add-self-inside.result } in
    subst (λ (s : Standing g.row.L.Denot). Gathers c.args.moment s new c.args.server.now c.feed.new.server (device (g.A.AuditOut.contents c.args.audit.now) (g.A.AuditOut.contents c.feed.new.audit)) c.feed.new.reply) c.self.view_is
    (gathers_fed g.L.Link.outgoing g.L.Link.incoming c.args.moment c.args.server.now c.feed.new.server (device (g.A.AuditOut.contents c.args.audit.now) (g.A.AuditOut.contents c.feed.new.audit)) old new (Ok c.in-Ok.taken) (Some _) c.bytes-chunk.result.now c.clear_all.new.self.earlier c.feed.new.reply
    alive c.in-Ok.ensures.ok tt c.in-Ok.ensures.addr c.in-Ok.ensures.limit refl c.take.ensures.bytes c.bytes-chunk.ensures c.clear_all.ensures.earlier (c.in-Ok.ensures.feeds alive) (ap (λ (s : Standing g.row.L.Denot). s.end) c.self.view_is ∙ c.requires.alive) c.saturating_add-self-inside.ensures)

pub returns-in-Err-clause-gathers : goal.returns-in-Err-clause-gathers
returns-in-Err-clause-gathers g c =
    let alive : c.self.inside.connection.ended ≡ false = c.self.invariant (ap (λ (s : Standing g.row.L.Denot). s.end) c.self.view_is ∙ c.requires.alive) in
    let old : Standing g.row.L.Denot = record { connection = c.self.inside.connection; channel = c.self.inside.channel; chunk = c.self.inside.chunk.bytes; end = c.self.inside.end; calls = c.self.inside.calls } in
    let new : Standing g.row.L.Denot = record { connection = c.feed.new.self; channel = c.self.inside.channel; chunk = c.clear.new.self.bytes; end = Some (Fault c.fault_of.result); calls = c.self.inside.calls } in
    subst (λ (s : Standing g.row.L.Denot). Gathers c.args.moment s new c.args.server.now c.feed.new.server (device (g.A.AuditOut.contents c.args.audit.now) (g.A.AuditOut.contents c.feed.new.audit)) c.feed.new.reply) c.self.view_is
    (gathers_fed g.L.Link.outgoing g.L.Link.incoming c.args.moment c.args.server.now c.feed.new.server (device (g.A.AuditOut.contents c.args.audit.now) (g.A.AuditOut.contents c.feed.new.audit)) old new (Err c.in-Err.fault) (Some _) c.bytes-chunk.result.now c.clear_all.new.self.earlier c.feed.new.reply
    alive tt c.in-Err.ensures.fault c.in-Err.ensures.addr c.in-Err.ensures.limit refl c.clear.ensures c.bytes-chunk.ensures c.clear_all.ensures.earlier (c.in-Err.ensures.feeds alive) ((c.fault_of.result, refl, c.fault_of.ensures), has_failed c.in-Err.fault (g.A.AuditOut.failed c.feed.new.audit) (is_full c.feed.new.reply) (c.in-Err.ensures.kind alive)) refl)
