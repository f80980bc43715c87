use Rattle.std.proofs.Common.{◌≡◌, ◌≤◌, ℕ, List, [], refl, ap, subst, ◌∙◌}
use Rattle.nfs_serving.specs.Outgoing.{Brings, came_bytes}
use Rattle.nfs_serving.specs.Turns.{Standing, Rests}
use Rattle.nfs_serving.proofs.Turning.{fewer, rests_came}
use Rattle.nfs_serving.proofs.client.Client.receive.Goals as goal

pub returns-in-Bytes-clause-rests : goal.returns-in-Bytes-clause-rests
returns-in-Bytes-clause-rests g c =
    let none : c.self.inside.chunk.bytes ≡ [] = ap (λ (s : Standing g.row.L.Denot). s.chunk) c.self.view_is ∙ c.requires.chunk in
    let came = subst (λ k. Brings (g.L.Link.incoming c.self.inside.channel.link) k c.receive.new.chunk.bytes (g.L.Link.incoming c.receive.new.self.link)) c.in-Bytes.is c.in-Ok.ensures.came in
    let old : Standing g.row.L.Denot = record { connection = c.self.inside.connection; channel = c.self.inside.channel; chunk = c.self.inside.chunk.bytes; end = c.self.inside.end; calls = c.self.inside.calls } in
    let new : Standing g.row.L.Denot = record { connection = c.self.inside.connection; channel = c.receive.new.self; chunk = c.receive.new.chunk.bytes; end = c.self.inside.end; calls = c.self.inside.calls } in
    subst (λ (s : Standing g.row.L.Denot). (came : List ℕ) × Rests g.L.Link.outgoing g.L.Link.incoming came s new) c.self.view_is
    (c.receive.new.chunk.bytes, rests_came g.L.Link.outgoing g.L.Link.incoming old new none came.1 c.in-Ok.ensures.outgoing c.in-Ok.ensures.same.0 refl refl refl)

pub returns-in-Bytes-clause-drained : goal.returns-in-Bytes-clause-drained
returns-in-Bytes-clause-drained g c = λ short. (
  c.self.inside.channel.link,
  c.receive.new.self.link,
  c.in-Ok.received.room,
  c.in-Bytes.n,
  fewer c.in-Bytes.n c.in-Ok.received.room (subst (λ k. came_bytes k ≤ c.in-Ok.received.room) c.in-Bytes.is c.in-Ok.ensures.within) short,
  subst (λ k. g.L.Link.reports c.self.inside.channel.link c.in-Ok.received.room k c.receive.new.self.link) c.in-Bytes.is c.in-Ok.ensures.reports,
  refl,
)
