use Rattle.std.proofs.Common.{[], inl, refl, subst}
use Rattle.nfs_serving.specs.Turns.{Standing, Rests}
use Rattle.nfs_serving.proofs.Turning.{rests_by}
use Rattle.nfs_serving.proofs.client.Client.pass_on.Goals as goal

pub returns-clause-rests : goal.returns-clause-rests
returns-clause-rests g c =
    let old : Standing g.row.L.Denot = record { connection = c.self.inside.connection; channel = c.self.inside.channel; chunk = c.self.inside.chunk.bytes; end = c.self.inside.end; calls = c.self.inside.calls } in
    let new : Standing g.row.L.Denot = record { connection = c.self.inside.connection; channel = c.pass_on.new.self; chunk = c.self.inside.chunk.bytes; end = c.self.inside.end; calls = c.self.inside.calls } in
    subst (λ (s : Standing g.row.L.Denot). Rests g.L.Link.outgoing g.L.Link.incoming [] s new) c.self.view_is
    (rests_by g.L.Link.outgoing g.L.Link.incoming c.pass_on.result old new refl refl refl c.pass_on.ensures.incoming c.pass_on.ensures.passes c.pass_on.ensures.outgoing c.pass_on.ensures.pending (inl refl))
