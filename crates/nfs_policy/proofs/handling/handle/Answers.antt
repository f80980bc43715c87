use Rattle.nfs_policy.proofs.Confined.{step_leaves, step_names}
use Rattle.nfs_policy.proofs.handling.handle.Goals as goal
use Rattle.nfs_server.specs.InMemory.{answered, event_of}

pub returns-clause-confined : goal.returns-clause-confined
returns-clause-confined c history fits = let g = c.handle.ensures.step history fits in
    step_leaves history c.args.server.now (event_of c.args.event) g.0 (answered c.handle.result c.handle.new.reply.reply c.handle.new.self.line) c.handle.new.self fits g.1

pub returns-clause-names : goal.returns-clause-names
returns-clause-names c history fits = let g = c.handle.ensures.step history fits in
    step_names history c.args.server.now (event_of c.args.event) g.0 (answered c.handle.result c.handle.new.reply.reply c.handle.new.self.line) c.handle.new.self fits g.1
