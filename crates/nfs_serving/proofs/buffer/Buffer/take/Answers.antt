use Rattle.std.proofs.Common.{◌-◌, drop, ap, ◌∙◌}
use Rattle.nfs_serving.specs.Outgoing.{Roomed}
use Rattle.nfs_serving.proofs.Windows.{later, within}
use Rattle.nfs_serving.proofs.buffer.Buffer.take.Goals as goal

pub returns-clause-bytes : goal.returns-clause-bytes
returns-clause-bytes c = later c.self.inside.from c.self.inside.to c.args.n c.self.inside.bytes.items (within (c.self.inside.to - c.self.inside.from) c.args.n (drop c.self.inside.from c.self.inside.bytes.items) c.args.self.now.bytes (ap (λ (b : Roomed). b.bytes) c.self.view_is) c.requires) ∙ ap (λ (b : Roomed). drop c.args.n b.bytes) c.self.view_is
