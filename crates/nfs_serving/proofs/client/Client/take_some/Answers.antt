use Rattle.std.proofs.Common.{[]}
use Rattle.nfs_serving.proofs.Turning.{came_then_takes, rests_none}
use Rattle.nfs_serving.proofs.client.Client.take_some.Goals as goal

pub returns-clause-turns : goal.returns-clause-turns
returns-clause-turns g c = came_then_takes g.L.Link.outgoing g.L.Link.incoming c.args.moment c.args.server.now c.feed-2.new.server _ c.args.self.now c.args.self.now c.feed-2.new.self ([], rests_none g.L.Link.outgoing g.L.Link.incoming c.args.self.now) c.feed-2.ensures.takes

pub returns-in-Ok-clause-turns : goal.returns-in-Ok-clause-turns
returns-in-Ok-clause-turns g c = came_then_takes g.L.Link.outgoing g.L.Link.incoming c.args.moment c.args.server.now c.feed.new.server _ c.args.self.now c.receive.new.self c.feed.new.self c.receive.ensures.rests c.feed.ensures.takes
