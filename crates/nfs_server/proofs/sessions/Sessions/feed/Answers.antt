use Rattle.nfs_server.proofs.Connected.{all_fed}
use Rattle.nfs_server.proofs.sessions.Sessions.feed.Goals as goal

pub returns-clause-feeds : goal.returns-clause-feeds
returns-clause-feeds g c = all_fed c.args.conn c.args.moment c.args.chunk.now c.in_ok-take.field-0 _ c.args.self.now _ _ _ c.in_ok-take.ensures.used c.in_ok-take.ensures.stop c.in_ok-take.ensures.feeds
