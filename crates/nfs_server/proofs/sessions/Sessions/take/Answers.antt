use Rattle.std.proofs.Common.{◌≡◌, None, Some, nat_eq, ap, ◌∙◌, rules}
use Rattle.std.specs.Map.{lookup, set_value}
use Rattle.nfs_server.proofs.Connected.{all_finished, ended_as, had_ended, one_fed, same_open}
use Rattle.nfs_server.proofs.sessions.Sessions.take.Goals as goal

pub returns-in-Some-clause-idle : goal.returns-in-Some-clause-idle
returns-in-Some-clause-idle g c = rw (← c.self.view_is) (λ either.
    let idle = c.feed.ensures.idle (had_ended c.feed.result c.in-Some.connection.now.ended _ _ c.feed.ensures.ended c.feed.ensures.kind either) in
    (same_open _ _ _ _ c.args.conn _ _ idle.1 (c.get_mut.follows.holds c.feed.new.self).0 idle.0 c.in-Some.ensures.value, idle.3, idle.4))

pub returns-in-Some-clause-feeds : goal.returns-in-Some-clause-feeds
returns-in-Some-clause-feeds g c =
    let set = (c.get_mut.follows.holds c.feed.new.self).0 in
    let there : lookup (nat_eq c.args.conn) (set_value (nat_eq c.args.conn) c.self.inside.connections.entries c.feed.new.self) ≡ Some c.feed.new.self = search rules in
    rw (← c.self.view_is) (one_fed c.args.conn c.args.moment c.args.chunk.now None c.feed.result c.in-Some.connection.now c.feed.new.self c.self.inside.connections.entries _ c.feed.new.server c.self.inside.server _ _
    c.in-Some.ensures.value (ap (lookup (nat_eq c.args.conn)) set ∙ there) c.feed.ensures.addr c.feed.ensures.limit (ended_as c.feed.result c.feed.new.self.ended c.feed.ensures.ok c.feed.ensures.fault) c.feed.ensures.feeds)

pub returns-in-Some-clause-stop : goal.returns-in-Some-clause-stop
returns-in-Some-clause-stop g c = all_finished c.feed.result _ c.args.chunk.now c.feed.new.server c.feed.new.self.progress c.feed.ensures.waits
