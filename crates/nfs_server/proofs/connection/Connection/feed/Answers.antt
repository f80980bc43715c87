use Rattle.std.proofs.Common.{true≢false, sym, ◌∙◌}
use Rattle.nfs_server.proofs.OneRecord.{not_ended}
use Rattle.nfs_server.proofs.connection.Connection.feed.Goals as goal

pub returns-clause-ended : goal.returns-clause-ended
returns-clause-ended g c = rw (← c.self.view_is) (λ e. absurd (not_ended c.take_chunk-taken.result _ _ c.take_chunk-taken.ensures.fault e), λ e. absurd (true≢false (sym e ∙ c.if-self.false)))

pub returns-clause-feeds : goal.returns-clause-feeds
returns-clause-feeds g c = rw (← c.self.view_is) (λ alive. c.take_chunk-taken.ensures.feeds)
