use Rattle.std.proofs.Common.{[]}
use Rattle.nfs_loop.proofs.Hearing.{begin_after}
use Rattle.nfs_loop.proofs.Joining.{joined_by}
use Rattle.nfs_loop.proofs.Reporting.{more_by, more_one, more_then}
use Rattle.nfs_loop.proofs.service.Service.accept.Goals as goal

pub returns-in-Connection-clause-goes : goal.returns-in-Connection-clause-goes
returns-in-Connection-clause-goes g c = joined_by g.L.Link.outgoing g.L.Link.incoming _ _ _ c.next_key-key.result _ _ _ _ _ c.in-Connection.ensures c.admit.ensures.reported c.admit.ensures.joins

pub returns-in-Connection-clause-more : goal.returns-in-Connection-clause-more
returns-in-Connection-clause-more g c = more_then _ _ _ (more_one _ _ _ c.in-Connection.ensures) (more_by _ _ [] c.admit.ensures.reported)

pub returns-in-Connection-clause-begin : goal.returns-in-Connection-clause-begin
returns-in-Connection-clause-begin g c = begin_after c.args.self.now.clients.0 c.admit.new.self.clients.0 _ _ _ c.admit.new.self.housekeeping.watches (more_one _ _ _ c.in-Connection.ensures) c.admit.ensures.begin
