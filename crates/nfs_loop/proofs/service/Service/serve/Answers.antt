use Rattle.std.proofs.Common.{ap, option_map}
use Rattle.nfs_loop.specs.Stages.{seat_of}
use Rattle.nfs_loop.proofs.service.Service.serve.Goals as goal

pub returns : goal.returns
returns g c = record {
  lived = λ none history fits. record {
    changes = c.run.ensures.goes.changes;
    one_history = c.service_is_one_history.ensures _ c.run.ensures.goes.changes _ _ (λ key. ap (option_map seat_of) (none key)) c.run.ensures.goes.are_changes history fits;
    accounts = c.run.ensures.goes.such.1;
    rounds = c.run.ensures.goes.such.0;
  };
  watched = c.run.ensures.watched;
}
