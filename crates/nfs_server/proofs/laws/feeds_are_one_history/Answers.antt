use Rattle.nfs_server.proofs.Together.{feeds_are_one_history}
use Rattle.nfs_server.proofs.laws.feeds_are_one_history.Goals as goal

pub returns : goal.returns
returns c = feeds_are_one_history
