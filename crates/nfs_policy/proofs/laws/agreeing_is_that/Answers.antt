use Rattle.nfs_policy.proofs.Agreeing.{agreeing_is_that}
use Rattle.nfs_policy.proofs.laws.agreeing_is_that.Goals as goal

pub returns : goal.returns
returns c = agreeing_is_that
