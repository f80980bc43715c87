use Rattle.nfs_policy.proofs.Choices.{bytes_are_hidden}
use Rattle.nfs_policy.proofs.laws.bytes_are_hidden.Goals as goal

pub returns : goal.returns
returns c = bytes_are_hidden
