use Rattle.nfs_policy.proofs.Choices.{answers_follow}
use Rattle.nfs_policy.proofs.laws.answers_follow_from_choices.Goals as goal

pub returns : goal.returns
returns c = answers_follow
