use Rattle.nfs_policy.proofs.Refusals.{refuses, passes_over}
use Rattle.nfs_policy.proofs.laws.policy_refuses.Goals as goal

pub returns-clause-refuses : goal.returns-clause-refuses
returns-clause-refuses c = refuses

pub returns-clause-passes : goal.returns-clause-passes
returns-clause-passes c = passes_over
