use Rattle.nfs_policy.proofs.Complete.{has_path, has_found, has_volume, has_listed, has_changed, has_both, has_made}
use Rattle.nfs_policy.proofs.laws.answers_are_complete.Goals as goal

pub returns-clause-path : goal.returns-clause-path
returns-clause-path c = has_path

pub returns-clause-found : goal.returns-clause-found
returns-clause-found c = has_found

pub returns-clause-volume : goal.returns-clause-volume
returns-clause-volume c = has_volume

pub returns-clause-listed : goal.returns-clause-listed
returns-clause-listed c = has_listed

pub returns-clause-changed : goal.returns-clause-changed
returns-clause-changed c = has_changed

pub returns-clause-both : goal.returns-clause-both
returns-clause-both c = has_both

pub returns-clause-made : goal.returns-clause-made
returns-clause-made c = has_made
