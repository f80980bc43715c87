use Rattle.nfs_dirs.proofs.Joins.{pages_join, all_are_left, ends_are_reported}
use Rattle.nfs_dirs.proofs.laws.pages_join.Goals as goal

pub returns-clause-join : goal.returns-clause-join
returns-clause-join c = pages_join

pub returns-clause-all : goal.returns-clause-all
returns-clause-all c = all_are_left

pub returns-clause-end : goal.returns-clause-end
returns-clause-end c = ends_are_reported
