use Rattle.nfs_read_back.proofs.Limits.{limits}
use Rattle.nfs_read_back.proofs.Statements.{forms, servers, volumes}
use Rattle.nfs_read_back.proofs.laws.volumes_are_read_back.Goals as goal

pub returns-clause-servers : goal.returns-clause-servers
returns-clause-servers c = servers

pub returns-clause-volumes : goal.returns-clause-volumes
returns-clause-volumes c = volumes

pub returns-clause-limits : goal.returns-clause-limits
returns-clause-limits c = limits

pub returns-clause-names : goal.returns-clause-names
returns-clause-names c = forms
