use Rattle.nfs_read_back.proofs.Statements.{dirs, files, hards, links, times}
use Rattle.nfs_read_back.proofs.laws.files_are_read_back.Goals as goal

pub returns-clause-dirs : goal.returns-clause-dirs
returns-clause-dirs c = dirs

pub returns-clause-files : goal.returns-clause-files
returns-clause-files c = files

pub returns-clause-links : goal.returns-clause-links
returns-clause-links c = links

pub returns-clause-hards : goal.returns-clause-hards
returns-clause-hards c = hards

pub returns-clause-times : goal.returns-clause-times
returns-clause-times c = times
