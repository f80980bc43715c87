use Rattle.nfs_journal.proofs.Rerunning.{all_are_counted, chunks_are_one}
use Rattle.nfs_journal.proofs.Segments.{segments_begin, segments_go_on}
use Rattle.nfs_journal.proofs.laws.chunks_are_counted.Goals as goal

pub returns-clause-one : goal.returns-clause-one
returns-clause-one c = chunks_are_one

pub returns-clause-all : goal.returns-clause-all
returns-clause-all c = all_are_counted

pub returns-clause-begin : goal.returns-clause-begin
returns-clause-begin c = segments_begin

pub returns-clause-segments : goal.returns-clause-segments
returns-clause-segments c = segments_go_on
