use Rattle.nfs_lives.proofs.Texts.{texts_read_back, texts_report}
use Rattle.nfs_lives.proofs.laws.texts_report.Goals as goal

pub returns-clause-read_back : goal.returns-clause-read_back
returns-clause-read_back c = texts_read_back

pub returns-clause-report : goal.returns-clause-report
returns-clause-report c = texts_report
