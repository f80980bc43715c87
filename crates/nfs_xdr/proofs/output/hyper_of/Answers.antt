use Rattle.std.proofs.Common.{rules}
use Rattle.nfs_xdr.proofs.Items.{hyper_text}
use Rattle.nfs_xdr.proofs.output.hyper_of.Goals as goal

pub returns-clause-text : goal.returns-clause-text
returns-clause-text c = hyper_text _ c.args.high c.args.low (search rules) (search rules)
