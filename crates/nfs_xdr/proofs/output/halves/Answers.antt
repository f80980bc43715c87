use Rattle.nfs_xdr.proofs.Items.{halves_text}
use Rattle.nfs_xdr.proofs.output.halves.Goals as goal

pub returns-clause-text : goal.returns-clause-text
returns-clause-text c = halves_text c.args.n
