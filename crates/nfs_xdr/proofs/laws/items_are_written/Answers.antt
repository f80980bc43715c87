use Rattle.nfs_xdr.proofs.Items.{boolean_written, fixed_written, opaque_written}
use Rattle.nfs_xdr.proofs.laws.items_are_written.Goals as goal

pub returns : goal.returns
returns c = record { boolean = boolean_written; fixed = fixed_written; opaque = opaque_written }
