use Rattle.nfs_xdr.proofs.Writing.{followed}
use Rattle.nfs_args.proofs.Chains.{groups_written}
use Rattle.nfs_args.proofs.exported.write_exported.Goals as goal

pub returns-clause-encoded : goal.returns-clause-encoded
returns-clause-encoded c = followed _ _ _ _ c.write_chained_string.ensures.encoded (groups_written c.args.exported.now.groups c.all.result.now c.all.ensures c.write_chained_strings.ensures.encoded)
