use Rattle.nfs_args.specs.MountAnswers.{IsExported, exported_text}
use Rattle.nfs_args.proofs.Chains.{chain_written}
use Rattle.nfs_args.proofs.exported.write_exports.Goals as goal

pub returns-clause-encoded : goal.returns-clause-encoded
returns-clause-encoded c = chain_written IsExported exported_text c.args.volumes.now c.write_all_exported.ensures.encoded
