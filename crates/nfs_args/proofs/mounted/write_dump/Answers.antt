use Rattle.nfs_args.specs.MountAnswers.{IsMounted, mounted_text}
use Rattle.nfs_args.proofs.Chains.{chain_written}
use Rattle.nfs_args.proofs.mounted.write_dump.Goals as goal

pub returns-clause-encoded : goal.returns-clause-encoded
returns-clause-encoded c = chain_written IsMounted mounted_text c.args.clients.now c.write_all_mounted.ensures.encoded
