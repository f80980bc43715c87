use Rattle.std.proofs.Common.{refl}
use Rattle.nfs_args.proofs.Writes.{read_data_written}
use Rattle.nfs_args.proofs.read_data.write_read_data.Goals as goal

pub returns-clause-encoded : goal.returns-clause-encoded
returns-clause-encoded c = read_data_written c.args.answer.now _ c.bytes-content.result.now c.as_ref.ensures.value c.bytes-content.ensures (c.write_read_head.ensures.encoded c.bytes-content.result.now refl)
