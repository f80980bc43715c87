use Rattle.std.proofs.Common.{arith}
use Rattle.nfs_xdr.proofs.Items.{opaque_written}
use Rattle.nfs_args.proofs.opaque.write_handle.Goals as goal

pub returns-then-handle-eq-OWN_HANDLE_BYTES-clause-encoded : goal.returns-then-handle-eq-OWN_HANDLE_BYTES-clause-encoded
returns-then-handle-eq-OWN_HANDLE_BYTES-clause-encoded c = opaque_written 64 c.args.handle.now (omega (arith, c.requires.bound)) c.requires.bound

pub returns-else-handle-eq-OWN_HANDLE_BYTES-clause-encoded : goal.returns-else-handle-eq-OWN_HANDLE_BYTES-clause-encoded
returns-else-handle-eq-OWN_HANDLE_BYTES-clause-encoded c = opaque_written 64 c.args.handle.now (omega (arith, c.requires.bound)) c.requires.bound
