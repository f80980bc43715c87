use Rattle.std.proofs.Common.{take}
use Rattle.nfs_xdr.specs.Written.{Appends}
use Rattle.nfs_args.specs.Chains.{AreEncoded, links_text}
use Rattle.nfs_args.specs.MountAnswers.{IsMounted, mounted_text}
use Rattle.nfs_args.proofs.mounted.write_all_mounted.Given as goal

abbrev pub invariant-loop-mounted : goal.invariant-loop-mounted
invariant-loop-mounted l = record {
  text : Appends (links_text mounted_text (take l.mounted-index l.clients)) l.fn.out l.out;
  encoded : AreEncoded IsMounted mounted_text (take l.mounted-index l.clients);
}
