use Rattle.std.proofs.Common.{take}
use Rattle.nfs_xdr.specs.Written.{Appends}
use Rattle.nfs_args.specs.Chains.{AreEncoded, links_text}
use Rattle.nfs_args.specs.MountAnswers.{IsExported, exported_text}
use Rattle.nfs_args.proofs.exported.write_all_exported.Given as goal

abbrev pub invariant-loop-exported : goal.invariant-loop-exported
invariant-loop-exported l = record {
  text : Appends (links_text exported_text (take l.exported-index l.volumes)) l.fn.out l.out;
  encoded : AreEncoded IsExported exported_text (take l.exported-index l.volumes);
}
