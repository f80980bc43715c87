use Rattle.std.proofs.Common.{take}
use Rattle.nfs_xdr.specs.Encoding.{opaque_text}
use Rattle.nfs_xdr.specs.Written.{Appends}
use Rattle.nfs_args.specs.Encoding.{IsString}
use Rattle.nfs_args.specs.Chains.{AreEncoded, links_text}
use Rattle.nfs_args.proofs.chain.write_chained_strings.Given as goal

abbrev pub invariant-loop-string : goal.invariant-loop-string
invariant-loop-string l = record {
  text : Appends (links_text opaque_text (take l.string-index l.strings)) l.fn.out l.out;
  encoded : AreEncoded IsString opaque_text (take l.string-index l.strings);
}
