use Rattle.nfs_args.specs.Results.{IsWritten, written_text}
use Rattle.nfs_args.specs.declared.answer.NfsAnswer.TheVariants as answer
use Rattle.nfs_attrs.specs.Encoding.{IsWcc}
use Rattle.nfs_procs.proofs.Encoded.{granted_encoded}
use Rattle.nfs_xdr.proofs.Writing.{appends_then}
use Rattle.nfs_procs.proofs.write.write_granted.Goals as goal

pub returns : goal.returns
returns c = record {
  text = appends_then _ _ _ _ _ c.u32.ensures.text c.write_written.ensures.text;
  encoded = granted_encoded answer.Write IsWritten IsWcc written_text _ c.write_written.ensures.encoded;
}
