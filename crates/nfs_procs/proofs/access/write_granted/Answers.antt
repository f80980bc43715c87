use Rattle.nfs_args.specs.Results.{IsRights, rights_text}
use Rattle.nfs_args.specs.declared.answer.NfsAnswer.TheVariants as answer
use Rattle.nfs_attrs.specs.Encoding.{IsPostOpAttr}
use Rattle.nfs_procs.proofs.Encoded.{granted_encoded}
use Rattle.nfs_xdr.proofs.Writing.{appends_then}
use Rattle.nfs_procs.proofs.access.write_granted.Goals as goal

pub returns : goal.returns
returns c = record {
  text = appends_then _ _ _ _ _ c.u32.ensures.text c.write_rights.ensures.text;
  encoded = granted_encoded answer.Access IsRights IsPostOpAttr rights_text _ c.write_rights.ensures.encoded;
}
