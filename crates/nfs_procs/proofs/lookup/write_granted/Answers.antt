use Rattle.std.proofs.Common.{Some, subst}
use Rattle.std.specs.Prelude.{Ok}
use Rattle.nfs_args.specs.Results.{IsFound, found_text}
use Rattle.nfs_args.specs.declared.answer.NfsAnswer.TheVariants as answer
use Rattle.nfs_attrs.specs.Encoding.{IsPostOpAttr}
use Rattle.nfs_procs.proofs.Encoded.{granted_encoded}
use Rattle.nfs_procs.specs.Performing.{AppendsAnswer}
use Rattle.nfs_xdr.proofs.Writing.{appends_then}
use Rattle.nfs_procs.proofs.lookup.write_granted.Goals as goal

pub returns : goal.returns
returns c =
    subst (λ file. AppendsAnswer (answer.Lookup (Ok (record { file = file; attributes = Some c.args.file.now; dir = Some c.args.dir.now }))) c.args.out.now c.write_found.new.out) c.new.ensures (record {
      text = appends_then _ _ _ _ _ c.u32.ensures.text c.write_found.ensures.text;
      encoded = granted_encoded answer.Lookup IsFound IsPostOpAttr found_text _ c.write_found.ensures.encoded;
    })
