use Rattle.std.proofs.Common.{Some, subst, ◌∙◌}
use Rattle.std.specs.Prelude.{Ok}
use Rattle.nfs_args.specs.Results.{IsLinkPath, link_path_text}
use Rattle.nfs_args.specs.declared.answer.NfsAnswer.TheVariants as answer
use Rattle.nfs_attrs.specs.Encoding.{IsPostOpAttr}
use Rattle.nfs_attrs.specs.declared.fattr.Fattr.{Fattr}
use Rattle.nfs_procs.proofs.Encoded.{granted_encoded}
use Rattle.nfs_procs.specs.Performing.{AppendsAnswer}
use Rattle.nfs_xdr.proofs.Writing.{appends_then}
use Rattle.nfs_procs.proofs.readlink.write_granted.Goals as goal

pub returns : goal.returns
returns c = subst (λ path. AppendsAnswer (answer.Readlink (Ok (record { attributes = Some c.args.file.now.attributes; path = path }))) c.args.out.now c.write_link_path.new.out) (c.new.ensures ∙ c.path_of-path.ensures.path)
    (subst (λ (f : Fattr). AppendsAnswer (answer.Readlink (Ok (record { attributes = Some f; path = c.new.result }))) c.args.out.now c.write_link_path.new.out) c.attributes.ensures (record {
      text = appends_then _ _ _ _ _ c.u32.ensures.text c.write_link_path.ensures.text;
      encoded = granted_encoded answer.Readlink IsLinkPath IsPostOpAttr link_path_text _ c.write_link_path.ensures.encoded;
    }))
