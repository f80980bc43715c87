use Rattle.std.proofs.Common.{rules, sym, ◌∙◌, Option}
use Rattle.nfs_xdr.specs.Reading.{Gives}
use Rattle.nfs_attrs.specs.declared.fattr.Fattr.{Fattr}
use Rattle.nfs_attrs.specs.Encoding.{IsPostOpAttr}
use Rattle.nfs_attrs.specs.Reading.{post_op_attr_at}
use Rattle.nfs_attrs.proofs.Finds.{found_there, none_there, finds_post_op_attr}
use Rattle.nfs_attrs.proofs.fattr.read_post_op_attr.Goals as goal

pub returns-in_err-attributes-clause-reads : goal.returns-in_err-attributes-clause-reads
returns-in_err-attributes-clause-reads c =
    let gives : Gives (λ (x : Option Fattr). x) c.args.input.now c.args.input.now c.from_residual.result (post_op_attr_at c.args.input.now) = search rules in
    none_there IsPostOpAttr post_op_attr_at c.args.input.now c.from_residual.result finds_post_op_attr c.from_residual.ensures.0 gives

pub returns-clause-reads : goal.returns-clause-reads
returns-clause-reads c =
    found_there IsPostOpAttr post_op_attr_at c.rest.result.now c.args.input.now c.in_ok-attributes.attributes c.in_ok-attributes.rest finds_post_op_attr c.rest.ensures.bytes c.rest.ensures.all (sym c.post_op_attr_of.ensures ∙ c.in_ok-attributes.was)
