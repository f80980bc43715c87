use Rattle.std.proofs.Common.{rules, sym, ◌∙◌}
use Rattle.nfs_xdr.specs.Reading.{Gives}
use Rattle.nfs_attrs.specs.declared.pre_attr.PreAttr.{PreAttr}
use Rattle.nfs_attrs.specs.Encoding.{IsPreAttr}
use Rattle.nfs_attrs.specs.Reading.{pre_attr_at}
use Rattle.nfs_attrs.proofs.Finds.{found_there, none_there, finds_pre_attr}
use Rattle.nfs_attrs.proofs.pre_attr.read_pre_attr.Goals as goal

pub returns-in_err-attributes-clause-reads : goal.returns-in_err-attributes-clause-reads
returns-in_err-attributes-clause-reads c =
    let gives : Gives (λ (x : PreAttr). x) c.args.input.now c.args.input.now c.from_residual.result (pre_attr_at c.args.input.now) = search rules in
    none_there IsPreAttr pre_attr_at c.args.input.now c.from_residual.result finds_pre_attr c.from_residual.ensures.0 gives

pub returns-clause-reads : goal.returns-clause-reads
returns-clause-reads c =
    found_there IsPreAttr pre_attr_at c.rest.result.now c.args.input.now c.in_ok-attributes.attributes c.in_ok-attributes.rest finds_pre_attr c.rest.ensures.bytes c.rest.ensures.all (sym c.pre_attr_of.ensures ∙ c.in_ok-attributes.was)
