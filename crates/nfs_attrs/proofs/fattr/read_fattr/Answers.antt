use Rattle.std.proofs.Common.{rules, sym, ◌∙◌}
use Rattle.nfs_xdr.specs.Reading.{Gives}
use Rattle.nfs_attrs.specs.declared.fattr.Fattr.{Fattr}
use Rattle.nfs_attrs.specs.Encoding.{IsFattr}
use Rattle.nfs_attrs.specs.Reading.{fattr_at}
use Rattle.nfs_attrs.proofs.Finds.{found_there, none_there, finds_fattr}
use Rattle.nfs_attrs.proofs.fattr.read_fattr.Goals as goal

pub returns-in_err-attributes-clause-reads : goal.returns-in_err-attributes-clause-reads
returns-in_err-attributes-clause-reads c =
    let gives : Gives (λ (a : Fattr). a) c.args.input.now c.args.input.now c.from_residual.result (fattr_at c.args.input.now) = search rules in
    none_there IsFattr fattr_at c.args.input.now c.from_residual.result finds_fattr c.from_residual.ensures.0 gives

pub returns-clause-reads : goal.returns-clause-reads
returns-clause-reads c =
    found_there IsFattr fattr_at c.rest.result.now c.args.input.now c.in_ok-attributes.attributes c.in_ok-attributes.rest finds_fattr c.rest.ensures.bytes c.rest.ensures.all (sym c.fattr_of.ensures ∙ c.in_ok-attributes.was)
