use Rattle.std.proofs.Common.{rules, sym, ◌∙◌}
use Rattle.nfs_xdr.specs.Reading.{Gives}
use Rattle.nfs_attrs.specs.declared.sattr.Sattr.{Sattr}
use Rattle.nfs_attrs.specs.Encoding.{IsSattr}
use Rattle.nfs_attrs.specs.Reading.{sattr_at}
use Rattle.nfs_attrs.proofs.Finds.{found_there, none_there, finds_sattr}
use Rattle.nfs_attrs.proofs.sattr.read_sattr.Goals as goal

pub returns-in_err-settings-clause-reads : goal.returns-in_err-settings-clause-reads
returns-in_err-settings-clause-reads c =
    let gives : Gives (λ (x : Sattr). x) c.args.input.now c.args.input.now c.from_residual.result (sattr_at c.args.input.now) = search rules in
    none_there IsSattr sattr_at c.args.input.now c.from_residual.result finds_sattr c.from_residual.ensures.0 gives

pub returns-clause-reads : goal.returns-clause-reads
returns-clause-reads c =
    found_there IsSattr sattr_at c.rest.result.now c.args.input.now c.in_ok-settings.settings c.in_ok-settings.rest finds_sattr c.rest.ensures.bytes c.rest.ensures.all (sym c.sattr_of.ensures ∙ c.in_ok-settings.was)
