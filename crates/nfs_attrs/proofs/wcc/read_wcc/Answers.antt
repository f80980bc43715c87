use Rattle.std.proofs.Common.{rules, sym, ◌∙◌}
use Rattle.nfs_xdr.specs.Reading.{Gives}
use Rattle.nfs_attrs.specs.declared.wcc.Wcc.{Wcc}
use Rattle.nfs_attrs.specs.Encoding.{IsWcc}
use Rattle.nfs_attrs.specs.Reading.{wcc_at}
use Rattle.nfs_attrs.proofs.Finds.{found_there, none_there, finds_wcc}
use Rattle.nfs_attrs.proofs.wcc.read_wcc.Goals as goal

pub returns-in_err-wcc-clause-reads : goal.returns-in_err-wcc-clause-reads
returns-in_err-wcc-clause-reads c =
    let gives : Gives (λ (x : Wcc). x) c.args.input.now c.args.input.now c.from_residual.result (wcc_at c.args.input.now) = search rules in
    none_there IsWcc wcc_at c.args.input.now c.from_residual.result finds_wcc c.from_residual.ensures.0 gives

pub returns-clause-reads : goal.returns-clause-reads
returns-clause-reads c =
    found_there IsWcc wcc_at c.rest.result.now c.args.input.now c.in_ok-wcc.wcc c.in_ok-wcc.rest finds_wcc c.rest.ensures.bytes c.rest.ensures.all (sym c.wcc_of.ensures ∙ c.in_ok-wcc.was)
