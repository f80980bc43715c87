use Rattle.std.proofs.Common.{ap, ◌∙◌}
use Rattle.nfs_args.specs.Results.{IsRenamed, renamed_text}
use Rattle.nfs_args.specs.declared.renamed.Renamed.{Renamed}
use Rattle.nfs_attrs.specs.declared.wcc.Wcc.{Wcc}
use Rattle.nfs_procs.proofs.Encoded.{failed_encoded}
use Rattle.nfs_procs.specs.Doing.{no_change}
use Rattle.nfs_procs.proofs.rename.write_denied.Goals as goal

abbrev shown_as : Wcc → Wcc → Renamed
shown_as from to = record { from = from; to = to }

pub returns-clause-encoded : goal.returns-clause-encoded
returns-clause-encoded c = let denial = c.args.denial.now in
    failed_encoded IsRenamed renamed_text denial.rule (shown_as (no_change denial.one) (no_change denial.two)) c.status.result (shown_as c.change.result c.change-2.result) c.status.ensures
    (ap (λ from. shown_as from c.change-2.result) c.change.ensures ∙ ap (shown_as (no_change denial.one)) c.change-2.ensures) c.u32.ensures.encoded c.write_renamed.ensures.encoded
