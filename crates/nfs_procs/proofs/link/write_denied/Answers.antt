use Rattle.std.proofs.Common.{ap}
use Rattle.nfs_args.specs.Results.{IsLinked, linked_text}
use Rattle.nfs_args.specs.declared.linked.Linked.{Linked}
use Rattle.nfs_attrs.specs.declared.wcc.Wcc.{Wcc}
use Rattle.nfs_procs.proofs.Encoded.{failed_encoded}
use Rattle.nfs_procs.specs.Doing.{no_change}
use Rattle.nfs_procs.proofs.link.write_denied.Goals as goal

pub returns-clause-encoded : goal.returns-clause-encoded
returns-clause-encoded c =
    let denial = c.args.denial.now in
    let shown_as : Wcc → Linked = λ dir. record { attributes = denial.one; dir = dir } in
    failed_encoded IsLinked linked_text denial.rule (shown_as (no_change denial.two)) c.status.result (shown_as c.change.result) c.status.ensures (ap shown_as c.change.ensures) c.u32.ensures.encoded c.write_linked.ensures.encoded
