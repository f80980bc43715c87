use Rattle.nfs_attrs.specs.Encoding.{IsWcc, wcc_text}
use Rattle.nfs_procs.proofs.Encoded.{failed_encoded}
use Rattle.nfs_procs.specs.Doing.{no_change}
use Rattle.nfs_procs.proofs.replies.write_denied_change.Goals as goal

pub returns-clause-encoded : goal.returns-clause-encoded
returns-clause-encoded c = let denial = c.args.denial.now in
    failed_encoded IsWcc wcc_text denial.rule (no_change denial.shown) c.status.result c.change.result c.status.ensures c.change.ensures c.u32.ensures.encoded c.write_wcc.ensures.encoded
