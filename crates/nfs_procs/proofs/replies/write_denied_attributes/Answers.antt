use Rattle.nfs_attrs.specs.Encoding.{IsPostOpAttr, post_op_attr_text}
use Rattle.nfs_procs.proofs.Encoded.{failed_encoded}
use Rattle.nfs_procs.proofs.replies.write_denied_attributes.Goals as goal

pub returns-clause-encoded : goal.returns-clause-encoded
returns-clause-encoded c = let denial = c.args.denial.now in
    failed_encoded IsPostOpAttr post_op_attr_text denial.rule denial.shown c.status.result _ c.status.ensures c.as_ref.ensures.value c.u32.ensures.encoded c.write_post_op_attr.ensures.encoded
