use Rattle.std.proofs.Common.{subst}
use Rattle.nfs_xdr.specs.Written.{Appends}
use Rattle.nfs_xdr.proofs.Writing.{appends_then, followed}
use Rattle.nfs_attrs.specs.Encoding.{post_op_attr_text}
use Rattle.nfs_args.proofs.Writes.{attributes_written}
use Rattle.nfs_args.proofs.server_limits.write_server_limits.Goals as goal

pub returns-clause-text : goal.returns-clause-text
returns-clause-text c =
    appends_then _ _ _ _ _ (subst (λ o. Appends (post_op_attr_text o) c.args.out.now c.write_post_op_attr.new.out) c.as_ref.ensures.value c.write_post_op_attr.ensures.text)
    (appends_then _ _ _ _ _ c.write_transfer.ensures.text
    (appends_then _ _ _ _ _ c.write_transfer-2.ensures.text
    (appends_then _ _ _ _ _ c.u32.ensures.text
    (appends_then _ _ _ _ _ c.u64.ensures.text
    (appends_then _ _ _ _ _ c.write_moment.ensures.text c.u32-2.ensures.text)))))

pub returns-clause-encoded : goal.returns-clause-encoded
returns-clause-encoded c =
    followed _ _ _ _ (attributes_written _ _ c.as_ref.ensures.value c.write_post_op_attr.ensures.encoded)
    (followed _ _ _ _ c.write_transfer.ensures.encoded
    (followed _ _ _ _ c.write_transfer-2.ensures.encoded
    (followed _ _ _ _ c.u32.ensures.encoded
    (followed _ _ _ _ c.u64.ensures.encoded
    (followed _ _ _ _ c.write_moment.ensures.encoded c.u32-2.ensures.encoded)))))
