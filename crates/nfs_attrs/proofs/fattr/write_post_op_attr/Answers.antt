use Rattle.std.proofs.Common.{subst}
use Rattle.nfs_xdr.specs.Written.{Appends}
use Rattle.nfs_xdr.proofs.Writing.{appends_then, followed}
use Rattle.nfs_attrs.proofs.Writes.{fattr_written, led_by_type}
use Rattle.nfs_attrs.proofs.fattr.write_post_op_attr.Goals as goal

pub returns-in-Some-clause-text : goal.returns-in-Some-clause-text
returns-in-Some-clause-text c = rw c.in-Some.is (
    subst (λ t. Appends t c.args.out.now c.write_after_type.new.out)
    (led_by_type _ 1 _ _ c.number_of.ensures c.hyper_of.ensures.text)
    (appends_then _ _ _ _ _ c.hypers.ensures.text c.write_after_type.ensures.text))

pub returns-in-Some-clause-encoded : goal.returns-in-Some-clause-encoded
returns-in-Some-clause-encoded c = rw c.in-Some.is (
    followed _ _ _ _ c.hyper_of.ensures.high (fattr_written _ _ c.number_of.ensures c.hyper_of.ensures.low c.write_after_type.ensures.encoded))
