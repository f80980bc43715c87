use Rattle.std.proofs.Common.{[], ◌∷◌, arith, subst}
use Rattle.std.specs.Int.{w64}
use Rattle.nfs_xdr.specs.Written.{Appends}
use Rattle.nfs_xdr.proofs.Writing.{followed}
use Rattle.nfs_xdr.proofs.Items.{encoded_at}
use Rattle.nfs_attrs.proofs.Writes.{pre_attr_hypers}
use Rattle.nfs_attrs.proofs.pre_attr.write_pre_attr.Goals as goal

pub returns-clause-text : goal.returns-clause-text
returns-clause-text c =
    subst (λ t. Appends t c.args.out.now c.hypers.new.self)
    (pre_attr_hypers c.args.attributes.now _ _ c.hyper_of.ensures.text c.hyper_of-2.ensures.text)
    c.hypers.ensures.text

pub returns-clause-encoded : goal.returns-clause-encoded
returns-clause-encoded c =
    let hyper = encoded_at w64 (c.args.attributes.now.size ∷ c.hyper_of.result ∷ c.hyper_of-2.result ∷ []) _ c.hypers.ensures.encoded in
    followed _ _ _ _ (hyper 0 (omega arith))
    (followed _ _ _ _ (followed _ _ _ _ c.hyper_of.ensures.high c.hyper_of.ensures.low) (followed _ _ _ _ c.hyper_of-2.ensures.high c.hyper_of-2.ensures.low))
