use Rattle.std.proofs.Common.{[], ◌∷◌, arith, subst}
use Rattle.std.specs.Int.{w64}
use Rattle.nfs_xdr.specs.Written.{Appends}
use Rattle.nfs_xdr.proofs.Writing.{followed}
use Rattle.nfs_xdr.proofs.Items.{encoded_at}
use Rattle.nfs_attrs.proofs.Writes.{after_type_written, fattr_hypers}
use Rattle.nfs_attrs.proofs.fattr.write_after_type.Goals as goal

pub returns-clause-text : goal.returns-clause-text
returns-clause-text c =
    subst (λ t. Appends t c.args.out.now c.hypers.new.self)
    (fattr_hypers c.args.attributes.now _ _ _ _ _ _
    c.hyper_of.ensures.text c.hyper_of-2.ensures.text c.hyper_of-3.ensures.text c.hyper_of-4.ensures.text c.hyper_of-5.ensures.text c.hyper_of-6.ensures.text)
    c.hypers.ensures.text

pub returns-clause-encoded : goal.returns-clause-encoded
returns-clause-encoded c =
    let a = c.args.attributes.now in
    let hyper = encoded_at w64 (
    c.hyper_of.result ∷ c.hyper_of-2.result ∷ a.size ∷ a.used ∷ c.hyper_of-3.result ∷ a.fsid ∷ a.fileid ∷ c.hyper_of-4.result ∷ c.hyper_of-5.result ∷ c.hyper_of-6.result ∷ []) _ c.hypers.ensures.encoded in
    after_type_written a
    c.hyper_of.ensures.high c.hyper_of.ensures.low c.hyper_of-2.ensures.high c.hyper_of-2.ensures.low (hyper 2 (omega arith)) (hyper 3 (omega arith)) c.hyper_of-3.ensures.high c.hyper_of-3.ensures.low (hyper 5 (omega arith)) (hyper 6 (omega arith))
    (followed _ _ _ _ c.hyper_of-4.ensures.high c.hyper_of-4.ensures.low) (followed _ _ _ _ c.hyper_of-5.ensures.high c.hyper_of-5.ensures.low) (followed _ _ _ _ c.hyper_of-6.ensures.high c.hyper_of-6.ensures.low)
