use Rattle.std.proofs.Common.{[], ◌∷◌, arith, subst}
use Rattle.std.specs.Int.{w32}
use Rattle.nfs_xdr.specs.Written.{Appends}
use Rattle.nfs_xdr.proofs.Writing.{followed}
use Rattle.nfs_xdr.proofs.Items.{encoded_at}
use Rattle.nfs_attrs.proofs.Writes.{moment_numbers}
use Rattle.nfs_attrs.proofs.moment.write_moment.Goals as goal

pub returns-clause-text : goal.returns-clause-text
returns-clause-text c = subst (λ t. Appends t c.args.out.now c.numbers.new.self) (moment_numbers c.args.moment) c.numbers.ensures.text

pub returns-clause-encoded : goal.returns-clause-encoded
returns-clause-encoded c =
    let word = encoded_at w32 (c.args.moment.seconds ∷ c.args.moment.nanos ∷ []) _ c.numbers.ensures.encoded in
    followed _ _ _ _ (word 0 (omega arith)) (word 1 (omega arith))
