use Rattle.std.proofs.Common.{true, ◌++◌, refl, subst}
use Rattle.std.proofs.lemmas.List.{take_rest}
use Rattle.sha2.specs.Hashers.{Holds256}
use Rattle.nfs_saving.proofs.Digests.{ends_key, keeps_key}
use Rattle.nfs_saving.proofs.digested.DescriptionDigest.take.Goals as goal

pub returns-in-Some : goal.returns-in-Some
returns-in-Some c = λ before it.
    let part = c.args.part.now in
    let end = c.in-Some.end in
    let first = c.in-Some.ensures in
    let new = c.update-in-Some.new.self in
    ends_key c.args.self.now (record { digest = new; is_after_key = true }) before part end c.if-self.false refl first.0.high first.0.before first.1
    (λ m holds. subst (λ l. Holds256 new (m ++ l)) (take_rest part end) (c.update-in-Some.ensures m holds)) it

pub returns-in_default : goal.returns-in_default
returns-in_default c = λ before it. keeps_key c.args.self.now c.args.self.now before c.args.part.now c.if-self.false refl c.in_default.ensures it
