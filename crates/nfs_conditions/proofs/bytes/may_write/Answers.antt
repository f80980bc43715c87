use Rattle.std.proofs.Common.{◌≡◌, ◌<◌, ℕ, zero, suc, refl, ◌-◌, sym, ap, subst, ◌∙◌, arith}
use Rattle.std.proofs.lemmas.Bool.Decides.{not_from_Decides}
use Rattle.nfs_inodes.specs.Conditions.{MayWrite}
use Rattle.nfs_conditions.specs.Parts.{TakesBytes, has_space}
use Rattle.nfs_inodes.proofs.Tests.{never}
use Rattle.nfs_conditions.proofs.Files.{always, none_lives}
use Rattle.nfs_conditions.proofs.Room.{space_by, writes_there, writes_none, written_to}
use Rattle.nfs_conditions.proofs.bytes.may_write.Goals as goal

counted : (n : ℕ) → (n ≡ 0 → ⊥) → 0 < n
counted zero f = absurd (f refl)
counted (suc n) f = omega arith

pub returns-then-not-takes_bytes : goal.returns-then-not-takes_bytes
returns-then-not-takes_bytes c = never (λ may. not_from_Decides c.takes_bytes.result c.takes_bytes.ensures c.if-not-takes_bytes.true
    (written_to c.args.tree.now c.args.number.0 c.in-Some.file c.in-Some.ensures c.args.offset c.args.count may))

pub returns-then-count-eq0 : goal.returns-then-count-eq0
returns-then-count-eq0 c = let takes = c.takes_bytes.ensures.0 c.if-not-takes_bytes.false in
    always (subst (MayWrite c.args.tree.now c.args.number.0 c.args.offset) (sym c.if-count-eq0.true)
    (writes_none c.args.tree.now c.args.number.0 c.in-Some.file c.in-Some.ensures c.law.ensures c.args.offset (subst (TakesBytes c.args.tree.now.limits c.in-Some.file c.args.offset) c.if-count-eq0.true takes)))

pub returns-else-count-eq0 : goal.returns-else-count-eq0
returns-else-count-eq0 c = let takes = c.takes_bytes.ensures.0 c.if-not-takes_bytes.false in
    writes_there c.args.tree.now c.args.number.0 c.in-Some.file c.in-Some.ensures c.args.offset c.args.count c.saturating_sub.result c.has_space.result takes (counted c.args.count c.if-count-eq0.false) c.saturating_sub.ensures
    (space_by c.args.tree.now (c.in-Some.file.fsid - 1) c.saturating_sub.result c.has_space.result
    (c.has_space.ensures ∙ ap (λ p. has_space c.args.tree.now p c.saturating_sub.result) c.volume_index.ensures))

pub returns-in-None : goal.returns-in-None
returns-in-None c = never (λ may. none_lives c.args.tree.now c.args.number.0 c.in-None.ensures may.file may.at_file)
