use Rattle.std.proofs.Common.{◌≡◌, ◌≢◌, take, drop, rules, ap, sym, ◌∙◌, arith}
use Rattle.std.specs.Int.{w32, to_be_bytes}
use Rattle.nfs_journal.specs.Heads.{title, version}
use Rattle.nfs_journal.proofs.Heading.{has_version, other_title}
use Rattle.nfs_journal.proofs.head.fault_of.Goals as goal

pub returns-then-not-are_same : goal.returns-then-not-are_same
returns-then-not-are_same c =
    let other : take 14 (drop 4 c.args.bytes.now) ≢ title = search rules in
    (c.requires, other_title c.args.bytes.now other)

pub returns-then-n-eq-VERSION : goal.returns-then-n-eq-VERSION
returns-then-n-eq-VERSION c =
    let titled : take 14 (drop 4 c.args.bytes.now) ≡ title = search rules in
    (has_version c.args.bytes.now version (omega arith) titled (sym c.number_of-n.ensures ∙ ap (to_be_bytes w32) c.if-n-eq-VERSION.true), λ begun. absurd (c.requires begun))

pub returns-else-n-eq-VERSION : goal.returns-else-n-eq-VERSION
returns-else-n-eq-VERSION c =
    let titled : take 14 (drop 4 c.args.bytes.now) ≡ title = search rules in
    (has_version c.args.bytes.now c.number_of-n.result (omega arith) titled (sym c.number_of-n.ensures), c.if-n-eq-VERSION.false)
