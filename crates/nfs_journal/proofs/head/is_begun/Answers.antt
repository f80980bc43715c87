use Rattle.std.proofs.Common.{◌≡◌, take, rules, sym, ◌∙◌}
use Rattle.std.specs.Prelude.{IsTrue}
use Rattle.nfs_journal.specs.Heads.{front}
use Rattle.nfs_journal.proofs.Heading.{both_first}
use Rattle.nfs_journal.proofs.head.is_begun.Goals as goal

pub returns : goal.returns
returns c =
    let both = both_first c.args.bytes.now c.min-n.result c.min-n.ensures in
    let to : IsTrue c.are_same.result → take c.min-n.result c.args.bytes.now ≡ take c.min-n.result front = search rules in
    let from : take c.min-n.result c.args.bytes.now ≡ take c.min-n.result front → IsTrue c.are_same.result = search rules in
    (λ is. sym both.0 ∙ to is ∙ both.1, λ begun. from (both.0 ∙ begun ∙ sym both.1))
