use Rattle.std.proofs.Common.{sym, ap, ◌∙◌}
use Rattle.nfs_rules.specs.Tests.{first}
use Rattle.nfs_rules.specs.Table.{rules_of}
use Rattle.nfs_rules.specs.Views.{caller_of}
use Rattle.nfs_rules.proofs.Verdicts.{one_named, two_denied, two_named}
use Rattle.nfs_rules.proofs.verdict.verdict.Goals as goal

pub returns-in-Ok : goal.returns-in-Ok
returns-in-Ok c = c.first_failure.ensures ∙ ap (λ s. first (rules_of s s c.args.args.now)) c.subject-subject.ensures
    ∙ one_named c.args.tree.now c.args.table.now (caller_of c.args.caller) c.args.args.now c.in-One.handle.now c.in-Ok.file c.in-One.ensures c.in-Ok.ensures.rules c.in-Ok.ensures.subject

pub returns-in-Ok-in_one_volume : goal.returns-in-Ok-in_one_volume
returns-in-Ok-in_one_volume c = c.first_failure-in-Ok-in_one_volume.ensures
    ∙ two_named c.args.tree.now c.args.table.now (caller_of c.args.caller) c.args.args.now c.in-Two.one.now c.in-Two.two.now c.in-Two.ensures c.of-one.result c.of-two.result c.of-one.ensures.rules c.of-one.ensures.subject
    c.of-two.ensures.rules c.of-two.ensures.subject (c.in-Ok-in_one_volume.one, c.in-Ok-in_one_volume.two) (sym c.in-Ok-in_one_volume.ensures)

pub returns-in-Err-in_one_volume : goal.returns-in-Err-in_one_volume
returns-in-Err-in_one_volume c = two_denied c.args.tree.now c.args.table.now (caller_of c.args.caller) c.args.args.now c.in-Two.one.now c.in-Two.two.now c.in-Two.ensures c.of-one.result c.of-two.result c.of-one.ensures.rules c.of-one.ensures.subject
    c.of-two.ensures.rules c.of-two.ensures.subject c.in-Err-in_one_volume.rule (sym c.in-Err-in_one_volume.ensures)
