use Rattle.std.proofs.Common.{sym, ap, ◌∙◌}
use Rattle.nfs_exports.specs.Tables.{lists, pattern_count}
use Rattle.nfs_exports.proofs.Lists.{pattern_count-opened}
use Rattle.nfs_exports.proofs.export_table.ExportTable.add_volume.Goals as goal

pub invariant_of-self-2 : goal.invariant_of-self-2
invariant_of-self-2 c =
    (c.self.invariant.0 ∙ sym (ap (λ vs. pattern_count (lists vs)) c.in_ok-push.ensures.items ∙ pattern_count-opened c.self.inside.volumes.items c.new.result c.new.ensures.items), c.self.invariant.1)
