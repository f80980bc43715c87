use Rattle.std.proofs.Common.{◌≡◌, ◌+◌, ◌<◌, length, sym, ap, subst, ◌∙◌, rules, arith}
use Rattle.nfs_exports.specs.Tables.{lists, pattern_count, added}
use Rattle.nfs_exports.proofs.Lists.{pattern_count-added}
use Rattle.nfs_exports.proofs.export_table.ExportTable.add.Goals as goal

pub invariant_of-self-2 : goal.invariant_of-self-2
invariant_of-self-2 c =
    let inside : c.args.volume < length (lists c.self.inside.volumes.items) = subst (λ t. c.args.volume < length t) (sym c.self.view_is) c.requires.volume in
    let more : lists c.push_to.new.volumes.items ≡ added (lists c.self.inside.volumes.items) c.args.volume (record { pattern = c.args.pattern; options = c.args.options }) = search rules in
    let few : pattern_count (lists c.self.inside.volumes.items) < 256 = subst (λ t. pattern_count t < 256) (sym c.self.view_is) c.requires.count in
    (ap (λ n. n + 1) c.self.invariant.0 ∙ sym (ap pattern_count more ∙ pattern_count-added _ _ _ inside), omega (arith, few, c.self.invariant.0))
