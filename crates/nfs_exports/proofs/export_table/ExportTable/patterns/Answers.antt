use Rattle.std.proofs.Common.{◌≤◌, length, ap, ◌∙◌, rules}
use Rattle.nfs_exports.specs.Tables.{exports_of, lists}
use Rattle.nfs_exports.proofs.Lists.{exports_of_at, exports_of_history}
use Rattle.nfs_exports.proofs.export_table.ExportTable.patterns.Goals as goal

pub returns-in-Some : goal.returns-in-Some
returns-in-Some c =
    let look = c.in-Some.ensures.lookup in
    c.as_slice.ensures.value ∙ exports_of_at c.deref.result.now _ _ look.3.0 look.1
    ∙ ap (λ vs. exports_of (lists vs) c.args.volume) c.deref.ensures.value ∙ ap (λ t. exports_of t c.args.volume) c.self.view_is

pub returns-in-None : goal.returns-in-None
returns-in-None c =
    let history : length c.deref.result.now ≤ c.args.volume = search rules in
    exports_of_history c.deref.result.now _ history
    ∙ ap (λ vs. exports_of (lists vs) c.args.volume) c.deref.ensures.value ∙ ap (λ t. exports_of t c.args.volume) c.self.view_is
