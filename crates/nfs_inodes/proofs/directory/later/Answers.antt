use Rattle.std.proofs.Common.{Some, List, option_map, nat_lt, ap, sym, ◌∙◌}
use Rattle.std.specs.Prelude.{slice_get}
use Rattle.nfs_entries.proofs.Rows.{first_passes}
use Rattle.nfs_inodes.specs.Tree.{Entry}
use Rattle.nfs_inodes.specs.Views.{entry_seen}
use Rattle.nfs_inodes.proofs.directory.later.Goals as goal

pub returns-in_err-entry : goal.returns-in_err-entry
returns-in_err-entry c = ap (option_map entry_seen) c.from_residual.ensures
    ∙ ap (λ (es : List Entry). slice_get es 0) (sym c.in_err-entry.ensures.steps.0 ∙ c.after.ensures)
    ∙ sym (first_passes (λ (e : Entry). nat_lt c.args.cookie e.cookie) c.args.entries.now.entries)

pub returns : goal.returns
returns c = ap Some c.entry_view.ensures
    ∙ ap (λ (es : List Entry). slice_get es 0) (sym c.in_ok-entry.ensures.steps ∙ c.after.ensures)
    ∙ sym (first_passes (λ (e : Entry). nat_lt c.args.cookie e.cookie) c.args.entries.now.entries)
