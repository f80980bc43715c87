use Rattle.std.proofs.Common.{rules, ◌≡◌, ◌≤◌, ◌<◌, ◌-◌, Ok, Err, refl, ap, ◌∙◌, length}
use Rattle.nfs_load.specs.declared.cause.Cause.TheVariants.{Full}
use Rattle.nfs_load.specs.declared.refusal.Refusal.TheVariants.{Fault}
use Rattle.nfs_exports.specs.Tables.{added, pattern_count}
use Rattle.nfs_load.specs.Descriptions.{last_root}
use Rattle.nfs_load.proofs.Descriptions.{root_fault, fields_fault, line_done, length_added}
use Rattle.nfs_load.proofs.loading.take_export.Goals as goal

pub returns-in_err-last_root-clause-done : goal.returns-in_err-last_root-clause-done
returns-in_err-last_root-clause-done c =
    let root : last_root c.args.loaded.now.tree ≡ Err c.in_err-last_root.field-0.0 = search rules in
    root_fault _ _ c.from_residual.result _ root c.from_residual.ensures

pub returns-in_err-line-clause-done : goal.returns-in_err-line-clause-done
returns-in_err-line-clause-done c =
    let root : last_root c.args.loaded.now.tree ≡ Ok c.in_ok-last_root.field-0.0 = search rules in
    fields_fault _ _ _ _ c.from_residual-in_err-line.result _ root c.in_err-line.ensures c.from_residual-in_err-line.ensures

pub returns-then-pattern_count-ge-MAX_PATTERNS-clause-done : goal.returns-then-pattern_count-ge-MAX_PATTERNS-clause-done
returns-then-pattern_count-ge-MAX_PATTERNS-clause-done c =
    let root : last_root c.args.loaded.now.tree ≡ Ok c.in_ok-last_root.field-0.0 = search rules in
    let many : 256 ≤ pattern_count c.args.loaded.now.table = search rules in
    line_done _ _ _ _ _ (Err (Fault Full)) _ root c.in_ok-line.ensures (many, refl)

pub returns-clause-done : goal.returns-clause-done
returns-clause-done c =
    let root : last_root c.args.loaded.now.tree ≡ Ok c.in_ok-last_root.field-0.0 = search rules in
    let few : pattern_count c.args.loaded.now.table < 256 = search rules in
    line_done _ _ _ _ _ (Ok tt) _ root c.in_ok-line.ensures (few, ap (λ table. record { tree = c.args.loaded.now.tree; table = table; names = c.args.loaded.now.names }) (c.in_ok-add.ensures.ok ∙ ap (λ n. added c.args.loaded.now.table (n - 1) (record { pattern = c.in_ok-line.line.pattern; options = c.in_ok-line.line.options })) (c.volume_count-volume.ensures ∙ c.requires)))

pub returns-clause-lists : goal.returns-clause-lists
returns-clause-lists c = ap length c.in_ok-add.ensures.ok ∙ length_added _ _ _ ∙ c.requires
