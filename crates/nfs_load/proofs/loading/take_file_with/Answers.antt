use Rattle.std.proofs.Common.{rules, ◌≡◌, Ok, Err, inl, refl}
use Rattle.nfs_load.specs.Descriptions.{last_root}
use Rattle.nfs_load.proofs.Descriptions.{root_fault, fields_fault, line_done}
use Rattle.nfs_load.proofs.loading.take_file_with.Goals as goal

pub returns-in_err-root-clause-done : goal.returns-in_err-root-clause-done
returns-in_err-root-clause-done c =
    let root : last_root c.args.loaded.now.tree ≡ Err c.in_err-root.field-0.0 = search rules in
    λ digits encodes. inl (root_fault _ _ c.from_residual.result _ root c.from_residual.ensures)

pub returns-in_err-line-clause-done : goal.returns-in_err-line-clause-done
returns-in_err-line-clause-done c =
    let root : last_root c.args.loaded.now.tree ≡ Ok c.in_ok-root.root.0 = search rules in
    λ digits encodes. inl (fields_fault _ _ _ _ c.from_residual-in_err-line.result _ root (c.in_err-line.ensures digits encodes) c.from_residual-in_err-line.ensures)

pub returns-clause-done : goal.returns-clause-done
returns-clause-done c =
    let root : last_root c.args.loaded.now.tree ≡ Ok c.in_ok-root.root.0 = search rules in
    λ digits encodes. inl (line_done _ _ _ _ _ c.make_file.result _ root (c.in_ok-line.ensures digits encodes) (c.make_file.ensures, refl, refl))
