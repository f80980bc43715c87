use Rattle.std.proofs.Common.{Ok, refl, arith}
use Rattle.nfs_load.specs.Descriptions.{VolumeTaken}
use Rattle.nfs_load.specs.Statements.{volume_line_of}
use Rattle.nfs_load.proofs.Descriptions.{then_fault, then_done, handed_on, volume_refused}
use Rattle.nfs_load.proofs.loading.take_volume.Goals as goal

pub returns-in_err-line-clause-done : goal.returns-in_err-line-clause-done
returns-in_err-line-clause-done c = then_fault _ _ c.from_residual.result _ c.in_err-line.ensures c.from_residual.ensures

pub returns-in_err-add_volume-clause-done : goal.returns-in_err-add_volume-clause-done
returns-in_err-add_volume-clause-done c = then_done _ _ _ c.from_residual-in_err-add_volume.result _ c.in_ok-line.ensures
    (handed_on (λ r. VolumeTaken c.args.loaded.now (volume_line_of c.in_ok-line.line) r (record { tree = c.add_volume.new.tree; table = c.args.loaded.now.table; names = c.args.loaded.now.names })) c.from_residual-in_err-add_volume.result _ c.from_residual-in_err-add_volume.ensures
    (volume_refused c.args.loaded.now (volume_line_of c.in_ok-line.line) _ (record { tree = c.add_volume.new.tree; table = c.args.loaded.now.table; names = c.args.loaded.now.names }) c.in_err-add_volume.ensures))

pub add_volume-requires-2 : goal.add_volume-requires-2
add_volume-requires-2 c = omega (arith, c.requires, c.in_ok-add_volume.ensures.2.few)

pub returns-clause-done : goal.returns-clause-done
returns-clause-done c = then_done _ _ _ (Ok tt) _ c.in_ok-line.ensures (c.in_ok-add_volume.ensures, c.in_ok-add_volume-2.ensures.ok, refl)
