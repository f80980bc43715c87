use Rattle.std.proofs.Common.{arith, sym, ap, ◌∙◌}
use Rattle.nfs_rpc.specs.AuthSys.{cred_at}
use Rattle.nfs_rpc.proofs.AuthSys.{cred_read, cred_bad}
use Rattle.nfs_rpc.proofs.auth_sys.Cred.read.Goals as goal

pub returns-in-Ok-clause-read : goal.returns-in-Ok-clause-read
returns-in-Ok-clause-read c = cred_read c.args.body.now _ _ (λ i. omega (arith, c.type_inv.body i)) (ap cred_at (sym c.new-input.ensures) ∙ c.in-Ok.ensures)

pub returns-in-Err-clause-bad : goal.returns-in-Err-clause-bad
returns-in-Err-clause-bad c is = cred_bad c.args.body.now _ (ap cred_at (sym c.new-input.ensures) ∙ c.in-Err.ensures)
