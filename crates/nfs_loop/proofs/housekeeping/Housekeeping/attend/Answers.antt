use Rattle.std.proofs.Common.{[], sym, subst}
use Rattle.nfs_loop.specs.Reports.{Accounts, since}
use Rattle.nfs_loop.proofs.Reporting.{accounts_one, accounts_then}
use Rattle.nfs_loop.proofs.housekeeping.Housekeeping.attend.Goals as goal

pub returns-clause-reported : goal.returns-clause-reported
returns-clause-reported g c =
    subst (λ reported. Accounts (g.N.Network.reported c.args.net.now) [] reported) (sym c.look_at_end.ensures.reported)
    (accounts_then _ _ _ [] [] (accounts_one _ _ (since c.millis-seconds.result) c.millis-seconds.ensures) c.save.ensures.reported)

pub returns-then-is_quiet-clause-reported : goal.returns-then-is_quiet-clause-reported
returns-then-is_quiet-clause-reported g c = accounts_one _ _ (since c.millis-seconds.result) c.millis-seconds.ensures
