use Rattle.std.proofs.Common.{[], refl, subst}
use Rattle.nfs_loop.specs.Reports.{Accounts, since}
use Rattle.nfs_loop.proofs.Reporting.{accounts_one}
use Rattle.nfs_loop.proofs.housekeeping.Housekeeping.save.Goals as goal

pub returns-then-saturating_sub-every : goal.returns-then-saturating_sub-every
returns-then-saturating_sub-every g c = record {
  reported = subst (λ reported. Accounts reported [] (g.N.Network.reported c.millis.new.self)) c.read_clock-self.ensures (accounts_one _ _ (since c.millis.result) c.millis.ensures);
  watches = refl;
  looked = refl;
  limits = refl;
}
