use Rattle.std.proofs.Common.{◌⊎◌, Result, Ok, Err, OnOk, OnErr, inl, inr, refl, sym, subst, ◌∙◌}
use Rattle.nfs_loop.specs.Refusing.{IsRefusedBy}
use Rattle.nfs_loop.specs.Reports.{since}
use Rattle.nfs_loop.proofs.Reporting.{accounts_one}
use Rattle.nfs_loop.proofs.housekeeping.Housekeeping.refuse_where_denied.Goals as goal

one_of : {X E P Q : Type 0} (r : Result X E) → OnOk r P → OnErr r Q → P ⊎ Q
one_of (Ok x) p q = inl p
one_of (Err e) p q = inr q

pub returns-then-is_audit_fault : goal.returns-then-is_audit_fault
returns-then-is_audit_fault g c = record {
  reported = accounts_one _ _ (since c.millis-now.result) c.millis-now.ensures;
  watches = refl;
  looked = refl;
  limits = refl;
  refused = subst (λ b. IsRefusedBy b c.args.addr (g.N.Network.reported c.args.net.now) (g.N.Network.reported c.millis-now.new.self) c.args.self.now.refused_peers c.add.new.self) (sym c.if-is_audit_fault.true ∙ c.is_audit_fault.ensures)
      (c.millis-now.result, c.millis-now.ensures, one_of c.add.result c.add.ensures.ok c.add.ensures.err);
}
