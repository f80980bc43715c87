-- Once the log has failed, nothing more is written to it.
use Rattle.std.proofs.Common.{◌≡◌, ℕ, Bool, List, [], ◌∷◌, Option, sym, ap, subst}
use Rattle.nfs_serving.specs.Service.{ServiceState, Change, joins, turns, leaves, passes, reloads, settles, AreChanges, IsChange, FailedLogsStay}
use Rattle.nfs_xdr.specs.Known.{StaysFailed}
use Rattle.nfs_xdr.proofs.Knowing.{stays_none, stays_then}

pub stays_same : (was is : Bool) (old new : Option (List ℕ)) → is ≡ was → new ≡ old → StaysFailed was old is new
stays_same was is old new same stays = subst (λ b. StaysFailed was old b new) (sym same) (subst (λ l. StaysFailed was old was l) (sym stays) (stays_none was old))

module _ {L : Type 0} (outgoing incoming : L → Option (List ℕ)) (shared : Bool) where
  by_change : (change : Change) (old new : ServiceState L) → IsChange outgoing incoming shared change old new → StaysFailed old.broken old.log new.broken new.log
  by_change (joins key number addr) old new j = stays_same old.broken new.broken old.log new.log j.broken_stays j.log_stays
  by_change (turns key moment came) old new h = h.log_stays
  by_change (leaves key number calls end) old new l = l.log_stays
  by_change passes old new p = p.log_stays
  by_change (reloads exports) old new r = stays_same old.broken new.broken old.log new.log (ap (λ (s : ServiceState L). s.broken) r) (ap (λ (s : ServiceState L). s.log) r)
  by_change (settles notes) old new s = stays_same old.broken new.broken old.log new.log (ap (λ (s : ServiceState L). s.broken) s.1) (ap (λ (s : ServiceState L). s.log) s.1)

  by_changes : (changes : List Change) (old new : ServiceState L) → AreChanges outgoing incoming shared changes old new → StaysFailed old.broken old.log new.broken new.log
  by_changes [] old new same = subst (λ (s : ServiceState L). StaysFailed old.broken old.log s.broken s.log) (sym same) (stays_none old.broken old.log)
  by_changes (change ∷ earlier) old new c = stays_then old.broken c.0.broken new.broken old.log c.0.log new.log (by_changes earlier old c.0 c.1) (by_change change c.0 new c.2)

pub failed_logs_stay : {L : Type 0} (outgoing incoming : L → Option (List ℕ)) → FailedLogsStay outgoing incoming
failed_logs_stay outgoing incoming shared changes old new c = by_changes outgoing incoming shared changes old new c
