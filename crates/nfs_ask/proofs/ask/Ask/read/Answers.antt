use Rattle.std.proofs.Common.{sym, ◌∙◌}
use Rattle.nfs_ask.proofs.Taking.{asks_by}
use Rattle.nfs_ask.proofs.ask.Ask.read.Goals as goal

pub returns-clause-asks : goal.returns-clause-asks
returns-clause-asks c =
    asks_by _ _ _ _ _ _ _ _ (record { xid = c.in_ok-xid.xid; cred = c.in_ok-cred.cred; path = c.in_ok-path.path; request = c.in_ok-request.request }) _ c.in-Some.operation
    c.new-fields.ensures c.in_ok-xid.ensures c.in_ok-cred.ensures c.in_ok-word.ensures (sym c.of.ensures ∙ c.in-Some.is) c.in_ok-path.ensures c.in_ok-request.ensures.asks c.in_ok-end.ensures
