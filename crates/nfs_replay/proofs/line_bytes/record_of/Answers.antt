use Rattle.std.proofs.Common.{inl, inr}
use Rattle.std.proofs.lemmas.Result.{IfErr-weaker, IfOk-weaker}
use Rattle.nfs_replay.proofs.line_bytes.record_of.Goals as goal

pub returns-in-Ok-clause-record : goal.returns-in-Ok-clause-record
returns-in-Ok-clause-record c =
    IfOk-weaker c.record.result _ _ (λ bytes is. record { ask = c.in-Ok.ask; asks_so = c.in-Ok.ensures.asks; record_is = is }) c.record.ensures.text

pub returns-in-Ok-clause-fault : goal.returns-in-Ok-clause-fault
returns-in-Ok-clause-fault c =
    IfErr-weaker c.record.result _ _ (λ e is. inr (record { ask = c.in-Ok.ask; asks_so = c.in-Ok.ensures.asks; without = is })) c.record.ensures.fault

pub returns-in-Err-clause-fault : goal.returns-in-Err-clause-fault
returns-in-Err-clause-fault c = inl c.in-Err.ensures.fault
