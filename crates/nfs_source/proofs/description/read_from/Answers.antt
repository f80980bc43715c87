use Rattle.std.proofs.Common.{◌++◌, [], inl, inr}
use Rattle.std.proofs.lemmas.Result.{IfErr-weaker, IfOk-weaker}
use Rattle.nfs_text.specs.Lines.{lines}
use Rattle.nfs_source.specs.Readings.{HasRead}
use Rattle.nfs_source.proofs.Readings.{both_ok, ended_in_order, ignores}
use Rattle.nfs_source.proofs.description.read_from.Goals as goal

pub returns-clause-described : goal.returns-clause-described
returns-clause-described g c =
    let taken = c.in_ok-read_all.ensures.taken in
    let read : HasRead g.D.LineDigest.has c.in_ok-reading.reading (lines taken.0) = c.in_ok-reading.ensures.read taken.0 (taken.2 [] c.new-reader.ensures) in
    IfOk-weaker c.described.result _ _ (λ it is. (
      taken.0,
      (
        taken.1,
        elim taken.3 [
          | inl end ↦ end
          | inr ended ↦ absurd (ended_in_order c.read_all.new.sink.reading c.in_ok-reading.reading ended (c.in_ok-reading.ensures.same ended) is.0)
        ],
      ),
      (is.1 taken.0 taken.1.short read).0,
      (is.1 taken.0 taken.1.short read).1,
    )) (both_ok c.described.result _ _ c.described.ensures.in_order c.described.ensures.described)

pub returns-clause-fault : goal.returns-clause-fault
returns-clause-fault g c =
    let taken = c.in_ok-read_all.ensures.taken in
    let has = taken.2 [] c.new-reader.ensures in
    IfErr-weaker c.described.result _ _ (λ it is. inr (
      taken.0,
      elim taken.3 [
        | inl end ↦ inl ((taken.1, end), is taken.0 taken.1.short (c.in_ok-reading.ensures.read taken.0 has))
        | inr ended ↦ inr (
          taken.1,
          λ more short. is (taken.0 ++ more) short
              (c.in_ok-reading.ensures.read (taken.0 ++ more) (ignores g.D.LineDigest.has c.read_all.new.sink more ended taken.0 has)),
        )
      ],
    )) c.described.ensures.fault
