use Rattle.std.proofs.Common.{ℕ, List, [], ◌∷◌, ◌++◌, sym, subst, ap, ◌∙◌, append_assoc}
use Rattle.nfs_source.specs.Readings.{HasText}
use Rattle.nfs_describe.specs.Outputs.{Takes}
use Rattle.nfs_source.proofs.Readings.{ignores}
use Rattle.nfs_describe.proofs.Outputs.{takes_as, takes_last, takes_then}
use Rattle.nfs_source.proofs.description.ReaderSink.take.Goals as goal

pub loop-rest-preserved : goal.loop-rest-preserved
loop-rest-preserved g c =
    let was = c.loop-rest.invariant in
    let part = c.in-Some.part.now in
    let after = c.in-Some.after.now in (
      was.0 ++ (part ++ 10 ∷ []),
      was.1 ∙ ap (λ t. was.0 ++ t) (c.in-Some.ensures.1 ∙ sym (append_assoc part (10 ∷ []) after)) ∙ sym (append_assoc was.0 (part ++ 10 ∷ []) after),
      takes_then (HasText g.D.LineDigest.has) c.args.self.now c.loop-rest.self c.end_line.new.self was.0 (part ++ 10 ∷ []) was.2 c.in_ok-end_line-in-Some.ensures,
    )

pub returns : goal.returns
returns g c =
    let was = c.loop-rest.invariant in
    let has = g.D.LineDigest.has in
    let it = c.loop-rest.self in
    subst (λ (text : List ℕ). Takes (HasText has) c.args.self.now text it) (sym was.1)
    (takes_then (HasText has) c.args.self.now it it was.0 c.loop-rest.rest.now was.2 (ignores has it c.loop-rest.rest.now c.loop-rest-test.ensures))

pub returns-in-None : goal.returns-in-None
returns-in-None g c =
    let was = c.loop-rest.invariant in
    let has = HasText g.D.LineDigest.has in
    takes_as has c.args.self.now c.put_open.new.self c.put_open.result (was.0 ++ c.loop-rest.rest.now) c.args.span.now (sym was.1)
    (takes_last has c.args.self.now c.loop-rest.self c.put_open.new.self c.put_open.result was.0 c.loop-rest.rest.now was.2 c.put_open.ensures)
