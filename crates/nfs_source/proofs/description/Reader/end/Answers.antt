use Rattle.std.proofs.Common.{rules, ◌≡◌, [], sym, ◌∙◌}
use Rattle.nfs_source.proofs.Readings.{ends_faulty, ends_last, ends_whole, is_in_order}
use Rattle.nfs_source.proofs.description.Reader.end.Goals as goal

pub returns-then-is_some-clause-read : goal.returns-then-is_some-clause-read
returns-then-is_some-clause-read g c = λ text. ends_faulty g.D.LineDigest.has c.args.self text (sym c.if-is_some.ensures)

pub returns-then-is_empty-clause-read : goal.returns-then-is_empty-clause-read
returns-then-is_empty-clause-read g c =
    let it = c.args.self in
    let none : it.line ≡ [] = search rules in
    λ text. ends_whole g.D.LineDigest.has it text (is_in_order it.reading.fault (sym c.is_some.ensures ∙ c.if-is_some.false)) none

pub returns-clause-read : goal.returns-clause-read
returns-clause-read g c =
    let it = c.args.self in
    let some : it.line ≡ [] → ⊥ = search rules in
    λ text. ends_last g.D.LineDigest.has it c.take_open.new.self text (is_in_order it.reading.fault (sym c.is_some.ensures ∙ c.if-is_some.false)) some c.in_ok-take_open.ensures
