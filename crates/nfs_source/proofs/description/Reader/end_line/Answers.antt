use Rattle.std.proofs.Common.{rules, ◌≡◌, [], ◌++◌, sym, ap, ◌∙◌}
use Rattle.std.proofs.lemmas.Result.{on_ok_weaker}
use Rattle.nfs_source.proofs.Readings.{ends_line}
use Rattle.nfs_source.proofs.description.Reader.end_line.Goals as goal

pub returns-then-is_empty : goal.returns-then-is_empty
returns-then-is_empty g c =
    let old = c.args.self.now in
    let part = c.args.part.now in
    let none : old.line ≡ [] = search rules in
    on_ok_weaker c.take.result
    (ends_line g.D.LineDigest.has old (record { alloc = old.alloc; reading = c.take.new.self; line = old.line }) part part c.requires.in_order c.requires.part
    (sym (ap (λ t. t ++ part) none)) none) c.take.ensures

pub returns : goal.returns
returns g c =
    let old = c.args.self.now in
    let line : c.take-line.result ≡ old.line ++ c.args.part.now = c.take-line.ensures.all ∙ c.in_ok-push.ensures in
    on_ok_weaker c.take_open.result
    (ends_line g.D.LineDigest.has old (record { alloc = old.alloc; reading = c.take_open.new.self; line = c.take-line.new.self }) c.args.part.now c.take-line.result c.requires.in_order c.requires.part
    line c.take-line.ensures.none) c.take_open.ensures
