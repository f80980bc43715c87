use Rattle.std.proofs.Common.{rules, ◌≡◌, ◌++◌, ◌∙◌, Some}
use Rattle.nfs_source.specs.OpenLines.{encode_in, front_of}
use Rattle.nfs_source.proofs.OpenLines.{some_text}
use Rattle.nfs_source.proofs.open_line.OpenLine.is_empty.Goals as goal

pub returns-in-Some : goal.returns-in-Some
returns-in-Some c =
    let line = c.in-Some.field-0 in
    let shown : front_of (Some line) ++ c.self.inside.tail.items ≡ c.args.self.now = search rules in
    λ none. some_text line.words.items (encode_in line.case line.content) c.self.inside.tail.items (shown ∙ none)
