use Rattle.std.proofs.Common.{◌≡◌, ◌++◌, rules}
use Rattle.std.specs.Int.{w32, w64, to_be_bytes}
use Rattle.nfs_journal.proofs.Heading.{joined}
use Rattle.nfs_journal.proofs.head.decode_fields.Goals as goal

pub returns-clause-fields : goal.returns-clause-fields
returns-clause-fields c =
    let one : c.args.fields.now ≡ c.split_at.result.0.now ++ c.split_at.result.1.now = search rules in
    let two : c.split_at.result.1.now ≡ c.split_at-2.result.0.now ++ c.split_at-2.result.1.now = search rules in
    let three : c.split_at-2.result.1.now ≡ c.split_at-3.result.0.now ++ c.split_at-3.result.1.now = search rules in
    joined c.array_of.result (to_be_bytes w64 c.long_number_of.result) (to_be_bytes w32 c.number_of.result) c.array_of-2.result _ _ _ _ c.args.fields.now _ _
    c.array_of.ensures c.long_number_of.ensures c.number_of.ensures c.array_of-2.ensures one two three
