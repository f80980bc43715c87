use Rattle.std.proofs.Common.{◌≡◌, ◌≢◌, ◌++◌, length, drop, rules, ◌∙◌, arith}
use Rattle.std.specs.Int.{w32, to_be_bytes}
use Rattle.nfs_checksum.specs.Checksums.{crc32c}
use Rattle.nfs_journal.specs.Heads.{IsBegun}
use Rattle.nfs_journal.proofs.Heading.{of_version, other_sum, record_found}
use Rattle.nfs_journal.proofs.head.decode_head.Goals as goal

pub returns-then-not-are_same-clause-found : goal.returns-then-not-are_same-clause-found
returns-then-not-are_same-clause-found c =
    let begun : IsBegun c.args.bytes.now = search rules in
    (of_version c.args.bytes.now (omega arith) begun, λ begun. omega arith)

pub returns-then-not-are_same-clause-none : goal.returns-then-not-are_same-clause-none
returns-then-not-are_same-clause-none c =
    let seventy : length c.split_at-2.result.0.now ≡ 70 = search rules in
    let parts : drop 4 c.args.bytes.now ≡ c.split_at-2.result.0.now ++ c.split_at-2.result.1.now = search rules in
    let differs : c.split_at-2.result.1.now ≢ to_be_bytes w32 (crc32c c.split_at-2.result.0.now) = search rules in
    other_sum c.args.bytes.now c.split_at-2.result.0.now c.split_at-2.result.1.now seventy parts differs

pub returns-clause-found : goal.returns-clause-found
returns-clause-found c =
    let seventy : length c.split_at-2.result.0.now ≡ 70 = search rules in
    let parts : drop 4 c.args.bytes.now ≡ c.split_at-2.result.0.now ++ c.split_at-2.result.1.now = search rules in
    let begun : IsBegun c.args.bytes.now = search rules in
    let sum : c.split_at-2.result.1.now ≡ to_be_bytes w32 (crc32c c.split_at-2.result.0.now) = search rules in
    let fields : c.split_at-3.result.1.now ≡ drop 18 c.split_at-2.result.0.now = search rules in
    record_found c.args.bytes.now c.split_at-2.result.0.now c.split_at-2.result.1.now seventy parts (omega arith) begun sum c.decode_fields.result c.decode_fields.ensures.sizes (c.decode_fields.ensures.fields ∙ fields)
