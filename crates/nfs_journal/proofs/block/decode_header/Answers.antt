use Rattle.std.proofs.Common.{◌≡◌, ◌++◌, ◌∙◌, ap, rules, sym}
use Rattle.std.specs.Int.{w32, to_be_bytes}
use Rattle.nfs_journal.proofs.Blocking.{header_found}
use Rattle.nfs_journal.specs.Blocks.{kind_number}
use Rattle.nfs_checksum.specs.Checksums.{crc32c}
use Rattle.nfs_journal.proofs.block.decode_header.Goals as goal

pub returns-in-Some-clause-found : goal.returns-in-Some-clause-found
returns-in-Some-clause-found c =
    let sum : c.split_at.result.1.now ≡ to_be_bytes w32 (crc32c c.split_at.result.0.now) = search rules in
    let bytes_are : c.args.bytes.now ≡ c.split_at.result.0.now ++ c.split_at.result.1.now = search rules in
    let fields_are : c.split_at.result.0.now ≡ c.split_at-2.result.0.now ++ c.split_at-2.result.1.now = search rules in
    let kind_is : c.split_at-2.result.0.now ≡ to_be_bytes w32 (kind_number c.decode_fields.result.kind) =
    sym c.number_of.ensures ∙ ap (to_be_bytes w32) (sym c.in-Some.ensures.some ∙ sym (ap kind_number c.decode_fields.ensures.kind)) in
    header_found (kind_number c.decode_fields.result.kind) c.decode_fields.result.number c.decode_fields.result.len _ _ _ _ _ c.decode_fields.ensures.fields kind_is fields_are sum bytes_are
