use Rattle.std.proofs.Common.{◌≡◌, ◌≢◌, ◌++◌, length, rules}
use Rattle.std.specs.Int.{w32, to_be_bytes}
use Rattle.nfs_journal.proofs.Decoding.{entry_found, other_checksum}
use Rattle.nfs_checksum.specs.Checksums.{crc32c}
use Rattle.nfs_server.specs.InMemory.{event_of}
use Rattle.nfs_journal.proofs.entry.decode_entry.Goals as goal

pub returns-then-not-is_checksum-clause-none : goal.returns-then-not-is_checksum-clause-none
returns-then-not-is_checksum-clause-none c = λ none.
    let four : length c.split_at.result.1.now ≡ 4 = search rules in
    let bytes_are : c.args.bytes.now ≡ c.split_at.result.0.now ++ c.split_at.result.1.now = search rules in
    let differs : c.split_at.result.1.now ≢ to_be_bytes w32 (crc32c c.split_at.result.0.now) = search rules in
    other_checksum c.split_at.result.0.now c.split_at.result.1.now c.args.bytes.now four bytes_are differs

pub returns-in-Ok-clause-found : goal.returns-in-Ok-clause-found
returns-in-Ok-clause-found c =
    let sum : c.split_at.result.1.now ≡ to_be_bytes w32 (crc32c c.split_at.result.0.now) = search rules in
    let bytes_are : c.args.bytes.now ≡ c.split_at.result.0.now ++ c.split_at.result.1.now = search rules in
    entry_found (event_of c.in-Ok.entry.event) c.in-Ok.entry.reply.now c.split_at.result.0.now c.split_at.result.1.now c.args.bytes.now c.in-Ok.ensures.text sum bytes_are
