-- What is written of an entry.
use Rattle.std.proofs.Common.{◌≡◌, ℕ, ◌+◌, true, List, ◌++◌, length, ap, ◌∙◌, append_assoc, arith}
use Rattle.std.proofs.lemmas.List.{length-append}
use Rattle.std.specs.Int.{w32, to_be_bytes}
use Rattle.nfs_checksum.specs.Checksums.{crc32c}
use Rattle.nfs_rpc.specs.Records.{fragment, header}
use Rattle.nfs_server.specs.Entries.{content_text, entry_text}
use Rattle.nfs_server.specs.Events.{Event}
use Rattle.nfs_xdr.specs.Written.{Written, Appends}

-- one text after another
both : (a b : List ℕ) (x y z : Written) → Appends a x y → Appends b y z → Appends (a ++ b) x z
both a b x y z f g = record {
  bytes = g.bytes ∙ ap (λ t. t ++ b) f.bytes ∙ append_assoc x.bytes a b;
  room = let e : length (a ++ b) ≡ length a + length b = length-append a b in omega (arith, f.room, g.room, e);
}

six : (a b c d e f : List ℕ) → length (a ++ b ++ c ++ d ++ e ++ f) ≡ length a + length b + length c + length d + length e + length f
six a b c d e f =
    length-append (a ++ b ++ c ++ d ++ e) f ∙ ap (λ n. n + length f) (length-append (a ++ b ++ c ++ d) e ∙ ap (λ n. n + length e) (length-append (a ++ b ++ c) d
    ∙ ap (λ n. n + length d) (length-append (a ++ b) c ∙ ap (λ n. n + length c) (length-append a b))))

content_length : (event : Event) (reply : List ℕ) → length (content_text event reply) ≡ 16 + length reply + length event.bytes
content_length event reply = six (to_be_bytes w32 event.addr.0) (to_be_bytes w32 event.moment.seconds) (to_be_bytes w32 event.moment.nanos) (to_be_bytes w32 (length reply)) reply event.bytes

pub content_written : (event : Event) (reply : List ℕ) (t u v w x y z : Written) → Appends (to_be_bytes w32 event.addr.0) t u → Appends (to_be_bytes w32 event.moment.seconds) u v
    → Appends (to_be_bytes w32 event.moment.nanos) v w → Appends (to_be_bytes w32 (length reply)) w x → Appends reply x y → Appends event.bytes y z → Appends (content_text event reply) t z
content_written event reply t u v w x y z a b c d e f =
    both _ event.bytes t y z (both _ reply t x y (both _ (to_be_bytes w32 (length reply)) t w x
    (both _ (to_be_bytes w32 event.moment.nanos) t v w (both (to_be_bytes w32 event.addr.0) (to_be_bytes w32 event.moment.seconds) t u v a b) c) d) e) f

-- how long an entry is as a record, with its mark
pub entry_length : (event : Event) (reply : List ℕ) → length (fragment true (entry_text event reply)) ≡ 24 + length reply + length event.bytes
entry_length event reply =
    let content = content_text event reply in
    let marked : length (fragment true (entry_text event reply)) ≡ 4 + length (entry_text event reply) = length-append (header true (length (entry_text event reply))) (entry_text event reply) in
    let summed : length (entry_text event reply) ≡ length content + 4 = length-append content (to_be_bytes w32 (crc32c content)) in
    omega (arith, marked, summed, content_length event reply)
