-- An entry is that of one event and one reply.
use Rattle.std.proofs.Common.{◌≡◌, ◌≢◌, ℕ, ◌+◌, ◌^◌, ◌<◌, Bool, false, List, ◌++◌, take, drop, length, refl, sym, ap, ◌∙◌, append_assoc, arith}
use Rattle.std.proofs.Math.Seq.{drop-append_seam, take-append_seam}
use Rattle.std.proofs.lemmas.Bool.{le-ltb, true≢false}
use Rattle.std.proofs.lemmas.List.{append_cancel_left, length-append}
use Rattle.std.specs.Int.{w32, to_be_bytes}
use Rattle.std.specs.Prelude.{Result, Ok, Err, if◌then◌else◌, nat_lt, is_ok}
use Rattle.nfs_checksum.specs.Checksums.{crc32c}
use Rattle.nfs_journal.specs.Entries.{AreWords, EntriesAreReadOnce, IsNoEntry, content_at, event_with}
use Rattle.nfs_server.specs.Entries.{checked, content_text, entry_text}
use Rattle.nfs_server.specs.Events.{Event}
use Rattle.nfs_xdr.proofs.Items.{finds_u32}
use Rattle.nfs_xdr.specs.Reading.{◌>>=◌, number_at}
use Rattle.nfs_xdr.specs.declared.fault.XdrFault.{XdrFault}
use Rattle.nfs_xdr.specs.declared.fault.XdrFault.TheVariants.{Short}

-- ---- numbers

number_again : (n : ℕ) (rest : List ℕ) → n < 2 ^ 32 → number_at w32 (to_be_bytes w32 n ++ rest) ≡ Ok (n, rest)
number_again n rest less = finds_u32.again n (to_be_bytes w32 n) rest (record { fits = less; text_is = refl })

-- a number is read, and then what follows
number_then : {A : Type 0} (n : ℕ) (rest : List ℕ) (next : ℕ × List ℕ → Result A XdrFault) (y : Result A XdrFault) → n < 2 ^ 32 → next (n, rest) ≡ y
    → (number_at w32 (to_be_bytes w32 n ++ rest) >>= next) ≡ y
number_then n rest next y less e = ap (λ r. r >>= next) (number_again n rest less) ∙ e

-- ---- contents

brackets : (a b c d e f : List ℕ) → a ++ b ++ c ++ d ++ e ++ f ≡ a ++ (b ++ (c ++ (d ++ (e ++ f))))
brackets a b c d e f = simp append_assoc

-- a reply of so many bytes and a record, by whether they are too few
abbrev reply_at : ℕ → ℕ → ℕ → ℕ → List ℕ → Bool → Result (Event × List ℕ) XdrFault
reply_at addr seconds nanos len rest short = if short then Err Short else Ok (event_with addr seconds nanos (drop len rest), take len rest)

reply_then : (addr seconds nanos : ℕ) (reply bytes : List ℕ)
    → reply_at addr seconds nanos (length reply) (reply ++ bytes) (nat_lt (length (reply ++ bytes)) (length reply)) ≡ Ok (event_with addr seconds nanos bytes, reply)
reply_then addr seconds nanos reply bytes =
    let long : nat_lt (length (reply ++ bytes)) (length reply) ≡ false = le-ltb _ _ (omega (arith, length-append reply bytes)) in
    let found : List ℕ → List ℕ → Result (Event × List ℕ) XdrFault = λ rest front. Ok (event_with addr seconds nanos rest, front) in
    ap (reply_at addr seconds nanos (length reply) (reply ++ bytes)) long
    ∙ ap (λ rest. found rest (take (length reply) (reply ++ bytes))) (drop-append_seam reply bytes) ∙ ap (found bytes) (take-append_seam reply bytes)

-- what is read after each number
abbrev after_len : ℕ → ℕ → ℕ → ℕ × List ℕ → Result (Event × List ℕ) XdrFault
after_len addr seconds nanos len = reply_at addr seconds nanos len.0 len.1 (nat_lt (length len.1) len.0)

abbrev after_nanos : ℕ → ℕ → ℕ × List ℕ → Result (Event × List ℕ) XdrFault
after_nanos addr seconds nanos = number_at w32 nanos.1 >>= after_len addr seconds nanos.0

abbrev after_seconds : ℕ → ℕ × List ℕ → Result (Event × List ℕ) XdrFault
after_seconds addr seconds = number_at w32 seconds.1 >>= after_nanos addr seconds.0

abbrev after_addr : ℕ × List ℕ → Result (Event × List ℕ) XdrFault
after_addr addr = number_at w32 addr.1 >>= after_seconds addr.0

content_again : (event : Event) (reply : List ℕ) → AreWords event reply → content_at (content_text event reply) ≡ Ok (event, reply)
content_again event reply w =
    let addr = event.addr.0 in
    let seconds = event.moment.seconds in
    let nanos = event.moment.nanos in
    let from_reply = reply ++ event.bytes in
    let from_len = to_be_bytes w32 (length reply) ++ from_reply in
    let from_nanos = to_be_bytes w32 nanos ++ from_len in
    let from_seconds = to_be_bytes w32 seconds ++ from_nanos in
    ap content_at (brackets (to_be_bytes w32 addr) (to_be_bytes w32 seconds) (to_be_bytes w32 nanos) (to_be_bytes w32 (length reply)) reply event.bytes)
    ∙ number_then addr from_seconds after_addr (Ok (event, reply)) w.addr
    (number_then seconds from_nanos (after_seconds addr) (Ok (event, reply)) w.seconds
    (number_then nanos from_len (after_nanos addr seconds) (Ok (event, reply)) w.nanos
    (number_then (length reply) from_reply (after_len addr seconds nanos) (Ok (event, reply)) w.reply_length (reply_then addr seconds nanos reply event.bytes))))

-- ---- checksums

-- what stands before as many last bytes
front_once : (a b x y : List ℕ) → length b ≡ length y → a ++ b ≡ x ++ y → a ≡ x
front_once a b x y len e =
    let total : length a + length b ≡ length x + length y = sym (length-append a b) ∙ ap length e ∙ length-append x y in
    let same : length a ≡ length x = omega (arith, total, len) in
    sym (take-append_seam a b) ∙ ap (take (length a)) e ∙ ap (λ n. take n (x ++ y)) same ∙ take-append_seam x y

back_once : (a b x y : List ℕ) → a ≡ x → a ++ b ≡ x ++ y → b ≡ y
back_once a b x y same e = append_cancel_left x b y (ap (λ t. t ++ b) (sym same) ∙ e)

checked_once : (a b : List ℕ) → checked a ≡ checked b → a ≡ b
checked_once a b e = front_once a (to_be_bytes w32 (crc32c a)) b (to_be_bytes w32 (crc32c b)) refl e

same_ok : {X E : Type 0} (x y : X) → ◌≡◌ {A = Result X E} (Ok x) (Ok y) → x ≡ y
same_ok x y e = cc

ok_or_err : {X E Y : Type 0} (x : X) (e : E) → ◌≡◌ {A = Result X E} (Ok x) (Err e) → Y
ok_or_err x e h = absurd (true≢false (ap is_ok h))

pub entries_once : EntriesAreReadOnce
entries_once event other reply answer v w e =
    let same = same_ok (event, reply) (other, answer) (sym (content_again event reply v) ∙ ap content_at (checked_once (content_text event reply) (content_text other answer) e) ∙ content_again other answer w) in
    (ap (λ (p : Event × List ℕ). p.0) same, ap (λ (p : Event × List ℕ). p.1) same)

-- ---- where there is no entry

pub too_short : (bytes : List ℕ) → length bytes < 4 → IsNoEntry bytes
too_short bytes less event reply w e =
    let len : length (content_text event reply) + 4 ≡ length bytes = sym (length-append (content_text event reply) (to_be_bytes w32 (crc32c (content_text event reply)))) ∙ ap length e in
    absurd (omega (arith, len, less))

module _ (content checksum bytes : List ℕ) (four : length checksum ≡ 4) (bytes_are : bytes ≡ content ++ checksum) where
  content_of : (event : Event) (reply : List ℕ) → entry_text event reply ≡ bytes → content_text event reply ≡ content
  content_of event reply e = front_once (content_text event reply) (to_be_bytes w32 (crc32c (content_text event reply))) content checksum (sym four) (e ∙ bytes_are)

  pub other_checksum : checksum ≢ to_be_bytes w32 (crc32c content) → IsNoEntry bytes
  other_checksum differs event reply w e =
      let same = content_of event reply e in
      differs (sym (back_once (content_text event reply) (to_be_bytes w32 (crc32c (content_text event reply))) content checksum same (e ∙ bytes_are)) ∙ ap (λ t. to_be_bytes w32 (crc32c t)) same)

  pub no_content : (fault : XdrFault) → content_at content ≡ Err fault → IsNoEntry bytes
  no_content fault none event reply w e = ok_or_err (event, reply) fault (sym (content_again event reply w) ∙ ap content_at (content_of event reply e) ∙ none)

-- ---- where there is one

pub entry_found : (event : Event) (reply content checksum bytes : List ℕ) → content_text event reply ≡ content → checksum ≡ to_be_bytes w32 (crc32c content) → bytes ≡ content ++ checksum
    → entry_text event reply ≡ bytes
entry_found event reply content checksum bytes text sum bytes_are = ap checked text ∙ ap (λ t. content ++ t) (sym sum) ∙ sym bytes_are
