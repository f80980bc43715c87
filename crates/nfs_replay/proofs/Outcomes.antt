-- What is printed of one outcome, part by part.
use Rattle.std.proofs.Common.{◌≡◌, ℕ, Bool, true, false, List, [], ◌++◌, Option, Some, None, Result, Ok, Err, refl, sym, subst}
use Rattle.std.specs.Prelude.{IsErr}
use Rattle.nfs_load.proofs.Writes.{part_of_first, part_of_second}
use Rattle.nfs_server.specs.Events.{Answer}
use Rattle.nfs_xdr.specs.Known.{Grows, GrowsByPart}
use Rattle.nfs_xdr.proofs.Knowing.{Grows-then}
use Rattle.nfs_replay.specs.Printed.{IsAudit, IsPrinted, IsReply, Prints, reply_line}
use Rattle.nfs_replay.specs.declared.fault.RunFault.{RunFault}

part_at_fault : (old new : Option (List ℕ)) (text : List ℕ) (result : Result (Unit {0}) RunFault) → IsErr result → GrowsByPart old text new → Prints old text result new
part_at_fault old new text (Ok done) is part = absurd cc
part_at_fault old new text (Err fault) is part = part

prints_on : (old between new : Option (List ℕ)) (first second : List ℕ) (result : Result (Unit {0}) RunFault) → Grows old first between → Prints between second result new
    → Prints old (first ++ second) result new
prints_on old between new first second (Ok done) grows prints = Grows-then old between new first second grows prints
prints_on old between new first second (Err fault) grows prints = part_of_second old between new first second grows prints

-- ---- a reply

plain_reply : (decoded : Bool) (o : Option (List ℕ)) (reply : List ℕ) → decoded ≡ false → o ≡ Some reply → IsReply decoded o (reply_line reply)
plain_reply decoded o reply n e = subst (λ b. IsReply b o (reply_line reply)) (sym n) (subst (λ p. IsReply false p (reply_line reply)) (sym e) refl)

reply_in_words : (decoded : Bool) (o : Option (List ℕ)) (reply words : List ℕ) → decoded ≡ true → o ≡ Some reply → IsReply decoded o (reply_line reply ++ words)
reply_in_words decoded o reply words y e = subst (λ b. IsReply b o (reply_line reply ++ words)) (sym y) (subst (λ p. IsReply true p (reply_line reply ++ words)) (sym e) (words, refl))

-- what may be printed of it
some_reply : (decoded : Bool) (o : Option (List ℕ)) → (text : List ℕ) × IsReply decoded o text
some_reply decoded None = ([], refl)
some_reply true (Some reply) = (reply_line reply ++ [], ([], refl))
some_reply false (Some reply) = (reply_line reply, refl)

module _ (old between new : Option (List ℕ)) (decoded : Bool) (o : Option (List ℕ)) (reply : List ℕ) (is : o ≡ Some reply) where
  pub replied : decoded ≡ false → Grows old (reply_line reply) new → (text : List ℕ) × IsReply decoded o text × Grows old text new
  replied n grows = (reply_line reply, plain_reply decoded o reply n is, grows)

  pub replied_in_words : decoded ≡ true → Grows old (reply_line reply) between → (words : List ℕ) × Grows between words new
      → (text : List ℕ) × IsReply decoded o text × Grows old text new
  replied_in_words y grows words = (reply_line reply ++ words.0, reply_in_words decoded o reply words.0 y is, Grows-then old between new (reply_line reply) words.0 grows words.1)

  pub replied_in_part : (result : Result (Unit {0}) RunFault) → IsErr result → decoded ≡ true → Grows old (reply_line reply) between → (words : List ℕ) × GrowsByPart between words new
      → (text : List ℕ) × IsReply decoded o text × Prints old text result new
  replied_in_part result err y grows words = (
    reply_line reply ++ words.0,
    reply_in_words decoded o reply words.0 y is,
    part_at_fault old new (reply_line reply ++ words.0) result err (part_of_second old between new (reply_line reply) words.0 grows words.1),
  )

-- ---- an outcome

module _ (old between new : Option (List ℕ)) (decoded known : Bool) (names given : List ℕ) (a : Answer) (result : Result (Unit {0}) RunFault) (named : given ≡ names) where
  pub printed_in_part : IsErr result → (text : List ℕ) × IsAudit a.line given text × GrowsByPart old text new
      → (text : List ℕ) × IsPrinted decoded names a text × Prints old text result new
  printed_in_part err audit = let reply = some_reply decoded a.reply in (
    audit.0 ++ reply.0,
    record { audit = audit.0; reply = reply.0; is_audit = subst (λ l. IsAudit a.line l audit.0) named audit.1; is_reply = reply.1; text_is = refl },
    part_at_fault old new (audit.0 ++ reply.0) result err (part_of_first old new audit.0 reply.0 audit.2),
  )

  pub printed : known ≡ decoded → (text : List ℕ) × IsAudit a.line given text × Grows old text between → (text : List ℕ) × IsReply known a.reply text × Prints between text result new
      → (text : List ℕ) × IsPrinted decoded names a text × Prints old text result new
  printed same audit reply = (
    audit.0 ++ reply.0,
    record {
      audit = audit.0;
      reply = reply.0;
      is_audit = subst (λ l. IsAudit a.line l audit.0) named audit.1;
      is_reply = subst (λ b. IsReply b a.reply reply.0) same reply.1;
      text_is = refl;
    },
    prints_on old between new audit.0 reply.0 result audit.2 reply.2,
  )
