-- What is written into a buffer of replies.
use Rattle.std.proofs.Common.{◌≡◌, ℕ, ◌+◌, List, [], ◌++◌, length, take, drop, sym, ap, subst, ◌∙◌, append_assoc, append-nil, add-zero, arith}
use Rattle.std.proofs.Math.Seq.{drop-append_seam, take-append_seam}
use Rattle.std.proofs.lemmas.List.{length-append}
use Rattle.nfs_server.specs.ReplyRoom.{Adds, after, reply_at}
use Rattle.nfs_xdr.specs.Written.{Written, Appends}
use Rattle.nfs_xdr.proofs.Writing.{appends_then}

-- ---- what stands after

pub after_is : (old new : Written) (text : List ℕ) → new.bytes ≡ old.bytes ++ text → after old new ≡ text
after_is old new text e = ap (drop (length old.bytes)) e ∙ drop-append_seam old.bytes text

pub adds : (text : List ℕ) (old new : Written) → Appends text old new → Adds old new
adds text old new w = subst (λ t. Appends t old new) (sym (after_is old new text w.bytes)) w

pub none_written : (w : Written) → Appends [] w w
none_written w = record { bytes = sym (append-nil w.bytes); room = add-zero w.room }

pub adds_none : (old new : Written) → new ≡ old → Adds old new
adds_none old new e = subst (λ w. Adds old w) (sym e) (adds [] old old (none_written old))

pub adds_then : (a b c : Written) → Adds a b → Adds b c → Adds a c
adds_then a b c f g = adds (after a b ++ after b c) a c (appends_then (after a b) (after b c) a b c f g)

-- a head, and what is written after it
pub reply_text : (old headed new : Written) (first text : List ℕ) → Appends first old headed → new.bytes ≡ headed.bytes ++ text → after old new ≡ first ++ text
reply_text old headed new first text head e = after_is old new (first ++ text) (e ∙ ap (λ x. x ++ text) head.bytes ∙ append_assoc old.bytes first text)

-- what was written is taken back, and this stands there
pub given_up : (old mid new : Written) (start : ℕ) (text : List ℕ) → Adds old mid → start ≡ length old.bytes → new.bytes ≡ take start mid.bytes ++ text
    → length new.bytes + new.room ≡ length mid.bytes + mid.room → Appends text old new
given_up old mid new start text f is e room =
    let front : take start mid.bytes ≡ old.bytes = ap (λ n. take n mid.bytes) is ∙ ap (take (length old.bytes)) f.bytes ∙ take-append_seam old.bytes (after old mid) in
    let bytes : new.bytes ≡ old.bytes ++ text = e ∙ ap (λ t. t ++ text) front in
    record { bytes = bytes; room = omega (arith, room, ap length bytes ∙ length-append old.bytes text, ap length f.bytes ∙ length-append old.bytes (after old mid), f.room) }

-- ---- a reply at a place

-- what is written after a mark is the reply there
pub reply_is : (start : ℕ) (marked out : Written) → length marked.bytes ≡ start + 4 → after marked out ≡ reply_at start out
reply_is start marked out e = ap (λ n. drop n out.bytes) e
