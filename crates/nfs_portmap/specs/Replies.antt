-- What a reply says of a mapping (RFC 1833, section 3.2; RFC 5531, section 9), from left to right.
use Rattle.std.specs.Prelude.{ℕ, Bool, ◌&&◌, List, Result, Ok, Err, if◌then◌else◌, nat_eq}
use Rattle.std.specs.Int.{w32}
use Rattle.nfs_xdr.specs.Reading.{Read, ◌>>=◌, number_at, boolean_at, opaque_at}
use Rattle.nfs_portmap.specs.declared.reply.ReplyFault.{ReplyFault}
use Rattle.nfs_portmap.specs.declared.reply.ReplyFault.TheVariants.{OtherCall, Rejected, Unreadable}

-- an item, where no fault is distinguished
abbrev pub read : {A : Type 0} → Read A → Result (A × List ℕ) ReplyFault
read (Ok x) = Ok x
read (Err e) = Err Unreadable

abbrev pub word_at : List ℕ → Result (ℕ × List ℕ) ReplyFault
word_at bytes = read (number_at w32 bytes)

-- whether it was done
abbrev pub done_at : List ℕ → Result Bool ReplyFault
done_at bytes = do
  done ← read (boolean_at bytes)
  Ok done.0

-- the verifier, and how an accepted call went
abbrev pub accepted_at : List ℕ → Result Bool ReplyFault
accepted_at bytes = do
  flavor ← word_at bytes
  verifier ← read (opaque_at 400 flavor.1)
  state ← word_at verifier.1
  if nat_eq state.0 0 then done_at state.1 else Err Rejected

-- a reply has the type 1, and one to an accepted call the state 0
abbrev pub body_at : List ℕ → Result Bool ReplyFault
body_at bytes = do
  kind ← word_at bytes
  state ← word_at kind.1
  if nat_eq kind.0 1 && nat_eq state.0 0 then accepted_at state.1 else Err Rejected

-- the reply to the call of this number
abbrev pub answer_at : ℕ → List ℕ → Result Bool ReplyFault
answer_at xid bytes = do
  id ← word_at bytes
  if nat_eq id.0 xid then body_at id.1 else Err OtherCall
