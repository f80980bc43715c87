-- Reply messages (RFC 5531, section 9), without the results of a procedure.
use Rattle.std.specs.Prelude.{◌≡◌, ℕ, ◌^◌, ◌<◌, List, [], ◌∷◌}
use Rattle.nfs_xdr.specs.Encoding.{numbers_text}
use Rattle.nfs_rpc.specs.declared.reply.Accept.{Accept}
use Rattle.nfs_rpc.specs.declared.reply.Accept.TheVariants.{Success, ProgUnavail, ProgMismatch, ProcUnavail, GarbageArgs, SystemErr}
use Rattle.nfs_rpc.specs.declared.reply.Refused.{Refused}
use Rattle.nfs_rpc.specs.declared.reply.Refused.TheVariants.{RpcMismatch, BadCred, RejectedCred, TooWeak}

-- the message type of a reply
abbrev pub REPLY : ℕ
REPLY = 1

-- accept_stat, and for a mismatch the lowest and highest version that there is
abbrev pub accept_words : Accept → List ℕ
accept_words Success = 0 ∷ []
accept_words ProgUnavail = 1 ∷ []
accept_words ProgMismatch = 2 ∷ 3 ∷ 3 ∷ []
accept_words ProcUnavail = 3 ∷ []
accept_words GarbageArgs = 4 ∷ []
accept_words SystemErr = 5 ∷ []

-- reject_stat: 0 is RPC_MISMATCH, with the lowest and highest version of RPC; 1 is AUTH_ERROR, with auth_stat
abbrev pub reject_words : Refused → List ℕ
reject_words RpcMismatch = 0 ∷ 2 ∷ 2 ∷ []
reject_words BadCred = 1 ∷ 1 ∷ []
reject_words RejectedCred = 1 ∷ 2 ∷ []
reject_words TooWeak = 1 ∷ 5 ∷ []

-- the call's number, the message type, MSG_ACCEPTED, an empty verifier of flavor AUTH_NONE, and how it went
abbrev pub accepted_words : ℕ → Accept → List ℕ
accepted_words xid accept = xid ∷ REPLY ∷ 0 ∷ 0 ∷ 0 ∷ accept_words accept

-- the call's number, the message type, MSG_DENIED, and why
abbrev pub refused_words : ℕ → Refused → List ℕ
refused_words xid refused = xid ∷ REPLY ∷ 1 ∷ reject_words refused

abbrev pub accepted_text : ℕ → Accept → List ℕ
accepted_text xid accept = numbers_text (accepted_words xid accept)

abbrev pub refused_text : ℕ → Refused → List ℕ
refused_text xid refused = numbers_text (refused_words xid refused)

-- the head of a reply
pub data Reply : Type 0 where
  Accepted : (xid : ℕ) (accept : Accept) → Reply
  Denied : (xid : ℕ) (refused : Refused) → Reply

abbrev pub IsReply : Reply → List ℕ → Type 0
IsReply (Accepted xid accept) text = (xid < 2 ^ 32) × (text ≡ accepted_text xid accept)
IsReply (Denied xid refused) text = (xid < 2 ^ 32) × (text ≡ refused_text xid refused)
