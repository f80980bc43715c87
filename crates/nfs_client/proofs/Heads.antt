-- What is written for the head of a call encodes it, and who calls.
use Rattle.std.proofs.Common.{ℕ, ◌^◌, ◌<◌, ◌≤◌, List, [], ◌∷◌, length, refl, arith}
use Rattle.std.specs.Int.{w32, to_be_bytes}
use Rattle.std.specs.List.{AllByRecursion}
use Rattle.nfs_xdr.specs.Encoding.{IsNumber, IsOpaque, AreItems, numbers_text}
use Rattle.nfs_xdr.proofs.Items.{opaque_written}
use Rattle.nfs_xdr.proofs.Writing.{number_written, followed}
use Rattle.nfs_rpc.specs.AuthSys.{Credential, IsAuthSys}
use Rattle.nfs_rpc.specs.Calls.{IsCallHead}
use Rattle.nfs_client.specs.declared.call_header.CallHeader.{CallHeader}
use Rattle.nfs_client.specs.Calls.{head_text, call_said, auth_sys_text}
use Rattle.nfs_client.specs.ReadBack.{IsWord, CallFits, CredentialFits}

word : (n : ℕ) → n < 2 ^ 32 → IsNumber w32 n (to_be_bytes w32 n)
word n fits = number_written w32 n fits

are_words : (ns : List ℕ) → AllByRecursion IsWord ns → AreItems (IsNumber w32) ns (numbers_text ns)
are_words [] all = refl
are_words (n ∷ ns) all = followed _ _ _ _ (word n all.0) (are_words ns all.1)

no_bytes : IsOpaque 400 [] (to_be_bytes w32 0)
no_bytes = opaque_written 400 [] (omega arith) (omega arith)

no_name : IsOpaque 255 [] (to_be_bytes w32 0)
no_name = opaque_written 255 [] (omega arith) (omega arith)

pub head_encoded : (call : CallHeader) (body : List ℕ) → CallFits call → length body ≤ 400 → IsCallHead (call_said call body) (head_text call body)
head_encoded call body fits few = (
  record { flavor = 0; body = [] },
  followed _ _ _ _ (word call.xid fits.xid)
      (followed _ _ _ _ (word 0 (omega arith))
      (followed _ _ _ _ (word 2 (omega arith))
      (followed _ _ _ _ (word call.program fits.program)
      (followed _ _ _ _ (word 3 (omega arith))
      (followed _ _ _ _ (word call.procedure fits.procedure)
      (followed _ _ _ _ (followed _ _ _ _ (word 1 (omega arith)) (opaque_written 400 body (omega (arith, few)) few))
      (followed _ _ _ _ (word 0 (omega arith)) no_bytes))))))),
)

pub credential_encoded : (cred : Credential) → CredentialFits cred → IsAuthSys cred (auth_sys_text cred)
credential_encoded cred fits = (
  record { stamp = 0; machine = [] },
  followed _ _ _ _ (word 0 (omega arith))
      (followed _ _ _ _ no_name
      (followed _ _ _ _ (word cred.uid fits.uid)
      (followed _ _ _ _ (word cred.gid fits.gid)
      (record { bound = fits.few; encoded = followed _ _ _ _ (word (length cred.gids) (omega (arith, fits.few))) (are_words cred.gids fits.gids) })))),
)
