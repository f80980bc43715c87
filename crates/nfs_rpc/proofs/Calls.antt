-- Reading the head of a call finds its encoding, and another message is distinguished.
use Rattle.std.proofs.Common.{◌≡◌, ◌≢◌, ◌↔◌, ℕ, Bool, true, false, eqb, List, [], ◌++◌, Result, Ok, Err, refl, sym, ap, subst, ◌∙◌, append_assoc, append-nil, if◌then◌else◌}
use Rattle.std.specs.Prelude.{IfOk, IsErrOf}
use Rattle.std.specs.Int.{w32}
use Rattle.std.proofs.lemmas.Bool.{eqb-true, eqb-false, ne_eqb}
use Rattle.nfs_xdr.specs.Encoding.{IsNumber, IsOpaque, ◌⨾◌, Begins, BeginsNone}
use Rattle.nfs_xdr.specs.Reading.{Read, ◌>>=◌, Finds, AreBytes, number_at, opaque_at}
use Rattle.nfs_xdr.proofs.Finding.{finds_as, Then, finds_then, IsDone, finds_done, IsEither, IsNothing, finds_fault, finds_either, finds_renamed, finds_field, finds_last, finds_all, finds_image, finds_none, AreBytes-rest}
use Rattle.nfs_xdr.proofs.Items.{finds_u32, finds_opaque}
use Rattle.nfs_rpc.specs.declared.call.RpcFault.{RpcFault}
use Rattle.nfs_rpc.specs.declared.call.RpcFault.TheVariants.{NotCall}
use Rattle.nfs_rpc.specs.declared.call.CallHead.{CallHead}
use Rattle.nfs_rpc.specs.Calls.{Auth, IsAuth, Call, CALL, IsCall, IsCallHead, IsOtherMessage, read, auth_at, kind_at, call_at, head_at, call_of, GivesHead}

read_ok : {A : Type 0} (r : Read A) (x : A × List ℕ) → r ≡ Ok x → read r ≡ Ok x
read_ok r x e = ap read e

ok_read : {A : Type 0} (r : Read A) (x : A × List ℕ) → read r ≡ Ok x → r ≡ Ok x
ok_read (Ok y) x e = cc
ok_read (Err f) x e = absurd cc

finds_read : {A : Type 0} (S : A → List ℕ → Type 0) (r : List ℕ → Read A) → Finds S r → Finds S (λ bytes. read (r bytes))
finds_read S r finds = finds_renamed S r (λ bytes. read (r bytes)) (λ bytes x. read_ok (r bytes) x) (λ bytes x. ok_read (r bytes) x) finds

word : Finds (IsNumber w32) (λ bytes. read (number_at w32 bytes))
word = finds_read (IsNumber w32) (number_at w32) finds_u32

finds_auth : Finds IsAuth auth_at
finds_auth =
    finds_all IsAuth auth_at
    (finds_field (λ _. Unit {0}) (IsNumber w32) (λ (a : Auth). a.flavor) (λ a. IsOpaque 400 a.body) _ _ word (λ flavor.
    finds_last (λ (a : Auth). Unit {0} × (a.flavor ≡ flavor)) (IsOpaque 400) (λ (a : Auth). a.body) _ (λ body. record { flavor = flavor; body = body }) (finds_read (IsOpaque 400) (opaque_at 400) (finds_opaque 400)) (λ body. ((tt, refl), refl)) (λ a body known e i. record { flavor = known.1 i; body = e i })))

-- the message type, which is that of a call
is_call : (b : Bool) (n : ℕ) (value : Unit {0}) (front back text : List ℕ) → eqb n CALL ≡ b → IsNumber w32 n front → IsEither b (IsDone tt) IsNothing value back → text ≡ front ++ back → IsNumber w32 CALL text
is_call true n value front back text is number d e =
    let whole : text ≡ front = e ∙ ap (λ t. front ++ t) d.text_is ∙ append-nil front in
    subst (λ t. IsNumber w32 CALL t) (sym whole) (subst (λ k. IsNumber w32 k front) (eqb-true n CALL is) number)
is_call false n value front back text is number d e = absurd d

finds_kind : Finds (λ (_ : Unit {0}). IsNumber w32 CALL) kind_at
finds_kind =
    finds_as (Then (IsNumber w32) (λ n. IsEither (eqb n CALL) (IsDone tt) IsNothing)) (λ _. IsNumber w32 CALL) kind_at
    (λ value text s. is_call (eqb s.first CALL) s.first value s.front s.back text refl s.front_is s.back_is s.text_is)
    (λ value text s. record { first = CALL; front = text; front_is = s; back = []; back_is = record { value_is = refl; text_is = refl }; text_is = sym (append-nil text) })
    (finds_then (IsNumber w32) (λ n. IsEither (eqb n CALL) (IsDone tt) IsNothing) (λ bytes. read (number_at w32 bytes)) (λ n bytes. if eqb n CALL then Ok (tt, bytes) else Err NotCall) word
    (λ n. finds_either (eqb n CALL) (IsDone tt) IsNothing (λ bytes. Ok (tt, bytes)) (λ bytes. Err NotCall) (finds_done tt) (finds_fault NotCall)))

finds_call : Finds IsCall call_at
finds_call =
    finds_all IsCall call_at
    (finds_field _ (IsNumber w32) (λ (m : Call × Auth). m.0.xid) _ _ _ word (λ xid.
    finds_field _ (λ (_ : Unit {0}). IsNumber w32 CALL) (λ (m : Call × Auth). tt) _ _ _ finds_kind (λ kind.
    finds_field _ (IsNumber w32) (λ (m : Call × Auth). m.0.rpcvers) _ _ _ word (λ rpcvers.
    finds_field _ (IsNumber w32) (λ (m : Call × Auth). m.0.prog) _ _ _ word (λ prog.
    finds_field _ (IsNumber w32) (λ (m : Call × Auth). m.0.vers) _ _ _ word (λ vers.
    finds_field _ (IsNumber w32) (λ (m : Call × Auth). m.0.proc) _ _ _ word (λ proc.
    finds_field _ IsAuth (λ (m : Call × Auth). m.0.cred) _ _ _ finds_auth (λ cred.
    finds_last _ IsAuth (λ (m : Call × Auth). m.1) _ (λ verf. (record { xid = xid; rpcvers = rpcvers; prog = prog; vers = vers; proc = proc; cred = cred }, verf)) finds_auth (λ verf. ((((((((tt, refl), refl), refl), refl), refl), refl), refl), refl)) (λ m verf known e i. (record { xid = known.0.0.0.0.0.0.1 i; rpcvers = known.0.0.0.0.1 i; prog = known.0.0.0.1 i; vers = known.0.0.1 i; proc = known.0.1 i; cred = known.1 i }, e i))))))))))

pub finds_head : Finds IsCallHead head_at
finds_head =
    finds_as (λ call text. (m : Call × Auth) × (m.0 ≡ call) × IsCall m text) IsCallHead head_at
    (λ call text s. (s.0.1, subst (λ c. IsCall (c, s.0.1) text) s.1 s.2))
    (λ call text s. ((call, s.0), refl, s.1))
    (finds_image IsCall (λ (m : Call × Auth). m.0) call_at finds_call)

pub head_read : (bytes : List ℕ) (result : Result CallHead RpcFault) → AreBytes bytes → GivesHead result (head_at bytes) → IfOk result (λ head. Begins IsCallHead (call_of head) bytes head.args)
head_read bytes (Ok head) are gives = finds_head.found bytes (call_of head) head.args are gives
head_read bytes (Err e) are gives = tt

pub head_unreadable : (bytes : List ℕ) (result : Result CallHead RpcFault) (e : RpcFault) → GivesHead result (head_at bytes) → IsErrOf result e → BeginsNone IsCallHead bytes
head_unreadable bytes (Ok head) e gives is = absurd cc
head_unreadable bytes (Err f) e gives is = finds_none IsCallHead head_at bytes f finds_head gives

-- ---- another message

abbrev IsOther : {A : Type 0} → Result A RpcFault → Type 0
IsOther {A} r = r ≡ Err NotCall

not_other : {A : Type 0} (r : Read A) → IsOther (read r) → ⊥
not_other (Ok x) e = absurd cc
not_other (Err f) e = absurd cc

ok_not_other : {A : Type 0} (x : A) → IsOther (Ok x) → ⊥
ok_not_other x e = absurd cc

fault_is : {A B : Type 0} (g : RpcFault) → IsOther {A = A} (Err g) → IsOther {A = B} (Err g)
fault_is g e = let same : g ≡ NotCall = cc in ap Err same

-- only one that comes later can be it
later : {A B : Type 0} (r : Result A RpcFault) (f : A → Result B RpcFault) → (IsOther r → ⊥) → IsOther (r >>= f) → (x : A) × (r ≡ Ok x) × IsOther (f x)
later (Ok x) f never e = (x, refl, e)
later (Err g) f never e = absurd (never (fault_is g e))

-- it came, or it comes later
now_or_later : {A B : Type 0} (r : Result A RpcFault) (f : A → Result B RpcFault) → ((x : A) → IsOther (f x) → ⊥) → IsOther (r >>= f) → IsOther r
now_or_later (Ok x) f never e = absurd (never x e)
now_or_later (Err g) f never e = fault_is g e

never_later : {A B : Type 0} (r : Result A RpcFault) (f : A → Result B RpcFault) → (IsOther r → ⊥) → ((x : A) → IsOther (f x) → ⊥) → IsOther (r >>= f) → ⊥
never_later r f never after e = let l = later r f never e in after l.0 l.2

auth_not_other : (bytes : List ℕ) → IsOther (auth_at bytes) → ⊥
auth_not_other bytes =
    never_later (read (number_at w32 bytes)) _ (not_other (number_at w32 bytes)) (λ flavor.
    never_later (read (opaque_at 400 flavor.1)) _ (not_other (opaque_at 400 flavor.1)) (λ body. ok_not_other _))

-- what follows the message type
abbrev rest_at : ℕ → List ℕ → Result ((Call × Auth) × List ℕ) RpcFault
rest_at xid bytes = do
  rpcvers ← read (number_at w32 bytes)
  prog ← read (number_at w32 rpcvers.1)
  vers ← read (number_at w32 prog.1)
  proc ← read (number_at w32 vers.1)
  cred ← auth_at proc.1
  verf ← auth_at cred.1
  Ok ((record { xid = xid; rpcvers = rpcvers.0; prog = prog.0; vers = vers.0; proc = proc.0; cred = cred.0 }, verf.0), verf.1)

not_call : (b : Bool) (n : ℕ) (rest : List ℕ) → eqb n CALL ≡ b → IsOther {A = Unit {0} × List ℕ} (if b then Ok (tt, rest) else Err NotCall) → n ≢ CALL
not_call true n rest is e = absurd (ok_not_other _ e)
not_call false n rest is e = eqb-false n CALL is

-- it is read or unreadable
rest_not_other : (xid : ℕ) (bytes : List ℕ) → IsOther (rest_at xid bytes) → ⊥
rest_not_other xid bytes =
    never_later (read (number_at w32 bytes)) _ (not_other (number_at w32 bytes)) (λ rpcvers.
    never_later (read (number_at w32 rpcvers.1)) _ (not_other (number_at w32 rpcvers.1)) (λ prog.
    never_later (read (number_at w32 prog.1)) _ (not_other (number_at w32 prog.1)) (λ vers.
    never_later (read (number_at w32 vers.1)) _ (not_other (number_at w32 vers.1)) (λ proc.
    never_later (auth_at proc.1) _ (auth_not_other proc.1) (λ cred.
    never_later (auth_at cred.1) _ (auth_not_other cred.1) (λ verf. ok_not_other _))))))

-- where the message type is another one
kind_other : (bytes : List ℕ) → IsOther (kind_at bytes) → (kind : ℕ × List ℕ) × (number_at w32 bytes ≡ Ok kind) × (kind.0 ≢ CALL)
kind_other bytes e =
    let k = later (read (number_at w32 bytes)) (λ kind. if eqb kind.0 CALL then Ok (tt, kind.1) else Err NotCall) (not_other (number_at w32 bytes)) e in
    (k.0, ok_read (number_at w32 bytes) k.0 k.1, not_call (eqb k.0.0 CALL) k.0.0 k.0.1 refl k.2)

two_numbers : (xid kind : ℕ) (bytes middle rest : List ℕ) → Begins (IsNumber w32) xid bytes middle → Begins (IsNumber w32) kind middle rest → Begins (λ n. IsNumber w32 xid ⨾ IsNumber w32 n) kind bytes rest
two_numbers xid kind bytes middle rest first second = record {
  text = first.text ++ second.text;
  encoded = record { front = first.text; first = first.encoded; back = second.text; second = second.encoded; text_is = refl };
  bytes_are = first.bytes_are ∙ ap (λ t. first.text ++ t) second.bytes_are ∙ sym (append_assoc first.text second.text rest);
}

other_found : (bytes : List ℕ) → AreBytes bytes → IsOther (call_at bytes) → IsOtherMessage bytes
other_found bytes are e =
    let xid = later (read (number_at w32 bytes)) (λ xid. kind_at xid.1 >>= λ kind. rest_at xid.0 kind.1) (not_other (number_at w32 bytes)) e in
    let kind = kind_other xid.0.1 (now_or_later (kind_at xid.0.1) (λ kind. rest_at xid.0.0 kind.1) (λ kind. rest_not_other xid.0.0 kind.1) xid.2) in
    let first = finds_u32.found bytes xid.0.0 xid.0.1 are (ok_read (number_at w32 bytes) xid.0 xid.1) in
    let second = finds_u32.found xid.0.1 kind.0.0 kind.0.1 (AreBytes-rest first.text xid.0.1 (subst AreBytes first.bytes_are are)) kind.1 in
    record { xid = xid.0.0; kind = kind.0.0; other = kind.2; rest = kind.0.1; begins = two_numbers xid.0.0 kind.0.0 bytes xid.0.1 kind.0.1 first second }

abbrev whole_call : Read ℕ → Result ((Call × Auth) × List ℕ) RpcFault
whole_call r = read r >>= λ xid. kind_at xid.1 >>= λ kind. rest_at xid.0 kind.1

abbrev kind_of : Read ℕ → Result (Unit {0} × List ℕ) RpcFault
kind_of r = read r >>= λ kind. if eqb kind.0 CALL then Ok (tt, kind.1) else Err NotCall

kind_again : (bytes : List ℕ) (n : ℕ) (rest : List ℕ) → number_at w32 bytes ≡ Ok (n, rest) → n ≢ CALL → kind_at bytes ≡ Err NotCall
kind_again bytes n rest e other =
    let judged : Bool → Result (Unit {0} × List ℕ) RpcFault = λ b. if b then Ok (tt, rest) else Err NotCall in
    ap kind_of e ∙ ap judged (ne_eqb n CALL other)

other_again : (bytes : List ℕ) → IsOtherMessage bytes → IsOther (call_at bytes)
other_again bytes o =
    let s = o.begins.encoded in
    let regrouped : bytes ≡ s.front ++ (s.back ++ o.rest) = o.begins.bytes_are ∙ ap (λ t. t ++ o.rest) s.text_is ∙ append_assoc s.front s.back o.rest in
    let first : number_at w32 bytes ≡ Ok (o.xid, s.back ++ o.rest) = ap (number_at w32) regrouped ∙ finds_u32.again o.xid s.front (s.back ++ o.rest) s.first in
    let kind : kind_at (s.back ++ o.rest) ≡ Err NotCall = kind_again (s.back ++ o.rest) o.kind o.rest (finds_u32.again o.kind s.back o.rest s.second) o.other in
    ap whole_call first ∙ ap (λ (r : Result (Unit {0} × List ℕ) RpcFault). r >>= λ k. rest_at o.xid k.1) kind

head_other : (bytes : List ℕ) → IsOther (head_at bytes) → IsOther (call_at bytes)
head_other bytes e = now_or_later (call_at bytes) (λ m. Ok (m.0.0, m.1)) (λ m. ok_not_other _) e

pub head_not_call : (bytes : List ℕ) (result : Result CallHead RpcFault) → AreBytes bytes → GivesHead result (head_at bytes) → IsErrOf result NotCall ↔ IsOtherMessage bytes
head_not_call bytes (Ok head) are gives = (λ e. absurd cc, λ o. absurd (ok_not_other _ (sym gives ∙ ap (λ (r : Result ((Call × Auth) × List ℕ) RpcFault). r >>= λ m. Ok (m.0.0, m.1)) (other_again bytes o))))
head_not_call bytes (Err f) are gives = (
  λ e. other_found bytes are (head_other bytes (gives ∙ fault_is f e)),
  λ o. fault_is f (sym gives ∙ ap (λ (r : Result ((Call × Auth) × List ℕ) RpcFault). r >>= λ m. Ok (m.0.0, m.1)) (other_again bytes o)),
)
