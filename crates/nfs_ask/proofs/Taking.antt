-- Words that are taken one after another.
use Rattle.std.proofs.Common.{◌≡◌, ℕ, List, [], ◌∷◌, Option, Some, None, Ok, refl, sym, ap, subst, ◌∙◌}
use Rattle.nfs_xdr.proofs.Finding.{ok_is}
use Rattle.nfs_rpc.specs.AuthSys.{Credential, credential_of}
use Rattle.nfs_ask.specs.declared.ask.Ask.{Ask}
use Rattle.nfs_ask.specs.declared.fault.Wanted.{Wanted}
use Rattle.nfs_ask.specs.declared.fault.Wanted.TheVariants as wanted
use Rattle.nfs_ask.specs.declared.operation.Operation.{Operation}
use Rattle.nfs_ask.specs.Operations.{operation_of}
use Rattle.nfs_ask.specs.Words.{word_at, if_any, value_at, xid_at, end_at, user_of}
use Rattle.nfs_ask.specs.Asks.{Asks, AsksAs, AsksBy, AsksFrom}

word_taken : (wanted : Wanted) (ws left : List (List ℕ)) (word : List ℕ) → word_at wanted ws ≡ Ok (word, left) → ws ≡ word ∷ left
word_taken wanted [] left word e = absurd cc
word_taken wanted (w ∷ ws) left word e = ap (λ (p : List ℕ × List (List ℕ)). p.0 ∷ p.1) (ok_is (w, ws) (word, left) e)

any_taken : {A : Type 0} (wanted : Wanted) (o : Option A) (ws left : List (List ℕ)) (value : A) → if_any wanted o ws ≡ Ok (value, left) → (o ≡ Some value) × (ws ≡ left)
any_taken wanted None ws left value e = absurd cc
any_taken {A} wanted (Some x) ws left value e =
    let p = ok_is (x, ws) (value, left) e in
    (ap (λ (q : A × List (List ℕ)). Some q.0) p, ap (λ (q : A × List (List ℕ)). q.1) p)

record Taken (ws left : List (List ℕ)) (cred : Credential) : Type 0 where
  user : List ℕ
  all : ws ≡ user ∷ left
  says : user_of user ≡ Some cred

user_taken : (ws left : List (List ℕ)) (cred : Credential) → value_at wanted.User user_of ws ≡ Ok (cred, left) → Taken ws left cred
user_taken [] left cred e = absurd cc
user_taken (w ∷ ws) left cred e =
    let any = any_taken wanted.User (user_of w) ws left cred e in
    record { user = w; all = ap (λ t. w ∷ t) any.1; says = any.0 }

end_taken : (ws left : List (List ℕ)) → end_at ws ≡ Ok (tt, left) → ws ≡ []
end_taken [] left e = refl
end_taken (w ∷ ws) left e = absurd cc

asks_from : (ws after_user after_word after_path left end : List (List ℕ)) (ask : Ask) (word : List ℕ) (operation : Operation)
    → value_at wanted.User user_of ws ≡ Ok (credential_of ask.cred, after_user) → word_at wanted.Operation after_user ≡ Ok (word, after_word)
    → operation_of word ≡ Some operation → word_at wanted.Path after_word ≡ Ok (ask.path.now, after_path)
    → Asks operation after_path ask.request left → end_at left ≡ Ok (tt, end) → AsksFrom ws ask
asks_from ws a b d left end ask word operation user first known path asks ends =
    let u = user_taken ws a (credential_of ask.cred) user in
    let whole : u.user ∷ word ∷ ask.path.now ∷ d ≡ ws =
    ap (λ t. u.user ∷ word ∷ t) (sym (word_taken wanted.Path b d ask.path.now path)) ∙ ap (λ t. u.user ∷ t) (sym (word_taken wanted.Operation a b word first)) ∙ sym u.all in
    subst (λ t. AsksFrom t ask) whole
    (u.says, refl, subst (λ o. AsksAs o d ask.request) (sym known) (subst (λ l. Asks operation d ask.request l) (end_taken left end ends) asks))

pub asks_by : (ws begun after_xid after_user after_word after_path left end : List (List ℕ)) (ask : Ask) (word : List ℕ) (operation : Operation)
    → begun ≡ ws → xid_at begun ≡ Ok (ask.xid, after_xid)
    → value_at wanted.User user_of after_xid ≡ Ok (credential_of ask.cred, after_user) → word_at wanted.Operation after_user ≡ Ok (word, after_word)
    → operation_of word ≡ Some operation → word_at wanted.Path after_word ≡ Ok (ask.path.now, after_path)
    → Asks operation after_path ask.request left → end_at left ≡ Ok (tt, end) → AsksBy ws ask
asks_by ws begun from a b d left end ask word operation same number user first known path asks ends = (
  from,
  subst (λ t. xid_at t ≡ Ok (ask.xid, from)) same number,
  asks_from from a b d left end ask word operation user first known path asks ends,
)
