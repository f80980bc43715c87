-- Reading a union, or a value whose last field has to agree with those before it, finds its encoding.
use Rattle.std.proofs.Common.{◌≡◌, ℕ, Bool, true, false, List, [], Some, Ok, Err, cond, append-nil, refl, sym, ap, subst, ◌∙◌, ◌++◌}
use Rattle.nfs_xdr.specs.declared.fault.XdrFault.{XdrFault}
use Rattle.nfs_xdr.specs.Encoding.{IsEnum}
use Rattle.nfs_xdr.specs.Reading.{Read, ◌>>=◌, Finds, numbered, enum_at}
use Rattle.nfs_xdr.proofs.Finding.{finds_as, Then, finds_then, IsDone, finds_done, IsNothing, IsEither, finds_either, finds_fault}
use Rattle.nfs_xdr.proofs.Items.{finds_enum}
use Rattle.nfs_args.specs.Encoding.{IsBare, IsUnion}
use Rattle.nfs_args.specs.Reading.{bare_at, union_at}

pub finds_bare : {A : Type 0} (made : A) → Finds (IsBare made) (bare_at made)
finds_bare made =
    finds_as (IsDone made) (IsBare made) (bare_at made)
    (λ value text s. record { value_is = s.value_is; text_is = s.text_is }) (λ value text s. record { value_is = s.value_is; text_is = s.text_is })
    (finds_done made)

pub finds_union : {K A : Type 0} (number : K → ℕ) (kinds : List K) (arm : K → A → List ℕ → Type 0) (read : K → List ℕ → Read A)
    → ((kind : K) → numbered number kinds (number kind) ≡ Some kind) → ((kind : K) → Finds (arm kind) (read kind)) → Finds (IsUnion number arm) (union_at number kinds read)
finds_union number kinds arm read known arms =
    finds_as (Then (IsEnum number) arm) (IsUnion number arm) (union_at number kinds read)
    (λ value text s. record { kind = s.first; encoded = record { front = s.front; first = s.front_is; back = s.back; second = s.back_is; text_is = s.text_is } })
    (λ value text s. record { first = s.kind; front = s.encoded.front; front_is = s.encoded.first; back = s.encoded.back; back_is = s.encoded.second; text_is = s.encoded.text_is })
    (finds_then (IsEnum number) arm (enum_at number kinds) read (finds_enum number kinds known) arms)

-- ---- a last field that is judged by a test

agreed : {B : Type 0} (b : Bool) (v value : B) (text : List ℕ) → IsEither b (IsDone v) IsNothing value text → (b ≡ true) × IsDone v value text
agreed true v value text s = (refl, s)
agreed false v value text s = absurd s

agrees : {B : Type 0} (b : Bool) (v value : B) (text : List ℕ) → b ≡ true → IsDone v value text → IsEither b (IsDone v) IsNothing value text
agrees true v value text e s = s
agrees false v value text e s = absurd cc

pub finds_last_if : {A B : Type 0} (Known : B → Type 0) (S : A → List ℕ → Type 0) (field : B → A) (read : List ℕ → Read A) (whole : A → B) (test : A → Bool) (fault : XdrFault)
    → Finds S read → ((a : A) → test a ≡ true → Known (whole a) × (field (whole a) ≡ a)) → ((value : B) (a : A) → Known value → field value ≡ a → (test a ≡ true) × (value ≡ whole a))
    → Finds (λ value text. Known value × S (field value) text) (λ bytes. read bytes >>= λ p. cond (test p.0) (Ok (whole p.0, p.1)) (Err fault))
finds_last_if {A} {B} Known S field read whole test fault first is only =
    finds_as (Then S (λ a. IsEither (test a) (IsDone (whole a)) IsNothing)) (λ value text. Known value × S (field value) text) (λ bytes. read bytes >>= λ p. cond (test p.0) (Ok (whole p.0, p.1)) (Err fault))
    (λ value text s.
    let done = agreed (test s.first) (whole s.first) value s.back s.back_is in
    let made = is s.first done.0 in
    let all : text ≡ s.front = s.text_is ∙ ap (λ t. s.front ++ t) done.1.text_is ∙ append-nil s.front in
    subst (λ v. Known v × S (field v) text) done.1.value_is (made.0, subst (λ t. S (field (whole s.first)) t) (sym all) (subst (λ a. S a s.front) (sym made.1) s.front_is)))
    (λ value text s.
    let made = only value (field value) s.0 refl in
    record { first = field value; front = text; front_is = s.1; back = []; back_is = agrees (test (field value)) (whole (field value)) value [] made.0 (record { value_is = sym made.1; text_is = refl }); text_is = sym (append-nil text) })
    (finds_then S (λ a. IsEither (test a) (IsDone (whole a)) IsNothing) read (λ a bytes. cond (test a) (Ok (whole a, bytes)) (Err fault)) first
    (λ a. finds_either (test a) (IsDone (whole a)) IsNothing (λ bytes. Ok (whole a, bytes)) (λ bytes. Err fault) (finds_done (whole a)) (finds_fault fault)))
