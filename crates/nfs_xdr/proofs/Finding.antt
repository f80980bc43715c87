-- Readings one after another find encodings one after another.
use Rattle.std.proofs.Common.{◌≡◌, ℕ, suc, ◌+◌, Bool, true, false, cond, List, [], ◌∷◌, ◌++◌, take, drop, Result, Ok, Err, refl, sym, ap, subst, ◌∙◌, append_assoc, append-nil, arith, inl, inr}
use Rattle.std.proofs.lemmas.Bool.{cases_lt}
use Rattle.std.proofs.lemmas.List.{length-take, get_or-drop, get_or-take, get_or_past, append_cancel_right}
use Rattle.nfs_xdr.specs.declared.fault.XdrFault.{XdrFault}
use Rattle.nfs_xdr.specs.Encoding.{◌⨾◌, BeginsNone, EncodesOnce}
use Rattle.nfs_xdr.specs.Reading.{◌>>=◌, Read, Gives, Reads, AreBytes, Finds}

pub AreBytes-drop : (n : ℕ) (bytes : List ℕ) → AreBytes bytes → AreBytes (drop n bytes)
AreBytes-drop n bytes h i = rw get_or-drop (h (n + i))

pub AreBytes-take : (n : ℕ) (bytes : List ℕ) → AreBytes bytes → AreBytes (take n bytes)
AreBytes-take n bytes h i =
    elim (cases_lt i n) [
      | inl lt ↦ rw (get_or-take n bytes i 0 lt) (h i)
      | inr le ↦ rw (get_or_past (take n bytes) i 0 (omega (arith, length-take n bytes))) (omega arith)
    ]

-- the value of a reading that has no fault
pub bind_ok : {A B E : Type 0} (r : Result A E) (f : A → Result B E) (y : B) → (r >>= f) ≡ Ok y → (x : A) × (r ≡ Ok x) × (f x ≡ Ok y)
bind_ok (Ok x) f y e = (x, refl, e)
bind_ok (Err d) f y e = absurd cc

-- a test that found no fault
pub guard_ok : {A E : Type 0} (b : Bool) (d : E) (x y : A) → cond b (Err d) (Ok x) ≡ Ok y → (b ≡ false) × (x ≡ y)
guard_ok true d x y e = absurd cc
guard_ok false d x y e = (refl, cc)

abbrev done : {A E : Type 0} → A → Result A E
done x = Ok x

pub ok_is : {A E : Type 0} (x y : A) → done {E = E} x ≡ done {E = E} y → x ≡ y
ok_is x y e = cc

no_ok : {A E : Type 0} (e : E) (r : Result A E) (x : A) → r ≡ Err e → r ≡ Ok x → ⊥
no_ok e r x p q = absurd cc

-- What is found is encoded once.
pub once : {A E : Type 0} (Encodes : A → List ℕ → Type 0) (read : List ℕ → Result (A × List ℕ) E) → Finds Encodes read → EncodesOnce Encodes
once {A} {E} Encodes read finds v w a b x y p q e =
    let one : done {E = E} (v, x) ≡ done (w, y) = sym (finds.again v a x p) ∙ ap read e ∙ finds.again w b y q in
    let pair : (v, x) ≡ (w, y) = ok_is {E = E} (v, x) (w, y) one in
    let rests : x ≡ y = ap (λ t. t.1) pair in
    (ap (λ t. t.0) pair, append_cancel_right a b y (ap (λ t. a ++ t) (sym rests) ∙ e))

-- Where reading finds no value, none is encoded.
pub finds_none : {A E : Type 0} (Encodes : A → List ℕ → Type 0) (read : List ℕ → Result (A × List ℕ) E) (bytes : List ℕ) (e : E) → Finds Encodes read → read bytes ≡ Err e → BeginsNone Encodes bytes
finds_none Encodes read bytes e finds fault value rest begins =
    no_ok e (read bytes) (value, rest) fault (ap read begins.bytes_are ∙ finds.again value begins.text rest begins.encoded)

-- A reader that gives what reading gives reads what is encoded.
pub reads_by : {X A : Type 0} (view : X → A) (Encodes : A → List ℕ → Type 0) (read : List ℕ → Read A) (old new : List ℕ) (result : Result X XdrFault) → Finds Encodes read → AreBytes old → Gives view old new result (read old) → Reads view Encodes old new result
reads_by view Encodes read old new (Ok x) finds bytes gives = finds.found old (view x) new bytes gives
reads_by view Encodes read old new (Err e) finds bytes gives = (finds_none Encodes read old e finds gives.0, gives.1)

-- the same relation in other words
pub finds_as : {A E : Type 0} (S T : A → List ℕ → Type 0) (read : List ℕ → Result (A × List ℕ) E) → ((v : A) (text : List ℕ) → S v text → T v text) → ((v : A) (text : List ℕ) → T v text → S v text) → Finds S read → Finds T read
finds_as S T read there back finds = record {
  found = λ bytes value rest are e.
      let b = finds.found bytes value rest are e in
      record { text = b.text; encoded = there value b.text b.encoded; bytes_are = b.bytes_are };
  again = λ value text rest s. finds.again value text rest (back value text s);
}

-- an encoding of a first value, and then one of what it leads to
pub record Then {A B : Type 0} (S : A → List ℕ → Type 0) (T : A → B → List ℕ → Type 0) (value : B) (text : List ℕ) : Type 0 where
  pub first : A
  pub front : List ℕ
  pub front_is : S first front
  pub back : List ℕ
  pub back_is : T first value back
  pub text_is : text ≡ front ++ back

pub AreBytes-rest : (text rest : List ℕ) → AreBytes (text ++ rest) → AreBytes rest
AreBytes-rest [] rest h = h
AreBytes-rest (b ∷ text) rest h = AreBytes-rest text rest (λ i. h (suc i))

pub finds_then : {A B E : Type 0} (S : A → List ℕ → Type 0) (T : A → B → List ℕ → Type 0) (read : List ℕ → Result (A × List ℕ) E) (next : A → List ℕ → Result (B × List ℕ) E) → Finds S read → ((a : A) → Finds (T a) (next a)) → Finds (Then S T) (λ bytes. read bytes >>= λ p. next p.0 p.1)
finds_then {A} {B} {E} S T read next first second = record {
  found = λ bytes value rest are e.
      let one = bind_ok (read bytes) (λ p. next p.0 p.1) (value, rest) e in
      let a = first.found bytes one.0.0 one.0.1 are one.1 in
      let b = (second one.0.0).found one.0.1 value rest (AreBytes-rest a.text one.0.1 (subst AreBytes a.bytes_are are)) one.2 in
      record {
        text = a.text ++ b.text;
        encoded = record { first = one.0.0; front = a.text; front_is = a.encoded; back = b.text; back_is = b.encoded; text_is = refl };
        bytes_are = a.bytes_are ∙ ap (λ t. a.text ++ t) b.bytes_are ∙ sym (append_assoc a.text b.text rest);
      };
  again = λ value text rest s.
      let regrouped : text ++ rest ≡ s.front ++ (s.back ++ rest) = ap (λ t. t ++ rest) s.text_is ∙ append_assoc s.front s.back rest in
      ap (λ bytes. read bytes >>= λ p. next p.0 p.1) regrouped
      ∙ ap (λ (r : Result (A × List ℕ) E). r >>= λ p. next p.0 p.1) (first.again s.first s.front (s.back ++ rest) s.front_is)
      ∙ (second s.first).again value s.back rest s.back_is;
}

-- a value that takes no bytes
pub record IsDone {A : Type 0} (v value : A) (text : List ℕ) : Type 0 where
  pub value_is : v ≡ value
  pub text_is : text ≡ []

pub finds_done : {A E : Type 0} (v : A) → Finds {E = E} (IsDone v) (λ bytes. Ok (v, bytes))
finds_done {A} {E} v = record {
  found = λ bytes value rest are e.
      let pair : (v, bytes) ≡ (value, rest) = ok_is {E = E} (v, bytes) (value, rest) e in
      record { text = []; encoded = record { value_is = ap (λ t. t.0) pair; text_is = refl }; bytes_are = ap (λ t. t.1) pair };
  again = λ value text rest s. ap (λ t. done (v, t ++ rest)) s.text_is ∙ ap (λ x. done (x, rest)) s.value_is;
}

-- a fault, and no encoding
abbrev pub IsNothing : {A : Type 0} → A → List ℕ → Type 0
IsNothing value text = ⊥

pub finds_fault : {A E : Type 0} (e : E) → Finds {A = A} IsNothing (λ bytes. Err e)
finds_fault e = record {
  found = λ bytes value rest are ok. absurd cc;
  again = λ value text rest s. absurd s;
}

-- one of two readings by a test that looks at no byte, each with its encoding
abbrev pub IsEither : {A : Type 0} → Bool → (A → List ℕ → Type 0) → (A → List ℕ → Type 0) → A → List ℕ → Type 0
IsEither true S T value text = S value text
IsEither false S T value text = T value text

pub finds_either : {A E : Type 0} (b : Bool) (S T : A → List ℕ → Type 0) (read next : List ℕ → Result (A × List ℕ) E) → Finds S read → Finds T next → Finds (IsEither b S T) (λ bytes. cond b (read bytes) (next bytes))
finds_either true S T read next first second = first
finds_either false S T read next first second = second

-- the same reading with other faults
pub finds_renamed : {A E F : Type 0} (S : A → List ℕ → Type 0) (read : List ℕ → Result (A × List ℕ) E) (next : List ℕ → Result (A × List ℕ) F) → ((bytes : List ℕ) (x : A × List ℕ) → read bytes ≡ Ok x → next bytes ≡ Ok x) → ((bytes : List ℕ) (x : A × List ℕ) → next bytes ≡ Ok x → read bytes ≡ Ok x) → Finds S read → Finds S next
finds_renamed S read next there back finds = record {
  found = λ bytes value rest are e. finds.found bytes value rest are (back bytes (value, rest) e);
  again = λ value text rest s. there (text ++ rest) (value, rest) (finds.again value text rest s);
}

-- ---- the fields of a value, one after another

-- The fields so far are these. A field is read, and then those after it, with which the value is whole.
pub finds_field : {A B E : Type 0} (Known : B → Type 0) (S : A → List ℕ → Type 0) (field : B → A) (Others : B → List ℕ → Type 0) (read : List ℕ → Result (A × List ℕ) E) (next : A → List ℕ → Result (B × List ℕ) E)
    → Finds S read → ((a : A) → Finds (λ value text. (Known value × (field value ≡ a)) × Others value text) (next a)) → Finds (λ value text. Known value × (S (field value) ⨾ Others value) text) (λ bytes. read bytes >>= λ p. next p.0 p.1)
finds_field {A} {B} {E} Known S field Others read next first second =
    finds_as (Then S (λ a value text. (Known value × (field value ≡ a)) × Others value text)) (λ value text. Known value × (S (field value) ⨾ Others value) text) (λ bytes. read bytes >>= λ p. next p.0 p.1)
    (λ value text s. (s.back_is.0.0, record { front = s.front; first = subst (λ a. S a s.front) (sym s.back_is.0.1) s.front_is; back = s.back; second = s.back_is.1; text_is = s.text_is }))
    (λ value text s. record { first = field value; front = s.1.front; front_is = s.1.first; back = s.1.back; back_is = ((s.0, refl), s.1.second); text_is = s.1.text_is })
    (finds_then S (λ a value text. (Known value × (field value ≡ a)) × Others value text) read next first second)

-- the last field
pub finds_last : {A B E : Type 0} (Known : B → Type 0) (S : A → List ℕ → Type 0) (field : B → A) (read : List ℕ → Result (A × List ℕ) E) (whole : A → B)
    → Finds S read → ((a : A) → Known (whole a) × (field (whole a) ≡ a)) → ((value : B) (a : A) → Known value → field value ≡ a → value ≡ whole a) → Finds (λ value text. Known value × S (field value) text) (λ bytes. read bytes >>= λ p. Ok (whole p.0, p.1))
finds_last {A} {B} {E} Known S field read whole first is only =
    finds_as (Then S (λ a. IsDone (whole a))) (λ value text. Known value × S (field value) text) (λ bytes. read bytes >>= λ p. Ok (whole p.0, p.1))
    (λ value text s.
    let made = is s.first in
    let all : text ≡ s.front = s.text_is ∙ ap (λ t. s.front ++ t) s.back_is.text_is ∙ append-nil s.front in
    subst (λ v. Known v × S (field v) text) s.back_is.value_is (made.0, subst (λ t. S (field (whole s.first)) t) (sym all) (subst (λ a. S a s.front) (sym made.1) s.front_is)))
    (λ value text s. record { first = field value; front = text; front_is = s.1; back = []; back_is = record { value_is = sym (only value (field value) s.0 refl); text_is = refl }; text_is = sym (append-nil text) })
    (finds_then S (λ a. IsDone (whole a)) read (λ a bytes. Ok (whole a, bytes)) first (λ a. finds_done (whole a)))

-- what is known of a value without any field
pub finds_all : {B E : Type 0} (S : B → List ℕ → Type 0) (read : List ℕ → Result (B × List ℕ) E) → Finds (λ value text. Unit {0} × S value text) read → Finds S read
finds_all S read finds = finds_as (λ value text. Unit {0} × S value text) S read (λ value text s. s.1) (λ value text s. (tt, s)) finds

-- what a value shows of itself, as far as it is kept
pub finds_image : {A B E : Type 0} (S : A → List ℕ → Type 0) (shown : A → B) (read : List ℕ → Result (A × List ℕ) E) → Finds S read → Finds (λ b text. (a : A) × (shown a ≡ b) × S a text) (λ bytes. read bytes >>= λ p. Ok (shown p.0, p.1))
finds_image {A} {B} {E} S shown read finds =
    finds_as (Then S (λ a. IsDone (shown a))) (λ b text. (a : A) × (shown a ≡ b) × S a text) (λ bytes. read bytes >>= λ p. Ok (shown p.0, p.1))
    (λ b text s. (s.first, s.back_is.value_is, subst (λ t. S s.first t) (sym (s.text_is ∙ ap (λ t. s.front ++ t) s.back_is.text_is ∙ append-nil s.front)) s.front_is))
    (λ b text s. record { first = s.0; front = text; front_is = s.2; back = []; back_is = record { value_is = s.1; text_is = refl }; text_is = sym (append-nil text) })
    (finds_then S (λ a. IsDone (shown a)) read (λ a bytes. Ok (shown a, bytes)) finds (λ a. finds_done (shown a)))
