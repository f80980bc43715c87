-- Reading an item finds its encoding.
use Rattle.std.proofs.Common.{◌≡◌, ℕ, suc, zero, ◌+◌, ◌-◌, ◌*◌, ◌^◌, ◌%◌, ◌/◌, ◌<◌, ◌≤◌, Bool, true, false, ltb, eqb, List, [], ◌∷◌, ◌++◌, length, take, drop, Option, Some, None, if◌then◌else◌, Ok, Err, refl, sym, ap, subst, ◌∙◌, append_assoc, append-nil, take-add, length-drop, arith, flat_map, get_or, set, ◌⊎◌, inl, inr}
use Rattle.std.specs.Int.{Width, w32, w64, byte_len, from_be_bytes, to_be_bytes}
use Rattle.std.proofs.lemmas.Bool.{cases_lt, ltb-false, ltb-true, le-ltb, eqb-true}
use Rattle.std.proofs.lemmas.Grind.{flat_map-append}
use Rattle.std.proofs.lemmas.List.{take_at, drop_at, take-append-drop, take_more, take_more_set, take_rest, length-append, length-take}
use Rattle.std.proofs.lemmas.Nat.{be_bytes_4, be_bytes_8, from_be_bytes-to_be_bytes_4, from_be_bytes-to_be_bytes_8}
use Rattle.nfs_xdr.specs.declared.fault.XdrFault.TheVariants.{Short, TooLong, BadBool}
use Rattle.nfs_xdr.specs.Encoding.{padding, number_of, fixed_text, opaque_text, numbers_text, IsNumber, IsBoolean, IsEnum, IsOptional, IsFixed, IsOpaque, AreItems, IsArray, Begins}
use Rattle.nfs_xdr.specs.Reading.{Read, ◌>>=◌, AreBytes, Finds, number_at, boolean_of, boolean_at, numbered, known, enum_at, present_at, optional_at, fixed_at, opaque_at, items_at, array_at}
use Rattle.nfs_xdr.proofs.Finding.{AreBytes-take, guard_ok, finds_as, Then, finds_then, IsDone, finds_done, IsNothing, finds_fault, IsEither, finds_either, finds_image}

-- what is used of a width
record IsWide (w : Width) : Type 0 where
  len : (n : ℕ) → length (to_be_bytes w n) ≡ byte_len w
  back : (bytes : List ℕ) → length bytes ≡ byte_len w → AreBytes bytes → to_be_bytes w (from_be_bytes w bytes) ≡ bytes
  again : (n : ℕ) → n < 256 ^ byte_len w → from_be_bytes w (to_be_bytes w n) ≡ n
  below : (bytes : List ℕ) → AreBytes bytes → from_be_bytes w bytes < 256 ^ byte_len w

wide32 : IsWide w32
wide32 = record {
  len = λ n. refl;
  back = λ bytes len fits. be_bytes_4 bytes _ len fits refl;
  again = λ n lt. from_be_bytes-to_be_bytes_4 n lt;
  below = λ bytes fits. omega (arith, fits 0, fits 1, fits 2, fits 3);
}

wide64 : IsWide w64
wide64 = record {
  len = λ n. refl;
  back = λ bytes len fits. be_bytes_8 bytes _ len fits refl;
  again = λ n lt. from_be_bytes-to_be_bytes_8 n lt;
  below = λ bytes fits. omega (arith, fits 0, fits 1, fits 2, fits 3, fits 4, fits 5, fits 6, fits 7);
}

finds_number : (w : Width) → IsWide w → Finds (IsNumber w) (number_at w)
finds_number w wide = record {
  found = λ bytes n rest are e.
      let g = guard_ok (ltb (length bytes) (byte_len w)) Short (from_be_bytes w (take (byte_len w) bytes), drop (byte_len w) bytes) (n, rest) e in
      let long : byte_len w ≤ length bytes = ltb-false _ _ g.0 in
      let n-is : from_be_bytes w (take (byte_len w) bytes) ≡ n = ap (λ (p : ℕ × List ℕ). p.0) g.1 in
      let rest-is : drop (byte_len w) bytes ≡ rest = ap (λ (p : ℕ × List ℕ). p.1) g.1 in
      record {
        text = take (byte_len w) bytes;
        encoded = record {
          fits = subst (λ k. k < 256 ^ byte_len w) n-is (wide.below (take (byte_len w) bytes) (AreBytes-take (byte_len w) bytes are));
          text_is = sym (wide.back (take (byte_len w) bytes) (omega (arith, length-take (byte_len w) bytes)) (AreBytes-take (byte_len w) bytes are)) ∙ ap (to_be_bytes w) n-is;
        };
        bytes_are = sym (take-append-drop (byte_len w) bytes) ∙ ap (λ t. take (byte_len w) bytes ++ t) rest-is;
      };
  again = λ n text rest s.
      let len = wide.len n in
      let long : ltb (length (to_be_bytes w n ++ rest)) (byte_len w) ≡ false = le-ltb _ _ (omega (arith, length-append (to_be_bytes w n) rest)) in
      subst (λ t. number_at w (t ++ rest) ≡ Ok (n, rest)) (sym s.text_is) (rw (long, take_at (to_be_bytes w n) rest (byte_len w) len, drop_at (to_be_bytes w n) rest (byte_len w) len, wide.again n s.fits) refl);
}

pub finds_u32 : Finds (IsNumber w32) (number_at w32)
finds_u32 = finds_number w32 wide32

pub finds_u64 : Finds (IsNumber w64) (number_at w64)
finds_u64 = finds_number w64 wide64

cut_in_three : (n p : ℕ) (bytes : List ℕ) → n + p ≤ length bytes → (length (take n bytes) ≡ n) × (length (take p (drop n bytes)) ≡ p) × (bytes ≡ (take n bytes ++ take p (drop n bytes)) ++ drop (n + p) bytes)
cut_in_three n p bytes h = (
  omega (arith, length-take n bytes),
  omega (arith, length-take p (drop n bytes), length-drop n bytes),
  sym (take-append-drop (n + p) bytes) ∙ ap (λ l. l ++ drop (n + p) bytes) (take-add n p bytes),
)

joined_of_three : (n p : ℕ) (item pad rest : List ℕ) → length item ≡ n → length pad ≡ p → (ltb (length ((item ++ pad) ++ rest)) (n + p) ≡ false) × (take n ((item ++ pad) ++ rest) ≡ item) × (drop (n + p) ((item ++ pad) ++ rest) ≡ rest)
joined_of_three n p item pad rest a b =
    let both : length (item ++ pad) ≡ n + p = length-append item pad ∙ omega arith in (
      le-ltb _ _ (omega (arith, length-append (item ++ pad) rest)),
      ap (take n) (append_assoc item pad rest) ∙ take_at item (pad ++ rest) n a,
      drop_at (item ++ pad) rest (n + p) both,
    )

-- n bytes and p bytes of padding
pub finds_fixed : (n : ℕ) → Finds (IsFixed n) (fixed_at n)
finds_fixed n = record {
  found = λ bytes item rest are e.
      let g = guard_ok (ltb (length bytes) (n + padding n)) Short (take n bytes, drop (n + padding n) bytes) (item, rest) e in
      let three = cut_in_three n (padding n) bytes (ltb-false _ _ g.0) in
      let item-is : take n bytes ≡ item = ap (λ (p : List ℕ × List ℕ). p.0) g.1 in
      let rest-is : drop (n + padding n) bytes ≡ rest = ap (λ (p : List ℕ × List ℕ). p.1) g.1 in
      record {
        text = take n bytes ++ take (padding n) (drop n bytes);
        encoded = record { len_is = subst (λ t. length t ≡ n) item-is three.0; pad = take (padding n) (drop n bytes); pad_len = three.1; text_is = ap (λ t. t ++ take (padding n) (drop n bytes)) item-is };
        bytes_are = subst (λ t. bytes ≡ (take n bytes ++ take (padding n) (drop n bytes)) ++ t) rest-is three.2;
      };
  again = λ item text rest s.
      let three = joined_of_three n (padding n) item s.pad rest s.len_is s.pad_len in
      subst (λ t. fixed_at n (t ++ rest) ≡ Ok (item, rest)) (sym s.text_is) (rw (three.0, three.1, three.2) refl);
}

-- a length that is above the bound has no encoding
pub finds_counted : (max n : ℕ) → Finds (IsEither (ltb max n) IsNothing (IsFixed n)) (λ bytes. if ltb max n then Err TooLong else fixed_at n bytes)
finds_counted max n = finds_either (ltb max n) IsNothing (IsFixed n) (λ bytes. Err TooLong) (fixed_at n) (finds_fault TooLong) (finds_fixed n)

of_counted : (max n : ℕ) (b : Bool) (item head body text : List ℕ) → ltb max n ≡ b → IsNumber w32 n head → IsEither b IsNothing (IsFixed n) item body → text ≡ head ++ body → IsOpaque max item text
of_counted max n true item head body text over number none e = absurd none
of_counted max n false item head body text within number fixed e =
    let len : n ≡ length item = sym fixed.len_is in
    record {
      bound = omega (arith, ltb-false max n within);
      encoded = record { front = head; first = subst (λ k. IsNumber w32 k head) len number; back = body; second = subst (λ k. IsFixed k item body) len fixed; text_is = e };
    }

to_counted : (max : ℕ) (b : Bool) (item body : List ℕ) → ltb max (length item) ≡ b → length item ≤ max → IsFixed (length item) item body → IsEither b IsNothing (IsFixed (length item)) item body
to_counted max true item body over bound fixed = omega (arith, ltb-true max (length item) over)
to_counted max false item body within bound fixed = fixed

pub finds_opaque : (max : ℕ) → Finds (IsOpaque max) (opaque_at max)
finds_opaque max =
    finds_as (Then (IsNumber w32) (λ n. IsEither (ltb max n) IsNothing (IsFixed n))) (IsOpaque max) (opaque_at max)
    (λ item text s. of_counted max s.first (ltb max s.first) item s.front s.back text refl s.front_is s.back_is s.text_is)
    (λ item text s. record {
      first = length item;
      front = s.encoded.front;
      front_is = s.encoded.first;
      back = s.encoded.back;
      back_is = to_counted max (ltb max (length item)) item s.encoded.back refl s.bound s.encoded.second;
      text_is = s.encoded.text_is;
    })
    (finds_then (IsNumber w32) (λ n. IsEither (ltb max n) IsNothing (IsFixed n)) (number_at w32) (λ n bytes. if ltb max n then Err TooLong else fixed_at n bytes) finds_u32 (finds_counted max))

-- a number that is a boolean
abbrev BooleanOf : ℕ → Bool → List ℕ → Type 0
BooleanOf n = IsEither (eqb n 0) (IsDone false) (IsEither (eqb n 1) (IsDone true) IsNothing)

finds_boolean_of : (n : ℕ) → Finds (BooleanOf n) (boolean_of n)
finds_boolean_of n =
    finds_either (eqb n 0) (IsDone false) (IsEither (eqb n 1) (IsDone true) IsNothing) (λ rest. Ok (false, rest)) (λ rest. if eqb n 1 then Ok (true, rest) else Err BadBool) (finds_done false)
    (finds_either (eqb n 1) (IsDone true) IsNothing (λ rest. Ok (true, rest)) (λ rest. Err BadBool) (finds_done true) (finds_fault BadBool))

of_done : (n : ℕ) (v value : Bool) (head back text : List ℕ) → n ≡ number_of v → IsNumber w32 n head → IsDone v value back → text ≡ head ++ back → IsBoolean value text
of_done n v value head back text n-is number d e =
    let whole : text ≡ head = e ∙ ap (λ t. head ++ t) d.text_is ∙ append-nil head in
    subst (λ t. IsBoolean value t) (sym whole) (subst (λ b. IsBoolean b head) d.value_is (subst (λ k. IsNumber w32 k head) n-is number))

of_boolean : (n : ℕ) (zero one : Bool) (value : Bool) (head back text : List ℕ) → eqb n 0 ≡ zero → eqb n 1 ≡ one → IsNumber w32 n head → IsEither zero (IsDone false) (IsEither one (IsDone true) IsNothing) value back → text ≡ head ++ back → IsBoolean value text
of_boolean n true one value head back text is any number d e = of_done n false value head back text (eqb-true n 0 is) number d e
of_boolean n false true value head back text not is number d e = of_done n true value head back text (eqb-true n 1 is) number d e
of_boolean n false false value head back text not none number d e = absurd d

to_boolean : (value : Bool) (text : List ℕ) → IsBoolean value text → Then (IsNumber w32) BooleanOf value text
to_boolean false text s = record { first = 0; front = text; front_is = s; back = []; back_is = record { value_is = refl; text_is = refl }; text_is = sym (append-nil text) }
to_boolean true text s = record { first = 1; front = text; front_is = s; back = []; back_is = record { value_is = refl; text_is = refl }; text_is = sym (append-nil text) }

pub finds_boolean : Finds IsBoolean boolean_at
finds_boolean =
    finds_as (Then (IsNumber w32) BooleanOf) IsBoolean boolean_at
    (λ value text s. of_boolean s.first (eqb s.first 0) (eqb s.first 1) value s.front s.back text refl refl s.front_is s.back_is s.text_is)
    to_boolean
    (finds_then (IsNumber w32) BooleanOf (number_at w32) boolean_of finds_u32 finds_boolean_of)

-- ---- enumerations

-- a value that was found, and no bytes
abbrev IsKnown : {A : Type 0} → Option A → A → List ℕ → Type 0
IsKnown o value text = (o ≡ Some value) × (text ≡ [])

some_is : {A : Type 0} (v w : A) → Some v ≡ Some w → v ≡ w
some_is v w e = cc

not_none : {A : Type 0} (v : A) → None ≡ Some v → ⊥
not_none v e = absurd cc

finds_known : {A : Type 0} (o : Option A) → Finds (IsKnown o) (known o)
finds_known None = record { found = λ bytes value rest are e. absurd cc; again = λ value text rest s. absurd (not_none value s.0) }
finds_known (Some v) =
    finds_as (IsDone v) (IsKnown (Some v)) (known (Some v)) (λ value text s. (ap Some s.value_is, s.text_is)) (λ value text s. record { value_is = some_is v value s.0; text_is = s.1 }) (finds_done v)

numbered_here : {A : Type 0} (number : A → ℕ) (n : ℕ) (v value : A) (b : Bool) (o : Option A) → eqb n (number v) ≡ b → (if b then Some v else o) ≡ Some value → (o ≡ Some value → n ≡ number value) → n ≡ number value
numbered_here number n v value true o is e later = eqb-true n (number v) is ∙ ap number (some_is v value e)
numbered_here number n v value false o is e later = later e

numbered_is : {A : Type 0} (number : A → ℕ) (values : List A) (n : ℕ) (value : A) → numbered number values n ≡ Some value → n ≡ number value
numbered_is number [] n value e = absurd (not_none value e)
numbered_is number (v ∷ values) n value e = numbered_here number n v value (eqb n (number v)) (numbered number values n) refl e (numbered_is number values n value)

of_enum : {A : Type 0} (number : A → ℕ) (n : ℕ) (value : A) (front back text : List ℕ) → n ≡ number value → IsNumber w32 n front → back ≡ [] → text ≡ front ++ back → IsEnum number value text
of_enum number n value front back text is encoded none e =
    let whole : text ≡ front = e ∙ ap (λ t. front ++ t) none ∙ append-nil front in
    subst (λ t. IsNumber w32 (number value) t) (sym whole) (subst (λ k. IsNumber w32 k front) is encoded)

-- where each value is found by its number
pub finds_enum : {A : Type 0} (number : A → ℕ) (values : List A) → ((value : A) → numbered number values (number value) ≡ Some value) → Finds (IsEnum number) (enum_at number values)
finds_enum number values all =
    finds_as (Then (IsNumber w32) (λ n. IsKnown (numbered number values n))) (IsEnum number) (enum_at number values)
    (λ value text s. of_enum number s.first value s.front s.back text (numbered_is number values s.first value s.back_is.0) s.front_is s.back_is.1 s.text_is)
    (λ value text s. record { first = number value; front = text; front_is = s; back = []; back_is = (all value, refl); text_is = sym (append-nil text) })
    (finds_then (IsNumber w32) (λ n. IsKnown (numbered number values n)) (number_at w32) (λ n bytes. known (numbered number values n) bytes) finds_u32 (λ n. finds_known (numbered number values n)))

-- ---- a value or none

abbrev IsPresent : {A : Type 0} → (A → List ℕ → Type 0) → Option A → List ℕ → Type 0
IsPresent {A} S o text = (a : A) × (Some a ≡ o) × S a text

of_optional : {A : Type 0} (S : A → List ℕ → Type 0) (b : Bool) (o : Option A) (front back text : List ℕ) → IsBoolean b front → IsEither b (IsPresent S) (IsDone None) o back → text ≡ front ++ back → IsOptional S o text
of_optional S true o front back text there s e = subst (λ x. IsOptional S x text) s.1 (record { front = front; first = there; back = back; second = s.2; text_is = e })
of_optional S false o front back text there s e =
    let whole : text ≡ front = e ∙ ap (λ t. front ++ t) s.text_is ∙ append-nil front in
    subst (λ x. IsOptional S x text) s.value_is (subst (λ t. IsBoolean false t) (sym whole) there)

to_optional : {A : Type 0} (S : A → List ℕ → Type 0) (o : Option A) (text : List ℕ) → IsOptional S o text → Then IsBoolean (λ b. IsEither b (IsPresent S) (IsDone None)) o text
to_optional S None text s = record { first = false; front = text; front_is = s; back = []; back_is = record { value_is = refl; text_is = refl }; text_is = sym (append-nil text) }
to_optional S (Some value) text s = record { first = true; front = s.front; front_is = s.first; back = s.back; back_is = (value, refl, s.second); text_is = s.text_is }

pub finds_optional : {A : Type 0} (S : A → List ℕ → Type 0) (read : List ℕ → Read A) → Finds S read → Finds (IsOptional S) (optional_at read)
finds_optional S read finds =
    finds_as (Then IsBoolean (λ b. IsEither b (IsPresent S) (IsDone None))) (IsOptional S) (optional_at read)
    (λ o text s. of_optional S s.first o s.front s.back text s.front_is s.back_is s.text_is)
    (to_optional S)
    (finds_then IsBoolean (λ b. IsEither b (IsPresent S) (IsDone None)) boolean_at (λ b bytes. if b then present_at read bytes else Ok (None, bytes)) finds_boolean
    (λ b. finds_either b (IsPresent S) (IsDone None) (present_at read) (λ bytes. Ok (None, bytes)) (finds_image S Some read finds) (finds_done None)))

-- ---- arrays

-- so many items
abbrev AreCounted : {A : Type 0} → (A → List ℕ → Type 0) → ℕ → List A → List ℕ → Type 0
AreCounted S n items text = (length items ≡ n) × AreItems S items text

-- the first item is this, and the others are encoded by the text
abbrev IsLed : {A : Type 0} → (A → List ℕ → Type 0) → ℕ → A → List A → List ℕ → Type 0
IsLed {A} S n first items text = (others : List A) × ((first ∷ others) ≡ items) × AreCounted S n others text

of_led : {A : Type 0} (S : A → List ℕ → Type 0) (n : ℕ) (first : A) (items : List A) (front back text : List ℕ) → S first front → IsLed S n first items back → text ≡ front ++ back → AreCounted S (suc n) items text
of_led S n first items front back text s led e =
    subst (λ xs. AreCounted S (suc n) xs text) led.1 (ap suc led.2.0, record { front = front; first = s; back = back; second = led.2.1; text_is = e })

to_led : {A : Type 0} (S : A → List ℕ → Type 0) (n : ℕ) (items : List A) (text : List ℕ) → AreCounted S (suc n) items text → Then S (IsLed S n) items text
to_led S n [] text s = absurd cc
to_led S n (item ∷ items) text s = record { first = item; front = s.1.front; front_is = s.1.first; back = s.1.back; back_is = (items, refl, (omega (arith, s.0), s.1.second)); text_is = s.1.text_is }

none_encoded : {A : Type 0} (S : A → List ℕ → Type 0) (items : List A) (text : List ℕ) → AreCounted S 0 items text → IsDone [] items text
none_encoded S [] text s = record { value_is = refl; text_is = s.1 }
none_encoded S (item ∷ items) text s = absurd cc

pub finds_items : {A : Type 0} (S : A → List ℕ → Type 0) (read : List ℕ → Read A) → Finds S read → (n : ℕ) → Finds (AreCounted S n) (items_at read n)
finds_items S read finds zero =
    finds_as (IsDone []) (AreCounted S 0) (items_at read 0)
    (λ items text s. subst (λ xs. AreCounted S 0 xs text) s.value_is (refl, s.text_is))
    (none_encoded S)
    (finds_done [])
finds_items S read finds (suc n) =
    finds_as (Then S (IsLed S n)) (AreCounted S (suc n)) (items_at read (suc n))
    (λ items text s. of_led S n s.first items s.front s.back text s.front_is s.back_is s.text_is)
    (to_led S n)
    (finds_then S (IsLed S n) read (λ first bytes. items_at read n bytes >>= λ p. Ok (first ∷ p.0, p.1)) finds
    (λ first. finds_image (AreCounted S n) (λ others. first ∷ others) (items_at read n) (finds_items S read finds n)))

of_array : {A : Type 0} (S : A → List ℕ → Type 0) (max n : ℕ) (b : Bool) (items : List A) (front back text : List ℕ) → ltb max n ≡ b → IsNumber w32 n front → IsEither b IsNothing (AreCounted S n) items back → text ≡ front ++ back → IsArray S max items text
of_array S max n true items front back text over number none e = absurd none
of_array S max n false items front back text within number s e = record {
  bound = omega (arith, ltb-false max n within, s.0);
  encoded = record { front = front; first = subst (λ k. IsNumber w32 k front) (sym s.0) number; back = back; second = s.1; text_is = e };
}

to_array : {A : Type 0} (S : A → List ℕ → Type 0) (max : ℕ) (b : Bool) (items : List A) (back : List ℕ) → ltb max (length items) ≡ b → length items ≤ max → AreItems S items back → IsEither b IsNothing (AreCounted S (length items)) items back
to_array S max true items back over bound s = omega (arith, ltb-true max (length items) over)
to_array S max false items back within bound s = (refl, s)

-- where each item is found
pub finds_array : {A : Type 0} (S : A → List ℕ → Type 0) (read : List ℕ → Read A) (max : ℕ) → Finds S read → Finds (IsArray S max) (array_at read max)
finds_array S read max finds =
    finds_as (Then (IsNumber w32) (λ n. IsEither (ltb max n) IsNothing (AreCounted S n))) (IsArray S max) (array_at read max)
    (λ items text s. of_array S max s.first (ltb max s.first) items s.front s.back text refl s.front_is s.back_is s.text_is)
    (λ items text s. record {
      first = length items;
      front = s.encoded.front;
      front_is = s.encoded.first;
      back = s.encoded.back;
      back_is = to_array S max (ltb max (length items)) items s.encoded.back refl s.bound s.encoded.second;
      text_is = s.encoded.text_is;
    })
    (finds_then (IsNumber w32) (λ n. IsEither (ltb max n) IsNothing (AreCounted S n)) (number_at w32) (λ n bytes. if ltb max n then Err TooLong else items_at read n bytes) finds_u32
    (λ n. finds_either (ltb max n) IsNothing (AreCounted S n) (λ bytes. Err TooLong) (items_at read n) (finds_fault TooLong) (finds_items S read finds n)))

-- ---- opaque data

-- what a reader of opaque data of a fixed length cuts off is encoded there
pub fixed_found : (n : ℕ) (bytes : List ℕ) → n ≤ length bytes → padding n ≤ length bytes - n → Begins (IsFixed n) (take n bytes) bytes (take (length bytes - (n + padding n)) (drop (n + padding n) bytes))
fixed_found n bytes item pad =
    let three = cut_in_three n (padding n) bytes (omega arith) in
    record {
      text = take n bytes ++ take (padding n) (drop n bytes);
      encoded = record { len_is = three.0; pad = take (padding n) (drop n bytes); pad_len = three.1; text_is = refl };
      bytes_are = subst (λ t. bytes ≡ (take n bytes ++ take (padding n) (drop n bytes)) ++ t) (sym (take_rest bytes (n + padding n))) three.2;
    }

-- a length within the bound, and then so many bytes, are opaque data
pub opaque_found : (max n : ℕ) (bytes middle item rest : List ℕ) → Begins (IsNumber w32) n bytes middle → n ≤ max → Begins (IsFixed n) item middle rest → Begins (IsOpaque max) item bytes rest
opaque_found max n bytes middle item rest number bound fixed =
    let len : n ≡ length item = sym fixed.encoded.len_is in
    record {
      text = number.text ++ fixed.text;
      encoded = record {
        bound = omega arith;
        encoded = record {
          front = number.text;
          first = subst (λ k. IsNumber w32 k number.text) len number.encoded;
          back = fixed.text;
          second = subst (λ k. IsFixed k item fixed.text) len fixed.encoded;
          text_is = refl;
        };
      };
      bytes_are = number.bytes_are ∙ ap (λ t. number.text ++ t) fixed.bytes_are ∙ sym (append_assoc number.text fixed.text rest);
    }

padding_len : (n : ℕ) (zeros : List ℕ) → n < 4 → length zeros ≡ 3 → length (take n zeros) ≡ n
padding_len n zeros below three = omega (arith, length-take n zeros)

-- the padding that is written
pub fixed_written : (item : List ℕ) → IsFixed (length item) item (fixed_text item)
fixed_written item = record { len_is = refl; pad = take (padding (length item)) (0 ∷ 0 ∷ 0 ∷ []); pad_len = padding_len (padding (length item)) (0 ∷ 0 ∷ 0 ∷ []) (omega arith) refl; text_is = refl }

pub opaque_written : (max : ℕ) (item : List ℕ) → length item < 2 ^ 32 → length item ≤ max → IsOpaque max item (opaque_text item)
opaque_written max item counted bound = record {
  bound = bound;
  encoded = record { front = to_be_bytes w32 (length item); first = record { fits = counted; text_is = refl }; back = fixed_text item; second = fixed_written item; text_is = refl };
}

-- what a loop has after one number more
pub numbers_more : (w : Width) (ns : List ℕ) (words : List (List ℕ)) (i : ℕ) (word : List ℕ) → i < length ns → i < length words
    → word ≡ to_be_bytes w (get_or ns i 0)
    → flat_map (λ t. t) (take i words) ≡ flat_map (to_be_bytes w) (take i ns)
    → flat_map (λ t. t) (take (i + 1) (set words i word)) ≡ flat_map (to_be_bytes w) (take (i + 1) ns)
numbers_more w ns words i word in_numbers in_words word_is before =
    ap (flat_map (λ t. t)) (take_more_set words i word in_words)
    ∙ flat_map-append (λ t. t) (take i words) (word ∷ [])
    ∙ ap (λ t. t ++ (word ++ [])) before
    ∙ ap (λ t. flat_map (to_be_bytes w) (take i ns) ++ (t ++ [])) word_is
    ∙ sym (ap (flat_map (to_be_bytes w)) (take_more ns i 0 in_numbers) ∙ flat_map-append (to_be_bytes w) (take i ns) (get_or ns i 0 ∷ []))

cons_same : (m n : ℕ) (ms ns : List ℕ) → m ≡ n → ms ≡ ns → m ∷ ms ≡ n ∷ ns
cons_same m n ms ns head tail = ap (λ k. k ∷ ms) head ∙ ap (λ t. n ∷ t) tail

-- the bytes of a hyper integer are those of its two halves
pub halves_text : (n : ℕ) → numbers_text (n / 4294967296 ∷ n % 4294967296 ∷ []) ≡ to_be_bytes w64 n
halves_text n =
    cons_same _ _ _ _ (omega arith)
    (cons_same _ _ _ _ (omega arith)
    (cons_same _ _ _ _ (omega arith)
    (cons_same _ _ _ _ (omega arith)
    (cons_same _ _ _ _ (omega arith)
    (cons_same _ _ _ _ (omega arith)
    (cons_same _ _ _ _ (omega arith)
    (cons_same _ _ _ _ (omega arith) refl)))))))

-- the bytes of two unsigned integers are those of the hyper integer of which they are the halves
pub hyper_text : (n high low : ℕ) → n ≡ high * 4294967296 + low → low < 4294967296 → to_be_bytes w64 n ≡ numbers_text (high ∷ low ∷ [])
hyper_text n high low n_is below =
    sym (halves_text n)
    ∙ ap numbers_text (cons_same _ _ _ _ (omega (arith, n_is, below)) (cons_same _ _ [] [] (omega (arith, n_is, below)) refl))

pub encoded_more : (w : Width) (ns : List ℕ) (i : ℕ)
    → ((j : ℕ) → j < i → IsNumber w (get_or ns j 0) (to_be_bytes w (get_or ns j 0)))
    → IsNumber w (get_or ns i 0) (to_be_bytes w (get_or ns i 0))
    → (j : ℕ) → j < i + 1 → IsNumber w (get_or ns j 0) (to_be_bytes w (get_or ns j 0))
encoded_more w ns i before last j below = encoded_by (cases_lt j i)
  where
    encoded_by : (j < i) ⊎ (i ≤ j) → IsNumber w (get_or ns j 0) (to_be_bytes w (get_or ns j 0))
    encoded_by (inl less) = before j less
    encoded_by (inr more) = subst (λ k. IsNumber w (get_or ns k 0) (to_be_bytes w (get_or ns k 0))) (omega (arith, below, more)) last

-- numbers that are each encoded are items one after another
pub are_numbers : (w : Width) (ns : List ℕ)
    → ((j : ℕ) → j < length ns → IsNumber w (get_or ns j 0) (to_be_bytes w (get_or ns j 0)))
    → AreItems (IsNumber w) ns (flat_map (to_be_bytes w) ns)
are_numbers w [] each = refl
are_numbers w (n ∷ ns) each = record {
  front = to_be_bytes w n;
  first = each 0 (omega arith);
  back = flat_map (to_be_bytes w) ns;
  second = are_numbers w ns (λ j below. each (suc j) (omega (arith, below)));
  text_is = refl;
}

pub boolean_written : (b : Bool) → IsBoolean b (to_be_bytes w32 (number_of b))
boolean_written true = record { fits = omega arith; text_is = refl }
boolean_written false = record { fits = omega arith; text_is = refl }

pub encoded_at : (w : Width) (ns text : List ℕ) → AreItems (IsNumber w) ns text → (i : ℕ) → i < length ns
    → IsNumber w (get_or ns i 0) (to_be_bytes w (get_or ns i 0))
encoded_at w [] text are i below = absurd (omega (arith, below))
encoded_at w (n ∷ ns) text are zero below = record { fits = are.first.fits; text_is = refl }
encoded_at w (n ∷ ns) text are (suc i) below = encoded_at w ns are.back are.second i (omega (arith, below))
