-- Which bytes encode which value of an XDR item (RFC 4506).
use Rattle.std.specs.Prelude.{◌≡◌, ℕ, ◌-◌, ◌%◌, ◌^◌, ◌<◌, ◌≤◌, Bool, true, false, List, [], ◌∷◌, ◌++◌, Option, Some, None, length, take, if◌then◌else◌}
use Rattle.std.specs.List.{flat_map}
use Rattle.std.specs.Int.{Width, w32, w64, byte_len, to_be_bytes}

-- an unsigned integer (section 4.2, w32) or unsigned hyper integer (section 4.5, w64), the most significant byte first
pub record IsNumber (w : Width) (n : ℕ) (text : List ℕ) : Type 0 where
  pub fits : n < 256 ^ byte_len w
  pub text_is : text ≡ to_be_bytes w n

-- a boolean: the integer 1 or 0 (section 4.4)
abbrev pub number_of : Bool → ℕ
number_of b = if b then 1 else 0

abbrev pub IsBoolean : Bool → List ℕ → Type 0
IsBoolean b text = IsNumber w32 (number_of b) text

-- an enumeration: the number of one of its values (section 4.3)
abbrev pub IsEnum : {A : Type 0} → (A → ℕ) → A → List ℕ → Type 0
IsEnum number value text = IsNumber w32 (number value) text

-- how many bytes of padding follow n bytes, up to a multiple of four (section 3)
abbrev pub padding : ℕ → ℕ
padding n = (4 - n % 4) % 4

-- opaque data of a fixed length, and any padding (section 4.9)
pub record IsFixed (len : ℕ) (item text : List ℕ) : Type 0 where
  pub len_is : length item ≡ len
  pub pad : List ℕ
  pub pad_len : length pad ≡ padding len
  pub text_is : text ≡ item ++ pad

-- one text, and then another
pub record IsFollowed (First Second : List ℕ → Type 0) (text : List ℕ) : Type 0 where
  pub front : List ℕ
  pub first : First front
  pub back : List ℕ
  pub second : Second back
  pub text_is : text ≡ front ++ back

-- fields stand one after another (section 4.14)
infixr 5 ◌⨾◌
abbrev pub ◌⨾◌ : (List ℕ → Type 0) → (List ℕ → Type 0) → List ℕ → Type 0
(First ⨾ Second) text = IsFollowed First Second text

-- a value, or none: a boolean says which (section 4.19)
abbrev pub IsOptional : {A : Type 0} → (A → List ℕ → Type 0) → Option A → List ℕ → Type 0
IsOptional Encodes None text = IsBoolean false text
IsOptional Encodes (Some value) text = (IsBoolean true ⨾ Encodes value) text

-- opaque data of at most max bytes: its length, its bytes, and any padding (section 4.10)
pub record IsOpaque (max : ℕ) (item text : List ℕ) : Type 0 where
  pub bound : length item ≤ max
  pub encoded : (IsNumber w32 (length item) ⨾ IsFixed (length item) item) text

-- items of one kind, one after another
abbrev pub AreItems : {A : Type 0} → (A → List ℕ → Type 0) → List A → List ℕ → Type 0
AreItems Encodes [] text = text ≡ []
AreItems Encodes (item ∷ items) text = (Encodes item ⨾ AreItems Encodes items) text

-- an array of at most max items: how many, and then each of them (section 4.13)
pub record IsArray {A : Type 0} (Encodes : A → List ℕ → Type 0) (max : ℕ) (items : List A) (text : List ℕ) : Type 0 where
  pub bound : length items ≤ max
  pub encoded : (IsNumber w32 (length items) ⨾ AreItems Encodes items) text

-- the texts that are written: the padding is zeros
abbrev pub pad_text : ℕ → List ℕ
pad_text n = take (padding n) (0 ∷ 0 ∷ 0 ∷ [])

abbrev pub fixed_text : List ℕ → List ℕ
fixed_text item = item ++ pad_text (length item)

abbrev pub opaque_text : List ℕ → List ℕ
opaque_text item = to_be_bytes w32 (length item) ++ fixed_text item

-- unsigned integers, one after another
abbrev pub numbers_text : List ℕ → List ℕ
numbers_text ns = flat_map (to_be_bytes w32) ns

-- unsigned hyper integers, one after another
abbrev pub hypers_text : List ℕ → List ℕ
hypers_text ns = flat_map (to_be_bytes w64) ns

-- a value after the boolean that says that it is there, or the boolean that says that none is
abbrev pub optional_text : {A : Type 0} → (A → List ℕ) → Option A → List ℕ
optional_text text None = to_be_bytes w32 0
optional_text text (Some value) = to_be_bytes w32 1 ++ text value

-- at the front of the bytes stands an encoding of the value, and this rest follows it
pub record Begins {A : Type 0} (Encodes : A → List ℕ → Type 0) (value : A) (bytes rest : List ℕ) : Type 0 where
  pub text : List ℕ
  pub encoded : Encodes value text
  pub bytes_are : bytes ≡ text ++ rest

-- at the front of the bytes stands no encoding of any value
abbrev pub BeginsNone : {A : Type 0} → (A → List ℕ → Type 0) → List ℕ → Type 0
BeginsNone {A} Encodes bytes = (value : A) (rest : List ℕ) → Begins Encodes value bytes rest → ⊥

-- Where two encodings stand at the front of the same bytes, they are one: so none begins an encoding of another value.
abbrev pub EncodesOnce : {A : Type 0} → (A → List ℕ → Type 0) → Type 0
EncodesOnce {A} Encodes = (v w : A) (a b x y : List ℕ) → Encodes v a → Encodes w b → a ++ x ≡ b ++ y → (v ≡ w) × (a ≡ b)
