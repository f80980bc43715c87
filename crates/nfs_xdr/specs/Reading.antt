-- Reading from left to right: the value and the bytes after it, or the first fault that is met.
use Rattle.std.specs.Prelude.{suc, zero, ◌≡◌, ℕ, ◌+◌, ◌<◌, Bool, true, false, List, [], ◌∷◌, ◌++◌, length, take, drop, Option, Some, None}
use Rattle.std.specs.Prelude.{Result, Ok, Err, if◌then◌else◌, nat_lt, nat_eq, slice_index}
use Rattle.std.specs.Int.{Width, w32, byte_len, from_be_bytes}
use Rattle.nfs_xdr.specs.declared.fault.XdrFault.{XdrFault}
use Rattle.nfs_xdr.specs.declared.fault.XdrFault.TheVariants.{Short, TooLong, BadBool, BadEnum}
use Rattle.nfs_xdr.specs.Encoding.{padding, Begins, BeginsNone}

-- a value and the bytes after it, or a fault
abbrev pub Read : Type 0 → Type 0
Read A = Result (A × List ℕ) XdrFault

-- one after the other, where the first has no fault
infixl 10 ◌>>=◌
abbrev pub ◌>>=◌ : {A B E : Type 0} → Result A E → (A → Result B E) → Result B E
(Ok x) >>= f = f x
(Err e) >>= f = Err e

abbrev pub number_at : Width → List ℕ → Read ℕ
number_at w bytes = if nat_lt (length bytes) (byte_len w) then Err Short else Ok (from_be_bytes w (take (byte_len w) bytes), drop (byte_len w) bytes)

abbrev pub boolean_of : ℕ → List ℕ → Read Bool
boolean_of n rest = if nat_eq n 0 then Ok (false, rest) else (if nat_eq n 1 then Ok (true, rest) else Err BadBool)

abbrev pub boolean_at : List ℕ → Read Bool
boolean_at bytes = do
  n ← number_at w32 bytes
  boolean_of n.0 n.1

-- which of some values has this number
abbrev pub numbered : {A : Type 0} → (A → ℕ) → List A → ℕ → Option A
numbered number [] n = None
numbered number (value ∷ values) n = if nat_eq n (number value) then Some value else numbered number values n

abbrev pub known : {A : Type 0} → Option A → List ℕ → Read A
known None rest = Err BadEnum
known (Some value) rest = Ok (value, rest)

-- an enumeration of these values
abbrev pub enum_at : {A : Type 0} → (A → ℕ) → List A → List ℕ → Read A
enum_at number values bytes = do
  n ← number_at w32 bytes
  known (numbered number values n.0) n.1

-- a value where there is one
abbrev pub present_at : {A : Type 0} → (List ℕ → Read A) → List ℕ → Read (Option A)
present_at read bytes = do
  value ← read bytes
  Ok (Some value.0, value.1)

abbrev pub optional_at : {A : Type 0} → (List ℕ → Read A) → List ℕ → Read (Option A)
optional_at read bytes = do
  there ← boolean_at bytes
  if there.0 then present_at read there.1 else Ok (None, there.1)

-- n bytes and their padding
abbrev pub fixed_at : ℕ → List ℕ → Read (List ℕ)
fixed_at n bytes = if nat_lt (length bytes) (n + padding n) then Err Short else Ok (take n bytes, drop (n + padding n) bytes)

-- a length, which is judged before the bytes are looked for
abbrev pub opaque_at : ℕ → List ℕ → Read (List ℕ)
opaque_at max bytes = do
  n ← number_at w32 bytes
  if nat_lt max n.0 then Err TooLong else fixed_at n.0 n.1

-- so many items, one after another
abbrev pub items_at : {A : Type 0} → (List ℕ → Read A) → ℕ → List ℕ → Read (List A)
items_at read zero bytes = Ok ([], bytes)
items_at read (suc n) bytes = do
  item ← read bytes
  items ← items_at read n item.1
  Ok (item.0 ∷ items.0, items.1)

-- how many items there are, which is judged before they are looked for
abbrev pub array_at : {A : Type 0} → (List ℕ → Read A) → ℕ → List ℕ → Read (List A)
array_at read max bytes = do
  n ← number_at w32 bytes
  if nat_lt max n.0 then Err TooLong else items_at read n.0 n.1

-- What a reader answered, seen by view, is what reading gives. A fault leaves the bytes as they were.
abbrev pub Gives : {X A : Type 0} → (X → A) → List ℕ → List ℕ → Result X XdrFault → Read A → Type 0
Gives view old new (Ok x) read = read ≡ Ok (view x, new)
Gives view old new (Err e) read = (read ≡ Err e) × (new ≡ old)

-- A reader answered a value that is encoded at the front, with the bytes after it; or no value is encoded there, and the bytes are as they were.
abbrev pub Reads : {X A : Type 0} → (X → A) → (A → List ℕ → Type 0) → List ℕ → List ℕ → Result X XdrFault → Type 0
Reads view Encodes old new (Ok x) = Begins Encodes (view x) old new
Reads view Encodes old new (Err e) = BeginsNone Encodes old × (new ≡ old)

-- a list of numbers that are bytes
abbrev pub AreBytes : List ℕ → Type 0
AreBytes bytes = (i : ℕ) → slice_index bytes i < 256

-- Reading finds what is encoded, all of it, and nothing else.
pub record Finds {A E : Type 0} (Encodes : A → List ℕ → Type 0) (read : List ℕ → Result (A × List ℕ) E) : Type 0 where
  pub found : (bytes : List ℕ) (value : A) (rest : List ℕ) → AreBytes bytes → read bytes ≡ Ok (value, rest) → Begins Encodes value bytes rest
  pub again : (value : A) (text rest : List ℕ) → Encodes value text → read (text ++ rest) ≡ Ok (value, rest)
