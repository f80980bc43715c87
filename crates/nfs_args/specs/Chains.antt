-- Chains: items one after another, each after the boolean that says that it is there, and then the boolean
-- that says that none follows (RFC 4506, section 4.19).
use Rattle.std.specs.Prelude.{ℕ, true, false, List, [], ◌∷◌, ◌++◌}
use Rattle.std.specs.Int.{w32, to_be_bytes}
use Rattle.std.specs.List.{flat_map}
use Rattle.nfs_xdr.specs.Encoding.{IsBoolean, ◌⨾◌}

abbrev pub IsChain : {A : Type 0} → (A → List ℕ → Type 0) → List A → List ℕ → Type 0
IsChain Encodes [] text = IsBoolean false text
IsChain Encodes (item ∷ items) text = (IsBoolean true ⨾ Encodes item ⨾ IsChain Encodes items) text

-- an item after its boolean
abbrev pub chained_text : {A : Type 0} → (A → List ℕ) → A → List ℕ
chained_text text item = to_be_bytes w32 1 ++ text item

-- items of a chain, without its end
abbrev pub links_text : {A : Type 0} → (A → List ℕ) → List A → List ℕ
links_text text items = flat_map (chained_text text) items

abbrev pub chain_text : {A : Type 0} → (A → List ℕ) → List A → List ℕ
chain_text text items = links_text text items ++ to_be_bytes w32 0

-- this holds of each item
abbrev pub Each : {A : Type 0} → (A → Type 0) → List A → Type 0
Each P [] = Unit {0}
Each P (item ∷ items) = P item × Each P items

-- each item is encoded by its text
abbrev pub AreEncoded : {A : Type 0} → (A → List ℕ → Type 0) → (A → List ℕ) → List A → Type 0
AreEncoded Encodes text = Each (λ item. Encodes item (text item))

-- where each item is encoded by its text, the chain is encoded by theirs
abbrev pub EncodesChains : {A : Type 0} → (A → List ℕ → Type 0) → (A → List ℕ) → Type 0
EncodesChains {A} Encodes text = (items : List A) → AreEncoded Encodes text items → IsChain Encodes items (chain_text text items)
