-- What is written of lists, one item after another.
use Rattle.std.proofs.Common.{◌≡◌, ℕ, ◌+◌, ◌<◌, ◌≤◌, List, [], ◌∷◌, ◌++◌, length, map, take, refl, sym, ap, subst, ◌∙◌, append-nil, arith}
use Rattle.std.specs.Int.{w32, to_be_bytes}
use Rattle.std.specs.List.{range_with_len}
use Rattle.std.proofs.lemmas.List.{take_all, take_more}
use Rattle.std.proofs.Math.ListN.{get_or}
use Rattle.std.proofs.lemmas.List.FromFn.{map-range_with_len_more}
use Rattle.std.proofs.lemmas.Grind.{flat_map-append}
use Rattle.nfs_args.specs.Chains.{Each, AreEncoded, IsChain, chained_text, links_text, chain_text}
use Rattle.nfs_args.proofs.Chains.{chain_written}
use Rattle.nfs_args.specs.MountAnswers.{IsExported, exported_text}
use Rattle.nfs_args.specs.declared.exported.Exported.{Exported}
use Rattle.nfs_args.specs.declared.mounted.Mounted.{Mounted}
use Rattle.nfs_xdr.specs.Written.{Written, Appends}
use Rattle.nfs_xdr.proofs.Writing.{appends_then}

each_with : {A : Type 0} (P : A → Type 0) (xs : List A) (x : A) → Each P xs → P x → Each P (xs ++ x ∷ [])
each_with P [] x each one = (one, tt)
each_with P (y ∷ xs) x each one = (each.0, each_with P xs x each.1 one)

module _ {B : Type 0} (text : B → List ℕ) where
  links_mapped : {A : Type 0} (reported : A → B) (xs : List A) → links_text (λ x. text (reported x)) xs ≡ links_text text (map reported xs)
  links_mapped reported [] = refl
  links_mapped reported (x ∷ xs) = ap (λ t. chained_text text (reported x) ++ t) (links_mapped reported xs)

  -- all items were written
  pub all_written : {A : Type 0} (reported : A → B) (items : List A) (i : ℕ) (old new : Written) → length items ≤ i → Appends (links_text (λ x. text (reported x)) (take i items)) old new → Appends (links_text text (map reported items)) old new
  all_written reported items i old new history before = subst (λ t. Appends t old new) (ap (links_text (λ x. text (reported x))) (take_all i items history) ∙ links_mapped reported items) before

  -- and that none follows
  pub chain_ended : {A : Type 0} (reported : A → B) (items : List A) (i : ℕ) (old mid new : Written) → length items ≤ i → Appends (links_text (λ x. text (reported x)) (take i items)) old mid → Appends (to_be_bytes w32 0) mid new
      → Appends (chain_text text (map reported items)) old new
  chain_ended reported items i old mid new history before end = appends_then (links_text text (map reported items)) (to_be_bytes w32 0) old mid new (all_written reported items i old mid history before) end

  -- one more of those by their places
  pub place_appended : (reported : ℕ → B) (n : ℕ) (old mid new : Written) → Appends (links_text text (map reported (range_with_len 0 n))) old mid → Appends (chained_text text (reported n)) mid new → Appends (links_text text (map reported (range_with_len 0 (n + 1)))) old new
  place_appended reported n old mid new before one =
      let more : links_text text (map reported (range_with_len 0 (n + 1))) ≡ links_text text (map reported (range_with_len 0 n)) ++ chained_text text (reported n) =
      ap (links_text text) (map-range_with_len_more reported 0 n n (omega arith))
      ∙ flat_map-append (chained_text text) (map reported (range_with_len 0 n)) (reported n ∷ [])
      ∙ ap (λ t. links_text text (map reported (range_with_len 0 n)) ++ t) (append-nil (chained_text text (reported n))) in
      subst (λ t. Appends t old new) (sym more) (appends_then (links_text text (map reported (range_with_len 0 n))) (chained_text text (reported n)) old mid new before one)

  pub places_ended : (reported : ℕ → B) (n m : ℕ) (old mid new : Written) → n ≡ m → Appends (links_text text (map reported (range_with_len 0 n))) old mid → Appends (to_be_bytes w32 0) mid new → Appends (chain_text text (map reported (range_with_len 0 m))) old new
  places_ended reported n m old mid new all before end =
      subst (λ k. Appends (chain_text text (map reported (range_with_len 0 k))) old new) all (appends_then (links_text text (map reported (range_with_len 0 n))) (to_be_bytes w32 0) old mid new before end)

module _ {B : Type 0} (text : B → List ℕ) (Encodes : B → List ℕ → Type 0) where
  each_mapped : {A : Type 0} (reported : A → B) (xs : List A) → Each (λ x. Encodes (reported x) (text (reported x))) xs → AreEncoded Encodes text (map reported xs)
  each_mapped reported [] each = tt
  each_mapped reported (x ∷ xs) each = (each.0, each_mapped reported xs each.1)

  -- all items are encoded by what was written
  pub all_encoded : {A : Type 0} (reported : A → B) (items : List A) (i : ℕ) → length items ≤ i → Each (λ x. Encodes (reported x) (text (reported x))) (take i items) → AreEncoded Encodes text (map reported items)
  all_encoded reported items i history each = each_mapped reported items (subst (Each (λ x. Encodes (reported x) (text (reported x)))) (take_all i items history) each)

  pub chain_encoded : {A : Type 0} (reported : A → B) (items : List A) (i : ℕ) → length items ≤ i → Each (λ x. Encodes (reported x) (text (reported x))) (take i items) → IsChain Encodes (map reported items) (chain_text text (map reported items))
  chain_encoded reported items i history each = chain_written Encodes text (map reported items) (all_encoded reported items i history each)

  -- one more of those by their places
  pub place_encoded : (reported : ℕ → B) (n : ℕ) → AreEncoded Encodes text (map reported (range_with_len 0 n)) → Encodes (reported n) (text (reported n)) → AreEncoded Encodes text (map reported (range_with_len 0 (n + 1)))
  place_encoded reported n each one = subst (AreEncoded Encodes text) (sym (map-range_with_len_more reported 0 n n (omega arith))) (each_with (λ x. Encodes x (text x)) (map reported (range_with_len 0 n)) (reported n) each one)

  pub places_encoded : (reported : ℕ → B) (n m : ℕ) → n ≡ m → AreEncoded Encodes text (map reported (range_with_len 0 n)) → IsChain Encodes (map reported (range_with_len 0 m)) (chain_text text (map reported (range_with_len 0 m)))
  places_encoded reported n m all each = subst (λ k. IsChain Encodes (map reported (range_with_len 0 k)) (chain_text text (map reported (range_with_len 0 k)))) all (chain_written Encodes text (map reported (range_with_len 0 n)) each)

module _ {A : Type 0} (items : List A) (i : ℕ) (d : A) (below : i < length items) where
  -- one more item was written
  pub next_appended : (text : A → List ℕ) (old mid new : Written) → Appends (links_text text (take i items)) old mid → Appends (chained_text text (get_or items i d)) mid new → Appends (links_text text (take (i + 1) items)) old new
  next_appended text old mid new before one =
      let more : links_text text (take (i + 1) items) ≡ links_text text (take i items) ++ chained_text text (get_or items i d) =
      ap (links_text text) (take_more items i d below)
      ∙ flat_map-append (chained_text text) (take i items) (get_or items i d ∷ [])
      ∙ ap (λ t. links_text text (take i items) ++ t) (append-nil (chained_text text (get_or items i d))) in
      subst (λ t. Appends t old new) (sym more) (appends_then (links_text text (take i items)) (chained_text text (get_or items i d)) old mid new before one)

  pub next_encoded : (P : A → Type 0) → Each P (take i items) → P (get_or items i d) → Each P (take (i + 1) items)
  next_encoded P each one = subst (Each P) (sym (take_more items i d below)) (each_with P (take i items) (get_or items i d) each one)

-- a volume's path and its chain
pub volume_encoded : (path : List ℕ) (groups : List (List ℕ)) (e : Exported) → path ≡ e.path → groups ≡ e.groups → IsExported (record { path = path; groups = groups }) (exported_text (record { path = path; groups = groups })) → IsExported e (exported_text e)
volume_encoded path groups e same_path same_groups encoded =
    let same : record { path = path; groups = groups } ≡ e = λ i. record { path = same_path i; groups = same_groups i } in
    subst (λ (v : Exported). IsExported v (exported_text v)) same encoded

-- a client's address and path
pub client_reported : (P : Mounted → Type 0) (host path : List ℕ) (m : Mounted) → host ≡ m.host → path ≡ m.path → P (record { host = host; path = path }) → P m
client_reported P host path m same_host same_path holds =
    let same : record { host = host; path = path } ≡ m = λ i. record { host = same_host i; path = same_path i } in
    subst P same holds
