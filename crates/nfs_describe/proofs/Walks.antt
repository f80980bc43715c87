-- The walks of volumes, one after the other.
use Rattle.std.proofs.Common.{inl, inr, ◌≡◌, ◌⊎◌, ℕ, zero, suc, ◌+◌, List, [], ◌∷◌, ◌++◌, length, slice_get, Option, Some, None, option_map, refl, sym, ap, subst, ◌∙◌, arith}
use Rattle.std.specs.Prelude.{Vec}
use Rattle.std.proofs.lemmas.List.{length-append, map-append}
use Rattle.nfs_inodes.specs.Tree.{Tree, Volume}
use Rattle.nfs_describe.specs.Places.{FilePath, IsWalk, walks_of}

same : {X : Type 0} (a b : X) → Some a ≡ Some b → a ≡ b
same a b e = cc

pub none_is : {X : Type 0} (a : X) → None ≡ Some a → ⊥
none_is a e = cc

next_same : {X : Type 0} (y : X) (xs : List X) (i : ℕ) → i ≡ length xs → suc i ≡ length (y ∷ xs)
next_same y xs i e = omega (arith, e)

-- what a list with one more at its end has at an index
with_last : {X : Type 0} (xs : List X) (last x : X) (i : ℕ) → slice_get (xs ++ last ∷ []) i ≡ Some x → (slice_get xs i ≡ Some x) ⊎ ((i ≡ length xs) × (last ≡ x))
with_last [] last x zero is = inr (refl, same last x is)
with_last [] last x (suc i) is = absurd (none_is x is)
with_last (y ∷ xs) last x zero is = inl is
with_last (y ∷ xs) last x (suc i) is = elim (with_last xs last x i is) [
  | inl kept ↦ inl kept
  | inr new ↦ inr (next_same y xs i new.0, new.1)
]

-- the walks of the first n volumes
pub record AreFirst (t : Tree) (n : ℕ) (walks : List (List FilePath)) : Type 0 where
  pub each : length walks ≡ n
  pub walked : (index : ℕ) (v : Volume) (walk : List FilePath) → slice_get t.volumes index ≡ Some v → slice_get walks index ≡ Some walk → IsWalk t v.root walk

abbrev pub root_in : Tree → ℕ → Option ℕ
root_in t n = option_map (λ (v : Volume). v.root) (slice_get t.volumes n)

-- the walk at an index, where the last one is that of the volume at n
walked_at : (t : Tree) (n root : ℕ) (walks : List (List FilePath)) (last : List FilePath) → AreFirst t n walks → root_in t n ≡ Some root → IsWalk t root last
    → (index : ℕ) (v : Volume) (walk : List FilePath) → slice_get t.volumes index ≡ Some v → slice_get (walks ++ last ∷ []) index ≡ Some walk → IsWalk t v.root walk
walked_at t n root walks last are root_is walked index v walk volume found = elim (with_last walks last walk index found) [
  | inl kept ↦ are.walked index v walk volume kept
  | inr new ↦
      let own : v.root ≡ root = same v.root root (ap (option_map (λ (v : Volume). v.root)) (sym volume) ∙ ap (root_in t) (new.0 ∙ are.each) ∙ root_is) in
      subst (IsWalk t v.root) new.1 (subst (λ r. IsWalk t r last) (sym own) walked)
]

pub first_walks_more : (t : Tree) (n root : ℕ) (walks new : List (List FilePath)) (last : List FilePath) → AreFirst t n walks → root_in t n ≡ Some root → IsWalk t root last → new ≡ walks ++ last ∷ []
    → AreFirst t (n + 1) new
first_walks_more t n root walks new last are root_is walked is = record {
  each = omega (arith, ap length is, length-append walks (last ∷ []), are.each);
  walked = λ index v walk volume found. walked_at t n root walks last are root_is walked index v walk volume (subst (λ l. slice_get l index ≡ Some walk) is found);
}

pub walks_pushed : {Z : Type 0} (old new : List (Vec FilePath Z)) (walk : Vec FilePath Z) → new ≡ old ++ walk ∷ [] → walks_of new ≡ walks_of old ++ walk.items ∷ []
walks_pushed {Z} old new walk is = ap walks_of is ∙ map-append (λ (w : Vec FilePath Z). w.items) old (walk ∷ [])
