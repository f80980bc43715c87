-- Volumes by their paths, and their roots.
use Rattle.std.proofs.Common.{◌≡◌, ℕ, ◌+◌, ◌<◌, Bool, true, false, cond, List, [], ◌∷◌, length, slice_get, Option, Some, None, refl, sym, ap, ◌∙◌, is_some, arith}
use Rattle.std.proofs.lemmas.Bool.{true≢false}
use Rattle.std.specs.Prelude.{option_map}
use Rattle.nfs_inodes.specs.Law.{Law}
use Rattle.nfs_inodes.specs.Reading.{attributes_of, attributes_at, index_where}
use Rattle.nfs_inodes.specs.Tree.{Tree, Volume, nlink}

-- an index is one of those of the list
pub index_within : {X : Type 0} (p : X → Bool) (xs : List X) (n : ℕ) → index_where p xs ≡ Some n → n < length xs
index_within p [] n e = absurd (true≢false (sym (ap is_some e)))
index_within {X} p (x ∷ xs) n e = by (p x) (index_where p xs) refl e (index_within p xs)
  where
    some : (a b : ℕ) → Some a ≡ Some b → a ≡ b
    some a b same = cc

    by : (b : Bool) (o : Option ℕ) → index_where p xs ≡ o → cond b (Some 0) (option_map (λ n. n + 1) (index_where p xs)) ≡ Some n → ((m : ℕ) → index_where p xs ≡ Some m → m < length xs) → n < length (x ∷ xs)
    by true o f g later = let zero_is = some 0 n g in omega (arith, zero_is)
    by false None f g later = absurd (true≢false (sym (ap is_some (sym (ap (option_map (λ n. n + 1)) f) ∙ g))))
    by false (Some m) f g later = let within = later m f in let next = some (m + 1) n (sym (ap (option_map (λ n. n + 1)) f) ∙ g) in omega (arith, within, next)

-- the root of a volume lives
pub root_lives : (t : Tree) (index : ℕ) (v : Volume) → Law t → slice_get t.volumes index ≡ Some v → attributes_at t v.root ≡ None → ⊥
root_lives t index v law at_index none = let root = law.roots index v at_index in
    true≢false (ap (λ o. is_some (option_map (λ f. attributes_of v.root f (nlink t.files v.root f)) o)) (sym root.1.0) ∙ ap is_some none)
