-- Places of keys: what a caller cites.
use Rattle.std.proofs.Common.{◌≡◌, ℕ, true, cond, ◌&&◌, List, ◌∷◌, refl, ap, ◌∙◌}
use Rattle.std.specs.Prelude.{nat_eq}
use Rattle.std.specs.Cmp.Lexicographic.{pointwise, bytes_decides}
use Rattle.std.proofs.lemmas.Bool.{and_parts}
use Rattle.std.proofs.lemmas.Bool.Decides.{Decides-eqb}
use Rattle.nfs_reply_cache.specs.Places.{Key, Place, same, place_for, without}

alike : (a b : Key) → a.0.0 ≡ b.0.0 → a.1 ≡ b.1 → a ≡ b
alike a b n l = ap (λ x. (record { 0 = x }, a.1)) n ∙ ap (λ x. (b.0, x)) l

pub same_keys : (a b : Key) → same a b ≡ true → a ≡ b
same_keys a b e = let parts = and_parts (nat_eq a.0.0 b.0.0) (pointwise nat_eq a.1 b.1) e in
    alike a b ((Decides-eqb a.0.0 b.0.0).0 parts.0) ((bytes_decides a.1 b.1).0 parts.1)

pub same_self : (key : Key) → same key key ≡ true
same_self key = ap (λ b. b && pointwise nat_eq key.1 key.1) ((Decides-eqb key.0.0 key.0.0).1 refl) ∙ (bytes_decides key.1 key.1).1 refl

-- the place at the front is taken out
pub without_first : (key : Key) (was : List ℕ) (rest : List Place) → without key (place_for key was ∷ rest) ≡ rest
without_first key was rest = ap (λ b. cond b rest (place_for key was ∷ without key rest)) (same_self key)
