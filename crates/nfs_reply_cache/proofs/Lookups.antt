-- Look-ups among the first places, and in places of which one was taken out.
use Rattle.std.proofs.Common.{◌≡◌, ℕ, zero, suc, ◌+◌, ◌-◌, ◌≤◌, Bool, true, false, cond, List, [], ◌∷◌, length, Option, Some, None, take, refl, sym, ap, subst, ◌∙◌, arith}
use Rattle.std.proofs.lemmas.List.{take_all}
use Rattle.nfs_reply_cache.specs.Places.{Key, Place, cached_reply, place_for, same, with_reply, without}
use Rattle.nfs_reply_cache.proofs.Places.{same_keys}

pub none_some : {X : Type 0} {x : X} → None ≡ Some x → ⊥
none_some e = cc

-- a choice whose second part may be replaced
other_part : (b : Bool) (x o p : Option (List ℕ)) (r : List ℕ) → (o ≡ Some r → p ≡ Some r) → cond b x o ≡ Some r → cond b x p ≡ Some r
other_part true x o p r f e = e
other_part false x o p r f e = f e

-- ---- the first places

pub found_more : (key : Key) (n m : ℕ) (ps : List Place) (r : List ℕ) → n ≤ m → cached_reply key (take n ps) ≡ Some r → cached_reply key (take m ps) ≡ Some r
found_more key zero m ps r l e = absurd (none_some e)
found_more key (suc n) zero ps r l e = absurd (omega (arith, l))
found_more key (suc n) (suc m) [] r l e = e
found_more key (suc n) (suc m) (p ∷ ps) r l e = other_part (same key p.key) (Some p.reply) (cached_reply key (take n ps)) (cached_reply key (take m ps)) r (found_more key n m ps r (omega (arith, l))) e

pub found_whole : (key : Key) (n : ℕ) (ps : List Place) (r : List ℕ) → cached_reply key (take n ps) ≡ Some r → cached_reply key ps ≡ Some r
found_whole key zero ps r e = absurd (none_some e)
found_whole key (suc n) [] r e = e
found_whole key (suc n) (p ∷ ps) r e = other_part (same key p.key) (Some p.reply) (cached_reply key (take n ps)) (cached_reply key ps) r (found_whole key n ps r) e

-- what stands among the first n stands there when all from m on are gone
pub found_cut : (key : Key) (n m : ℕ) (ps : List Place) (r : List ℕ) → n ≤ m → cached_reply key (take n ps) ≡ Some r → cached_reply key (take n (take m ps)) ≡ Some r
found_cut key zero m ps r l e = absurd (none_some e)
found_cut key (suc n) zero ps r l e = absurd (omega (arith, l))
found_cut key (suc n) (suc m) [] r l e = e
found_cut key (suc n) (suc m) (p ∷ ps) r l e = other_part (same key p.key) (Some p.reply) (cached_reply key (take n ps)) (cached_reply key (take n (take m ps))) r (found_cut key n m ps r (omega (arith, l))) e

-- ---- without a place

skipped : (b : Bool) (x o : Option (List ℕ)) → b ≡ false → cond b x o ≡ o
skipped b x o e = ap (λ t. cond t x o) e

-- another's key than that of a place
another : (key other : Key) (p : Place) → same other key ≡ false → same key p.key ≡ true → same other p.key ≡ false
another key other p d s = subst (λ k. same other k ≡ false) (same_keys key p.key s) d

found_without : (b : Bool) (key other : Key) (n : ℕ) (p : Place) (ps : List Place) (r : List ℕ) → same other key ≡ false → same key p.key ≡ b → (cached_reply other (take n ps) ≡ Some r → cached_reply other (take n (without key ps)) ≡ Some r) → cached_reply other (take (suc n) (p ∷ ps)) ≡ Some r
    → cached_reply other (take (suc n) (cond b ps (p ∷ without key ps))) ≡ Some r
found_without true key other n p ps r d s f e =
    found_more other n (suc n) ps r (omega arith) (sym (skipped (same other p.key) (Some p.reply) (cached_reply other (take n ps)) (another key other p d s)) ∙ e)
found_without false key other n p ps r d s f e = other_part (same other p.key) (Some p.reply) (cached_reply other (take n ps)) (cached_reply other (take n (without key ps))) r f e

-- taking one key's place out keeps another's among the first n
pub stands_without : (key other : Key) (n : ℕ) (ps : List Place) (r : List ℕ) → same other key ≡ false → cached_reply other (take n ps) ≡ Some r → cached_reply other (take n (without key ps)) ≡ Some r
stands_without key other zero ps r d e = absurd (none_some e)
stands_without key other (suc n) [] r d e = e
stands_without key other (suc n) (p ∷ ps) r d e = found_without (same key p.key) key other n p ps r d refl (stands_without key other n ps r d) e

found_in : (b : Bool) (key other : Key) (p : Place) (ps : List Place) (r : List ℕ) → same other key ≡ false → same key p.key ≡ b → (cached_reply other (without key ps) ≡ Some r → cached_reply other ps ≡ Some r) → cached_reply other (cond b ps (p ∷ without key ps)) ≡ Some r → cached_reply other (p ∷ ps) ≡ Some r
found_in true key other p ps r d s f e = skipped (same other p.key) (Some p.reply) (cached_reply other ps) (another key other p d s) ∙ e
found_in false key other p ps r d s f e = other_part (same other p.key) (Some p.reply) (cached_reply other (without key ps)) (cached_reply other ps) r f e

pub was_without : (key other : Key) (ps : List Place) (r : List ℕ) → same other key ≡ false → cached_reply other (without key ps) ≡ Some r → cached_reply other ps ≡ Some r
was_without key other [] r d e = e
was_without key other (p ∷ ps) r d e = found_in (same key p.key) key other p ps r d refl (was_without key other ps r d) e

-- ---- how many places there are

-- no place is taken out for a key that has none
same_places : (b : Bool) (p : Place) (ps qs : List Place) (o : Option (List ℕ)) → (o ≡ None → qs ≡ ps) → cond b (Some p.reply) o ≡ None → cond b ps (p ∷ qs) ≡ p ∷ ps
same_places true p ps qs o f e = absurd (none_some (sym e))
same_places false p ps qs o f e = ap (λ (l : List Place). p ∷ l) (f e)

pub without_none : (key : Key) (ps : List Place) → cached_reply key ps ≡ None → without key ps ≡ ps
without_none key [] e = refl
without_none key (p ∷ ps) e = same_places (same key p.key) p ps (without key ps) (cached_reply key ps) (without_none key ps) e

one_less : (b : Bool) (p : Place) (ps qs : List Place) (o : Option (List ℕ)) (r : List ℕ) → (o ≡ Some r → length qs + 1 ≡ length ps) → cond b (Some p.reply) o ≡ Some r → length (cond b ps (p ∷ qs)) + 1 ≡ length (p ∷ ps)
one_less true p ps qs o r f e = omega arith
one_less false p ps qs o r f e = let less = f e in omega (arith, less)

-- and one for a key that has one
pub length_without : (key : Key) (ps : List Place) (r : List ℕ) → cached_reply key ps ≡ Some r → length (without key ps) + 1 ≡ length ps
length_without key [] r e = absurd (none_some e)
length_without key (p ∷ ps) r e = one_less (same key p.key) p ps (without key ps) (cached_reply key ps) r (length_without key ps r) e

-- a reply that was there takes no other's place
pub found_with : (most : ℕ) (key : Key) (ps : List Place) (r : List ℕ) → length ps ≤ most → cached_reply key ps ≡ Some r → place_for key r ∷ without key ps ≡ with_reply most key (Some r) ps
found_with most key ps r few e =
    let less = length_without key ps r e in
    ap (λ (l : List Place). place_for key r ∷ l) (sym (take_all (most - 1) (without key ps) (omega (arith, less, few))))

-- one that was not there takes the last one's, where there are too many
pub new_with : (most : ℕ) (key : Key) (ps : List Place) (r : List ℕ) → cached_reply key ps ≡ None → place_for key r ∷ take (most - 1) ps ≡ with_reply most key (Some r) ps
new_with most key ps r e = ap (λ (l : List Place). place_for key r ∷ take (most - 1) l) (sym (without_none key ps e))
