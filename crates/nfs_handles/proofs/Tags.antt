-- Which tag is next.
use Rattle.std.proofs.Common.{◌≡◌, ◌≢◌, ℕ, zero, suc, ◌+◌, ◌-◌, ◌^◌, ◌<◌, ◌≤◌, ◌⊎◌, inl, inr, List, [], ◌∷◌, Option, Some, None, IsSome, option_map, nat_eq, nat_lt, sym, ap, subst, refl, ◌∙◌, true≢false, eqb-true, ltb-true, ltb-false, arith}
use Rattle.std.specs.Map.{lookup}
use Rattle.nfs_handles.specs.NumberedFiles.{TaggedFile, NumberedFiles, at, tag_at}
use Rattle.nfs_handles.specs.Tags.{IsTaken, IsNextTag, OneIsNext}
use Rattle.nfs_handles.proofs.Leading.{by_test, by_number, same_some, not_both, if_false}

module _ {T : Type 0} (t : NumberedFiles T) where
  -- ---- whether a tag is taken

  module _ (tag : ℕ) where
    -- a file of one of these numbers has it, or none has
    taken_or_not : (es : List (ℕ × TaggedFile T)) → IsTaken t tag ⊎ ((n : ℕ) → IsSome (lookup (nat_eq n) es) → tag_at t n ≢ Some tag)
    taken_or_not [] = inr (λ n some its. true≢false (sym some))
    taken_or_not (e ∷ es) = here (tag_at t e.0) refl (taken_or_not es)
      where
        other : tag_at t e.0 ≢ Some tag → ((n : ℕ) → IsSome (lookup (nat_eq n) es) → tag_at t n ≢ Some tag) → (n : ℕ) → IsSome (lookup (nat_eq n) (e ∷ es)) → tag_at t n ≢ Some tag
        other not_here not_there n some its = by_test (nat_eq n e.0)
            (λ y. not_here (subst (λ k. tag_at t k ≡ Some tag) (eqb-true n e.0 y) its))
            (λ f. not_there n (subst IsSome (if_false (Some e.1) (lookup (nat_eq n) es) f) some) its)

        there : tag_at t e.0 ≢ Some tag → IsTaken t tag ⊎ ((n : ℕ) → IsSome (lookup (nat_eq n) es) → tag_at t n ≢ Some tag) → IsTaken t tag ⊎ ((n : ℕ) → IsSome (lookup (nat_eq n) (e ∷ es)) → tag_at t n ≢ Some tag)
        there not_here (inl taken) = inl taken
        there not_here (inr not_there) = inr (other not_here not_there)

        here : (o : Option ℕ) → tag_at t e.0 ≡ o → IsTaken t tag ⊎ ((n : ℕ) → IsSome (lookup (nat_eq n) es) → tag_at t n ≢ Some tag) → IsTaken t tag ⊎ ((n : ℕ) → IsSome (lookup (nat_eq n) (e ∷ es)) → tag_at t n ≢ Some tag)
        here None is rest = there (λ its. not_both is its) rest
        here (Some k) is rest = by_number k tag
            (λ same. inl (e.0, is ∙ ap Some same))
            (λ differs. there (λ its. differs (same_some (sym is ∙ its))) rest)

    taken_or_free : IsTaken t tag ⊎ ((n : ℕ) → tag_at t n ≢ Some tag)
    taken_or_free = all (taken_or_not t.files)
      where
        lives : (o : Option (TaggedFile T)) → option_map (λ (f : TaggedFile T). f.tag) o ≡ Some tag → IsSome o
        lives None its = cc
        lives (Some f) its = refl

        all : IsTaken t tag ⊎ ((n : ℕ) → IsSome (lookup (nat_eq n) t.files) → tag_at t n ≢ Some tag) → IsTaken t tag ⊎ ((n : ℕ) → tag_at t n ≢ Some tag)
        all (inl taken) = inl taken
        all (inr none) = inr (λ n its. none n (lives (at t n) its) its)

  -- ---- the least that isn't

  -- the least tag that no file has, or the last
  record IsLeast (last tag : ℕ) : Type 0 where
    pub within : tag ≤ last
    pub below : (lesser : ℕ) → lesser < tag → IsTaken t lesser
    pub free : tag ≢ last → (n : ℕ) → tag_at t n ≢ Some tag

  search_from : (last left tag : ℕ) → tag + left ≡ last → ((lesser : ℕ) → lesser < tag → IsTaken t lesser) → (found : ℕ) × IsLeast last found
  search_from last zero tag sum below = (tag, record { within = omega (arith, sum); below = below; free = λ other. absurd (other (omega (arith, sum))) })
  search_from last (suc left) tag sum below = by (search_from last left (suc tag) (omega (arith, sum))) (taken_or_free tag)
    where
      by : (((lesser : ℕ) → lesser < suc tag → IsTaken t lesser) → (found : ℕ) × IsLeast last found) → IsTaken t tag ⊎ ((n : ℕ) → tag_at t n ≢ Some tag) → (found : ℕ) × IsLeast last found
      by later (inl taken) = later (λ lesser less. by_number lesser tag
          (λ same. subst (IsTaken t) (sym same) taken)
          (λ other. below lesser (omega (arith, less, other))))
      by later (inr free) = (tag, record { within = omega (arith, sum); below = below; free = λ other. free })

  some_least : (last : ℕ) → (found : ℕ) × IsLeast last found
  some_least last = search_from last last 0 (omega arith) (λ lesser less. absurd (omega (arith, less)))

  pub some_next_tag : (tag : ℕ) × IsNextTag t tag
  some_next_tag =
      let it = some_least (2 ^ 32 - 1) in
      (it.0, record { fits = let within = it.1.within in omega (arith, within); below = it.1.below; free = it.1.free })

  -- ---- there is no other

  no_less : (tag other : ℕ) → IsNextTag t tag → IsNextTag t other → tag < other → ⊥
  no_less tag other h k less =
      let taken = k.below tag less in
      h.free (λ last. let fits = k.fits in omega (arith, fits, less, last)) taken.0 taken.1

  one_next_tag : (tag other : ℕ) → IsNextTag t tag → IsNextTag t other → tag ≡ other
  one_next_tag tag other h k = by_number tag other (λ same. same) (λ differ. by_test (nat_lt tag other)
      (λ y. absurd (no_less tag other h k (ltb-true tag other y)))
      (λ f. absurd (no_less other tag k h (let from = ltb-false tag other f in omega (arith, from, differ)))))

-- where the files have the same tags, the same tag is next
pub same_next_tag : {T U : Type 0} (t : NumberedFiles T) (u : NumberedFiles U) (tag : ℕ) → ((n : ℕ) → tag_at u n ≡ tag_at t n) → IsNextTag t tag → IsNextTag u tag
same_next_tag t u tag same h = record {
  fits = h.fits;
  below = λ lesser less. let taken = h.below lesser less in (taken.0, same taken.0 ∙ taken.1);
  free = λ other n its. h.free other n (sym (same n) ∙ its);
}

pub one_is_next : {T : Type 0} → OneIsNext T
one_is_next = record { some = some_next_tag; one = one_next_tag }
