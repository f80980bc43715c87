-- How many patterns the first volumes of a table have.
use Rattle.std.proofs.Common.{◌≡◌, ℕ, zero, suc, ◌+◌, ◌≤◌, List, [], ◌∷◌, length, take, refl, ap, ◌∙◌, arith}
use Rattle.nfs_exports.specs.Tables.{exports_of, pattern_count}
use Rattle.nfs_exports.specs.declared.export_table.Export.{Export}

count_next : (ls : List (List Export)) (i : ℕ) → pattern_count (take (suc i) ls) ≡ pattern_count (take i ls) + length (exports_of ls i)
count_next [] zero = refl
count_next [] (suc i) = refl
count_next (x ∷ ls) zero = omega arith
count_next (x ∷ ls) (suc i) = let more = count_next ls i in omega (arith, more)

-- with one volume more
pub count_more : (ls : List (List Export)) (i : ℕ) → pattern_count (take (i + 1) ls) ≡ pattern_count (take i ls) + length (exports_of ls i)
count_more ls i = let next : i + 1 ≡ suc i = omega arith in ap (λ n. pattern_count (take n ls)) next ∙ count_next ls i

pub count_within : (ls : List (List Export)) (i : ℕ) → pattern_count (take i ls) ≤ pattern_count ls
count_within ls zero = omega arith
count_within [] (suc i) = omega arith
count_within (x ∷ ls) (suc i) = let more = count_within ls i in omega (arith, more)
