-- Items that are left of a list.
use Rattle.std.proofs.Common.{◌≡◌, ℕ, ◌+◌, ◌-◌, ◌^◌, ◌<◌, true, false, cond, List, [], ◌∷◌, length, get_or, drop, ap, sym, ◌∙◌, arith}
use Rattle.std.proofs.lemmas.List.{drop_more}
use Rattle.std.specs.Prelude.{max, min}
use Rattle.nfs_disk.specs.Needs.{largest}
use Rattle.nfs_disk.specs.Surveys.{extent_of, is_first, once, regular_bytes, seen_with, size_of}
use Rattle.nfs_disk.specs.declared.found.Found.{Found}
use Rattle.nfs_disk.specs.declared.survey.Extent.{Extent}
use Rattle.nfs_disk.specs.declared.found.Kind.{Kind}
use Rattle.nfs_disk.specs.declared.found.Kind.TheVariants.{Regular}

pub next_of : {T : Type 0} (xs : List T) (i : ℕ) (item : T) → i < length xs → item ≡ get_or xs i item → drop i xs ≡ item ∷ drop (i + 1) xs
next_of xs i item inside is = drop_more xs i item inside ∙ ap (λ x. x ∷ drop (i + 1) xs) (sym is)

-- the next one is as large, or not
pub larger : (kind : Kind) (left rest : List Found) (one : Found) (all most size new : ℕ) → max most (largest kind left) ≡ all → left ≡ one ∷ rest → size ≡ size_of kind one
    → new ≡ max most size → max new (largest kind rest) ≡ all
larger kind left rest one all most size new so next size_is new_is =
    let e : largest kind left ≡ max (size_of kind one) (largest kind rest) = ap (largest kind) next in
    omega (arith, so, e, size_is, new_is)

-- the bytes of the next one too
pub more_bytes : (left rest : List Found) (one : Found) (all bytes size new : ℕ) → min (bytes + regular_bytes left) (2 ^ 64 - 1) ≡ min all (2 ^ 64 - 1) → left ≡ one ∷ rest
    → size ≡ size_of Regular one → new ≡ min (bytes + size) (2 ^ 64 - 1) → min (new + regular_bytes rest) (2 ^ 64 - 1) ≡ min all (2 ^ 64 - 1)
more_bytes left rest one all bytes size new so next size_is new_is =
    let e : regular_bytes left ≡ size_of Regular one + regular_bytes rest = ap regular_bytes next in
    omega (arith, so, e, size_is, new_is)

-- a first name is counted
pub first_name : (before : List ℕ) (left rest : List Found) (one : Found) → true ≡ is_first before one → left ≡ one ∷ rest → once before left ≡ one ∷ once (seen_with before one) rest
first_name before left rest one first next = ap (once before) next ∙ ap (λ b. cond b (one ∷ once (seen_with before one) rest) (once (seen_with before one) rest)) (sym first)

-- another is not
pub further_name : (before : List ℕ) (left rest : List Found) (one : Found) → false ≡ is_first before one → left ≡ one ∷ rest → once before left ≡ once (seen_with before one) rest
further_name before left rest one first next = ap (once before) next ∙ ap (λ b. cond b (one ∷ once (seen_with before one) rest) (once (seen_with before one) rest)) (sym first)

pub more_files : (left rest : List Found) (one : Found) (all files new : ℕ) → min (files + length left) (2 ^ 64 - 1) ≡ min all (2 ^ 64 - 1) → left ≡ one ∷ rest
    → new ≡ min (files + 1) (2 ^ 64 - 1) → min (new + length rest) (2 ^ 64 - 1) ≡ min all (2 ^ 64 - 1)
more_files left rest one all files new so next new_is =
    let e : length left ≡ length rest + 1 = ap length next ∙ omega arith in
    omega (arith, so, e, new_is)

-- none is left
pub all_counted : (left : List Found) (all so_far : ℕ) → so_far < 2 ^ 64 → min (so_far + regular_bytes left) (2 ^ 64 - 1) ≡ min all (2 ^ 64 - 1) → left ≡ [] → so_far ≡ min all (2 ^ 64 - 1)
all_counted left all so_far few so none = let e : regular_bytes left ≡ 0 = ap regular_bytes none in omega (arith, few, so, e)

pub all_numbered : (left : List Found) (all so_far : ℕ) → so_far < 2 ^ 64 → min (so_far + length left) (2 ^ 64 - 1) ≡ min all (2 ^ 64 - 1) → left ≡ [] → so_far ≡ min all (2 ^ 64 - 1)
all_numbered left all so_far few so none = let e : length left ≡ 0 = ap length none in omega (arith, few, so, e)

pub extent_is : (found : List Found) (e : Extent) → e.bytes ≡ min (regular_bytes (once [] found)) (2 ^ 64 - 1) → e.files ≡ min (length (once [] found)) (2 ^ 64 - 1) → e ≡ extent_of found
extent_is found e bytes files =
    ap (λ (n : ℕ). record { bytes = n; files = e.files }) bytes ∙ ap (λ (n : ℕ). record { bytes = min (regular_bytes (once [] found)) (2 ^ 64 - 1); files = n }) files
