-- Items of a list that are changed one after another.
use Rattle.std.proofs.Common.{◌≡◌, ℕ, zero, suc, ◌+◌, ◌<◌, ◌≤◌, List, [], ◌∷◌, ◌++◌, length, map, take, drop, get_or, refl, ap, ◌∙◌, append-nil, arith}
use Rattle.std.proofs.lemmas.List.{drop_all, take_all}
use Rattle.std.proofs.Math.ListN.{set}

-- the first ones are changed, so many
abbrev pub map_first : {T : Type 0} → (T → T) → ℕ → List T → List T
map_first f zero xs = xs
map_first f (suc n) [] = []
map_first f (suc n) (x ∷ xs) = f x ∷ map_first f n xs

next : {T : Type 0} (f : T → T) (xs : List T) (n : ℕ) (d : T) → n < length xs → set (map_first f n xs) n (f (get_or (map_first f n xs) n d)) ≡ map_first f (suc n) xs
next f [] n d inside = absurd (omega (arith, inside))
next f (x ∷ xs) zero d inside = refl
next f (x ∷ xs) (suc n) d inside = ap (λ t. f x ∷ t) (next f xs n d (omega (arith, inside)))

same_length : {T : Type 0} (f : T → T) (xs : List T) (n : ℕ) → length (map_first f n xs) ≡ length xs
same_length f [] zero = refl
same_length f [] (suc n) = refl
same_length f (x ∷ xs) zero = refl
same_length f (x ∷ xs) (suc n) = ap suc (same_length f xs n)

pub one_more : {T : Type 0} (f : T → T) (all start items : List T) (n : ℕ) (d : T) → start ≡ all → n < length start → items ≡ map_first f n all
    → set items n (f (get_or items n d)) ≡ map_first f (n + 1) all
one_more {T} f all start items n d begins inside so =
    let more : suc n ≡ n + 1 = omega arith in
    let same : length start ≡ length all = ap length begins in
    ap (λ (l : List T). set l n (f (get_or l n d))) so ∙ next f all n d (omega (arith, inside, same)) ∙ ap (λ k. map_first f k all) more

all_changed : {T : Type 0} (f : T → T) (xs : List T) (n : ℕ) → length xs ≤ n → map_first f n xs ≡ map f xs
all_changed f [] zero most = refl
all_changed f [] (suc n) most = refl
all_changed f (x ∷ xs) zero most = absurd (omega (arith, most))
all_changed f (x ∷ xs) (suc n) most = ap (λ t. f x ∷ t) (all_changed f xs n (omega (arith, most)))

-- where all are changed, none is left behind them
pub all_done : {T : Type 0} (f : T → T) (all start items : List T) (n len : ℕ) → start ≡ all → length all ≡ len → length start ≤ n → items ≡ map_first f n all
    → take len (items ++ drop (length items) all) ≡ map f all
all_done {T} f all start items n len begins long most so =
    let same : length start ≡ length all = ap length begins in
    let size : length items ≡ length all = ap length so ∙ same_length f all n in
    let none : drop (length items) all ≡ [] = drop_all (length items) all (omega (arith, size)) in
    ap (λ (l : List T). take len (items ++ l)) none ∙ ap (take len) (append-nil items) ∙ take_all len items (omega (arith, long, size))
    ∙ so ∙ all_changed f all n (omega (arith, most, same))
