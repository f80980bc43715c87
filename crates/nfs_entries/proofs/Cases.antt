-- Cases of tests, options and lists with one value more.
use Rattle.std.proofs.Common.{inl, inr, ◌≡◌, ◌≢◌, ◌⊎◌, ℕ, suc, zero, Bool, true, false, cond, List, [], ◌∷◌, ◌++◌, length, Option, Some, None, refl, sym, ap, ◌∙◌, arith}
use Rattle.std.proofs.lemmas.Bool.{cases_eq, eqb-true}
use Rattle.std.specs.Prelude.{Contains, bytes_eq, nat_eq, slice_get, find}
use Rattle.std.proofs.lemmas.Slice.Eq.{bytes_eq-Decides}

pub by_test : {P : Type 0} (b : Bool) → (b ≡ true → P) → (b ≡ false → P) → P
by_test true p q = p refl
by_test false p q = q refl

pub if_true : {A : Type 0} {b : Bool} (x y : A) → b ≡ true → cond b x y ≡ x
if_true x y e = ap (λ b. cond b x y) e

pub if_false : {A : Type 0} {b : Bool} (x y : A) → b ≡ false → cond b x y ≡ y
if_false x y e = ap (λ b. cond b x y) e

-- numbers are the same or not
pub by_number : {P : Type 0} (m n : ℕ) → (m ≡ n → P) → (m ≢ n → P) → P
by_number m n p q = elim (cases_eq m n) [
  | inl k ↦ p k
  | inr k ↦ q k
]

pub not_equal : (a b : ℕ) → (a ≡ b → ⊥) → nat_eq a b ≡ false
not_equal a b other = by_test (nat_eq a b) (λ y. absurd (other (eqb-true a b y))) (λ n. n)

pub same_some : {X : Type 0} {x y : X} → Some x ≡ Some y → x ≡ y
same_some e = cc

pub true_and_false : {b : Bool} → b ≡ true → b ≡ false → ⊥
true_and_false y n = cc

-- names are compared either way
pub flipped : (a b : List ℕ) → bytes_eq a b ≡ bytes_eq b a
flipped a b = by_test (bytes_eq b a)
    (λ y. (bytes_eq-Decides a b).1 (sym ((bytes_eq-Decides b a).0 y)) ∙ sym y)
    (λ n. by_test (bytes_eq a b)
    (λ y. absurd (true_and_false ((bytes_eq-Decides b a).1 (sym ((bytes_eq-Decides a b).0 y))) n))
    (λ f. f ∙ sym n))

pub not_both : {X : Type 0} {o : Option X} {x : X} → o ≡ None → o ≡ Some x → ⊥
not_both e f = cc

-- where no value was, none is
pub none_from : {X : Type 0} (o : Option X) → ((x : X) → o ≡ Some x → ⊥) → o ≡ None
none_from None h = refl
none_from (Some x) h = absurd (h x refl)

pub not_in_empty : {X : Type 0} (xs : List X) (x : X) → xs ≡ [] → Contains xs x → ⊥
not_in_empty [] x e c = absurd (let l = c.1 in omega (arith, l))
not_in_empty (y ∷ ys) x e c = cc

-- ---- elements of a list

pub in_head : {X : Type 0} (x : X) (xs : List X) → Contains (x ∷ xs) x
in_head x xs = (0, omega arith, refl)

pub in_tail : {X : Type 0} (x y : X) (xs : List X) → Contains xs y → Contains (x ∷ xs) y
in_tail x y xs c = let l = c.1 in (suc c.0, omega (arith, l), c.2)

pub head_or_tail : {X : Type 0} (x y : X) (xs : List X) → Contains (x ∷ xs) y → (x ≡ y) ⊎ Contains xs y
head_or_tail x y xs (zero, l, e) = inl e
head_or_tail x y xs (suc k, l, e) = inr (k, omega (arith, l), e)

-- what is found is an element
pub find_contains : {X : Type 0} (p : X → Bool) (xs : List X) (x : X) → find p xs ≡ Some x → Contains xs x
find_contains p [] x e = absurd (not_both refl e)
find_contains {X} p (y ∷ ys) x e = by_test (p y)
    (λ t. (0, omega arith, same_some (sym (ap (λ b. cond b (Some y) (find p ys)) t) ∙ e)))
    (λ f. let c = find_contains p ys x (sym (ap (λ b. cond b (Some y) (find p ys)) f) ∙ e) in let less = c.1 in (suc c.0, omega (arith, less), c.2))

-- ---- a list with one value more

pub get_push_old : {X : Type 0} (xs : List X) (y x : X) (i : ℕ) → slice_get xs i ≡ Some x → slice_get (xs ++ y ∷ []) i ≡ Some x
get_push_old [] y x i e = cc
get_push_old (z ∷ xs) y x zero e = e
get_push_old (z ∷ xs) y x (suc i) e = get_push_old xs y x i e

pub get_push_new : {X : Type 0} (xs : List X) (y : X) → slice_get (xs ++ y ∷ []) (length xs) ≡ Some y
get_push_new [] y = refl
get_push_new (z ∷ xs) y = get_push_new xs y
