-- What an output took, part by part.
use Rattle.std.proofs.Common.{◌≡◌, ℕ, List, [], ◌++◌, sym, ap, subst, ◌∙◌, append_assoc, append-nil}
use Rattle.std.specs.Prelude.{OnOk, Result}
use Rattle.std.proofs.lemmas.Result.{on_ok_weaker}
use Rattle.nfs_describe.specs.Outputs.{Takes}

pub takes_none : {O : Type 0} (has : O → List ℕ → Type 0) (o : O) → Takes has o [] o
takes_none has o before was = subst (has o) (sym (append-nil before)) was

pub takes_then : {O : Type 0} (has : O → List ℕ → Type 0) (a b c : O) (xs ys : List ℕ) → Takes has a xs b → Takes has b ys c → Takes has a (xs ++ ys) c
takes_then has a b c xs ys first second before was = subst (has c) (append_assoc before xs ys) (second (before ++ xs) (first before was))

-- the same bytes, said otherwise
pub takes_as : {O T E : Type 0} (has : O → List ℕ → Type 0) (a b : O) (result : Result T E) (text same : List ℕ) → text ≡ same → OnOk result (Takes has a text b) → OnOk result (Takes has a same b)
takes_as has a b result text same is takes = subst (λ (t : List ℕ). OnOk result (Takes has a t b)) is takes

-- two parts, where the second one may fail
pub takes_last : {O T E : Type 0} (has : O → List ℕ → Type 0) (a b c : O) (result : Result T E) (xs ys : List ℕ) → Takes has a xs b → OnOk result (Takes has b ys c) → OnOk result (Takes has a (xs ++ ys) c)
takes_last has a b c result xs ys first second = on_ok_weaker result (takes_then has a b c xs ys first) second

-- ---- parts in a row

joined_two : (h a b : List ℕ) → h ++ (a ++ b) ≡ h ++ a ++ b
joined_two h a b = sym (append_assoc h a b)

joined_three : (h a b c : List ℕ) → h ++ (a ++ b ++ c) ≡ h ++ a ++ b ++ c
joined_three h a b c = joined_two h (a ++ b) c ∙ ap (λ l. l ++ c) (joined_two h a b)

joined_four : (h a b c d : List ℕ) → h ++ (a ++ b ++ c ++ d) ≡ h ++ a ++ b ++ c ++ d
joined_four h a b c d = joined_two h (a ++ b ++ c) d ∙ ap (λ l. l ++ d) (joined_three h a b c)

pub joined_five : (h a b c d e : List ℕ) → h ++ (a ++ b ++ c ++ d ++ e) ≡ h ++ a ++ b ++ c ++ d ++ e
joined_five h a b c d e = joined_two h (a ++ b ++ c ++ d) e ∙ ap (λ l. l ++ e) (joined_four h a b c d)

pub joined_six : (h a b c d e f : List ℕ) → h ++ (a ++ b ++ c ++ d ++ e ++ f) ≡ h ++ a ++ b ++ c ++ d ++ e ++ f
joined_six h a b c d e f = joined_two h (a ++ b ++ c ++ d ++ e) f ∙ ap (λ l. l ++ f) (joined_five h a b c d e)

pub joined_seven : (h a b c d e f g : List ℕ) → h ++ (a ++ b ++ c ++ d ++ e ++ f ++ g) ≡ h ++ a ++ b ++ c ++ d ++ e ++ f ++ g
joined_seven h a b c d e f g = joined_two h (a ++ b ++ c ++ d ++ e ++ f) g ∙ ap (λ l. l ++ g) (joined_six h a b c d e f)
