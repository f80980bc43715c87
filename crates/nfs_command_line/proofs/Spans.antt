-- Texts of an option that stand between two places.
use Rattle.std.proofs.Common.{◌≡◌, ℕ, List, map, take, drop, Option, Some, None, Bor, refl, sym, ap, ◌∙◌}
use Rattle.std.proofs.lemmas.List.{drop-map, length-map, take-map}
use Rattle.nfs_command_line.specs.Given.{count_before, end_of, slice_of}

sliced : {A B : Type 0} (f : A → B) (start end : ℕ) (items : List A) → map f (slice_of start end items) ≡ slice_of start end (map f items)
sliced f start end items = sym (drop-map f start (take end items)) ∙ ap (drop start) (sym (take-map f end items))

same_end : {A B : Type 0} (f : A → B) (to : Option ℕ) (places : List ℕ) (items : List A) → end_of to places items ≡ end_of to places (map f items)
same_end f None places items = sym (length-map items f)
same_end f (Some to) places items = refl

pub texts_between : (names result : List (Bor (List ℕ))) (texts : List (List ℕ)) (places given : List ℕ) (from : ℕ) (to : Option ℕ) (start end : ℕ) → result ≡ slice_of start end names
    → start ≡ count_before from places → end ≡ end_of to places names → places ≡ given → map (λ name. name.now) names ≡ texts
    → map (λ name. name.now) result ≡ slice_of (count_before from given) (end_of to given texts) texts
texts_between names result texts places given from to start end is starts ends same all =
    let now : Bor (List ℕ) → List ℕ = λ name. name.now in
    ap (map now) is ∙ sliced now start end names
    ∙ ap (λ n. slice_of n end (map now names)) (starts ∙ ap (count_before from) same)
    ∙ ap (λ n. slice_of (count_before from given) n (map now names)) (ends ∙ same_end now to places names ∙ ap (λ p. end_of to p (map now names)) same)
    ∙ ap (λ t. slice_of (count_before from given) (end_of to given t) t) all
