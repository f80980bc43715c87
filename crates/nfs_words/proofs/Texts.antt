-- One text that is put after another.
use Rattle.std.proofs.Common.{ℕ, ◌+◌, ◌<◌, List, ◌++◌, length, take, get_or, sym, subst, ap, ◌∙◌, append_assoc, append-nil}
use Rattle.std.proofs.lemmas.Grind.{flat_map-append}
use Rattle.std.proofs.lemmas.List.{take_more}
use Rattle.std.specs.List.{flat_map}
use Rattle.nfs_words.specs.Texts.{Put, Puts}

pub puts_then : (a b : List ℕ) (x y z : Put) → Puts a x y → Puts b y z → Puts (a ++ b) x z
puts_then a b x y z first second whole =
    let two = second whole in
    let one = first two.0 in
    (one.0, two.1 ∙ ap (λ t. t ++ b) one.1 ∙ append_assoc x.bytes a b)

-- one item more of some that are put in turn
pub puts_more : (text : ℕ → List ℕ) (items : List ℕ) (i : ℕ) (x y z : Put) → i < length items → Puts (flat_map text (take i items)) x y
    → Puts (text (get_or items i 0)) y z → Puts (flat_map text (take (i + 1) items)) x z
puts_more text items i x y z inside before more =
    subst (λ t. Puts t x z) (sym (ap (flat_map text) (take_more items i 0 inside) ∙ flat_map-append text (take i items) _ ∙ ap (λ t. flat_map text (take i items) ++ t) (append-nil _)))
    (puts_then (flat_map text (take i items)) (text (get_or items i 0)) x y z before more)
