-- Texts that are put together chunk by chunk.
use Rattle.std.proofs.Common.{◌≡◌, ◌++◌, sym, ap, ◌∙◌, append_assoc, List, ℕ}

-- four chunks after what was there
pub four_joined : (old one two three four b c d e : List ℕ) → one ≡ old ++ b → two ≡ one ++ c → three ≡ two ++ d → four ≡ three ++ e → four ≡ old ++ (b ++ ((c ++ d) ++ e))
four_joined old one two three four b c d e one_is two_is three_is four_is =
    four_is ∙ ap (λ x. x ++ e) (three_is ∙ ap (λ x. x ++ d) (two_is ∙ ap (λ x. x ++ c) one_is))
    ∙ append_assoc ((old ++ b) ++ c) d e ∙ append_assoc (old ++ b) c (d ++ e) ∙ append_assoc old b (c ++ (d ++ e)) ∙ ap (λ x. old ++ (b ++ x)) (sym (append_assoc c d e))
