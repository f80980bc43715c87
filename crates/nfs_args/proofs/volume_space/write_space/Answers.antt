use Rattle.std.proofs.Common.{◌≡◌, ℕ, [], ◌∷◌, ◌++◌, ap, subst, ◌∙◌}
use Rattle.std.specs.Int.{w32, w64, to_be_bytes}
use Rattle.std.proofs.lemmas.Grind.{flat_map-append}
use Rattle.nfs_xdr.specs.Encoding.{numbers_text}
use Rattle.nfs_xdr.specs.Written.{Appends}
use Rattle.nfs_xdr.proofs.Writing.{followed}
use Rattle.nfs_args.proofs.volume_space.write_space.Goals as goal

hypers : (a b c d e f k m n : ℕ) → numbers_text (a ∷ b ∷ []) ≡ to_be_bytes w64 k → numbers_text (c ∷ d ∷ []) ≡ to_be_bytes w64 m → numbers_text (e ∷ f ∷ []) ≡ to_be_bytes w64 n
    → numbers_text (a ∷ b ∷ c ∷ d ∷ e ∷ f ∷ []) ≡ to_be_bytes w64 k ++ to_be_bytes w64 m ++ to_be_bytes w64 n
hypers a b c d e f k m n first second third =
    flat_map-append (to_be_bytes w32) (a ∷ b ∷ []) (c ∷ d ∷ e ∷ f ∷ [])
    ∙ ap (λ t. t ++ numbers_text (c ∷ d ∷ e ∷ f ∷ [])) first
    ∙ ap (λ t. to_be_bytes w64 k ++ t) (flat_map-append (to_be_bytes w32) (c ∷ d ∷ []) (e ∷ f ∷ []) ∙ ap (λ t. t ++ numbers_text (e ∷ f ∷ [])) second ∙ ap (λ t. to_be_bytes w64 m ++ t) third)

pub returns-clause-text : goal.returns-clause-text
returns-clause-text c =
    subst (λ t. Appends t c.args.out.now c.numbers.new.self)
    (hypers _ _ _ _ _ _ c.args.space.now.total c.args.space.now.free c.args.space.now.available c.halves-total_high.ensures.text c.halves-free_high.ensures.text c.halves-available_high.ensures.text)
    c.numbers.ensures.text

pub returns-clause-encoded : goal.returns-clause-encoded
returns-clause-encoded c = followed _ _ _ _ c.halves-total_high.ensures.encoded (followed _ _ _ _ c.halves-free_high.ensures.encoded c.halves-available_high.ensures.encoded)
