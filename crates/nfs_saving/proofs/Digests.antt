-- What stands after the key of a description.
use Rattle.std.proofs.Common.{◌≡◌, ℕ, zero, suc, ◌<◌, ◌≤◌, Bool, true, false, cond, ◌==◌, List, [], ◌∷◌, ◌++◌, length, drop, slice_index, refl, sym, ap, subst, ◌∙◌, append_assoc, append-nil, arith}
use Rattle.sha2.specs.Hashers.{Holds256}
use Rattle.nfs_saving.specs.Digests.{GoesOn, IsDigestOf, after_key}
use Rattle.nfs_saving.specs.declared.digested.DescriptionDigest.{DescriptionDigest}

no_end : (byte : ℕ) → ((byte == 10) ≡ true → ⊥) → (byte == 10) ≡ false
no_end byte none = of (byte == 10) none
  where
    of : (b : Bool) → (b ≡ true → ⊥) → b ≡ false
    of true none = absurd (none refl)
    of false none = refl

pub from_end : (text : List ℕ) (n : ℕ) → n < length text → ((k : ℕ) → 0 ≤ k → k < n → (slice_index text k == 10) ≡ true → ⊥)
    → (slice_index text n == 10) ≡ true → after_key text ≡ drop n text
from_end [] n within none is = absurd (omega arith)
from_end (byte ∷ rest) zero within none is = ap (λ b. cond b (byte ∷ rest) (after_key rest)) is
from_end (byte ∷ rest) (suc n) within none is =
    ap (λ b. cond b (byte ∷ rest) (after_key rest)) (no_end byte (none 0 (omega arith) (omega arith)))
    ∙ from_end rest n (omega arith) (λ k low below. none (suc k) (omega arith) (omega arith)) is

pub without_end : (text : List ℕ) → ((k : ℕ) → 0 ≤ k → k < length text → (slice_index text k == 10) ≡ true → ⊥) → after_key text ≡ []
without_end [] none = refl
without_end (byte ∷ rest) none =
    ap (λ b. cond b (byte ∷ rest) (after_key rest)) (no_end byte (none 0 (omega arith) (omega arith)))
    ∙ without_end rest (λ k low below. none (suc k) (omega arith) (omega arith))

-- ---- texts that go on

pub from_end_more : (text more : List ℕ) (n : ℕ) → n < length text → ((k : ℕ) → 0 ≤ k → k < n → (slice_index text k == 10) ≡ true → ⊥)
    → (slice_index text n == 10) ≡ true → after_key (text ++ more) ≡ drop n text ++ more
from_end_more [] more n within none is = absurd (omega arith)
from_end_more (byte ∷ rest) more zero within none is = ap (λ b. cond b (byte ∷ (rest ++ more)) (after_key (rest ++ more))) is
from_end_more (byte ∷ rest) more (suc n) within none is =
    ap (λ b. cond b (byte ∷ (rest ++ more)) (after_key (rest ++ more))) (no_end byte (none 0 (omega arith) (omega arith)))
    ∙ from_end_more rest more n (omega arith) (λ k low below. none (suc k) (omega arith) (omega arith)) is

pub without_end_more : (text more : List ℕ) → ((k : ℕ) → 0 ≤ k → k < length text → (slice_index text k == 10) ≡ true → ⊥) → after_key (text ++ more) ≡ after_key more
without_end_more [] more none = refl
without_end_more (byte ∷ rest) more none =
    ap (λ b. cond b (byte ∷ (rest ++ more)) (after_key (rest ++ more))) (no_end byte (none 0 (omega arith) (omega arith)))
    ∙ without_end_more rest more (λ k low below. none (suc k) (omega arith) (omega arith))

-- ---- digests that go on

nothing : (text : List ℕ) → GoesOn false text → after_key text ≡ []
nothing text goes = ap after_key (sym (append-nil text)) ∙ goes []

pub goes_further : (old new : DescriptionDigest) (before part : List ℕ) → old.is_after_key ≡ true → new.is_after_key ≡ true
    → ((m : List ℕ) → Holds256 old.digest m → Holds256 new.digest (m ++ part)) → IsDigestOf old before → IsDigestOf new (before ++ part)
goes_further old new before part was is fed it =
    let goes : GoesOn true before = subst (λ b. GoesOn b before) was it.goes_on in
    record {
      digested = subst (Holds256 new.digest) (sym (goes part)) (fed (after_key before) it.digested);
      goes_on = subst (λ b. GoesOn b (before ++ part)) (sym is) (λ more.
          ap after_key (append_assoc before part more) ∙ goes (part ++ more) ∙ sym (append_assoc (after_key before) part more)
          ∙ ap (λ l. l ++ more) (sym (goes part)));
    }

pub ends_key : (old new : DescriptionDigest) (before part : List ℕ) (end : ℕ) → old.is_after_key ≡ false → new.is_after_key ≡ true → end < length part
    → ((k : ℕ) → 0 ≤ k → k < end → (slice_index part k == 10) ≡ true → ⊥) → (slice_index part end == 10) ≡ true
    → ((m : List ℕ) → Holds256 old.digest m → Holds256 new.digest (m ++ drop end part)) → IsDigestOf old before → IsDigestOf new (before ++ part)
ends_key old new before part end was is within none at fed it =
    let goes : GoesOn false before = subst (λ b. GoesOn b before) was it.goes_on in
    let now : after_key (before ++ part) ≡ drop end part = goes part ∙ from_end part end within none at in
    record {
      digested = subst (Holds256 new.digest) (ap (λ l. l ++ drop end part) (nothing before goes) ∙ sym now) (fed (after_key before) it.digested);
      goes_on = subst (λ b. GoesOn b (before ++ part)) (sym is) (λ more.
          ap after_key (append_assoc before part more) ∙ goes (part ++ more) ∙ from_end_more part more end within none at ∙ ap (λ l. l ++ more) (sym now));
    }

pub keeps_key : (old new : DescriptionDigest) (before part : List ℕ) → old.is_after_key ≡ false → new ≡ old
    → ((k : ℕ) → 0 ≤ k → k < length part → (slice_index part k == 10) ≡ true → ⊥) → IsDigestOf old before → IsDigestOf new (before ++ part)
keeps_key old new before part was same none it =
    let goes : GoesOn false before = subst (λ b. GoesOn b before) was it.goes_on in
    let now : after_key (before ++ part) ≡ [] = goes part ∙ without_end part none in
    subst (λ d. IsDigestOf d (before ++ part)) (sym same) (record {
      digested = subst (Holds256 old.digest) (nothing before goes ∙ sym now) it.digested;
      goes_on = subst (λ b. GoesOn b (before ++ part)) (sym was) (λ more.
          ap after_key (append_assoc before part more) ∙ goes (part ++ more) ∙ without_end_more part more none);
    })
