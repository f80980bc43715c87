-- The groups that were read so far, and those that are still to be read.
use Rattle.std.proofs.Common.{◌≡◌, ℕ, suc, ◌+◌, ◌-◌, ◌≤◌, ◌<◌, List, [], ◌∷◌, ◌++◌, Ok, Err, refl, sym, ap, ◌∙◌, append_assoc, append-nil, arith}
use Rattle.std.specs.Int.{w32}
use Rattle.nfs_xdr.specs.declared.fault.XdrFault.{XdrFault}
use Rattle.nfs_xdr.specs.Reading.{Read, ◌>>=◌, number_at, items_at}

-- items after those that were read before
abbrev after : {A : Type 0} → List A → Read (List A) → Read (List A)
after first others = others >>= λ p. Ok (first ++ p.0, p.1)

-- Reading count items from the start is reading so many of them, and the others from here on.
abbrev pub Leads : ℕ → ℕ → List ℕ → List ℕ → List ℕ → Type 0
Leads count done start items now = (left : ℕ) → done + left ≡ count → items_at (number_at w32) count start ≡ after items (items_at (number_at w32) left now)

after_one : {A : Type 0} (items : List A) (x : A) (others : Read (List A)) → after items (others >>= λ p. Ok (x ∷ p.0, p.1)) ≡ after (items ++ x ∷ []) others
after_one items x (Ok p) = ap (λ t. Ok (t, p.1)) (sym (append_assoc items (x ∷ []) p.0))
after_one items x (Err e) = refl

after_none : {A : Type 0} (others : Read (List A)) → others ≡ after [] others
after_none (Ok p) = refl
after_none (Err e) = refl

-- the first item, and the others
abbrev led : {A : Type 0} → (List ℕ → Read A) → ℕ → Read A → Read (List A)
led read n first = first >>= λ item. items_at read n item.1 >>= λ p. Ok (item.0 ∷ p.0, p.1)

pub leads_first : (count : ℕ) (start : List ℕ) → Leads count 0 start [] start
leads_first count start left e = ap (λ n. items_at (number_at w32) n start) (sym e ∙ omega arith) ∙ after_none (items_at (number_at w32) left start)

pub leads_on : (count done x : ℕ) (start items more now next : List ℕ) → Leads count done start items now → number_at w32 now ≡ Ok (x, next) → more ≡ items ++ x ∷ [] → Leads count (done + 1) start more next
leads_on count done x start items more now next leads e grown left is =
    leads (suc left) (omega (arith, is))
    ∙ ap (λ r. after items (led (number_at w32) left r)) e
    ∙ after_one items x (items_at (number_at w32) left next)
    ∙ ap (λ t. after t (items_at (number_at w32) left next)) (sym grown)

pub leads_end : (count done : ℕ) (start items now : List ℕ) → Leads count done start items now → done ≤ count → count ≤ done → items_at (number_at w32) count start ≡ Ok (items, now)
leads_end count done start items now leads low high = leads 0 (omega arith) ∙ ap (λ t. Ok (t, now)) (append-nil items)

rest_of : (count done : ℕ) → done < count → (n : ℕ) × (done + suc n ≡ count)
rest_of count done below = (count - suc done, omega arith)

pub leads_fault : (count done : ℕ) (start items now : List ℕ) (fault : XdrFault) → Leads count done start items now → done < count → number_at w32 now ≡ Err fault → items_at (number_at w32) count start ≡ Err fault
leads_fault count done start items now fault leads below e =
    let more : (n : ℕ) × (done + suc n ≡ count) = rest_of count done below in
    leads (suc more.0) more.1 ∙ ap (λ r. after items (led (number_at w32) more.0 r)) e
