-- Who stays as it is, and who may be held after turns.
use Rattle.std.proofs.Common.{◌≡◌, ◌≢◌, ◌⊎◌, ℕ, ◌<◌, true, ◌||◌, List, [], ◌∷◌, ◌++◌, length, nat_eq, set, Option, Some, None, IsSome, inl, inr, refl, sym, ap, subst, ◌∙◌, arith}
use Rattle.std.proofs.lemmas.Bool.{eq-eqb, true≢false}
use Rattle.std.proofs.lemmas.List.Folds.{list_any-append}
use Rattle.slab.specs.Slab.{Slab, get, Updates}
use Rattle.nfs_queue.specs.Queues.{is_waiting}
use Rattle.nfs_queue.proofs.Queueing.{or_true}
use Rattle.nfs_loop.specs.declared.watches.Hold.TheVariants.{Lines}
use Rattle.nfs_loop.specs.declared.watches.Watch.{Watch}
use Rattle.nfs_loop.specs.Watching.{heard_at, hold_at, watch_at, AllStay, FirstMayBeHeld, SomeMayBeHeld}
use Rattle.nfs_loop.proofs.Watching.{hold_set}

pub none_some : {X : Type 0} (o : Option X) → o ≡ None → IsSome o → ⊥
none_some None e s = true≢false (sym s)
none_some (Some x) e s = cc

module _ {M : Type 0} where
  pub all_stay : (old : Slab M) (watched : List Watch) → AllStay old watched old watched
  all_stay old watched key some = (refl, refl, refl)

  pub stay_then : (old mid new : Slab M) (a b c : List Watch) → AllStay old a mid b → AllStay mid b new c → AllStay old a new c
  stay_then old mid new a b c f g key some =
      let x = f key some in
      let y = g key (subst IsSome (sym x.0) some) in
      (y.0 ∙ x.0, y.1 ∙ x.1, y.2 ∙ x.2)

  -- nothing became of members, of holds, and of when they were heard of
  pub stay_same : (old new : Slab M) (a b : List Watch) → ((key : ℕ) → get new key ≡ get old key) → ((key : ℕ) → hold_at b key ≡ hold_at a key) → ((key : ℕ) → heard_at b key ≡ heard_at a key) → AllStay old a new b
  stay_same old new a b members holds heard key some = (members key, holds key, heard key)

  -- one came where none was
  pub stay_where_one_joins : (old new : Slab M) (key : ℕ) (member : M) (a b c : List Watch) → get old key ≡ None → Updates old new key (Some member) → ((k : ℕ) → watch_at b k ≡ watch_at a k) → ((other : ℕ) → other ≢ key → watch_at c other ≡ watch_at b other) → AllStay old a new c
  stay_where_one_joins old new key member a b c free sits room others k some =
      let differ : k ≢ key = λ same. none_some (get old key) free (subst (λ n. IsSome (get old n)) same some) in
      let known : watch_at c k ≡ watch_at a k = others k differ ∙ room k in
      (sits.others k differ, ap (λ (w : Watch). w.hold) known, ap (λ (w : Watch). w.heard) known)

pub first_held : (watches new : List Watch) (key : ℕ) (rest queue : List ℕ) (w : Watch) → queue ≡ key ∷ rest → new ≡ set watches key w → w.hold ≡ Some Lines → FirstMayBeHeld queue watches new
first_held watches new key rest queue w first is hold k = subst (λ ws. (hold_at ws k ≡ hold_at watches k) ⊎ (((rest : List ℕ) × (queue ≡ k ∷ rest)) × (hold_at ws k ≡ Some Lines))) (sym is) (by_set (hold_set watches key k w))
  where
    by_set : (hold_at (set watches key w) k ≡ hold_at watches k) ⊎ ((k ≡ key) × (hold_at (set watches key w) k ≡ w.hold)) → (hold_at (set watches key w) k ≡ hold_at watches k) ⊎ (((rest : List ℕ) × (queue ≡ k ∷ rest)) × (hold_at (set watches key w) k ≡ Some Lines))
    by_set (inl same) = inl same
    by_set (inr s) = inr ((rest, first ∙ ap (λ n. n ∷ rest) (sym s.0)), s.1 ∙ hold)

-- before that, holds stayed
pub held_after : (queue : List ℕ) (a b c : List Watch) → ((key : ℕ) → hold_at b key ≡ hold_at a key) → FirstMayBeHeld queue b c → FirstMayBeHeld queue a c
held_after queue a b c same f key = by_case (f key)
  where
    by_case : (hold_at c key ≡ hold_at b key) ⊎ (((rest : List ℕ) × (queue ≡ key ∷ rest)) × (hold_at c key ≡ Some Lines)) → (hold_at c key ≡ hold_at a key) ⊎ (((rest : List ℕ) × (queue ≡ key ∷ rest)) × (hold_at c key ≡ Some Lines))
    by_case (inl stays) = inl (stays ∙ same key)
    by_case (inr held) = inr held

first_is : (x k : ℕ) (xs r : List ℕ) → x ∷ xs ≡ k ∷ r → k ≡ x
first_is x k xs r e = cc

-- all others but the first of a queue are held or not as they were
pub others_not_held : (queue : List ℕ) (a b : List Watch) (key : ℕ) (rest : List ℕ) → queue ≡ key ∷ rest → FirstMayBeHeld queue a b → (other : ℕ) → other ≢ key → hold_at b other ≡ hold_at a other
others_not_held queue a b key rest is f other differ = by_case (f other)
  where
    by_case : (hold_at b other ≡ hold_at a other) ⊎ (((r : List ℕ) × (queue ≡ other ∷ r)) × (hold_at b other ≡ Some Lines)) → hold_at b other ≡ hold_at a other
    by_case (inl same) = same
    by_case (inr held) = absurd (differ (first_is key other rest held.0.0 (sym is ∙ held.0.1)))

none_below : (n : ℕ) → 0 ≡ n → 0 < n → ⊥
none_below n e l = omega (arith, e, l)

waits_there : (before after : List ℕ) (k x : ℕ) → k ≡ x → is_waiting k (before ++ x ∷ after) ≡ true
waits_there before after k x same = list_any-append (nat_eq k) before (x ∷ after) ∙ ap (λ b. is_waiting k before || (b || is_waiting k after)) (eq-eqb k x same) ∙ or_true (is_waiting k before)

-- the first of the queue in the midst of a round is one of those that waited first
pub first_waits : (first queue before rest again : List ℕ) (left k : ℕ) → first ≡ before ++ rest → queue ≡ rest ++ again → length rest ≡ left → 0 < left → (r : List ℕ) × (queue ≡ k ∷ r) → is_waiting k first ≡ true
first_waits first queue before [] again left k f q l some head = absurd (none_below left l some)
first_waits first queue before (x ∷ rest) again left k f q l some head = ap (is_waiting k) f ∙ waits_there before rest k x (first_is x k (rest ++ again) head.0 (sym q ∙ head.1))

pub some_held_on : (first queue before rest again : List ℕ) (left : ℕ) (a b c : List Watch) → first ≡ before ++ rest → queue ≡ rest ++ again → length rest ≡ left → 0 < left → SomeMayBeHeld first a b → FirstMayBeHeld queue b c → SomeMayBeHeld first a c
some_held_on first queue before rest again left a b c f q l some done one key = by_case (one key) (done key)
  where
    by_case : (hold_at c key ≡ hold_at b key) ⊎ (((rest : List ℕ) × (queue ≡ key ∷ rest)) × (hold_at c key ≡ Some Lines)) → (hold_at b key ≡ hold_at a key) ⊎ ((is_waiting key first ≡ true) × (hold_at b key ≡ Some Lines))
        → (hold_at c key ≡ hold_at a key) ⊎ ((is_waiting key first ≡ true) × (hold_at c key ≡ Some Lines))
    by_case (inl stays) (inl same) = inl (stays ∙ same)
    by_case (inl stays) (inr held) = inr (held.0, stays ∙ held.1)
    by_case (inr held) d = inr (first_waits first queue before rest again left key f q l some held.0, held.1)
