-- Each member stands among those of which something is known.
use Rattle.std.proofs.Common.{◌≡◌, ◌≢◌, ◌⊎◌, ℕ, ◌<◌, ◌≤◌, Bool, true, false, List, length, set, nat_eq, Some, None, IsSome, inl, inr, if◌then◌else◌, refl, sym, ap, subst, ◌∙◌, arith}
use Rattle.std.proofs.lemmas.Bool.{eqb-true, eqb-false}
use Rattle.std.proofs.lemmas.List.{length-set}
use Rattle.slab.specs.Slab.{Slab, get, Updates}
use Rattle.nfs_queue.specs.Queues.{Waiting, IsCalled}
use Rattle.nfs_loop.specs.declared.watches.Hold.TheVariants.{Lines}
use Rattle.nfs_loop.specs.declared.watches.Watch.{Watch}
use Rattle.nfs_loop.specs.Watching.{AreWatched, hold_at}
use Rattle.nfs_loop.proofs.Staying.{none_some}
use Rattle.nfs_loop.proofs.Watching.{hold_here}

pub no_fewer : {a b : ℕ} → b ≡ a → a ≤ b
no_fewer e = omega (arith, e)

-- as many are known of as before
pub length_after : (a b : List Watch) (key : ℕ) (w : Watch) → b ≡ set a key w → length b ≡ length a
length_after a b key w is = ap length is ∙ length-set a key w

pub length_heard : (a b : List Watch) (key : ℕ) (w : Watch) (is_heard : Bool) → b ≡ (if is_heard then set a key w else a) → length b ≡ length a
length_heard a b key w true is = length_after a b key w is
length_heard a b key w false is = ap length is

module _ {M : Type 0} where
  pub watched_none : (members : Slab M) (watches : List Watch) → ((key : ℕ) → get members key ≡ None) → AreWatched members watches
  watched_none members watches none key some = absurd (none_some (get members key) (none key) some)

  -- nobody came
  pub watched_still : (old new : Slab M) (a b : List Watch) → ((key : ℕ) → IsSome (get new key) → IsSome (get old key)) → length a ≤ length b → AreWatched old a → AreWatched new b
  watched_still old new a b were longer w key some = let k : key < length a = w key (were key some) in omega (arith, k, longer)

  -- the members stay
  pub watched_same : (old new : Slab M) (a b : List Watch) → ((key : ℕ) → get new key ≡ get old key) → length a ≤ length b → AreWatched old a → AreWatched new b
  watched_same old new a b same longer w = watched_still old new a b (λ key some. subst IsSome (same key) some) longer w

  -- each stays or leaves
  pub watched_left : (old new : Slab M) (a b : List Watch) → ((key : ℕ) → (get new key ≡ get old key) ⊎ (get new key ≡ None)) → b ≡ a → AreWatched old a → AreWatched new b
  watched_left old new a b stay same w = subst (AreWatched new) (sym same) (λ key some. w key (by_case key (stay key) some))
    where
      by_case : (key : ℕ) → (get new key ≡ get old key) ⊎ (get new key ≡ None) → IsSome (get new key) → IsSome (get old key)
      by_case key (inl is) some = subst IsSome is some
      by_case key (inr gone) some = absurd (none_some (get new key) gone some)

  -- one was called, and is back
  pub were_there : (old mid new : Slab M) (key : ℕ) (member back : M) → get old key ≡ Some member → Updates old mid key None → Updates mid new key (Some back) → (other : ℕ) → IsSome (get new other) → IsSome (get old other)
  were_there old mid new key member back was away comes other some = by_key (nat_eq other key) refl
    where
      by_key : (t : Bool) → nat_eq other key ≡ t → IsSome (get old other)
      by_key true e = subst IsSome (sym (ap (get old) (eqb-true other key e) ∙ was)) refl
      by_key false e = let differ : other ≢ key = eqb-false other key e in subst IsSome (comes.others other differ ∙ away.others other differ) some

  -- one left
  pub were_others : (old new : Slab M) (key : ℕ) → Updates old new key None → (other : ℕ) → IsSome (get new other) → IsSome (get old other)
  were_others old new key away other some = by_key (nat_eq other key) refl
    where
      by_key : (t : Bool) → nat_eq other key ≡ t → IsSome (get old other)
      by_key true e = absurd (none_some (get new other) (ap (get new) (eqb-true other key e) ∙ away.changed) some)
      by_key false e = subst IsSome (away.others other (eqb-false other key e)) some

  -- one came, for whom there is room
  pub watched_one : (old new : Slab M) (key : ℕ) (member : M) (a b : List Watch) → Updates old new key (Some member) → key < length b → length a ≤ length b → AreWatched old a → AreWatched new b
  watched_one old new key member a b comes within longer w other some = by_key (nat_eq other key) refl
    where
      by_key : (t : Bool) → nat_eq other key ≡ t → other < length b
      by_key true e = subst (λ k. k < length b) (sym (eqb-true other key e)) within
      by_key false e = let k : other < length a = w other (subst IsSome (comes.others other (eqb-false other key e)) some) in omega (arith, k, longer)

  pub watched_at : (old new : Slab M) (key vacant : ℕ) (member : M) (a b : List Watch) → key ≡ vacant → Updates old new vacant (Some member) → key < length b → length a ≤ length b → AreWatched old a → AreWatched new b
  watched_at old new key vacant member a b at comes within longer w = watched_one old new vacant member a b comes (subst (λ k. k < length b) at within) longer w

  -- the hold of a member is set
  pub held_now : (members : Slab M) (a b c : List Watch) (key : ℕ) (member : M) (w : Watch) → get members key ≡ Some member → AreWatched members a → length b ≡ length a → c ≡ set b key w → w.hold ≡ Some Lines → hold_at c key ≡ Some Lines
  held_now members a b c key member w was watched same is hold =
      let k : key < length a = watched key (subst IsSome (sym was) refl) in
      let within : key < length b = omega (arith, k, same) in
      ap (λ ws. hold_at ws key) is ∙ hold_here b key w within ∙ hold

  -- one had its turn, and is back or left
  pub watched_back : (old mid : Waiting M) (key : ℕ) (member : M) (c : IsCalled old mid key member) (new : Slab M) (back : M) (a b : List Watch) → Updates mid.0 new key (Some back) → length b ≡ length a → AreWatched old.0 a → AreWatched new b
  watched_back old mid key member c new back a b comes same w = watched_still old.0 new a b (were_there old.0 mid.0 new key member back c.was c.away comes) (omega (arith, same)) w

  pub watched_gone : (old mid : Waiting M) (key : ℕ) (member : M) (c : IsCalled old mid key member) (a b : List Watch) → length b ≡ length a → AreWatched old.0 a → AreWatched mid.0 b
  watched_gone old mid key member c a b same w = watched_still old.0 mid.0 a b (were_others old.0 mid.0 key c.away) (omega (arith, same)) w
