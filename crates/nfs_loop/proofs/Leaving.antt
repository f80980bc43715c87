-- Who leaves since nothing was heard of it.
use Rattle.std.proofs.Common.{◌≡◌, ◌≢◌, ◌⊎◌, ℕ, ◌+◌, ◌<◌, ◌≤◌, Bool, true, false, nat_eq, nat_lt, List, Option, Some, None, is_some, IsSome, inl, inr, refl, sym, ap, subst, ◌∙◌, arith}
use Rattle.std.proofs.lemmas.Bool.{eqb-true, eqb-false, ltb-true, ltb-false, true≢false}
use Rattle.slab.specs.Slab.{Slab, get, Updates}
use Rattle.nfs_loop.specs.declared.watches.Hold.{Hold}
use Rattle.nfs_loop.specs.declared.watches.Watch.{Watch}
use Rattle.nfs_loop.specs.Stages.{AllSilentLeave, IsSilent, LeavesIfSilent, OnlySilentLeave}

-- so far only those have left that have been silent since then
abbrev pub LeftIfSilent : {M : Type 0} → List Watch → List ℕ → ℕ → Slab M → Slab M → Type 0
LeftIfSilent watches queue since old new = (key : ℕ) → (get new key ≡ get old key) ⊎ ((get new key ≡ None) × IsSilent watches queue since key)

pub not_held : (hold at : Option Hold) → hold ≡ at → is_some hold ≡ false → at ≡ None
not_held None at e off = sym e
not_held (Some hold) at e off = absurd (true≢false off)

module _ {M : Type 0} (watches : List Watch) (queue : List ℕ) (since : ℕ) where
  pub left_none : (old : Slab M) → LeftIfSilent watches queue since old old
  left_none old key = inl refl

  pub leaves_one : (key : ℕ) (old new : Slab M) → Updates old new key None → IsSilent watches queue since key → LeavesIfSilent watches queue key since old new
  leaves_one key old new updates silent k = by_key (nat_eq k key) refl
    where
      by_key : (t : Bool) → nat_eq k key ≡ t → (get new k ≡ get old k) ⊎ ((k ≡ key) × (get new k ≡ None) × IsSilent watches queue since key)
      by_key true e = let is : k ≡ key = eqb-true k key e in inr (is, ap (get new) is ∙ updates.changed, silent)
      by_key false e = inl (updates.others k (eqb-false k key e))

  or_left : (old mid new : Slab M) (k key : ℕ) → (get mid k ≡ get old k) ⊎ ((get mid k ≡ None) × IsSilent watches queue since k) → (get new k ≡ get mid k) ⊎ ((k ≡ key) × (get new k ≡ None) × IsSilent watches queue since key)
      → (get new k ≡ get old k) ⊎ ((get new k ≡ None) × IsSilent watches queue since k)
  or_left old mid new k key (inr (gone, silent)) (inl stays) = inr (stays ∙ gone, silent)
  or_left old mid new k key (inl same) (inl stays) = inl (stays ∙ same)
  or_left old mid new k key f (inr (is, gone, silent)) = inr (gone, subst (IsSilent watches queue since) (sym is) silent)

  pub left_on : (key : ℕ) (old mid new : Slab M) → LeftIfSilent watches queue since old mid → LeavesIfSilent watches queue key since mid new → LeftIfSilent watches queue since old new
  left_on key old mid new f g k = or_left old mid new k key (f k) (g k)

  or_since : (idle seconds : ℕ) (old new : Slab M) (key : ℕ) → since + idle ≡ seconds → (get new key ≡ get old key) ⊎ ((get new key ≡ None) × IsSilent watches queue since key)
      → (get new key ≡ get old key) ⊎ ((get new key ≡ None) × ((start : ℕ) × (start + idle ≡ seconds) × IsSilent watches queue start key))
  or_since idle seconds old new key e (inl same) = inl same
  or_since idle seconds old new key e (inr (gone, silent)) = inr (gone, (since, e, silent))

  pub left_silent : (limit : Option ℕ) (seconds : ℕ) (old new : Slab M) → (idle : ℕ) × (limit ≡ Some idle) × (since + idle ≡ seconds) → LeftIfSilent watches queue since old new → OnlySilentLeave watches queue limit seconds old new
  left_silent limit seconds old new (idle, is, e) f = subst (λ o. OnlySilentLeave watches queue o seconds old new) (sym is) (λ key. or_since idle seconds old new key e (f key))

module _ {M : Type 0} (watches : List Watch) (queue : List ℕ) where
  pub none_leave : (limit : Option ℕ) (seconds : ℕ) (old : Slab M) → OnlySilentLeave watches queue limit seconds old old
  none_leave None seconds old = λ key. refl
  none_leave (Some idle) seconds old = λ key. inl refl

  stays_or_gone : (idle seconds : ℕ) (old new : Slab M) (key : ℕ) → (get new key ≡ get old key) ⊎ ((get new key ≡ None) × ((start : ℕ) × (start + idle ≡ seconds) × IsSilent watches queue start key)) → (get new key ≡ get old key) ⊎ (get new key ≡ None)
  stays_or_gone idle seconds old new key (inl same) = inl same
  stays_or_gone idle seconds old new key (inr left) = inr left.0

  -- who doesn't leave stays as it is
  pub stay_or_leave : (limit : Option ℕ) (seconds : ℕ) (old new : Slab M) → OnlySilentLeave watches queue limit seconds old new → (key : ℕ) → (get new key ≡ get old key) ⊎ (get new key ≡ None)
  stay_or_leave None seconds old new only key = inl (only key)
  stay_or_leave (Some idle) seconds old new only key = stays_or_gone idle seconds old new key (only key)

-- ---- those that are silent leave

-- from this key on nobody has stayed that has been silent since then
abbrev pub AreGoneFrom : {M : Type 0} → List Watch → List ℕ → ℕ → ℕ → Slab M → Type 0
AreGoneFrom watches queue since from members = (key : ℕ) → from ≤ key → IsSilent watches queue since key → get members key ≡ None

not_both : (a b : ℕ) → a < b → b ≤ a → ⊥
not_both a b l m = omega (arith, l, m)

from_next : (key k next : ℕ) → next ≡ key + 1 → key < k → next ≤ k
from_next key k next is l = omega (arith, is, l)

same_key : (key k : ℕ) → k ≤ key → key ≤ k → k ≡ key
same_key key k l m = omega (arith, l, m)

from_none : (left key : ℕ) → left ≡ 0 → left ≤ key
from_none left key none = omega (arith, none)

same_start : (start since idle seconds : ℕ) → start + idle ≡ seconds → since + idle ≡ seconds → start ≡ since
same_start start since idle seconds e f = omega (arith, e, f)

no_start : (idle seconds looked start : ℕ) → (seconds ≡ looked) ⊎ (seconds < idle) → seconds ≢ looked → start + idle ≡ seconds → ⊥
no_start idle seconds looked start (inl same) later e = later same
no_start idle seconds looked start (inr few) later e = omega (arith, few, e)

module _ {M : Type 0} (watches : List Watch) (queue : List ℕ) (since : ℕ) where
  pub gone_above : (keys : ℕ) (members : Slab M) → ((key : ℕ) → IsSome (get members key) → key < keys) → AreGoneFrom watches queue since keys members
  gone_above keys members above key from silent = none_by (get members key) refl
    where
      none_by : (o : Option M) → get members key ≡ o → get members key ≡ None
      none_by None e = e
      none_by (Some m) e = absurd (not_both key keys (above key (subst IsSome (sym e) refl)) from)

  pub gone_on : (key next : ℕ) (old new : Slab M) → next ≡ key + 1 → AreGoneFrom watches queue since next old → LeavesIfSilent watches queue key since old new → (IsSilent watches queue since key → get new key ≡ None) → AreGoneFrom watches queue since key new
  gone_on key next old new is gone leaves one k from silent = by_key (nat_lt key k) refl
    where
      stays_gone : (get new k ≡ get old k) ⊎ ((k ≡ key) × (get new k ≡ None) × IsSilent watches queue since key) → get old k ≡ None → get new k ≡ None
      stays_gone (inl same) none = same ∙ none
      stays_gone (inr left) none = left.1

      by_key : (t : Bool) → nat_lt key k ≡ t → get new k ≡ None
      by_key true e = stays_gone (leaves k) (gone k (from_next key k next is (ltb-true key k e)) silent)
      by_key false e = let same : k ≡ key = same_key key k (ltb-false key k e) from in subst (λ n. get new n ≡ None) (sym same) (one (subst (IsSilent watches queue since) same silent))

  pub all_left : (limit : Option ℕ) (seconds looked left : ℕ) (members : Slab M) → (idle : ℕ) × (limit ≡ Some idle) × (since + idle ≡ seconds) → left ≡ 0 → AreGoneFrom watches queue since left members → AllSilentLeave watches queue limit seconds looked members
  all_left limit seconds looked left members (idle, is, e) none gone = subst (λ o. AllSilentLeave watches queue o seconds looked members) (sym is)
      (λ later start at key silent. gone key (from_none left key none) (subst (λ n. IsSilent watches queue n key) (same_start start since idle seconds at e) silent))

-- nobody could have been silent for so long, or it was looked for them in this second already
pub none_silent : {M : Type 0} (watches : List Watch) (queue : List ℕ) (limit : Option ℕ) (seconds looked : ℕ) (members : Slab M) → ((idle : ℕ) → limit ≡ Some idle → (seconds ≡ looked) ⊎ (seconds < idle)) → AllSilentLeave watches queue limit seconds looked members
none_silent watches queue None seconds looked members why = tt
none_silent watches queue (Some idle) seconds looked members why = λ later start at key silent. absurd (no_start idle seconds looked start (why idle refl) later at)

-- who doesn't leave for silence stays as it is
pub stays_or_leaves : {M : Type 0} (watches : List Watch) (queue : List ℕ) (key start : ℕ) (old new : Slab M) → LeavesIfSilent watches queue key start old new → (k : ℕ) → (get new k ≡ get old k) ⊎ (get new k ≡ None)
stays_or_leaves watches queue key start old new leaves k = by_case (leaves k)
  where
    by_case : (get new k ≡ get old k) ⊎ ((k ≡ key) × (get new k ≡ None) × IsSilent watches queue start key) → (get new k ≡ get old k) ⊎ (get new k ≡ None)
    by_case (inl same) = inl same
    by_case (inr left) = inr left.1
