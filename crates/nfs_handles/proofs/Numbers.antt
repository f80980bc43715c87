-- What holds of numbered files holds after each change.
use Rattle.std.proofs.Common.{Less, ◌≡◌, ℕ, ◌+◌, ◌^◌, ◌<◌, ◌≤◌, max, Bool, true, false, cond, List, [], ◌∷◌, ◌++◌, Option, Some, None, All, IfSome, nat_eq, sym, subst, arith}
use Rattle.std.specs.Ordering.{nat_cmp}
use Rattle.std.specs.Cmp.{nat_cmp_is}
use Rattle.std.specs.Map.{keys_of, values_of, set_value, remove_entry}
use Rattle.std.specs.List.Sorted.{IsStrictlySortedBy}
use Rattle.std.proofs.lemmas.List.{map-append}
use Rattle.std.proofs.lemmas.List.Elements.{All-push, All-weaker, All-tail, All-head, recursion_from_All, All-from_recursion}
use Rattle.std.proofs.lemmas.Map.{keys-set_value}
use Rattle.std.proofs.lemmas.Map.Views.{All-map-remove_entry, All-values-set_value, IfSome-lookup_from_All}
use Rattle.nfs_handles.specs.NumberedFiles.{TaggedFile, NumberedFiles, at, with_new, revalued, with_value, without, raised, IsGiven, IsNumbered}

pub less : (x y : ℕ) → x < y → nat_cmp x y ≡ Less
less x y l = sym (nat_cmp_is x y Less l)

pub sorted_push : (ks : List ℕ) (n : ℕ) → IsStrictlySortedBy nat_cmp ks → All (λ k. k < n) ks → IsStrictlySortedBy nat_cmp (ks ++ n ∷ [])
unfolding IsStrictlySortedBy
sorted_push [] n s a = (tt, tt)
sorted_push (k ∷ ks) n s a =
    let rest : All (λ y. nat_cmp k y ≡ Less) ks = All-from_recursion (λ y. nat_cmp k y ≡ Less) ks s.0 in
    let last : nat_cmp k n ≡ Less = less k n (All-head (λ k. k < n) k ks a) in
    (recursion_from_All (λ y. nat_cmp k y ≡ Less) (ks ++ n ∷ []) (All-push (λ y. nat_cmp k y ≡ Less) ks n rest last), sorted_push ks n s.1 (All-tail (λ k. k < n) k ks a))

pub sorted_remove : {X : Type 0} (test : ℕ → Bool) (es : List (ℕ × X)) → IsStrictlySortedBy nat_cmp (keys_of es) → IsStrictlySortedBy nat_cmp (keys_of (remove_entry test es))
unfolding IsStrictlySortedBy
sorted_remove test [] s = s
sorted_remove {X} test (e ∷ es) s = by (test e.0) (sorted_remove test es s.1)
  where
    rest : All (λ y. nat_cmp e.0 y ≡ Less) (keys_of (remove_entry test es))
    rest = All-map-remove_entry test (λ (e : ℕ × X). e.0) (λ y. nat_cmp e.0 y ≡ Less) es (All-from_recursion (λ y. nat_cmp e.0 y ≡ Less) (keys_of es) s.0)

    by : (b : Bool) → IsStrictlySortedBy nat_cmp (keys_of (remove_entry test es)) → IsStrictlySortedBy nat_cmp (keys_of (cond b es (e ∷ remove_entry test es)))
    by true h = s.1
    by false h = (recursion_from_All (λ y. nat_cmp e.0 y ≡ Less) (keys_of (remove_entry test es)) rest, h)

pub below_next : (next : ℕ) (ks : List ℕ) → All (IsGiven next) ks → All (λ k. k < next) ks
below_next next ks a = All-weaker (IsGiven next) (λ k. k < next) (λ k g. g.below) ks a

later : (next k : ℕ) → IsGiven next k → IsGiven (next + 1) k
later next k g = record { counted = g.counted; below = omega (arith, g.below) }

raise : (next more k : ℕ) → next ≤ more → IsGiven next k → IsGiven more k
raise next more k le g = record { counted = g.counted; below = omega (arith, le, g.below) }

module _ {T : Type 0} where
  abbrev HasTag : TaggedFile T → Type 0
  HasTag file = file.tag < 2 ^ 32

  pub numbered_new : (t : NumberedFiles T) (tag : ℕ) (v : T) → IsNumbered t → tag < 2 ^ 32 → t.next + 1 < 2 ^ 64 → IsNumbered (with_new t tag v)
  numbered_new t tag v h fits room =
      let file : TaggedFile T = record { tag = tag; value = v } in
      let keys : keys_of (t.files ++ (t.next, file) ∷ []) ≡ keys_of t.files ++ t.next ∷ [] = map-append (λ (e : ℕ × TaggedFile T). e.0) t.files ((t.next, file) ∷ []) in
      let values : values_of (t.files ++ (t.next, file) ∷ []) ≡ values_of t.files ++ file ∷ [] = map-append (λ (e : ℕ × TaggedFile T). e.1) t.files ((t.next, file) ∷ []) in
      let old : All (IsGiven (t.next + 1)) (keys_of t.files) = All-weaker (IsGiven t.next) (IsGiven (t.next + 1)) (later t.next) (keys_of t.files) h.given in
      let this : IsGiven (t.next + 1) t.next = record { counted = h.some; below = omega arith } in
      record {
        rising = subst (IsStrictlySortedBy nat_cmp) (sym keys) (sorted_push (keys_of t.files) t.next h.rising (below_next t.next (keys_of t.files) h.given));
        given = subst (All (IsGiven (t.next + 1))) (sym keys) (All-push (IsGiven (t.next + 1)) (keys_of t.files) t.next old this);
        tags = subst (All HasTag) (sym values) (All-push HasTag (values_of t.files) file h.tags fits);
        some = omega (arith, h.some);
        last = room;
        key_len = h.key_len;
        key_bytes = h.key_bytes;
      }

  pub numbered_value : (t : NumberedFiles T) (n : ℕ) (v : T) → IsNumbered t → IsNumbered (with_value t n v)
  numbered_value t n v h = by (at t n) (IfSome-lookup_from_All HasTag (nat_eq n) t.files h.tags)
    where
      by : (o : Option (TaggedFile T)) → IfSome o HasTag → IsNumbered (revalued t n v o)
      by None fits = h
      by (Some file) fits =
          let new : TaggedFile T = record { tag = file.tag; value = v } in
          let keys : keys_of (set_value (nat_eq n) t.files new) ≡ keys_of t.files = keys-set_value (nat_eq n) t.files new in
          record {
            rising = subst (IsStrictlySortedBy nat_cmp) (sym keys) h.rising;
            given = subst (All (IsGiven t.next)) (sym keys) h.given;
            tags = All-values-set_value (nat_eq n) HasTag t.files new h.tags fits;
            some = h.some;
            last = h.last;
            key_len = h.key_len;
            key_bytes = h.key_bytes;
          }

  pub numbered_without : (t : NumberedFiles T) (n : ℕ) → IsNumbered t → IsNumbered (without t n)
  numbered_without t n h = record {
    rising = sorted_remove (nat_eq n) t.files h.rising;
    given = All-map-remove_entry (nat_eq n) (λ (e : ℕ × TaggedFile T). e.0) (IsGiven t.next) t.files h.given;
    tags = All-map-remove_entry (nat_eq n) (λ (e : ℕ × TaggedFile T). e.1) HasTag t.files h.tags;
    some = h.some;
    last = h.last;
    key_len = h.key_len;
    key_bytes = h.key_bytes;
  }

  pub numbered_raised : (t : NumberedFiles T) (n : ℕ) → IsNumbered t → n < 2 ^ 64 → IsNumbered (raised t n)
  numbered_raised t n h fits =
      let more : t.next ≤ max t.next n = omega arith in
      record {
        rising = h.rising;
        given = All-weaker (IsGiven t.next) (IsGiven (max t.next n)) (λ k. raise t.next (max t.next n) k more) (keys_of t.files) h.given;
        tags = h.tags;
        some = omega (arith, h.some, more);
        last = omega (arith, h.last, fits);
        key_len = h.key_len;
        key_bytes = h.key_bytes;
      }
