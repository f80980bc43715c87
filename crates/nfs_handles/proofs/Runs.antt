-- What runs keep.
use Rattle.std.proofs.Common.{◌≡◌, ℕ, ◌-◌, ◌^◌, ◌<◌, ◌≤◌, ◌⊎◌, inl, inr, Bool, true, false, cond, List, [], ◌∷◌, ◌++◌, Option, Some, None, Result, Ok, Err, IsSome, is_some, option_map, nat_eq, sym, ap, subst, refl, ◌∙◌, arith}
use Rattle.std.proofs.lemmas.Bool.{eq-eqb, eqb-true}
use Rattle.nfs_handles.specs.NumberedFiles.{TaggedFile, NumberedFiles, at, tag_at, revalued, without, IsGiven, IsNumbered}
use Rattle.nfs_handles.specs.Handles.{tag_in, live_with, reading, number}
use Rattle.nfs_handles.specs.Changes.{Puts, Takes}
use Rattle.nfs_handles.specs.declared.number.Number.{Number}
use Rattle.nfs_handles.specs.declared.fault.PutFault.{PutFault}
use Rattle.nfs_handles.specs.declared.fault.PutFault.TheVariants.{Spent, Memory}
use Rattle.nfs_handles.specs.declared.reading.Reading.TheVariants.{Live, Stale}
use Rattle.nfs_handles.specs.Runs.{Change, Nothing, Put, Changed, Taken, changed, CanChange, Goes, Runs, CallsGo, RunsKeep, NumbersAreForGood}
use Rattle.nfs_handles.proofs.Numbers.{numbered_new, numbered_value, numbered_without}
use Rattle.nfs_handles.proofs.Lookups.{live_is_given, at_new, at_value, at_without}
use Rattle.nfs_handles.proofs.Handles.{Names, names, history_checks}

-- the tag that a number had, or none
abbrev Keeps : Option ℕ → Option ℕ → Type 0
Keeps old new = (new ≡ old) ⊎ (new ≡ None)

both : (a b c : Option ℕ) → Keeps a b → Keeps b c → Keeps a c
both a b c (inl p) (inl q) = inl (q ∙ p)
both a b c (inr p) (inl q) = inr (q ∙ p)
both a b c first (inr q) = inr q

no_eq : (m n : ℕ) → n < m → nat_eq m n ≡ false
no_eq m n l = by (nat_eq m n) (eqb-true m n)
  where
    by : (b : Bool) → (b ≡ true → m ≡ n) → b ≡ false
    by true f = absurd (let e : m ≡ n = f refl in omega arith)
    by false f = refl

module _ {T : Type 0} where
  -- ---- one change

  puts_go : (old new : NumberedFiles T) (v : T) (result : Result Number (PutFault T)) → Puts old v result new → Goes old new
  puts_go old new v (Ok n) p = (Put p.2.tag v, (p.2.tag_is.fits, p.1), p.2.new_is)
  puts_go old new v (Err (Spent back)) p = (Nothing, tt, p.2)
  puts_go old new v (Err (Memory back refused)) p = (Nothing, tt, p.2)

  takes_go : (old new : NumberedFiles T) (n : ℕ) (result : Option T) → Takes old n result new → Goes old new
  takes_go old new n (Some v) p = (Taken n, tt, p.1)
  takes_go old new n None p = (Nothing, tt, p.1)

  numbered_changed : (t : NumberedFiles T) (change : Change T) → IsNumbered t → CanChange t change → IsNumbered (changed t change)
  numbered_changed t Nothing h can = h
  numbered_changed t (Put tag v) h can =
      let more : t.next ≡ 2 ^ 64 - 1 → ⊥ = can.1 in
      numbered_new t tag v h can.0 (omega (arith, h.last, more))
  numbered_changed t (Changed n v) h can = numbered_value t n v h
  numbered_changed t (Taken n) h can = numbered_without t n h

  key_revalued : (t : NumberedFiles T) (n : ℕ) (v : T) (o : Option (TaggedFile T)) → (revalued t n v o).key ≡ t.key
  key_revalued t n v None = refl
  key_revalued t n v (Some file) = refl

  next_revalued : (t : NumberedFiles T) (n : ℕ) (v : T) (o : Option (TaggedFile T)) → (revalued t n v o).next ≡ t.next
  next_revalued t n v None = refl
  next_revalued t n v (Some file) = refl

  key_changed : (t : NumberedFiles T) (change : Change T) → (changed t change).key ≡ t.key
  key_changed t Nothing = refl
  key_changed t (Put tag v) = refl
  key_changed t (Changed n v) = key_revalued t n v (at t n)
  key_changed t (Taken n) = refl

  next_changed : (t : NumberedFiles T) (change : Change T) → t.next ≤ (changed t change).next
  next_changed t Nothing = omega arith
  next_changed t (Put tag v) = omega arith
  next_changed t (Changed n v) = omega (arith, next_revalued t n v (at t n))
  next_changed t (Taken n) = omega arith

  abbrev tag_of : Option (TaggedFile T) → Option ℕ
  tag_of o = option_map (λ (file : TaggedFile T). file.tag) o

  tag_changed : (t : NumberedFiles T) (change : Change T) (n : ℕ) → IsNumbered t → n < t.next → Keeps (tag_at t n) (tag_at (changed t change) n)
  tag_changed t Nothing n h l = inl refl
  tag_changed t (Put tag v) n h l = inl (ap tag_of (at_new t tag v n h) ∙ ap (λ b. tag_of (cond b (Some (record { tag = tag; value = v })) (at t n))) (no_eq t.next n l))
  tag_changed t (Changed m v) n h l = inl (ap tag_of (at_value t m v n) ∙ by (nat_eq m n) refl)
    where
      same : (o : Option (TaggedFile T)) → tag_of (option_map (λ (file : TaggedFile T). record { tag = file.tag; value = v }) o) ≡ tag_of o
      same None = refl
      same (Some file) = refl

      by : (b : Bool) → nat_eq m n ≡ b → tag_of (cond b (option_map (λ (file : TaggedFile T). record { tag = file.tag; value = v }) (at t m)) (at t n)) ≡ tag_at t n
      by true e = same (at t m) ∙ ap (tag_at t) (eqb-true m n e)
      by false e = refl
  tag_changed t (Taken m) n h l = by (nat_eq m n) (ap tag_of (at_without t m n h))
    where
      by : (b : Bool) → tag_at (without t m) n ≡ tag_of (cond b None (at t n)) → Keeps (tag_at t n) (tag_at (without t m) n)
      by true e = inr e
      by false e = inl e

  -- ---- a run

  run_joined : (t u w : NumberedFiles T) (first later : List (Change T)) → Runs t first u → Runs u later w → Runs t (first ++ later) w
  run_joined t u w [] later r s = subst (λ v. Runs v later w) r s
  run_joined t u w (change ∷ first) later r s = (r.0, run_joined (changed t change) u w first later r.1 s)

  run_numbered : (t u : NumberedFiles T) (changes : List (Change T)) → IsNumbered t → Runs t changes u → IsNumbered u
  run_numbered t u [] h r = subst IsNumbered (sym r) h
  run_numbered t u (change ∷ later) h r = run_numbered (changed t change) u later (numbered_changed t change h r.0) r.1

  run_key : (t u : NumberedFiles T) (changes : List (Change T)) → Runs t changes u → u.key ≡ t.key
  run_key t u [] r = ap (λ (w : NumberedFiles T). w.key) r
  run_key t u (change ∷ later) r = run_key (changed t change) u later r.1 ∙ key_changed t change

  run_next : (t u : NumberedFiles T) (changes : List (Change T)) → Runs t changes u → t.next ≤ u.next
  run_next t u [] r = subst (λ (w : NumberedFiles T). t.next ≤ w.next) (sym r) (omega arith)
  run_next t u (change ∷ later) r =
      let first : t.next ≤ (changed t change).next = next_changed t change in
      let then : (changed t change).next ≤ u.next = run_next (changed t change) u later r.1 in
      omega arith

  run_tag : (t u : NumberedFiles T) (changes : List (Change T)) (n : ℕ) → IsNumbered t → Runs t changes u → n < t.next → Keeps (tag_at t n) (tag_at u n)
  run_tag t u [] n h r l = inl (ap (λ (w : NumberedFiles T). tag_at w n) r)
  run_tag t u (change ∷ later) n h r l =
      let next : t.next ≤ (changed t change).next = next_changed t change in
      both (tag_at t n) (tag_at (changed t change) n) (tag_at u n) (tag_changed t change n h l)
      (run_tag (changed t change) u later n (numbered_changed t change h r.0) r.1 (omega arith))

  untagged_is_none : (o : Option (TaggedFile T)) → tag_of o ≡ None → o ≡ None
  untagged_is_none None e = refl
  untagged_is_none (Some file) e = cc

  run_gone : (t u : NumberedFiles T) (changes : List (Change T)) (n : ℕ) → IsNumbered t → Runs t changes u → n < t.next → at t n ≡ None → at u n ≡ None
  run_gone t u changes n h r l none = untagged_is_none (at u n) (by (run_tag t u changes n h r l))
    where
      by : Keeps (tag_at t n) (tag_at u n) → tag_at u n ≡ None
      by (inl e) = e ∙ ap tag_of none
      by (inr e) = e

  run_lives : (t u : NumberedFiles T) (changes : List (Change T)) (n : ℕ) → IsNumbered t → Runs t changes u → n < t.next → IsSome (at u n) → tag_at u n ≡ tag_at t n
  run_lives t u changes n h r l some = by (at u n) some (run_tag t u changes n h r l)
    where
      by : (o : Option (TaggedFile T)) → IsSome o → Keeps (tag_at t n) (tag_of o) → tag_of o ≡ tag_at t n
      by None some k = cc
      by (Some file) some (inl e) = e
      by (Some file) some (inr e) = cc

  run_handle : (t u : NumberedFiles T) (changes : List (Change T)) (n : ℕ) (handle : List ℕ) → IsNumbered t → Runs t changes u → reading t handle ≡ Live (number n)
      → reading u handle ≡ cond (is_some (at u n)) (Live (number n)) Stale
  run_handle t u changes n handle h r live =
      let it : Names t n handle = names t n handle live in
      let old : IsGiven t.next n = live_is_given t n h (ap is_some it.found) in
      let rise : t.next ≤ u.next = run_next t u changes r in
      let given : IsGiven u.next n = record { counted = old.counted; below = omega (arith, old.below) } in
      history_checks u handle n it.shaped (it.ours ∙ sym (run_key t u changes r)) it.number given
      ∙ by it.file it.found it.tag (at u n) (run_tag t u changes n h r old.below)
    where
      by : (file : TaggedFile T) → at t n ≡ Some file → tag_in handle ≡ file.tag → (o : Option (TaggedFile T)) → Keeps (tag_at t n) (tag_of o) → live_with (tag_in handle) n o ≡ cond (is_some o) (Live (number n)) Stale
      by file found tag None k = refl
      by file found tag (Some now) (inl e) =
          let same : Some now.tag ≡ Some file.tag = e ∙ ap tag_of found in
          let one : now.tag ≡ file.tag = cc in
          ap (λ b. cond b (Live (number n)) Stale) (eq-eqb (tag_in handle) now.tag (tag ∙ sym one))
      by file found tag (Some now) (inr e) = cc

pub calls_go : {T : Type 0} → CallsGo T
calls_go = record { put = puts_go; changed = λ old n v. (Changed n v, tt, refl); taken = takes_go }

pub runs_keep : {T : Type 0} → RunsKeep T
runs_keep = record { joined = run_joined; numbered = run_numbered; key = run_key; next = run_next }

pub numbers_are_for_good : {T : Type 0} → NumbersAreForGood T
numbers_are_for_good = record { gone = run_gone; tag = run_lives; handle = run_handle }
