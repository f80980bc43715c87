-- When those that are held wait again.
use Rattle.std.proofs.Common.{◌≡◌, ◌≢◌, ◌⊎◌, ℕ, ◌+◌, ◌<◌, ◌≤◌, Bool, true, false, ◌||◌, if◌then◌else◌, nat_eq, nat_lt, List, [], ◌∷◌, ◌++◌, length, set, Option, Some, None, inl, inr, refl, sym, ap, subst, ◌∙◌, append_assoc, append-nil, arith}
use Rattle.std.proofs.lemmas.Bool.{eqb-true, ltb-true, ltb-false, true≢false}
use Rattle.std.proofs.lemmas.List.{get_or_past}
use Rattle.std.proofs.lemmas.List.Folds.{list_any-append}
use Rattle.slab.specs.Slab.{Slab, get}
use Rattle.nfs_queue.specs.Queues.{is_waiting, with_ready}
use Rattle.nfs_loop.specs.declared.watches.Watch.{Watch}
use Rattle.nfs_loop.specs.Reports.{Report, since, Accounts}
use Rattle.nfs_loop.specs.Watching.{heard_at, hold_at, is_over, hold_after, queue_after, ReleasesOne, Releases, ReleasesBy}
use Rattle.nfs_loop.proofs.Reporting.{accounts_one, accounts_same}
use Rattle.nfs_loop.proofs.Watching.{heard_stays, hold_none, hold_others}
use Rattle.nfs_loop.proofs.Lengthening.{waits_last, waits_on}

-- ---- one client

module _ {M : Type 0} (members : Slab M) (full : Bool) (now key : ℕ) (old new : List Watch) (queue later : List ℕ) where
  -- its hold is over
  pub releases_it : (w : Watch) → w.hold ≡ None → w.heard ≡ heard_at old key → is_over full now (hold_at old key) ≡ true → new ≡ set old key w → later ≡ with_ready (get members key) key queue → ReleasesOne members full now key old new queue later
  releases_it w none heard over is after = record {
    hold_is = ap (λ ws. hold_at ws key) is ∙ hold_none old key w none ∙ sym (ap (λ (b : Bool). if b then None else hold_at old key) over);
    others = λ other differ. ap (λ ws. hold_at ws other) is ∙ hold_others old key other w differ;
    later_is = after ∙ sym (ap (λ b. queue_after b (get members key) key queue) over);
    heard_stay = λ k. ap (λ ws. heard_at ws k) is ∙ heard_stays old key k w heard;
  }

  -- it is not
  pub keeps_it : is_over full now (hold_at old key) ≡ false → new ≡ old → later ≡ queue → ReleasesOne members full now key old new queue later
  keeps_it not is after = record {
    hold_is = ap (λ ws. hold_at ws key) is ∙ sym (ap (λ (b : Bool). if b then None else hold_at old key) not);
    others = λ other differ. ap (λ ws. hold_at ws other) is;
    later_is = after ∙ sym (ap (λ b. queue_after b (get members key) key queue) not);
    heard_stay = λ k. ap (λ ws. heard_at ws k) is;
  }

-- ---- one after another, from the last key on

-- those from this key on had their turn to be released, the others not yet
pub record Releasing {M : Type 0} (members : Slab M) (full : Bool) (now : ℕ) (old new : List Watch) (queue later : List ℕ) (left : ℕ) : Type 0 where
  pub done : (key : ℕ) → left ≤ key → hold_at new key ≡ hold_after full now (hold_at old key)
  pub yet : (key : ℕ) → key < left → hold_at new key ≡ hold_at old key
  pub added : List ℕ
  pub after : later ≡ queue ++ added
  pub all_wait : (key : ℕ) → left ≤ key → is_over full now (hold_at old key) ≡ true → (get members key ≡ None) ⊎ (is_waiting key later ≡ true)
  pub no_others : (key : ℕ) → is_waiting key added ≡ true → is_over full now (hold_at old key) ≡ true
  pub heard_stay : (key : ℕ) → heard_at new key ≡ heard_at old key

beyond : (watches : List Watch) (key : ℕ) → length watches ≤ key → hold_at watches key ≡ None
beyond watches key l = ap (λ (w : Watch). w.hold) (get_or_past watches key _ l)

none_left : (n : ℕ) → n < 0 → ⊥
none_left n l = omega (arith, l)

same_key : (left key k : ℕ) → left ≡ key + 1 → key ≤ k → k ≤ key → k ≡ key
same_key left key k e a b = omega (arith, a, b)

above : (left key k : ℕ) → left ≡ key + 1 → key < k → left ≤ k
above left key k e a = omega (arith, e, a)

not_above : (key k : ℕ) → key < k → k ≢ key
not_above key k a e = none_left 0 (omega (arith, a, e))

not_below : (key k : ℕ) → k < key → k ≢ key
not_below key k a e = none_left 0 (omega (arith, a, e))

below : (left key k : ℕ) → left ≡ key + 1 → k < key → k < left
below left key k e a = omega (arith, e, a)

last_below : (left key : ℕ) → left ≡ key + 1 → key < left
last_below left key e = omega (arith, e)

-- what a key's client adds to the queue
adds : {M : Type 0} (over : Bool) (member : Option M) (key : ℕ) (queue : List ℕ) → (more : List ℕ) × (queue_after over member key queue ≡ queue ++ more) × (over ≡ true → (member ≡ None) ⊎ (is_waiting key (queue ++ more) ≡ true))
    × ((k : ℕ) → is_waiting k more ≡ true → (k ≡ key) × (over ≡ true))
adds false member key queue = ([], sym (append-nil queue), λ e. absurd (true≢false (sym e)), λ k w. absurd (true≢false (sym w)))
adds true None key queue = ([], sym (append-nil queue), λ e. inl refl, λ k w. absurd (true≢false (sym w)))
adds true (Some m) key queue = by_waiting (is_waiting key queue) refl
  where
    or_last : (b : Bool) → (b || false) ≡ true → b ≡ true
    or_last true e = refl
    or_last false e = e

    by_waiting : (t : Bool) → is_waiting key queue ≡ t → (more : List ℕ) × ((if t then queue else queue ++ key ∷ []) ≡ queue ++ more) × (true ≡ true → (Some m ≡ None) ⊎ (is_waiting key (queue ++ more) ≡ true)) × ((k : ℕ) → is_waiting k more ≡ true → (k ≡ key) × (true ≡ true))
    by_waiting true e = ([], sym (append-nil queue), λ o. inr (waits_on key queue [] e), λ k w. absurd (true≢false (sym w)))
    by_waiting false e = (key ∷ [], refl, λ o. inr (waits_last key queue), λ k w. (eqb-true k key (or_last (nat_eq k key) w), refl))

module _ {M : Type 0} (members : Slab M) (full : Bool) (now : ℕ) (old : List Watch) (queue : List ℕ) where
  pub releasing_begins : (left : ℕ) → left ≡ length old → Releasing members full now old old queue queue left
  releasing_begins left e = record {
    done = λ key l. let none : hold_at old key ≡ None = beyond old key (subst (λ n. n ≤ key) e l) in none ∙ ap (hold_after full now) (sym none);
    yet = λ key l. refl;
    added = [];
    after = sym (append-nil queue);
    all_wait = λ key l over. absurd (true≢false (sym over ∙ ap (is_over full now) (beyond old key (subst (λ n. n ≤ key) e l))));
    no_others = λ key w. absurd (true≢false (sym w));
    heard_stay = λ key. refl;
  }

  module _ (mid new : List Watch) (between later : List ℕ) (left key : ℕ) (is : left ≡ key + 1) (r : Releasing members full now old mid queue between left) (one : ReleasesOne members full now key mid new between later) where
    was : hold_at mid key ≡ hold_at old key
    was = r.yet key (last_below left key is)

    over_is : is_over full now (hold_at mid key) ≡ is_over full now (hold_at old key)
    over_is = ap (is_over full now) was

    done_on : (k : ℕ) (t : Bool) → nat_lt key k ≡ t → key ≤ k → hold_at new k ≡ hold_after full now (hold_at old k)
    done_on k true e l = let a : key < k = ltb-true key k e in one.others k (not_above key k a) ∙ r.done k (above left key k is a)
    done_on k false e l = subst (λ n. hold_at new n ≡ hold_after full now (hold_at old n)) (sym (same_key left key k is l (ltb-false key k e))) (one.hold_is ∙ ap (hold_after full now) was)

    more : (more : List ℕ) × (queue_after (is_over full now (hold_at mid key)) (get members key) key between ≡ between ++ more) × (is_over full now (hold_at mid key) ≡ true → (get members key ≡ None) ⊎ (is_waiting key (between ++ more) ≡ true))
        × ((k : ℕ) → is_waiting k more ≡ true → (k ≡ key) × (is_over full now (hold_at mid key) ≡ true))
    more = adds (is_over full now (hold_at mid key)) (get members key) key between

    later_is : later ≡ between ++ more.0
    later_is = one.later_is ∙ more.1

    on : (k : ℕ) → (get members k ≡ None) ⊎ (is_waiting k between ≡ true) → (get members k ≡ None) ⊎ (is_waiting k later ≡ true)
    on k (inl none) = inl none
    on k (inr waits) = inr (subst (λ q. is_waiting k q ≡ true) (sym later_is) (waits_on k between more.0 waits))

    waits_now : is_over full now (hold_at old key) ≡ true → (get members key ≡ None) ⊎ (is_waiting key later ≡ true)
    waits_now o = subst (λ q. (get members key ≡ None) ⊎ (is_waiting key q ≡ true)) (sym later_is) (more.2 (over_is ∙ o))

    all_wait_on : (k : ℕ) (t : Bool) → nat_lt key k ≡ t → key ≤ k → is_over full now (hold_at old k) ≡ true → (get members k ≡ None) ⊎ (is_waiting k later ≡ true)
    all_wait_on k true e l o = on k (r.all_wait k (above left key k is (ltb-true key k e)) o)
    all_wait_on k false e l o =
        let same : k ≡ key = same_key left key k is l (ltb-false key k e) in
        subst (λ n. (get members n ≡ None) ⊎ (is_waiting n later ≡ true)) (sym same) (waits_now (subst (λ n. is_over full now (hold_at old n) ≡ true) same o))

    no_others_on : (k : ℕ) (t : Bool) → is_waiting k r.added ≡ t → (t || is_waiting k more.0) ≡ true → is_over full now (hold_at old k) ≡ true
    no_others_on k true e w = r.no_others k e
    no_others_on k false e w = let m = more.3 k w in subst (λ n. is_over full now (hold_at old n) ≡ true) (sym m.0) (sym over_is ∙ m.1)

    pub releasing_on : Releasing members full now old new queue later key
    releasing_on = record {
      done = λ k l. done_on k (nat_lt key k) refl l;
      yet = λ k l. one.others k (not_below key k l) ∙ r.yet k (below left key k is l);
      added = r.added ++ more.0;
      after = later_is ∙ ap (λ q. q ++ more.0) r.after ∙ append_assoc queue r.added more.0;
      all_wait = λ k l o. all_wait_on k (nat_lt key k) refl l o;
      no_others = λ k w. no_others_on k (is_waiting k r.added) refl (sym (list_any-append (nat_eq k) r.added more.0) ∙ w);
      heard_stay = λ k. one.heard_stay k ∙ r.heard_stay k;
    }

  pub releasing_ends : (new : List Watch) (later : List ℕ) (left : ℕ) → left ≡ 0 → Releasing members full now old new queue later left → Releases members full now old new queue later
  releasing_ends new later left none r = record {
    holds_are = λ key. r.done key (all_above left key none);
    added = r.added;
    after = r.after;
    all_wait = λ key o. r.all_wait key (all_above left key none) o;
    no_others = r.no_others;
    heard_stay = r.heard_stay;
  }
    where
      all_above : (left key : ℕ) → left ≡ 0 → left ≤ key
      all_above left key e = omega (arith, e)

pub none_counted : (n : ℕ) → false ≡ nat_lt 0 n → n ≡ 0
none_counted n e = let l : n ≤ 0 = ltb-false 0 n (sym e) in omega (arith, l)

pub releases_account : {M : Type 0} (members : Slab M) (full : Bool) (reported reported_now : Option (List Report)) (old new : List Watch) (queue later : List ℕ) → ReleasesBy members full reported reported_now old new queue later → Accounts reported [] reported_now
releases_account members full reported reported_now old new queue later (inl n) = accounts_same reported reported_now n.3
releases_account members full reported reported_now old new queue later (inr r) = accounts_one reported reported_now (since r.0) r.1
