-- Queues that others join.
use Rattle.std.proofs.Common.{◌≡◌, ℕ, Bool, true, false, ◌||◌, List, [], ◌∷◌, ◌++◌, Option, Some, None, IsSome, inl, inr, if◌then◌else◌, nat_eq, refl, sym, ap, subst, ◌∙◌, append_assoc, append-nil}
use Rattle.std.specs.List.{AllByRecursion}
use Rattle.std.proofs.lemmas.Bool.{eq-eqb}
use Rattle.std.proofs.lemmas.List.Folds.{list_any-append}
use Rattle.slab.specs.Slab.{Slab, get}
use Rattle.nfs_queue.specs.Queues.{is_waiting}
use Rattle.nfs_queue.proofs.Queueing.{or_true}
use Rattle.nfs_loop.specs.declared.watches.Hold.{Hold}
use Rattle.nfs_loop.specs.declared.watches.Watch.{Watch}
use Rattle.nfs_loop.specs.Watching.{hold_at}
use Rattle.nfs_loop.specs.Reports.{Report, ready, listener_ready, nothing_ready, came, at, since, IsReported, Accounts}
use Rattle.nfs_loop.specs.Stages.{IsNoted, Notes, noted}

-- ---- who is reported ready

pub waits_on : (key : ℕ) (queue added : List ℕ) → is_waiting key queue ≡ true → is_waiting key (queue ++ added) ≡ true
waits_on key queue added e = list_any-append (nat_eq key) queue added ∙ ap (λ b. b || is_waiting key added) e

pub waits_last : (key : ℕ) (queue : List ℕ) → is_waiting key (queue ++ key ∷ []) ≡ true
waits_last key queue = list_any-append (nat_eq key) queue (key ∷ []) ∙ ap (λ b. is_waiting key queue || (b || false)) (eq-eqb key key refl) ∙ or_true (is_waiting key queue)

module _ {M : Type 0} (members : Slab M) (watches : List Watch) where
  noted_on : (t : Report) (queue added : List ℕ) → IsNoted members watches queue t → IsNoted members watches (queue ++ added) t
  noted_on (ready key) queue added (inl none) = inl none
  noted_on (ready key) queue added (inr (inl held)) = inr (inl held)
  noted_on (ready key) queue added (inr (inr waits)) = inr (inr (waits_on key queue added waits))
  noted_on listener_ready queue added n = tt
  noted_on nothing_ready queue added n = tt
  noted_on (came key peer) queue added n = tt
  noted_on (at moment) queue added n = tt
  noted_on (since millis) queue added n = tt

  all_on : (news : List Report) (queue added : List ℕ) → AllByRecursion (IsNoted members watches queue) news → AllByRecursion (IsNoted members watches (queue ++ added)) news
  all_on [] queue added a = tt
  all_on (t ∷ news) queue added a = (noted_on t queue added a.0, all_on news queue added a.1)

  waits_by : (key : ℕ) (queue : List ℕ) (t : Bool) → is_waiting key queue ≡ t → (added : List ℕ) × ((if t then queue else queue ++ key ∷ []) ≡ queue ++ added) × (is_waiting key (queue ++ added) ≡ true)
  waits_by key queue true e = ([], sym (append-nil queue), waits_on key queue [] e)
  waits_by key queue false e = (key ∷ [], refl, waits_last key queue)

  noted_after : (key : ℕ) (queue : List ℕ) (member : Option M) (hold : Option Hold) → get members key ≡ member → hold_at watches key ≡ hold → (added : List ℕ) × (noted member hold key queue ≡ queue ++ added) × IsNoted members watches (queue ++ added) (ready key)
  noted_after key queue member (Some hold) e h = ([], sym (append-nil queue), inr (inl (ap_some h)))
    where
      ap_some : {X : Type 0} {o : Option X} {x : X} → o ≡ Some x → IsSome o
      ap_some e = subst IsSome (sym e) refl
  noted_after key queue None None e h = ([], sym (append-nil queue), inl e)
  noted_after key queue (Some m) None e h = let b = waits_by key queue (is_waiting key queue) refl in (b.0, b.1, inr (inr b.2))

  pub notes_none : (queue : List ℕ) (reported : Option (List Report)) → Notes members watches queue queue reported reported
  notes_none queue reported = record { added = []; after = sym (append-nil queue); all_noted = λ before e. ([], e, tt) }

  -- more is reported, of no client
  pub notes_more : (t : Report) (old queue : List ℕ) (reported reported_now reported_then : Option (List Report)) → IsNoted members watches queue t → Notes members watches old queue reported reported_now → IsReported reported_now t reported_then → Notes members watches old queue reported reported_then
  notes_more t old queue reported reported_now reported_then is n report = record {
    added = n.added;
    after = n.after;
    all_noted = λ before known. let m = n.all_noted before known in (t ∷ m.0, report (m.0 ++ before) m.1, (is, m.2));
  }

  pub notes_on : (key : ℕ) (old queue now : List ℕ) (reported reported_now reported_then : Option (List Report)) → Notes members watches old queue reported reported_now → now ≡ noted (get members key) (hold_at watches key) key queue → IsReported reported_now (ready key) reported_then → Notes members watches old now reported reported_then
  notes_on key old queue now reported reported_now reported_then n e report =
      let b = noted_after key queue (get members key) (hold_at watches key) refl refl in
      let is : now ≡ queue ++ b.0 = e ∙ b.1 in
      record {
        added = n.added ++ b.0;
        after = is ∙ ap (λ q. q ++ b.0) n.after ∙ append_assoc old n.added b.0;
        all_noted = λ before known. let m = n.all_noted before known in (
          ready key ∷ m.0,
          report (m.0 ++ before) m.1,
          subst (λ q. AllByRecursion (IsNoted members watches q) (ready key ∷ m.0)) (sym is) (b.2, all_on m.0 queue b.0 m.2),
        );
      }

  pub notes_account : (old now : List ℕ) (reported reported_now : Option (List Report)) → Notes members watches old now reported reported_now → Accounts reported [] reported_now
  notes_account old now reported reported_now n = (tt, λ before e. let m = n.all_noted before e in (m.0, m.1, tt))
