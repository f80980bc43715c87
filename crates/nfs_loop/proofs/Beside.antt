-- Turns beside a journal.
use Rattle.std.proofs.Common.{◌≡◌, ◌≤◌, ℕ, Bool, true, false, ◌||◌, is_some, List, [], ◌∷◌, ◌++◌, length, nat_lt, Option, Some, None, Result, Ok, Err, OnOk, OnErr, IsErrOf, refl, sym, ap, subst, ◌∙◌, arith}
use Rattle.std.specs.Prelude.{◌↔◌}
use Rattle.std.proofs.lemmas.Bool.{ltb-false, true≢false}
use Rattle.nfs_queue.proofs.Queueing.{or_true}
use Rattle.nfs_loop.specs.Journals.{Journal, AreBeside, HoldsBack, IsBeside, JournalGoes, LeavesRoom, SettlesBy, journal_of, settles_of}
use Rattle.nfs_loop.specs.Stages.{Stage, state}
use Rattle.nfs_server.specs.Fits.{Held}
use Rattle.nfs_server.specs.Notes.{to_note}
use Rattle.nfs_server.specs.declared.settle_fault.SettleFault.{SettleFault}
use Rattle.nfs_server.specs.declared.settle_fault.SettleFault.TheVariants.{JournalFault, Lost}
use Rattle.nfs_serving.specs.Service.{ServiceState, Change, joins, turns, leaves, passes, reloads, settles}
use Rattle.nfs_serving.specs.Turns.{SendsPending, Standing}

-- ---- room for what a turn notes

pub room_below : (journal : Option Journal) (s : Held) → length (to_note s.notes) ≤ 2097152 → LeavesRoom journal s
room_below None s below = tt
room_below (Some journal) s below = λ alive. below

not_much : (notes : List ℕ) → false ≡ nat_lt 2097152 (length notes) → length notes ≤ 2097152
not_much notes e = ltb-false 2097152 (length notes) (sym e)

pub room_where_little : (journal : Option Journal) (s : Held) → false ≡ nat_lt 2097152 (length (to_note s.notes)) → LeavesRoom journal s
room_where_little journal s e = room_below journal s (not_much (to_note s.notes) e)

room_where_none : (journal : Option Journal) (s : Held) (notes : Option (List ℕ)) → s.notes ≡ notes → to_note notes ≡ [] → LeavesRoom journal s
room_where_none journal s notes e none = room_below journal s (subst (λ n. length n ≤ 2097152) (sym (ap to_note e ∙ none)) (omega arith))

-- once notes have come to last, or the journal has failed, or they are lost
pub room_settled : {J : Type 0} (lasting : J → Option (List ℕ)) (failed : J → Bool) (old new : Held) (k : J) {X : Type 0} (r : Result X SettleFault) → OnOk r (new ≡ record old { notes = Some [] }) → (IsErrOf r Lost ↔ (old.notes ≡ None)) → (IsErrOf r JournalFault → failed k ≡ true)
    → OnErr r (new ≡ old) → LeavesRoom (Some (record { lasting = lasting k; failed = failed k })) new
room_settled lasting failed old new k (Ok x) ok lost fails err = room_where_none (Some (record { lasting = lasting k; failed = failed k })) new (Some []) (ap (λ (s : Held). s.notes) ok) refl
room_settled lasting failed old new k (Err Lost) ok lost fails err = room_where_none (Some (record { lasting = lasting k; failed = failed k })) new None (ap (λ (s : Held). s.notes) err ∙ lost.0 refl) refl
room_settled lasting failed old new k (Err JournalFault) ok lost fails err = λ alive. absurd (true≢false (sym (fails refl) ∙ alive))

-- ---- replies that are held

pub noted_holds : (notes : Option (List ℕ)) (journal holds : Bool) → holds ≡ (is_some notes || journal) → (bytes : List ℕ) → notes ≡ Some bytes → holds ≡ true
noted_holds notes journal holds is bytes e = is ∙ ap (λ (n : Option (List ℕ)). is_some n || journal) e

pub journal_holds : {J : Type 0} (lasting : J → Option (List ℕ)) (failed : J → Bool) (notes : Bool) (journal : Option J) (holds : Bool) → holds ≡ (notes || is_some journal) → is_some (journal_of lasting failed journal) ≡ true → holds ≡ true
journal_holds lasting failed notes None holds is e = absurd (true≢false (sym e))
journal_holds lasting failed notes (Some journal) holds is e = is ∙ or_true notes

none_of : {X Y : Type 0} (x : X) → Some x ≡ None → Y
none_of x e = cc

-- replies are held in a turn where the server keeps notes, or there is a journal
pub turn_holds : {J : Type 0} (lasting : J → Option (List ℕ)) (failed : J → Bool) (notes : Bool) (journal : Option J) (holds : Bool) → holds ≡ (notes || is_some journal) → (notes || is_some (journal_of lasting failed journal)) ≡ true → holds ≡ true
turn_holds lasting failed notes None holds is e = is ∙ e
turn_holds lasting failed notes (Some journal) holds is e = is ∙ e

-- and so in each turn of a round at whose beginning there is one
pub round_holds : (began journal : Option Journal) (noted : Option (List ℕ)) (notes : Bool) → JournalGoes began noted journal → is_some began ≡ true → (notes || is_some journal) ≡ true
round_holds None journal noted notes g e = absurd (true≢false (sym e))
round_holds (Some began) None noted notes g e = absurd g
round_holds (Some began) (Some journal) noted notes g e = or_true notes

-- ---- one change after another

module _ {L : Type 0} (outgoing incoming : L → Option (List ℕ)) where
  pub holds_back : (journal : Option Journal) (key number : ℕ) (was now : Standing L) (old new : ServiceState L) → (is_some journal ≡ true → SendsPending outgoing was now)
      → old.seat key ≡ Some (record { number = number; client = was }) → new.seat key ≡ Some (record { number = number; client = now }) → HoldsBack outgoing journal key old new
  holds_back None key number was now old new sends sat sits = tt
  holds_back (Some journal) key number was now old new sends sat sits = record { number = number; was = was; now = now; sat = sat; sits = sits; sends = sends refl }

  -- by what the journal is later
  room_on : (b c : Option Journal) (noted : Option (List ℕ)) (s : Held) → JournalGoes b noted c → LeavesRoom b s → LeavesRoom c s
  room_on None None noted s g r = tt
  room_on None (Some c) noted s g r = none_of c g.1
  room_on (Some b) None noted s g r = absurd g
  room_on (Some b) (Some c) noted s g r = λ alive. r (g alive).0

  held_on : (b c : Option Journal) (noted : Option (List ℕ)) (key : ℕ) (old new : ServiceState L) → JournalGoes b noted c → HoldsBack outgoing b key old new → HoldsBack outgoing c key old new
  held_on None None noted key old new g h = tt
  held_on None (Some c) noted key old new g h = none_of c g.1
  held_on (Some b) None noted key old new g h = absurd g
  held_on (Some b) (Some c) noted key old new g h = h

  is_on : (b c : Option Journal) (noted : Option (List ℕ)) (change : Change) (old new : ServiceState L) → JournalGoes b noted c → IsBeside outgoing b change old new → IsBeside outgoing c change old new
  is_on b c noted (turns key moment came) old new g is = (room_on b c noted old.server g is.0, held_on b c noted key old new g is.1)
  is_on b c noted (joins key number addr) old new g is = tt
  is_on b c noted (leaves key number calls end) old new g is = tt
  is_on b c noted passes old new g is = tt
  is_on b c noted (reloads exports) old new g is = tt
  is_on b c noted (settles notes) old new g is = tt

  pub beside_on : (shared : Bool) (b c : Option Journal) (noted : Option (List ℕ)) (changes : List Change) (old new : ServiceState L) → JournalGoes b noted c → AreBeside outgoing incoming shared b changes old new → AreBeside outgoing incoming shared c changes old new
  beside_on shared b c noted [] old new g are = are
  beside_on shared b c noted (change ∷ earlier) old new g are = (are.0, beside_on shared b c noted earlier old are.0 g are.1, are.2, is_on b c noted change are.0 new g are.3)

  pub beside_then : (shared : Bool) (journal : Option Journal) (earlier later : List Change) (a b c : ServiceState L) → AreBeside outgoing incoming shared journal earlier a b → AreBeside outgoing incoming shared journal later b c → AreBeside outgoing incoming shared journal (later ++ earlier) a c
  beside_then shared journal earlier [] a b c f g = subst (λ w. AreBeside outgoing incoming shared journal earlier a w) (sym g) f
  beside_then shared journal earlier (x ∷ later) a b c f g = (g.0, beside_then shared journal earlier later a b g.0 f g.1, g.2, g.3)

  pub beside_settled : (shared : Bool) (journal : Option Journal) (mid new : Stage L) (noted : Option (List ℕ)) → SettlesBy noted mid.server new.server → new ≡ record mid { server = new.server } → AreBeside outgoing incoming shared journal (settles_of noted) (state mid) (state new)
  beside_settled shared journal mid new None same is = ap state is ∙ ap (λ (s : Held). state (record mid { server = s })) same
  beside_settled shared journal mid new (Some notes) s is = (state mid, refl, (s.0, ap state is ∙ ap (λ (h : Held). state (record mid { server = h })) s.1), tt)
