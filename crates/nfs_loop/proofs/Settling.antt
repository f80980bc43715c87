-- What a server noted comes to last in a journal.
use Rattle.std.proofs.Common.{◌≡◌, Bool, true, false, List, ℕ, [], ◌∷◌, ◌++◌, Option, Some, None, Result, Ok, Err, OnOk, OnErr, IsErrOf, refl, sym, ap, subst, ◌∙◌}
use Rattle.std.specs.Prelude.{◌↔◌, is_ok}
use Rattle.std.proofs.lemmas.Bool.{true≢false}
use Rattle.nfs_loop.specs.Journals.{Journal, JournalGoes, SettlesBy, noted_by, settles_of}
use Rattle.nfs_server.specs.Fits.{Held}
use Rattle.nfs_server.specs.Notes.{to_note}
use Rattle.nfs_server.specs.declared.settle_fault.SettleFault.{SettleFault}
use Rattle.nfs_server.specs.declared.settle_fault.SettleFault.TheVariants.{JournalFault, Lost}
use Rattle.nfs_serving.proofs.Turning.{grows_none}
use Rattle.nfs_serving.specs.Service.{Change, joins, turns, leaves, passes, reloads, settles}
use Rattle.nfs_xdr.proofs.Knowing.{Grows-none, Grows-then}
use Rattle.nfs_xdr.specs.Known.{Grows, StaysFailed}

-- what has not failed had not before
alive_before : (was is : Bool) (a b : Option (List ℕ)) → StaysFailed was a is b → is ≡ false → was ≡ false
alive_before true is a b stays alive = absurd (true≢false (sym (stays refl).0 ∙ alive))
alive_before false is a b stays alive = refl

module _ {J : Type 0} (lasting : J → Option (List ℕ)) (failed : J → Bool) (old new : Held) (j k : J) where
  abbrev Goes : Type 0
  Goes = (noted : Option (List ℕ)) × SettlesBy noted old new × JournalGoes (Some (record { lasting = lasting j; failed = failed j })) noted (Some (record { lasting = lasting k; failed = failed k }))

  settled : {X : Type 0} (x : X) (notes : Option (List ℕ)) → old.notes ≡ notes → new ≡ record old { notes = Some [] } → Grows (lasting j) (to_note old.notes) (lasting k) → (old.notes ≡ None → Ok x ≡ Err Lost) → StaysFailed (failed j) (lasting j) (failed k) (lasting k) → Goes
  settled x None e ok grows lost stays = absurd (true≢false (ap is_ok (lost e)))
  settled x (Some bytes) e ok grows lost stays = (Some bytes, (e, ok), λ alive. (alive_before (failed j) (failed k) (lasting j) (lasting k) stays alive, subst (λ n. Grows (lasting j) (to_note n) (lasting k)) e grows))

  pub settle_goes : {X : Type 0} (r : Result X SettleFault) → OnOk r (new ≡ record old { notes = Some [] }) → OnOk r (Grows (lasting j) (to_note old.notes) (lasting k)) → (IsErrOf r Lost ↔ (old.notes ≡ None)) → (IsErrOf r JournalFault → failed k ≡ true)
      → (to_note old.notes ≡ [] → k ≡ j) → OnErr r (new ≡ old) → StaysFailed (failed j) (lasting j) (failed k) (lasting k) → Goes
  settle_goes (Ok x) ok grows lost fails idle err stays = settled x old.notes refl ok grows lost.1 stays
  settle_goes (Err Lost) ok grows lost fails idle err stays =
      (None, err, λ alive. (alive_before (failed j) (failed k) (lasting j) (lasting k) stays alive, subst (λ i. Grows (lasting j) [] (lasting i)) (sym (idle (ap to_note (lost.0 refl)))) (grows_none (lasting j))))
  settle_goes (Err JournalFault) ok grows lost fails idle err stays = (None, err, λ alive. absurd (true≢false (sym (fails refl) ∙ alive)))

-- ---- one after another

-- no notes came to last
pub journal_stays : (journal : Option Journal) → JournalGoes journal None journal
journal_stays None = (refl, refl)
journal_stays (Some journal) = λ alive. (alive, grows_none journal.lasting)

none_of : {X Y : Type 0} (x : X) → Some x ≡ None → Y
none_of x e = cc

-- these notes came to last, and then others, if any did
pub journal_then : (a b c : Option Journal) (notes : Option (List ℕ)) (noted : Option (List ℕ)) (changes : List Change) → noted_by changes ≡ notes → JournalGoes a notes b → JournalGoes b noted c → JournalGoes a (noted_by (settles_of noted ++ changes)) c
journal_then None None None notes None changes e f g = (e ∙ f.0, refl)
journal_then None None None notes (Some bytes) changes e f g = none_of bytes g.0
journal_then None None (Some c) notes noted changes e f g = none_of c g.1
journal_then None (Some b) c notes noted changes e f g = none_of b f.1
journal_then (Some a) None c notes noted changes e f g = absurd f
journal_then (Some a) (Some b) None notes noted changes e f g = absurd g
journal_then (Some a) (Some b) (Some c) notes None changes e f g = λ alive.
    let second = g alive in
    let first = f second.0 in
    (first.0, subst (λ n. Grows a.lasting (to_note n) c.lasting) (sym e) (Grows-none a.lasting b.lasting c.lasting (to_note notes) first.1 second.1))
journal_then (Some a) (Some b) (Some c) notes (Some bytes) changes e f g = λ alive.
    let second = g alive in
    let first = f second.0 in
    (first.0, subst (λ n. Grows a.lasting (to_note n ++ bytes) c.lasting) (sym e) (Grows-then a.lasting b.lasting c.lasting (to_note notes) bytes first.1 second.1))

-- notes came to last by the earlier ones of these changes alone
pub noted_before : (earlier later : List Change) → noted_by later ≡ None → noted_by (later ++ earlier) ≡ noted_by earlier
noted_before earlier [] e = refl
noted_before earlier (joins key number addr ∷ later) e = noted_before earlier later e
noted_before earlier (turns key moment bytes ∷ later) e = noted_before earlier later e
noted_before earlier (leaves key number calls end ∷ later) e = noted_before earlier later e
noted_before earlier (passes ∷ later) e = noted_before earlier later e
noted_before earlier (reloads exports ∷ later) e = noted_before earlier later e
noted_before earlier (settles notes ∷ later) e = none_of (to_note (noted_by later) ++ notes) e
