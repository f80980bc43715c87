-- What is noted is the journal of what was answered.
use Rattle.std.proofs.Common.{◌≡◌, ℕ, ◌+◌, ◌<◌, ◌≤◌, Bool, true, false, not, ◌&&◌, List, [], ◌++◌, length, Option, Some, None, is_some, refl, ap, ◌∙◌, append_assoc, append-nil, arith}
use Rattle.std.specs.Prelude.{if◌then◌else◌, nat_lt}
use Rattle.std.proofs.lemmas.Bool.{false≢true, le-ltb, lt-ltb}
use Rattle.nfs_rpc.specs.Records.{fragment}
use Rattle.nfs_server.specs.Entries.{entry_text}
use Rattle.nfs_server.specs.Events.{Event}
use Rattle.nfs_server.specs.InMemory.{answered}
use Rattle.nfs_server.specs.Noted.{is_noted}
use Rattle.nfs_server.specs.Notes.{most_noted, notes_after, with_entry}
use Rattle.nfs_server.specs.Retransmissions.{is_refused}
use Rattle.nfs_server.specs.declared.audit_line.AuditLine.{AuditLine}
use Rattle.nfs_server.specs.declared.event.Handled.{Handled}
use Rattle.nfs_server.specs.declared.event.Handled.TheVariants.{Answered, NoReply}

same_some : {X : Type 0} (x y : X) → Some x ≡ Some y → x ≡ y
same_some x y e = cc

none_some : {X Y : Type 0} (x : X) → None ≡ Some x → Y
none_some x e = absurd (false≢true (ap is_some e))

-- ---- one entry

-- there is room for it
pub entry_added : (notes entry : List ℕ) (room n : ℕ) → length notes + room ≡ most_noted → length entry ≡ n → n ≤ room → with_entry entry (Some notes) ≡ Some (notes ++ entry)
entry_added notes entry room n all len fits =
    ap (λ b. if b then None else Some (notes ++ entry)) (le-ltb most_noted (length notes + length entry) (omega (arith, all, len, fits)))

-- there is none
pub entry_lost : (notes entry : List ℕ) (room n : ℕ) → length notes + room ≡ most_noted → length entry ≡ n → room < n → with_entry entry (Some notes) ≡ None
entry_lost notes entry room n all len less =
    ap (λ b. if b then None else Some (notes ++ entry)) (lt-ltb most_noted (length notes + length entry) (omega (arith, all, len, less)))

-- ---- one event

module _ (journal lasting entry after : List ℕ) where
  entry_on : (notes : Option (List ℕ)) → ((bytes : List ℕ) → notes ≡ Some bytes → journal ≡ lasting ++ bytes) → with_entry entry notes ≡ Some after → journal ++ entry ≡ lasting ++ after
  entry_on None are e = none_some after e
  entry_on (Some bytes) are e = by (nat_lt most_noted (length bytes + length entry)) e
    where
      by : (b : Bool) → (if b then None else Some (bytes ++ entry)) ≡ Some after → journal ++ entry ≡ lasting ++ after
      by true e = none_some after e
      by false e = ap (λ t. t ++ entry) (are bytes refl) ∙ append_assoc lasting bytes entry ∙ ap (λ t. lasting ++ t) (same_some (bytes ++ entry) after e)

  -- the journal with what is noted of one more event, by whether it is noted
  pub noted_on : (b : Bool) (notes : Option (List ℕ)) → ((bytes : List ℕ) → notes ≡ Some bytes → journal ≡ lasting ++ bytes)
      → (if b then with_entry entry notes else notes) ≡ Some after → journal ++ (if b then entry else []) ≡ lasting ++ after
  noted_on true notes are e = entry_on notes are e
  noted_on false notes are e = append-nil journal ∙ are after e

-- what is noted, as it is in memory
pub notes_are_after : (handled : Handled) (event : Event) (reply : List ℕ) (line : Option AuditLine) (b : Bool) (old : Option (List ℕ)) → b ≡ is_noted event → (handled ≡ NoReply → (reply ≡ []) × (line ≡ None))
    → (if b && not (is_refused line) then with_entry (fragment true (entry_text event reply)) old else old) ≡ notes_after event (answered handled reply line) old
notes_are_after Answered event reply line b old noted silent = ap (λ b. if b && not (is_refused line) then with_entry (fragment true (entry_text event reply)) old else old) noted
notes_are_after NoReply event reply line b old noted silent =
    ap (λ b. if b && not (is_refused line) then with_entry (fragment true (entry_text event reply)) old else old) noted
    ∙ ap (λ l. if is_noted event && not (is_refused l) then with_entry (fragment true (entry_text event reply)) old else old) (silent refl).1
    ∙ ap (λ r. if is_noted event && true then with_entry (fragment true (entry_text event r)) old else old) (silent refl).0
