-- What was noted lasts.
use Rattle.std.proofs.Common.{◌≡◌, ℕ, List, ◌++◌, Option, Some, None, Result, Ok, Err, OnOk, IsErrOf, refl, sym, ap, ◌∙◌}
use Rattle.std.specs.Prelude.{is_ok}
use Rattle.std.proofs.lemmas.Bool.{true≢false}
use Rattle.nfs_server.specs.Entries.{journal_text}
use Rattle.nfs_server.specs.Fits.{Held, History, Fits}
use Rattle.nfs_server.specs.Notes.{to_note}
use Rattle.nfs_server.specs.declared.settle_fault.SettleFault.{SettleFault}
use Rattle.nfs_server.specs.declared.settle_fault.SettleFault.TheVariants.{Lost}
use Rattle.nfs_xdr.specs.Known.{Grows}

-- where what lasted before was there, the whole journal is
pub all_lasts : {X : Type 0} (r : Result X SettleFault) (s : Held) (before after : Option (List ℕ)) → OnOk r (Grows before (to_note s.notes) after) → (s.notes ≡ None → IsErrOf r Lost)
    → OnOk r ((history : History) → Fits history s → before ≡ Some history.lasting → after ≡ Some (journal_text history.done))
all_lasts (Err fault) s before after grows lost = tt
all_lasts (Ok x) s before after grows lost = λ history fits was. by history fits was s.notes refl
  where
    by : (history : History) → Fits history s → before ≡ Some history.lasting → (notes : Option (List ℕ)) → s.notes ≡ notes → after ≡ Some (journal_text history.done)
    by history fits was None e = absurd (true≢false (ap is_ok (lost e)))
    by history fits was (Some bytes) e = grows history.lasting was ∙ ap Some (ap (λ o. history.lasting ++ to_note o) e ∙ sym (fits.notes_are bytes e))
