-- Notes that have come to last.
use Rattle.std.proofs.Common.{◌≡◌, List, [], ◌++◌, Some, sym, ap, ◌∙◌, append-nil}
use Rattle.nfs_server.specs.Entries.{journal_text}
use Rattle.nfs_server.specs.Fits.{Held, History, Fits, settled}

some_same : {X : Type 0} {x y : X} → Some x ≡ Some y → x ≡ y
some_same e = cc

-- the whole journal of a history lasts then
pub settled_fits : (history : History) (s : Held) → Fits history s → Fits (settled history) (record s { notes = Some [] })
settled_fits history s fits = record {
  opens = fits.opens;
  run = fits.run;
  in_force = fits.in_force;
  cached = fits.cached;
  notes_are = λ bytes e. sym (append-nil (journal_text history.done)) ∙ ap (λ t. journal_text history.done ++ t) (some_same e);
}
