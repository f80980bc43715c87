-- Feeds on several connections are one history.
use Rattle.std.proofs.Common.{◌≡◌, ◌≢◌, ℕ, Bool, true, false, List, [], ◌∷◌, ◌++◌, map, reverse, Option, Result, Ok, Err, IsOk, if◌then◌else◌, nat_eq, refl, sym, ap, subst, ◌∙◌, append_assoc, append-nil}
use Rattle.std.proofs.lemmas.Bool.{eqb-true, eqb-false, false≢true}
use Rattle.std.proofs.lemmas.List.{map-append, reverse-append}
use Rattle.nfs_rpc.specs.Progress.{Progress, Unfinished}
use Rattle.nfs_rpc.specs.Records.{AreRecords}
use Rattle.nfs_rpc.proofs.Streams.{records_grow}
use Rattle.nfs_server.specs.Events.{Event, Done}
use Rattle.nfs_server.specs.Feeding.{device, Brings, event_at, replies_of}
use Rattle.nfs_server.specs.Fits.{Held, History, Fits}
use Rattle.nfs_server.specs.Runs.{longer}
use Rattle.nfs_server.specs.Together.{Feed, Stand, IsOneFeed, IsUnbroken, all_events, own_events, own_bytes, IsServed, AreTogether, FeedsAreOneHistory}
use Rattle.nfs_server.specs.declared.session_fault.SessionFault.{SessionFault}
use Rattle.nfs_server.specs.declared.taking.Origin.{Origin}
use Rattle.nfs_server.proofs.Feeding.{records_append, replies_append}
use Rattle.nfs_server.proofs.OneRecord.{grows_none}
use Rattle.nfs_xdr.specs.Known.{Grows}
use Rattle.nfs_xdr.proofs.Knowing.{Grows-then}

abbrev bytes_of : List Done → List (List ℕ)
bytes_of done = map (λ (d : Done). d.event.bytes) (reverse done)

-- the records of events that came from one origin
records_are : (origin : Origin) (done : List Done) (records : List (List ℕ)) → map (λ (d : Done). d.event) (reverse done) ≡ map (event_at origin) records → bytes_of done ≡ records
records_are origin done records e = sym (map-map (reverse done)) ∙ ap (map (λ (v : Event). v.bytes)) e ∙ back records
  where
    map-map : (ds : List Done) → map (λ (v : Event). v.bytes) (map (λ (d : Done). d.event) ds) ≡ map (λ (d : Done). d.event.bytes) ds
    map-map [] = refl
    map-map (d ∷ ds) = ap (λ l. d.event.bytes ∷ l) (map-map ds)

    back : (rs : List (List ℕ)) → map (λ (v : Event). v.bytes) (map (event_at origin) rs) ≡ rs
    back [] = refl
    back (r ∷ rs) = ap (λ l. r ∷ l) (back rs)

served_on : (bytes more : List ℕ) (done later : List Done) (p q : Progress) (a b c : Option (List ℕ)) (s : IsServed bytes done p (device a b)) (left : List ℕ)
    → AreRecords (s.rest ++ more) (bytes_of later) left → Unfinished left q → Grows b (replies_of later) c
    → IsServed (bytes ++ more) (later ++ done) q (device a c)
served_on bytes more done later p q a b c s left cut u wrote =
    let both : bytes_of (later ++ done) ≡ bytes_of done ++ bytes_of later = ap (map (λ (d : Done). d.event.bytes)) (reverse-append later done) ∙ map-append (λ (d : Done). d.event.bytes) (reverse done) (reverse later) in
    record {
      rest = left;
      cut = subst (λ rs. AreRecords (bytes ++ more) rs left) (sym both) (records_append (bytes ++ more) (bytes_of done) (bytes_of later) (s.rest ++ more) left (records_grow bytes (bytes_of done) s.rest more s.cut) cut);
      unfinished = u;
      wrote = subst (λ t. Grows a t c) (sym (replies_append later done)) (Grows-then a b c (replies_of done) (replies_of later) s.wrote wrote);
    }

-- the connection that was fed
pub fed_on : (history : History) (origin : Origin) (bytes chunk : List ℕ) (done : List Done) (p q : Progress) (a b c d e : Option (List ℕ)) (result : Result ℕ SessionFault) (server : Held) (s : IsServed bytes done p (device a b))
    (brings : Brings history origin (s.rest ++ chunk) result server q (device d e) (device b c)) → IsOk result → IsServed (bytes ++ chunk) (brings.done ++ done) q (device a c)
fed_on history origin bytes chunk done p q a b c d e (Ok n) server s brings ok =
    let serves = brings.serves in
    served_on bytes chunk done brings.done p q a b c s brings.rest (subst (λ rs. AreRecords (s.rest ++ chunk) rs brings.rest) (sym (records_are origin brings.done serves.records serves.events_are)) serves.cut) brings.ends.1.unfinished brings.ends.2.replies_are
fed_on history origin bytes chunk done p q a b c d e (Err fault) server s brings ok = absurd (false≢true ok)

-- one that was not
unfed : (bytes : List ℕ) (done : List Done) (p q : Progress) (a b c : Option (List ℕ)) → q ≡ p → c ≡ b → IsServed bytes done p (device a b) → IsServed (bytes ++ []) done q (device a c)
unfed bytes done p q a b c same sent s = record {
  rest = s.rest;
  cut = subst (λ t. AreRecords t (bytes_of done) s.rest) (sym (append-nil bytes)) s.cut;
  unfinished = subst (λ r. Unfinished s.rest r) (sym same) s.unfinished;
  wrote = subst (λ o. Grows a (replies_of done) o) (sym sent) s.wrote;
}

module _ (history : History) (texts : ℕ → List ℕ) (f : Feed) (earlier : List Feed) (old between new : Stand) (step : IsOneFeed f between new) (unbroken : IsUnbroken f.conn earlier) (t : AreTogether history texts earlier old between) where
  own : IsServed (texts f.conn ++ own_bytes f.conn earlier) (own_events f.conn t.fed) (between.progress f.conn) (device (old.sent f.conn) (between.sent f.conn))
  own = t.served f.conn unbroken

  brought : Brings (longer history (all_events t.fed)) f.origin (own.rest ++ f.chunk) f.result new.server (new.progress f.conn) (device step.log_before step.log_after) (device (between.sent f.conn) (new.sent f.conn))
  brought = step.feeds (longer history (all_events t.fed)) t.fits own.rest own.unfinished

  served_there : IsOk f.result → IsServed (texts f.conn ++ (own_bytes f.conn earlier ++ f.chunk)) (brought.done ++ own_events f.conn t.fed) (new.progress f.conn) (device (old.sent f.conn) (new.sent f.conn))
  served_there ok = subst (λ bytes. IsServed bytes (brought.done ++ own_events f.conn t.fed) (new.progress f.conn) (device (old.sent f.conn) (new.sent f.conn))) (append_assoc (texts f.conn) (own_bytes f.conn earlier) f.chunk)
      (fed_on (longer history (all_events t.fed)) f.origin (texts f.conn ++ own_bytes f.conn earlier) f.chunk (own_events f.conn t.fed) (between.progress f.conn) (new.progress f.conn) (old.sent f.conn) (between.sent f.conn) (new.sent f.conn) step.log_before step.log_after f.result new.server own brought ok)

  served_elsewhere : (conn : ℕ) → conn ≢ f.conn → IsUnbroken conn earlier → IsServed (texts conn ++ (own_bytes conn earlier ++ [])) (own_events conn t.fed) (new.progress conn) (device (old.sent conn) (new.sent conn))
  served_elsewhere conn other before = subst (λ bytes. IsServed bytes (own_events conn t.fed) (new.progress conn) (device (old.sent conn) (new.sent conn))) (append_assoc (texts conn) (own_bytes conn earlier) [])
      (unfed (texts conn ++ own_bytes conn earlier) (own_events conn t.fed) (between.progress conn) (new.progress conn) (old.sent conn) (between.sent conn) (new.sent conn) (step.progress_stays conn other) (step.sent_stays conn other) (t.served conn before))

  abbrev Served : ℕ → Bool → Type 0
  Served conn here = IsServed (texts conn ++ (own_bytes conn earlier ++ (if here then f.chunk else []))) ((if here then brought.done else []) ++ own_events conn t.fed) (new.progress conn) (device (old.sent conn) (new.sent conn))

  served_by : (conn : ℕ) (here : Bool) → nat_eq conn f.conn ≡ here → IsUnbroken conn (f ∷ earlier) → Served conn here
  served_by conn true e u =
      let same : conn ≡ f.conn = eqb-true conn f.conn e in
      subst (λ k. Served k true) (sym same) (served_there (u.0 same))
  served_by conn false e u = served_elsewhere conn (eqb-false conn f.conn e) u.1

  pub together_on : AreTogether history texts (f ∷ earlier) old new
  together_on = record {
    fed = (f, brought.done) ∷ t.fed;
    feeds_are = ap (λ l. f ∷ l) t.feeds_are;
    fits = subst (λ d. Fits (record history { done = d }) new.server) (sym (append_assoc brought.done (all_events t.fed) history.done)) brought.serves.fits;
    served = λ conn u. subst (λ here. Served conn here) refl (served_by conn (nat_eq conn f.conn) refl u);
  }

together_none : (history : History) (texts : ℕ → List ℕ) (old : Stand) → Fits history old.server → ((conn : ℕ) → Unfinished (texts conn) (old.progress conn)) → AreTogether history texts [] old old
together_none history texts old fits unfinished = record {
  fed = [];
  feeds_are = refl;
  fits = fits;
  served = λ conn u. record {
    rest = texts conn;
    cut = sym (append-nil (texts conn));
    unfinished = unfinished conn;
    wrote = grows_none (old.sent conn);
  };
}

pub feeds_are_one_history : FeedsAreOneHistory
feeds_are_one_history [] old new are history fits texts unfinished = subst (λ s. AreTogether history texts [] old s) (sym are) (together_none history texts old fits unfinished)
feeds_are_one_history (f ∷ earlier) old new are history fits texts unfinished =
    let t = feeds_are_one_history earlier old are.0 are.1 history fits texts unfinished in
    together_on history texts f earlier old are.0 new are.3 are.2 t
