-- One change after another.
use Rattle.std.proofs.Common.{◌≡◌, ℕ, Bool, List, [], ◌∷◌, ◌++◌, Option, option_map, refl, sym, ap, subst, ◌∙◌, append_assoc, append-nil}
use Rattle.std.proofs.Math.Path.{fun_ext}
use Rattle.slab.specs.Slab.{Slab, get}
use Rattle.nfs_lines.specs.Written.{Written, PassedOn}
use Rattle.nfs_loop.specs.declared.member.Member.{Member}
use Rattle.nfs_loop.specs.Reports.{Report, IsReported, Accounts}
use Rattle.nfs_loop.specs.Stages.{Stage, stage, state, seat_of, turned, Goes, WithoutTurns}
use Rattle.nfs_loop.proofs.Reporting.{accounts_then, accounts_none, accounts_one, accounts_same}
use Rattle.nfs_server.specs.Fits.{Held}
use Rattle.nfs_serving.specs.Service.{Seat, ServiceState, Change, joins, turns, leaves, passes, reloads, settles, AreChanges}
use Rattle.nfs_serving.proofs.Turning.{grows_none}
use Rattle.nfs_xdr.proofs.Knowing.{Grows-then, stays_none, stays_then}

pub turned_then : (earlier later : List Change) → turned (later ++ earlier) ≡ turned earlier ++ turned later
turned_then earlier [] = sym (append-nil (turned earlier))
turned_then earlier (joins key number addr ∷ later) = turned_then earlier later
turned_then earlier (turns key moment bytes ∷ later) = ap (λ l. l ++ key ∷ []) (turned_then earlier later) ∙ append_assoc (turned earlier) (turned later) (key ∷ [])
turned_then earlier (leaves key number calls end ∷ later) = turned_then earlier later
turned_then earlier (passes ∷ later) = turned_then earlier later
turned_then earlier (reloads exports ∷ later) = turned_then earlier later
turned_then earlier (settles notes ∷ later) = turned_then earlier later

module _ {L : Type 0} (outgoing incoming : L → Option (List ℕ)) where
  pub changes_then : (shared : Bool) (earlier later : List Change) (a b c : ServiceState L) → AreChanges outgoing incoming shared earlier a b → AreChanges outgoing incoming shared later b c → AreChanges outgoing incoming shared (later ++ earlier) a c
  changes_then shared earlier [] a b c f g = subst (λ w. AreChanges outgoing incoming shared earlier a w) (sym g) f
  changes_then shared earlier (x ∷ later) a b c f g = (g.0, changes_then shared earlier later a b g.0 f g.1, g.2)

  -- the changes of two courses together
  pub both_change : (P Q : List Change → Type 0) (old mid new : Stage L) (f : Goes outgoing incoming P old mid) (g : Goes outgoing incoming Q mid new) → AreChanges outgoing incoming old.written.shared (g.changes ++ f.changes) (state old) (state new)
  both_change P Q old mid new f g = changes_then old.written.shared f.changes g.changes (state old) (state mid) (state new) f.are_changes
      (subst (λ s. AreChanges outgoing incoming s g.changes (state mid) (state new)) f.shared_stays g.are_changes)

  pub goes_then : (a b c : Option (List Report)) (old mid new : Stage L) → Goes outgoing incoming (λ changes. WithoutTurns a changes b) old mid → Goes outgoing incoming (λ changes. WithoutTurns b changes c) mid new
      → Goes outgoing incoming (λ changes. WithoutTurns a changes c) old new
  goes_then a b c old mid new f g = record {
    changes = g.changes ++ f.changes;
    are_changes = both_change (λ changes. WithoutTurns a changes b) (λ changes. WithoutTurns b changes c) old mid new f g;
    shared_stays = g.shared_stays ∙ f.shared_stays;
    such = (turned_then f.changes g.changes ∙ ap (λ l. l ++ turned g.changes) f.such.0 ∙ g.such.0, accounts_then a b c f.changes g.changes f.such.1 g.such.1);
  }

  -- it begins as well where nobody came or went
  pub begins_where : (P : List Change → Type 0) (server : Held) (old mid : Slab (Member L)) (joined now : ℕ) (w : Written) (new : Stage L) → mid ≡ old → now ≡ joined → Goes outgoing incoming P (stage server mid now w) new → Goes outgoing incoming P (stage server old joined w) new
  begins_where P server old mid joined now w new members count g = subst (λ n. Goes outgoing incoming P (stage server old n w) new) count (subst (λ m. Goes outgoing incoming P (stage server m now w) new) members g)

  -- the same where what is known of the changes is so of where they begin
  pub begins_by : (P : Stage L → List Change → Type 0) (server : Held) (old mid : Slab (Member L)) (joined now : ℕ) (w : Written) (new : Stage L) → mid ≡ old → now ≡ joined → Goes outgoing incoming (P (stage server mid now w)) (stage server mid now w) new
      → Goes outgoing incoming (P (stage server old joined w)) (stage server old joined w) new
  begins_by P server old mid joined now w new members count g =
      subst (λ n. Goes outgoing incoming (P (stage server old n w)) (stage server old n w) new) count (subst (λ m. Goes outgoing incoming (P (stage server m now w)) (stage server m now w) new) members g)

  pub goes_none : (a : Option (List Report)) (old : Stage L) → Goes outgoing incoming (λ changes. WithoutTurns a changes a) old old
  goes_none a old = record { changes = []; are_changes = refl; shared_stays = refl; such = (refl, accounts_none a) }

  -- nothing changes, whatever is reported
  pub nothing : (a b : Option (List Report)) (server : Held) (old new : Slab (Member L)) (joined now : ℕ) (w : Written) → ((key : ℕ) → get new key ≡ get old key) → now ≡ joined → Accounts a [] b
      → Goes outgoing incoming (λ changes. WithoutTurns a changes b) (stage server old joined w) (stage server new now w)
  nothing a b server old new joined now w same stays accounts = record {
    changes = [];
    are_changes = ap (λ (s : ℕ → Option (Seat L)). record { server = server; seat = s; joined = now; log = w.log; lines = w.lines; broken = w.broken; complete = w.complete }) (fun_ext (λ key. ap (option_map seat_of) (same key)))
        ∙ ap (λ n. state (stage server old n w)) stays;
    shared_stays = refl;
    such = (refl, accounts);
  }

  -- nothing changes, and nothing is reported
  pub quiet : (a b : Option (List Report)) (old : Stage L) → b ≡ a → Goes outgoing incoming (λ changes. WithoutTurns a changes b) old old
  quiet a b old same = record { changes = []; are_changes = refl; shared_stays = refl; such = (refl, accounts_same a b same) }

  -- nothing changes where this is reported
  pub reported_one : (a b : Option (List Report)) (t : Report) (old : Stage L) → IsReported a t b → Goes outgoing incoming (λ changes. WithoutTurns a changes b) old old
  reported_one a b t old report = record { changes = []; are_changes = refl; shared_stays = refl; such = (refl, accounts_one a b t report) }

  -- lines are passed on
  pub passed : (a b : Option (List Report)) (server : Held) (members : Slab (Member L)) (joined : ℕ) (w v : Written) → PassedOn w v → Accounts a [] b
      → Goes outgoing incoming (λ changes. WithoutTurns a changes b) (stage server members joined w) (stage server members joined v)
  passed a b server members joined w v p accounts = record {
    changes = passes ∷ [];
    are_changes = (
      state (stage server members joined w),
      refl,
      record {
        server_stays = refl;
        seats_stay = refl;
        joined_stays = refl;
        log_is = p.log_is;
        log_stays = p.log_stays;
        lines_stay = p.lines_stay;
        complete_stays = p.complete_stays;
      },
    );
    shared_stays = p.shared_stays;
    such = (refl, accounts);
  }

pub passed_then : (u v w : Written) → PassedOn u v → PassedOn v w → PassedOn u w
passed_then u v w f g = record {
  log_is = Grows-then u.log v.log w.log [] [] f.log_is g.log_is;
  log_stays = stays_then u.broken v.broken w.broken u.log v.log w.log f.log_stays g.log_stays;
  lines_stay = Grows-then u.lines v.lines w.lines [] [] f.lines_stay g.lines_stay;
  shared_stays = g.shared_stays ∙ f.shared_stays;
  complete_stays = g.complete_stays ∙ f.complete_stays;
}

pub passed_none : (w : Written) → PassedOn w w
passed_none w = record { log_is = grows_none w.log; log_stays = stays_none w.broken w.log; lines_stay = grows_none w.lines; shared_stays = refl; complete_stays = refl }
