-- Events leave a describable tree describable, and so do runs of them.
use Rattle.std.proofs.Common.{inl, inr, ◌≡◌, ℕ, List, [], ◌∷◌, length, sym, ap, subst, ◌∙◌, arith}
use Rattle.nfs_exports.specs.declared.export_table.Export.{Export}
use Rattle.nfs_inodes.specs.Changes.{with_key}
use Rattle.nfs_inodes.specs.Law.{Law}
use Rattle.nfs_inodes.specs.Tree.{Tree}
use Rattle.nfs_lives.specs.Opening.{opened}
use Rattle.nfs_policy.proofs.Changing.{Changes, step_changes}
use Rattle.nfs_round_trip.proofs.Keys.{keys_stay}
use Rattle.nfs_round_trip.proofs.LoadedLines.{loaded_describable}
use Rattle.nfs_round_trip.proofs.RoundTrip.{load_again}
use Rattle.nfs_round_trip.specs.RoundTrip.{IsDescribable}
use Rattle.nfs_server.specs.Events.{Event, Answer, Choice}
use Rattle.nfs_server.specs.Fits.{GoesOn, Held, History}
use Rattle.nfs_server.specs.Steps.{Setup, State, scene_of}
use Rattle.nfs_described_runs.proofs.Asked.{asks_said}
use Rattle.nfs_described_runs.proofs.Granted.{granted_described}
use Rattle.nfs_described_runs.specs.Described.{AreRead, IsEvent, IsKept, LeavesDescribable, RunsStayDescribable, ServersLoadAgain, StepsStayDescribable}

-- ---- an event

-- what a tree is with some exports it is with others, if one with as many volumes is
with_table : (t u : Tree) (one table : List (List Export)) → IsDescribable t one → IsDescribable u one → IsDescribable t table → IsDescribable u table
with_table t u one table a b c = record {
  law = b.law;
  some = b.some;
  volumes = b.volumes;
  files = b.files;
  lists = c.lists ∙ sym a.lists ∙ b.lists;
  few = c.few;
  exports = c.exports;
}

module _ (setup : Setup) (old : State) (event : Event) (choice : Choice) (answer : Answer) (new : State) where
  described : IsEvent event → Changes setup old event choice answer new → LeavesDescribable setup old new
  described is (inl e) d table there = subst (λ t. IsDescribable t table) (sym e) there
  described is (inr g) d table there =
      let f = g.effect in
      let said = asks_said event g.caller g.args is.bytes g.asks in
      let after : IsDescribable new.tree setup.exports = subst (λ t. IsDescribable t setup.exports) (sym f.new_is)
      (granted_described (scene_of setup old event g.caller g.args) d is.moment said.0 said.1 f.doing f.doing_is f.one f.two f.tag f.tag_is.fits f.granted) in
      with_table old.tree new.tree setup.exports table d after there

pub steps_stay : StepsStayDescribable
steps_stay setup history old event choice answer new is step = described setup old event choice answer new is (step_changes setup history old event choice answer new step)

-- one event more of a server
pub handled_stays : (history : History) (old : Held) (event : Event) (choice : Choice) (answer : Answer) (new : Held) → IsEvent event
    → GoesOn history old event choice answer new → LeavesDescribable old.setup old.state new.state
handled_stays history old event choice answer new is step = steps_stay old.setup history.done old.state event choice answer new.state is step.0

-- ---- runs

pub runs_stay : RunsStayDescribable
runs_stay setups opening all [] state run each table there = subst (λ (s : State). IsDescribable s.tree table) (sym run) there
runs_stay setups opening all (done ∷ before) state run each table there =
    let setup = setups (length before) in
    let stays = runs_stay setups opening all before run.0 run.1 each.0 in
    steps_stay setup before run.0 done.event done.choice done.answer state each.1 run.2 (stays setup.exports (all (length before))) table (stays table there)

-- ---- servers

opened_described : (t : Tree) (table : List (List Export)) (key : List ℕ) (next : ℕ) → Law (opened t key next) → IsDescribable t table → IsDescribable (opened t key next) table
opened_described t table key next law d = record {
  law = law;
  some = d.some;
  volumes = d.volumes;
  files = d.files;
  lists = d.lists;
  few = d.few;
  exports = d.exports;
}

-- a tree that is describable is so with the exports of another description
read_described : (t : Tree) (one table : List (List Export)) → IsDescribable t one → AreRead t table → IsDescribable t table
read_described t one table d are =
    let other = loaded_describable are.text are.loaded are.describes in
    subst (IsDescribable t) (sym are.table_is) (record {
      law = d.law;
      some = d.some;
      volumes = d.volumes;
      files = d.files;
      lists = other.lists ∙ are.volumes;
      few = other.few;
      exports = other.exports;
    })

kept : (t : Tree) (table : List (List Export)) → IsDescribable t table → IsKept t table
kept t table d = record {
  describable = d;
  again = λ key len bytes text says short result read. load_again (with_key t key) table text (keys_stay t table key len bytes d) says short result read;
}

pub servers_load_again : ServersLoadAgain
servers_load_again text loaded read key next history s fits opens exports each =
    let law = subst Law opens fits.opens.lawful in
    let first = loaded_describable text loaded read in
    let all : (n : ℕ) → IsDescribable history.opening.tree (history.setups n).exports =
    λ n. subst (λ t. IsDescribable t (history.setups n).exports) (sym opens)
    (opened_described loaded.tree (history.setups n).exports key next law (read_described loaded.tree loaded.table (history.setups n).exports first (exports n))) in
    let last : (history.setups (length history.done)).exports ≡ s.setup.exports = ap (λ (setup : Setup). setup.exports) (fits.in_force (length history.done) (omega arith)) in
    subst (IsKept s.state.tree) last
    (kept s.state.tree (history.setups (length history.done)).exports
    (runs_stay history.setups history.opening all history.done s.state fits.run each (history.setups (length history.done)).exports (all (length history.done))))
