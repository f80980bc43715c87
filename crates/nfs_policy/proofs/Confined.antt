-- Events are confined, and so are runs of them.
use Rattle.std.proofs.Common.{inl, inr, ◌≡◌, ℕ, List, [], ◌∷◌, length, Option, Some, None, is_some, option_map, refl, sym, ap, subst, ◌∙◌}
use Rattle.std.specs.Prelude.{if◌then◌else◌}
use Rattle.nfs_handles.proofs.Handles.{handles_name_one}
use Rattle.nfs_handles.proofs.Runs.{runs_keep, numbers_are_for_good}
use Rattle.nfs_handles.specs.Handles.{number}
use Rattle.nfs_handles.specs.NumberedFiles as numbered
use Rattle.nfs_handles.specs.NumberedFiles.{TaggedFile, IsNumbered}
use Rattle.nfs_handles.specs.declared.reading.Reading.TheVariants.{Live, Stale}
use Rattle.nfs_inodes.proofs.Lists.{not_both}
use Rattle.nfs_inodes.proofs.Maps.{at_shows}
use Rattle.nfs_inodes.specs.Law.{Law}
use Rattle.nfs_inodes.specs.Reading.{numbered_files}
use Rattle.nfs_inodes.specs.Tree.{Tree, File, at}
use Rattle.nfs_server.specs.Events.{Event, Answer, Choice, Done}
use Rattle.nfs_server.specs.Fits.{Held, History, Fits, GoesOn}
use Rattle.nfs_server.specs.Steps.{Setup, State, IsRun, scene_of}
use Rattle.nfs_policy.proofs.Changing.{Changes, step_changes}
use Rattle.nfs_policy.proofs.Lawful.{granted_law}
use Rattle.nfs_policy.proofs.Numbered.{Goes, goes_itself, goes_on, granted_goes}
use Rattle.nfs_policy.proofs.Policies.{granted_policy}
use Rattle.nfs_policy.specs.Confining.{Leaves, ChangeIsConfined, RunsAreConfined, ServersAreConfined}
use Rattle.nfs_policy.specs.Naming.{NamesOn, Through, HandlesNameForGood}
use Rattle.nfs_policy.specs.Policy.{Policy}

-- ---- an event

module _ (setup : Setup) (old : State) (event : Event) (choice : Choice) (answer : Answer) (new : State) (law : Law old.tree) where
  confined : Changes setup old event choice answer new → Leaves setup old event new
  confined (inl e) = inl e
  confined (inr g) = let f = g.effect in inr (
    g.caller,
    g.args,
    g.asks,
    g.addr,
    subst (Policy setup.exports g.caller event.moment old.tree) (sym f.new_is) (granted_policy (scene_of setup old event g.caller g.args) law f.doing f.doing_is f.one f.two f.tag f.granted),
  )

  lawful : Changes setup old event choice answer new → Law new.tree
  lawful (inl e) = subst Law (sym e) law
  lawful (inr g) = let f = g.effect in subst Law (sym f.new_is) (granted_law (scene_of setup old event g.caller g.args) law f.doing f.doing_is f.one f.two f.tag f.tag_is.fits f.granted)

  goes : Changes setup old event choice answer new → Goes old.tree new.tree
  goes (inl e) = subst (Goes old.tree) (sym e) (goes_itself old.tree)
  goes (inr g) = let f = g.effect in subst (Goes old.tree) (sym f.new_is) (granted_goes (scene_of setup old event g.caller g.args) law f.doing f.doing_is f.one f.two f.tag f.tag_is.fits f.granted)

pub change_is_confined : ChangeIsConfined
change_is_confined setup history old event choice answer new law step = confined setup old event choice answer new law (step_changes setup history old event choice answer new step)

-- ---- runs

pub runs_are_confined : RunsAreConfined
runs_are_confined setups opening law [] state run = (subst Law (sym (ap (λ (s : State). s.tree) run)) law, tt)
runs_are_confined setups opening law (d ∷ before) state run =
    let earlier = runs_are_confined setups opening law before run.0 run.1 in
    let setup = setups (length before) in
    let changes = step_changes setup before run.0 d.event d.choice d.answer state run.2 in (
      lawful setup run.0 d.event d.choice d.answer state earlier.0 changes,
      (earlier.1, confined setup run.0 d.event d.choice d.answer state earlier.0 changes),
    )

-- ---- what handles name

abbrev tagged : File → TaggedFile File
tagged f = record { tag = f.tag; value = f }

names_on : (t u : Tree) → IsNumbered (numbered_files t) → Goes t u → NamesOn t u
names_on t u h g = record {
  handles = λ handle n e. numbers_are_for_good.handle (numbered_files t) (numbered_files u) g.changes n handle h g.runs e ∙ ap (λ b. if b then Live (number n) else Stale) (lives n);
  gone = λ n below none. absent (at n u.files) (sym (at_shows tagged n u.files) ∙ numbers_are_for_good.gone (numbered_files t) (numbered_files u) g.changes n h g.runs below (at_shows tagged n t.files ∙ ap (option_map tagged) none));
  key = runs_keep.key (numbered_files t) (numbered_files u) g.changes g.runs;
  volumes = g.volumes;
  limits = g.limits;
  next = runs_keep.next (numbered_files t) (numbered_files u) g.changes g.runs;
}
  where
    lives : (n : ℕ) → is_some (numbered.at (numbered_files u) n) ≡ is_some (at n u.files)
    lives n = ap is_some (at_shows tagged n u.files) ∙ of (at n u.files)
      where
        of : (o : Option File) → is_some (option_map tagged o) ≡ is_some o
        of None = refl
        of (Some f) = refl

    absent : (o : Option File) → option_map tagged o ≡ None → o ≡ None
    absent None e = refl
    absent (Some f) e = absurd (not_both e refl)

-- a lawful tree that leads to the last one
abbrev LeadsTo : State → State → Type 0
LeadsTo state between = Law between.tree × Goes between.tree state.tree

module _ (setups : ℕ → Setup) (opening : State) where
  through : (P Q : State → Type 0) → ((s : State) → P s → Q s) → (history : List Done) (state : State) (run : IsRun setups opening history state) → Through setups opening history state run P → Through setups opening history state run Q
  through P Q h [] state run p = h state p
  through P Q h (d ∷ before) state run p = (through P Q h before run.0 run.1 p.0, h state p.1)

  module _ (law : Law opening.tree) where
    leads : (history : List Done) (state : State) (run : IsRun setups opening history state) → Through setups opening history state run (LeadsTo state)
    leads [] state run = ((runs_are_confined setups opening law [] state run).0, goes_itself state.tree)
    leads (d ∷ before) state run =
        let last = (runs_are_confined setups opening law before run.0 run.1).0 in
        let setup = setups (length before) in
        let step = goes setup run.0 d.event d.choice d.answer state last (step_changes setup before run.0 d.event d.choice d.answer state run.2) in (
          through (LeadsTo run.0) (LeadsTo state) (λ s p. (p.0, goes_on s.tree run.0.tree state.tree p.1 step)) before run.0 run.1 (leads before run.0 run.1),
          ((runs_are_confined setups opening law (d ∷ before) state run).0, goes_itself state.tree),
        )

pub handles_name_for_good : HandlesNameForGood
handles_name_for_good setups opening law history state run = (
  λ m n handle e g. handles_name_one.once (numbered_files state.tree) m n handle (runs_are_confined setups opening law history state run).0.numbers e g,
  through setups opening (LeadsTo state) (λ s. NamesOn s.tree state.tree) (λ s p. names_on s.tree state.tree p.0.numbers p.1) history state run (leads setups opening law history state run),
)

-- ---- servers

-- one event more
module _ (history : History) (old : Held) (event : Event) (choice : Choice) (answer : Answer) (new : Held) (fits : Fits history old) (step : GoesOn history old event choice answer new) where
  law_before : Law old.state.tree
  law_before = (runs_are_confined history.setups history.opening fits.opens.lawful history.done old.state fits.run).0

  pub step_leaves : Leaves old.setup old.state event new.state
  step_leaves = change_is_confined old.setup history.done old.state event choice answer new.state law_before step.0

  pub step_names : NamesOn old.state.tree new.state.tree
  step_names = names_on old.state.tree new.state.tree law_before.numbers (goes old.setup old.state event choice answer new.state law_before (step_changes old.setup history.done old.state event choice answer new.state step.0))

pub servers_are_confined : ServersAreConfined
servers_are_confined history s fits =
    let run = runs_are_confined history.setups history.opening fits.opens.lawful history.done s.state fits.run in
    let handles = handles_name_for_good history.setups history.opening fits.opens.lawful history.done s.state fits.run in
    record { lawful = run.0; confined = run.1; one = handles.0; good = handles.1 }
