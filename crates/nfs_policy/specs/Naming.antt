-- What numbers and handles name, from one tree to the trees that events make of it.
use Rattle.std.specs.Prelude.{◌≡◌, ℕ, ◌<◌, ◌≤◌, List, [], ◌∷◌, Some, None, is_some, if◌then◌else◌}
use Rattle.nfs_handles.specs.Handles.{handle_at, reading, number}
use Rattle.nfs_handles.specs.declared.reading.Reading.TheVariants.{Live, Stale}
use Rattle.nfs_inodes.specs.Law.{Law}
use Rattle.nfs_inodes.specs.Reading.{numbered_files}
use Rattle.nfs_inodes.specs.Tree.{Tree, at}
use Rattle.nfs_server.specs.Events.{Done}
use Rattle.nfs_server.specs.Steps.{Setup, State, IsRun}

pub record NamesOn (t u : Tree) : Type 0 where
  -- a handle that reads as a file reads as that file while it lives, and is stale ever after
  pub handles : (handle : List ℕ) (n : ℕ) → reading (numbered_files t) handle ≡ Live (number n)
      → reading (numbered_files u) handle ≡ (if is_some (at n u.files) then Live (number n) else Stale)
  -- the number of a file that is gone is never given again
  pub gone : (n : ℕ) → n < t.next → at n t.files ≡ None → at n u.files ≡ None
  -- what is no file stays: the key of the handles, the volumes with their roots and limits, the limits of the tree, and how many numbers were given
  pub key : u.key ≡ t.key
  pub volumes : u.volumes ≡ t.volumes
  pub limits : u.limits ≡ t.limits
  pub next : t.next ≤ u.next

-- no two files that live have one handle
abbrev pub HandlesNameOne : Tree → Type 0
HandlesNameOne t = (m n : ℕ) (handle : List ℕ) → handle_at (numbered_files t) m ≡ Some handle → handle_at (numbered_files t) n ≡ Some handle → m ≡ n

-- this is so of each state that a run comes through, its opening and its last among them
abbrev pub Through : (setups : ℕ → Setup) (opening : State) (history : List Done) (state : State) → IsRun setups opening history state → (State → Type 0) → Type 0
Through setups opening [] state run Holds = Holds state
Through setups opening (d ∷ before) state run Holds = Through setups opening before run.0 run.1 Holds × Holds state

-- from each state of a run from a lawful tree to the last
abbrev pub HandlesNameForGood : Type 0
HandlesNameForGood = (setups : ℕ → Setup) (opening : State) → Law opening.tree
    → (history : List Done) (state : State) (run : IsRun setups opening history state)
    → HandlesNameOne state.tree × Through setups opening history state run (λ between. NamesOn between.tree state.tree)
