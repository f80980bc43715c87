-- The lives of one server, one after another, and what handles name from one to the next.
use Rattle.std.specs.Prelude.{◌≡◌, ◌≢◌, ◌⊎◌, ℕ, ◌≤◌, true, List, ◌∷◌, ◌++◌, Some, None, is_some, Ok, if◌then◌else◌}
use Rattle.nfs_handles.specs.Handles.{handle_at, reading, number}
use Rattle.nfs_handles.specs.declared.reading.Reading.TheVariants.{Live, Stale}
use Rattle.nfs_inodes.specs.Law.{Law}
use Rattle.nfs_inodes.specs.Reading.{numbered_files}
use Rattle.nfs_inodes.specs.Tree.{at}
use Rattle.nfs_load.specs.Descriptions.{LineDone, Through}
use Rattle.nfs_load.specs.declared.loaded.Loaded.{Loaded}
use Rattle.nfs_server.specs.Events.{Done}
use Rattle.nfs_server.specs.Steps.{Setup, State, IsRun}
use Rattle.nfs_lives.specs.Opening.{opened}
use Rattle.nfs_lives.specs.Paths.{PathRow, row_of, rows_of, makes_file, life_key}

-- A life: from the lines of a description to some state of a run. Each part of a whole life is one, too.
pub record Life : Type 0 where
  pub lines : List (List ℕ)
  pub loaded : Loaded
  pub described : Through None lines (Some loaded)
  pub lawful : Law loaded.tree
  -- the lowest number that a new file may take
  pub next : ℕ
  pub opening : State
  pub opens : opening.tree ≡ opened loaded.tree (life_key loaded.tree.key (rows_of lines)) next
  pub opens_lawful : Law opening.tree
  -- what was in force after each number of events
  pub setups : ℕ → Setup
  pub history : List Done
  pub state : State
  pub run : IsRun setups opening history state

-- the key of its handles
abbrev pub key_of : Life → List ℕ
key_of life = life_key life.loaded.tree.key (rows_of life.lines)

-- The later life has the same server key and the same list of paths, and its numbers begin above all that the earlier gave.
pub record Follows (earlier later : Life) : Type 0 where
  pub key : later.loaded.tree.key ≡ earlier.loaded.tree.key
  pub paths : rows_of later.lines ≡ rows_of earlier.lines
  pub above : earlier.state.tree.next ≤ later.next

-- file n is the one that a line with this row makes, after the lines before it
pub record IsMadeBy (lines : List (List ℕ)) (n : ℕ) (row : PathRow) : Type 0 where
  pub before : List (List ℕ)
  pub line : List ℕ
  pub after : List (List ℕ)
  pub lines_are : lines ≡ before ++ line ∷ after
  pub old : Loaded
  pub in_order : Through None before (Some old)
  pub new : Loaded
  pub done : LineDone (Some old) line (Ok tt) (Some new)
  pub numbered : n ≡ old.tree.next
  pub row_is : row_of line ≡ Some row
  pub makes : makes_file row.keyword ≡ true

-- both descriptions make file n, by lines with one row
abbrev pub IsMadeInBoth : Life → Life → ℕ → Type 0
IsMadeInBoth earlier later n = (row : PathRow) × IsMadeBy earlier.lines n row × IsMadeBy later.lines n row

-- a handle of file n of the earlier life is stale in the later, or names the file of the same path
abbrev pub ReadsOn : Life → Life → ℕ → List ℕ → Type 0
ReadsOn earlier later n handle = (reading (numbered_files later.state.tree) handle ≡ Stale)
    ⊎ ((reading (numbered_files later.state.tree) handle ≡ Live (number n)) × IsMadeInBoth earlier later n)

-- each handle that the earlier life gave
abbrev pub HandlesAcrossLives : Type 0
HandlesAcrossLives = (earlier later : Life) → Follows earlier later
    → (n : ℕ) (handle : List ℕ) → handle_at (numbered_files earlier.state.tree) n ≡ Some handle
    → ReadsOn earlier later n handle

-- A handle of a life with another key is stale. The keys of other paths, or of another server, differ, unless their digests begin alike.
abbrev pub HandlesOfOthersAreStale : Type 0
HandlesOfOthersAreStale = (one other : Life) → key_of one ≢ key_of other
    → (n : ℕ) (handle : List ℕ) → handle_at (numbered_files one.state.tree) n ≡ Some handle
    → reading (numbered_files other.state.tree) handle ≡ Stale

-- A handle that the earlier life opened with names, in the later, the file of the same path while that lives, and is stale after it.
abbrev pub DescribedHandlesStay : Type 0
DescribedHandlesStay = (earlier later : Life) → Follows earlier later
    → (n : ℕ) (handle : List ℕ) → handle_at (numbered_files earlier.opening.tree) n ≡ Some handle
    → IsMadeInBoth earlier later n
    × (reading (numbered_files later.state.tree) handle ≡ (if is_some (at n later.state.tree.files) then Live (number n) else Stale))
