-- Pages of an unchanged directory, one after another.
use Rattle.std.specs.Prelude.{◌≡◌, ℕ, ◌↔◌, Bool, true, List, [], ◌∷◌, ◌++◌}
use Rattle.nfs_inodes.specs.Tree.{Tree, Entry}
use Rattle.nfs_inodes.specs.Law.{Law}
use Rattle.nfs_inodes.specs.Reading.{listing_at}
use Rattle.nfs_dirs.specs.Pages.{chosen, is_end, left_after}

-- the cookie of the last of some entries; of none, the one before
abbrev pub last_cookie : ℕ → List Entry → ℕ
last_cookie cookie [] = cookie
last_cookie cookie (e ∷ es) = last_cookie e.cookie es

-- the entries of pages, each by a bound of its own and from the cookie of the last entry before it
abbrev pub entries_of : Tree → ℕ → ℕ → List (List Entry → Bool) → List Entry
entries_of t d cookie [] = []
entries_of t d cookie (passes ∷ pages) = chosen passes (left_after t d cookie)
    ++ entries_of t d (last_cookie cookie (chosen passes (left_after t d cookie))) pages

-- the cookie of the last of them
abbrev pub cookie_after : Tree → ℕ → ℕ → List (List Entry → Bool) → ℕ
cookie_after t d cookie [] = cookie
cookie_after t d cookie (passes ∷ pages) = cookie_after t d (last_cookie cookie (chosen passes (left_after t d cookie))) pages

-- their entries, one after another, and what is left behind them are what was left before them: no entry is missing, and none is there twice
abbrev pub PagesJoin : Type 0
PagesJoin = (t : Tree) → Law t → (d cookie : ℕ) (pages : List (List Entry → Bool))
    → entries_of t d cookie pages ++ left_after t d (cookie_after t d cookie pages) ≡ left_after t d cookie

-- from cookie 0 on all is left
abbrev pub AllAreLeft : Type 0
AllAreLeft = (t : Tree) → Law t → (d : ℕ) → left_after t d 0 ≡ listing_at t d

-- a page reports the end exactly where nothing is left behind its last entry
abbrev pub EndsAreReported : Type 0
EndsAreReported = (t : Tree) → Law t → (d cookie : ℕ) (passes : List Entry → Bool)
    → (is_end passes (left_after t d cookie) ≡ true) ↔ (left_after t d (last_cookie cookie (chosen passes (left_after t d cookie))) ≡ [])
