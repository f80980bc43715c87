-- Rows as they are in memory, and what a digest was fed.
use Rattle.std.specs.Prelude.{ℕ, List, ◌++◌, option_map}
use Rattle.sha2.specs.Hashers.{Holds256}
use Rattle.sha2.specs.declared.Sha256.{Sha256}
use Rattle.nfs_lives.specs.declared.path_row.PathRow as kept
use Rattle.nfs_lives.specs.declared.path_digest.PathDigest.{PathDigest}
use Rattle.nfs_lives.specs.Paths.{PathRow, rows_of, paths_text}

-- a row without where it lies in memory
abbrev pub row_seen : kept.PathRow → PathRow
row_seen row = record { keyword = row.keyword; path = row.path.now; old = option_map (λ old. old.now) row.old }

-- the digest has taken these lines
abbrev pub HasTaken : PathDigest → List (List ℕ) → Type 0
HasTaken it lines = Holds256 it.digest (paths_text (rows_of lines))

-- a text is after what was fed before
abbrev pub Feeds : Sha256 → List ℕ → Sha256 → Type 0
Feeds old text new = (before : List ℕ) → Holds256 old before → Holds256 new (before ++ text)
