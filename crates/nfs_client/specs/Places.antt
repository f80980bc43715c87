-- Where paths lead in a tree, from the paths of volumes on.
use Rattle.std.specs.Prelude.{ℕ, Bool, true, false, ◌||◌, List, [], ◌∷◌, length, take, drop, Option, Some, None, option_map, if◌then◌else◌, nat_eq, nat_lt, bytes_eq, codes}
use Rattle.nfs_text.specs.Chunks.{chunks}
use Rattle.nfs_inodes.specs.Tree.{Tree, Volume, on_some}
pub use Rattle.nfs_inodes.specs.Reading.{dot}
use Rattle.nfs_inodes.specs.Reading.{number_under, numbered_files}
use Rattle.nfs_handles.specs.Handles.{handle_at}

-- the root of a volume, and what stands after the volume's path
pub record Way : Type 0 where
  pub root : ℕ
  pub rest : List ℕ

-- a directory, and a name in it
pub record ResolvedPath : Type 0 where
  pub dir : ℕ
  pub name : List ℕ

-- what stands after a text at the front of another
abbrev pub after : List ℕ → List ℕ → Option (List ℕ)
after front text = if nat_lt (length text) (length front) then None
    else (if bytes_eq (take (length front) text) front then Some (drop (length front) text) else None)

-- whether nothing follows, or a slash
abbrev pub goes_on : List ℕ → Bool
goes_on [] = true
goes_on (byte ∷ rest) = nat_eq byte 47

-- what stands after a volume's path in a path that goes on from it
abbrev pub rest_after : List ℕ → List ℕ → Option (List ℕ)
rest_after volume path = on_some (after volume path) None (λ rest. if bytes_eq volume (codes "/") || goes_on rest then Some rest else None)

abbrev pub way_in : Volume → List ℕ → Option Way
way_in v path = option_map (λ rest. record { root = v.root; rest = rest }) (rest_after v.path path)

-- the same of a volume, if there is one
abbrev pub volume_way : Option Volume → List ℕ → Option Way
volume_way volume path = on_some volume None (λ v. way_in v path)

-- of two ways the one with less left to go, the first where they have as much
abbrev pub nearer : Option Way → Option Way → Option Way
nearer None other = other
nearer (Some way) None = Some way
nearer (Some way) (Some other) = if nat_lt (length other.rest) (length way.rest) then Some other else Some way

-- by the volume with the longest path that a path goes on from
abbrev pub way_from : Option Way → List Volume → List ℕ → Option Way
way_from found [] path = found
way_from found (v ∷ vs) path = way_from (nearer found (way_in v path)) vs path

abbrev pub is_nothing : List ℕ → Bool
is_nothing [] = true
is_nothing (byte ∷ bytes) = false

-- a name, and those after it: each but the last leads on, and nothing between two slashes is no name
abbrev pub place_after : Tree → ℕ → List ℕ → List (List ℕ) → Option ResolvedPath
place_after t dir name [] = Some (record { dir = dir; name = name })
place_after t dir name (next ∷ names) = if is_nothing next then place_after t dir name names
    else on_some (number_under t dir name) None (λ n. place_after t n next names)

-- the place that a path ends at
abbrev pub place_at : Tree → List ℕ → Option ResolvedPath
place_at t path = on_some (way_from None t.volumes path) None (λ way. place_after t way.root dot (chunks 47 way.rest))

-- the file that a path names
abbrev pub file_at : Tree → List ℕ → Option ℕ
file_at t path = on_some (place_at t path) None (λ place. number_under t place.dir place.name)

-- the handle of a file
abbrev pub handle_in : Tree → ℕ → Option (List ℕ)
handle_in t n = handle_at (numbered_files t) n
