-- How a life of a server opens.
use Rattle.std.specs.Prelude.{ℕ, List}
use Rattle.nfs_inodes.specs.Changes.{with_key, with_next_from}
use Rattle.nfs_inodes.specs.Tree.{Tree}

-- the tree that a life opens with: its handles have this key, and its new files this number or later ones
abbrev pub opened : Tree → List ℕ → ℕ → Tree
opened t key next = with_next_from (with_key t key) next
