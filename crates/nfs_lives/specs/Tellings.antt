-- What the text determines of which a digest is taken.
use Rattle.std.specs.Prelude.{◌≡◌, ℕ, List, length, Some, None}
use Rattle.nfs_load.specs.Descriptions.{Through}
use Rattle.nfs_load.specs.declared.loaded.Loaded.{Loaded}
use Rattle.nfs_text.specs.Lines as text
use Rattle.nfs_lives.specs.Paths.{identity_text, paths_text, rows_of}

-- the text of what a description names is itself lines that name the same
abbrev pub TextsReadBack : Type 0
TextsReadBack = (lines : List (List ℕ)) (loaded : Loaded) → Through None lines (Some loaded)
    → rows_of (text.lines (paths_text (rows_of lines))) ≡ rows_of lines

-- Two descriptions of which one text is digested name the same, and have one server key. So their keys are the same
-- for other paths only where two texts have digests that begin alike.
abbrev pub TextsReport : Type 0
TextsReport = (lines others : List (List ℕ)) (loaded other : Loaded) → Through None lines (Some loaded) → Through None others (Some other)
    → length loaded.tree.key ≡ length other.tree.key
    → identity_text loaded.tree.key (rows_of lines) ≡ identity_text other.tree.key (rows_of others)
    → (rows_of lines ≡ rows_of others) × (loaded.tree.key ≡ other.tree.key)
