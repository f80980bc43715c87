use Rattle.std.proofs.Common.{◌≡◌, length}
use Rattle.std.specs.Prelude.{is_some}
use Rattle.nfs_text.specs.Chunks.{chunks, chunks_left}
use Rattle.nfs_load.specs.Names.{names_in}
use Rattle.nfs_load.proofs.path.are_names.Given as goal

abbrev pub invariant-loop-component : goal.invariant-loop-component
invariant-loop-component l = is_some (names_in l.form (chunks_left l.components)) ≡ is_some (names_in l.form (chunks 47 l.text))

abbrev pub decreases-loop-component : goal.decreases-loop-component
decreases-loop-component l = length (chunks_left l.components)
