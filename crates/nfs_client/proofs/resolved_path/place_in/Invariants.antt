use Rattle.std.proofs.Common.{◌≡◌, length}
use Rattle.nfs_text.specs.Chunks.{chunks, chunks_left}
use Rattle.nfs_client.specs.Places.{place_after, dot}
use Rattle.nfs_client.proofs.resolved_path.place_in.Given as goal

abbrev pub invariant-loop-next : goal.invariant-loop-next
invariant-loop-next l = place_after l.tree l.fn.way.root.0 dot (chunks 47 l.fn.way.rest.now) ≡ place_after l.tree l.dir.0 l.name (chunks_left l.names)

abbrev pub decreases-loop-next : goal.decreases-loop-next
decreases-loop-next l = length (chunks_left l.names)
