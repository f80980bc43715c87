use Rattle.nfs_words.specs.Texts.{Puts}
use Rattle.nfs_control.specs.Status.{lines_of_first}
use Rattle.nfs_control.proofs.status.put_volumes.Given as goal

abbrev pub invariant-loop-place : goal.invariant-loop-place
invariant-loop-place l = Puts (lines_of_first l.tree l.place) l.fn.out l.out
