use Rattle.nfs_words.specs.Texts.{Puts}
use Rattle.nfs_why.specs.Exports.{lines_of_first}
use Rattle.nfs_why.proofs.exports.put_exports.Given as goal

abbrev pub invariant-loop-place : goal.invariant-loop-place
invariant-loop-place l = Puts (lines_of_first l.loaded.tree l.loaded.table l.place) l.fn.out l.out
