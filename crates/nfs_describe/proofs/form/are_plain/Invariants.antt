use Rattle.std.proofs.Common.{◌≡◌, drop}
use Rattle.nfs_describe.specs.Places.{are_plain}
use Rattle.nfs_describe.proofs.form.are_plain.Given as goal

abbrev pub invariant-loop-place : goal.invariant-loop-place
invariant-loop-place l = are_plain l.tree l.walk ≡ are_plain l.tree (drop l.place-index l.walk)
