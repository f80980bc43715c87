use Rattle.std.proofs.Common.{◌≡◌}
use Rattle.nfs_disk.specs.Surveys.{owned_by}
use Rattle.nfs_disk.proofs.Owning.{map_first}
use Rattle.nfs_disk.proofs.survey.Survey.chown.Given as goal

abbrev pub invariant-loop-found : goal.invariant-loop-found
invariant-loop-found l = l.found-items ≡ map_first (owned_by l.uid l.gid) l.found-index l.fn.self.found.items
