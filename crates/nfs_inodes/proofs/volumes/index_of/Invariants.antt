use Rattle.std.proofs.Common.{◌≡◌, ◌+◌, bytes_eq, map, drop, option_map}
use Rattle.nfs_inodes.specs.Tree.{Volume}
use Rattle.nfs_inodes.specs.Storage.{volume_of}
use Rattle.nfs_inodes.specs.Reading.{index_where}
use Rattle.nfs_inodes.proofs.volumes.index_of.Given as goal

abbrev pub invariant-loop-index : goal.invariant-loop-index
invariant-loop-index l = index_where (λ (v : Volume). bytes_eq v.path l.path) (map volume_of l.volumes) ≡ option_map (λ n. l.index + n) (index_where (λ (v : Volume). bytes_eq v.path l.path) (map volume_of (drop l.index l.volumes)))
