use Rattle.std.proofs.Common.{◌≡◌, ◌++◌, drop}
use Rattle.std.specs.List.{flat_map}
use Rattle.nfs_disk.specs.Heads.{volume_text}
use Rattle.nfs_disk.proofs.head.put_volumes.Given as goal

abbrev pub invariant-loop-volume : goal.invariant-loop-volume
invariant-loop-volume l = l.text.items ++ flat_map volume_text (drop l.volume-index l.volumes) ≡ l.fn.text.items ++ flat_map volume_text l.volumes
