use Rattle.std.proofs.Common.{◌≡◌, nat_eq, drop, map}
use Rattle.std.specs.List.{list_any}
use Rattle.nfs_exports.specs.Ids.{unless_root}
use Rattle.nfs_exports.proofs.squash.is_among.Given as goal

abbrev pub invariant-loop-one : goal.invariant-loop-one
invariant-loop-one l = list_any (nat_eq l.gid) (map (unless_root l.root) l.gids) ≡ list_any (nat_eq l.gid) (map (unless_root l.root) (drop l.one-index l.gids))
