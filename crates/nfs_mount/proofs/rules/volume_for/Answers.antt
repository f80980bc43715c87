use Rattle.std.proofs.Common.{sym, ◌∙◌}
use Rattle.nfs_mount.proofs.Places.{index_within}
use Rattle.nfs_mount.proofs.rules.volume_for.Goals as goal

pub returns-in-Some-grant-clause-within : goal.returns-in-Some-grant-clause-within
returns-in-Some-grant-clause-within c = index_within _ c.args.tree.now.volumes c.in-Some.index (sym c.volume_named.ensures ∙ c.in-Some.is)
