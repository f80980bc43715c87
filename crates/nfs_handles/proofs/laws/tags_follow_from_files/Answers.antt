use Rattle.nfs_handles.proofs.Tags.{one_is_next}
use Rattle.nfs_handles.proofs.laws.tags_follow_from_files.Goals as goal

pub returns : goal.returns
returns g c = one_is_next
