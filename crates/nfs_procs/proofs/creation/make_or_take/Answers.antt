use Rattle.std.proofs.Common.{rules}
use Rattle.nfs_handles.proofs.Tags.{some_next_tag}
use Rattle.nfs_inodes.specs.Reading.{numbered_files}
use Rattle.nfs_procs.proofs.creation.make_or_take.Goals as goal

pub returns-in_ok-take-in-Some-clause-ok : goal.returns-in_ok-take-in-Some-clause-ok
returns-in_ok-take-in-Some-clause-ok c =
    let next = some_next_tag (numbered_files c.args.tree.now) in
    record { tag = next.0; tag_is = next.1; new_is = search rules }
