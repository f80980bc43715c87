use Rattle.std.proofs.Common.{rules}
use Rattle.nfs_disk.proofs.Heads.{head_is}
use Rattle.nfs_disk.proofs.head.head_of.Goals as goal

pub returns : goal.returns
returns c =
    head_is c.args.key c.in_ok-limits.limits c.args.volumes.now c.new-text.result.items c.put_head.new.out.items c.put_volumes.new.text.items
    c.new-text.ensures.items (search rules) c.in_ok-limits.ensures c.in_ok-put_volumes.ensures
