use Rattle.nfs_reply_cache.proofs.Shows.{NoneBefore}
use Rattle.nfs_reply_cache.proofs.reply_cache.position_of.Given as goal

abbrev pub invariant-loop-place : goal.invariant-loop-place
invariant-loop-place l = NoneBefore (l.addr, l.bytes) l.place l.kept.items
