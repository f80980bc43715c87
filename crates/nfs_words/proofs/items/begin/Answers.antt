use Rattle.std.proofs.Common.{codes}
use Rattle.nfs_words.proofs.Texts.{puts_then}
use Rattle.nfs_words.proofs.items.begin.Goals as goal

pub returns : goal.returns
returns c = puts_then (codes "    ") c.args.name.now _ _ _ c.put.ensures c.put-2.ensures
