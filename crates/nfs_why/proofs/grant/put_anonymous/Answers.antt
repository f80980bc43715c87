use Rattle.nfs_words.proofs.Texts.{puts_then}
use Rattle.nfs_why.proofs.grant.put_anonymous.Goals as goal

pub returns : goal.returns
returns c = puts_then _ _ _ _ _ c.put_id.ensures c.put_id-2.ensures
