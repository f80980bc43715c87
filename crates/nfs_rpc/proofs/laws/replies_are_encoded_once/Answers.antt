use Rattle.nfs_rpc.proofs.Replies.{reply_once}
use Rattle.nfs_rpc.proofs.laws.replies_are_encoded_once.Goals as goal

pub returns : goal.returns
returns c = reply_once
