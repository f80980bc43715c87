use Rattle.nfs_rpc.proofs.reply.write_refused.Goals as goal

pub returns-in-RpcMismatch : goal.returns-in-RpcMismatch
returns-in-RpcMismatch c = rw c.in-RpcMismatch.is c.numbers.ensures.text

pub returns-in-BadCred : goal.returns-in-BadCred
returns-in-BadCred c = rw c.in-BadCred.is c.numbers-in-BadCred.ensures.text

pub returns-in-RejectedCred : goal.returns-in-RejectedCred
returns-in-RejectedCred c = rw c.in-RejectedCred.is c.numbers-in-RejectedCred.ensures.text

pub returns-in-TooWeak : goal.returns-in-TooWeak
returns-in-TooWeak c = rw c.in-TooWeak.is c.numbers-in-TooWeak.ensures.text
