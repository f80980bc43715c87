use Rattle.nfs_server.proofs.Joined.{four_joined}
use Rattle.nfs_server.proofs.audit_line.put_words.Goals as goal

pub returns-clause-items : goal.returns-clause-items
returns-clause-items c = four_joined _ _ _ _ _ _ _ _ _ c.put.ensures.items c.put_text.ensures.items c.put-2.ensures.items c.put_text-2.ensures.items
