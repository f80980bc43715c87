use Rattle.nfs_xdr.proofs.Writing.{appends_then}
use Rattle.nfs_client.proofs.name_request.NameRequest.write.Goals as goal

pub returns-in-Symlink : goal.returns-in-Symlink
returns-in-Symlink c = rw c.in-Symlink.is (appends_then _ _ _ _ _ (appends_then _ _ _ _ _ c.opaque.ensures c.opaque-2.ensures)
    (appends_then _ _ _ _ _ c.numbers.ensures.text c.opaque-in-Symlink.ensures))
