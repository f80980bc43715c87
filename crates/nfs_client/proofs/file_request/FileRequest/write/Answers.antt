use Rattle.nfs_xdr.proofs.Writing.{appends_then}
use Rattle.nfs_client.proofs.file_request.FileRequest.write.Goals as goal

pub returns-in-Read : goal.returns-in-Read
returns-in-Read c = rw c.in-Read.is (appends_then _ _ _ _ _ c.opaque.ensures (appends_then _ _ _ _ _ c.u64.ensures.text c.u32-in-Read.ensures.text))

pub returns-in-Write : goal.returns-in-Write
returns-in-Write c = rw c.in-Write.is (appends_then _ _ _ _ _ c.opaque.ensures
    (appends_then _ _ _ _ _ c.u64-in-Write.ensures.text (appends_then _ _ _ _ _ c.numbers.ensures.text c.opaque-in-Write.ensures)))
