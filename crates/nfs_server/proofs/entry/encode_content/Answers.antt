use Rattle.nfs_server.proofs.Entries.{content_written}
use Rattle.nfs_server.specs.InMemory.{event_of}
use Rattle.nfs_server.proofs.entry.encode_content.Goals as goal

pub returns-clause-text : goal.returns-clause-text
returns-clause-text c = content_written (event_of c.args.event) c.args.reply.now _ _ _ _ _ _ _ c.u32.ensures.text c.u32-2.ensures.text c.u32-3.ensures.text c.u32-4.ensures.text c.part.ensures c.part-2.ensures
