use Rattle.nfs_source.proofs.Sources.{read_end}
use Rattle.nfs_source.proofs.source.read_some.Goals as goal

pub returns-in_default-2-clause-at_end : goal.returns-in_default-2-clause-at_end
returns-in_default-2-clause-at_end g c =
    read_end c.read.result (g.I.Read.remaining c.loop.file) (g.I.Read.remaining c.read.new.self) c.read.new.buf c.read.ensures.bytes
