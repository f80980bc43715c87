use Rattle.std.proofs.Common.{◌/◌}
use Rattle.nfs_content.specs.Tables.{pages_of}
use Rattle.nfs_content.proofs.Cutting.{cut_between, kept_short, cut_within, within_short}
use Rattle.nfs_content.proofs.chunks.cut.Goals as goal

pub returns-then-rest-eq0-clause-cuts : goal.returns-then-rest-eq0-clause-cuts
returns-then-rest-eq0-clause-cuts c = cut_between (pages_of c.args.table.now) c.args.len (pages_of c.keep.new.self) c.if-rest-eq0.true c.keep.ensures

pub returns-then-rest-eq0-clause-short : goal.returns-then-rest-eq0-clause-short
returns-then-rest-eq0-clause-short c = kept_short (pages_of c.args.table.now) (c.args.len / 4096) (pages_of c.keep.new.self) c.keep.ensures c.requires

pub returns-clause-cuts : goal.returns-clause-cuts
returns-clause-cuts c = cut_within (pages_of c.args.table.now) c.args.len (pages_of c.keep-2.new.self) (pages_of c.shorten.new.self) c.keep-2.ensures c.shorten.ensures.here c.shorten.ensures.elsewhere

pub returns-clause-short : goal.returns-clause-short
returns-clause-short c = within_short (pages_of c.args.table.now) c.args.len (pages_of c.keep-2.new.self) (pages_of c.shorten.new.self) c.keep-2.ensures c.shorten.ensures.here c.shorten.ensures.elsewhere c.requires
