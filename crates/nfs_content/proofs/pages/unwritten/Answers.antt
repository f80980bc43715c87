use Rattle.std.proofs.lemmas.List.{take-replicate}
use Rattle.nfs_content.proofs.pages.unwritten.Goals as goal

pub returns : goal.returns
returns c = take-replicate c.args.len 4096 0 c.requires
