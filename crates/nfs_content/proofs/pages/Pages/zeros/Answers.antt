use Rattle.nfs_content.proofs.Lists.{no_items}
use Rattle.nfs_content.proofs.Shown.{zeros_shown}
use Rattle.nfs_content.proofs.pages.Pages.zeros.Goals as goal

pub returns : goal.returns
returns c = zeros_shown _ (no_items c.new.result c.new.ensures.items) c.args.len
