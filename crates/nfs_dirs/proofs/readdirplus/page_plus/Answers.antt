use Rattle.nfs_dirs.specs.Pages.{left_after}
use Rattle.nfs_dirs.proofs.Opened.{page_plus_answered}
use Rattle.nfs_dirs.proofs.readdirplus.page_plus.Goals as goal

pub returns : goal.returns
returns c = page_plus_answered c.args.dircount c.args.maxcount c.args.tree.now c.args.searchable (left_after c.args.tree.now c.args.dir.now.attributes.fileid c.args.cookie) c.in_ok-page.page c.in_ok-page.ensures.opens c.in_ok-page.ensures.searchable c.write.result c.args.out.now c.write.new.out c.write.ensures
