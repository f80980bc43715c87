use Rattle.nfs_dirs.specs.Pages.{left_after}
use Rattle.nfs_dirs.proofs.Opened.{page_answered}
use Rattle.nfs_dirs.proofs.readdir.page.Goals as goal

pub returns : goal.returns
returns c = page_answered c.args.count (left_after c.args.tree.now c.args.dir.now.attributes.fileid c.args.cookie) c.in_ok-page.page c.in_ok-page.ensures c.write.result c.args.out.now c.write.new.out c.write.ensures
