use Rattle.std.proofs.Common.{[], ◌∙◌, ap, sym}
use Rattle.nfs_inodes.specs.Tree.{on_some}
use Rattle.nfs_load.specs.PathEnds.{file_or_root_at}
use Rattle.nfs_load.proofs.Timed.{file_with_names}
use Rattle.nfs_load.proofs.path_end.find_file_or_root.Goals as goal

pub returns-in-Some : goal.returns-in-Some
returns-in-Some c = c.find_file.ensures ∙ file_with_names c.args.tree.now c.args.root.0 c.in-Some.path c.law.ensures
    ∙ ap (λ path. file_or_root_at c.args.tree.now c.args.root.0 (on_some path [] (λ names. names))) (sym c.in-Some.is)
