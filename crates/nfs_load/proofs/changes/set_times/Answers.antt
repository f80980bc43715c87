use Rattle.std.proofs.Common.{Ok, sym, ap, ◌∙◌, ◌≡◌}
use Rattle.std.specs.Result.{result_map_both}
use Rattle.nfs_load.specs.Effects.{timed_file}
use Rattle.nfs_load.specs.Statements.{times_line_of}
use Rattle.nfs_load.proofs.Timed.{living_lives}
use Rattle.nfs_load.proofs.changes.set_times.Goals as goal

pub set-requires : goal.set-requires
set-requires c =
    let found : timed_file c.args.tree.now c.args.root.0 (times_line_of c.args.line.now) ≡ Ok c.in_ok-file.file.0 =
    sym c.find_timed_file.ensures ∙ ap (result_map_both (λ n. n.0) (λ cause. cause)) c.in_ok-file.was in
    living_lives c.args.tree.now _ c.in_ok-file.file.0 found
