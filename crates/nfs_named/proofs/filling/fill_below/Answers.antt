use Rattle.std.proofs.Common.{[], ◌∷◌, ◌++◌, drop, rules}
use Rattle.nfs_named.proofs.Lives.{found_more, paths_more}
use Rattle.nfs_named.proofs.filling.fill_below.Goals as goal

pub loop-building-preserved : goal.loop-building-preserved
loop-building-preserved g c =
    let so = c.loop-building.invariant in
    let made = c.in-Some.made in (
      so.0 ++ made ∷ [],
      found_more so.0 made c.loop-building.building c.make_next.new.self (drop 1 c.args.survey.found.items) (search rules) so.1,
      paths_more g.D.LifeDigest.has c.args.digest.now c.loop-building.digest c.take_path.new.self so.0 made so.2 (search rules),
    )
