use Rattle.std.proofs.Common.{◌≡◌, [], ◌∷◌, ◌++◌, refl, rules}
use Rattle.std.specs.Vec.Iter.{into_iter_items}
use Rattle.nfs_named.proofs.Lives.{lives_more, made_more, next_left, one_longer, takes_none}
use Rattle.nfs_named.proofs.filling.fill.Goals as goal

pub loop-directory-init : goal.loop-directory-init
loop-directory-init g c = ([], [], c.into_iter-left.ensures.rest, refl, tt, takes_none g.D.LifeDigest.has c.args.digest.now)

pub loop-directory-preserved : goal.loop-directory-preserved
loop-directory-preserved g c =
    let so = c.loop-directory.invariant in
    let one = c.in-Some.directory in
    let it = c.in_ok-skipped.ensures in
    let left = into_iter_items c.loop-directory.left in
    let rest = into_iter_items c.next.new.self in
    let next : left ≡ one ∷ rest = search rules in (
      so.0 ++ one ∷ [],
      so.1 ++ it.0 ∷ [],
      next_left so.0 left rest c.args.directories.items one next so.2,
      one_longer so.0 one c.loop-directory.index so.3,
      made_more so.0 so.1 one it.0 so.4 it.1,
      lives_more g.D.LifeDigest.has c.args.digest.now c.loop-directory.digest c.fill_at.new.digest so.0 so.1 it.0 c.loop-directory.index so.4 so.3 so.5 it.2,
    )
