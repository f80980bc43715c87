use Rattle.nfs_conditions.proofs.Renames.{cookie_left}
use Rattle.nfs_conditions.proofs.moves.has_cookie_left.Goals as goal

pub returns-in-Some : goal.returns-in-Some
returns-in-Some c = cookie_left c.args.tree.now c.args.dir.0 c.in-Some.next_cookie c.in-Some.ensures
