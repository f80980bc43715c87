use Rattle.std.proofs.Common.{rules}
use Rattle.nfs_text.specs.Lines.{lines}
use Rattle.nfs_named.specs.Lives.{Takes, directory_lines}
use Rattle.nfs_named.proofs.Lives.{takes_then}
use Rattle.nfs_named.proofs.shared.SharedDirectories.read.Goals as goal

pub returns : goal.returns
returns g c =
    let has = g.D.LifeDigest.has in
    let start = c.args.digest.now in
    let begun = c.take_head.new.self in
    let head = lines c.in_ok-head.head.items in
    let made = c.in_ok-warnings.ensures in
    let first : Takes has start head begun = search rules in
    (made.0, takes_then has start begun c.fill.new.digest head (directory_lines 0 made.0) first made.2)
