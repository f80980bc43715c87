use Rattle.std.proofs.Common.{refl, map, rules, string_bytes}
use Rattle.nfs_named.specs.Lives.{Takes, path_line, mount_lines}
use Rattle.nfs_named.proofs.Lives.{if_ok_more, takes_then}
use Rattle.nfs_named.proofs.filling.fill_at.Goals as goal

pub returns : goal.returns
returns g c =
    let has = g.D.LifeDigest.has in
    let start = c.args.digest.now in
    let mount = string_bytes c.args.directory.mount in
    let begun : Takes has start (mount_lines c.args.index mount) c.begin_volume.new.digest = search rules in
    if_ok_more c.fill_below.result (λ so. (
      record { mount = mount; made = so.0 },
      record { mount = refl; found = so.1 },
      takes_then has start c.begin_volume.new.digest c.fill_below.new.digest (mount_lines c.args.index mount) (map path_line so.0) begun so.2,
    )) c.fill_below.ensures
