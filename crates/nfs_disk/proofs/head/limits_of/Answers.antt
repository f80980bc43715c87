use Rattle.std.proofs.Common.{◌≡◌, ◌+◌, ◌<◌, drop, length, get_or, sym, ap, ◌∙◌, rules}
use Rattle.std.proofs.lemmas.List.{drop_all}
use Rattle.nfs_inodes.specs.Limits.{default_limits}
use Rattle.nfs_disk.specs.Heads.{limits_in, limits_of}
use Rattle.nfs_disk.specs.Needs.{larger}
use Rattle.nfs_disk.proofs.Heads.{from_default, no_more, one_more, stays}
use Rattle.nfs_disk.proofs.Lasting.{next_of}
use Rattle.nfs_disk.proofs.head.limits_of.Goals as goal

pub loop-volume-init : goal.loop-volume-init
loop-volume-init c =
    let is = c.standard-limits.ensures in
    (ap (λ l. larger l (limits_of c.args.volumes.now)) is ∙ from_default c.args.volumes.now, ap (λ l. larger l default_limits) is ∙ sym is)

pub loop-volume-preserved : goal.loop-volume-preserved
loop-volume-preserved c =
    let volumes = c.args.volumes.now in
    let i = c.loop-volume.volume-index in
    let so = c.loop-volume.invariant in
    let inside : i < length volumes = search rules in
    let is : c.volume-item.result ≡ get_or volumes i c.volume-item.result = search rules in
    let new : c.larger-limits.result ≡ larger c.loop-volume.limits (limits_in c.volume-item.result) = c.larger-limits.ensures ∙ ap (larger c.loop-volume.limits) c.in_ok-limits_in.ensures in (
      one_more c.loop-volume.limits c.larger-limits.result (drop i volumes) (drop (i + 1) volumes) c.volume-item.result _ so.0 (next_of volumes i c.volume-item.result inside is) new,
      ap (λ l. larger l default_limits) new ∙ stays c.loop-volume.limits (limits_in c.volume-item.result) so.1 ∙ sym new,
    )

pub returns : goal.returns
returns c =
    no_more c.loop-volume.limits (drop c.loop-volume.volume-index c.args.volumes.now) _ c.loop-volume.invariant.0 c.loop-volume.invariant.1
    (drop_all c.loop-volume.volume-index c.args.volumes.now c.loop-volume-test.false)
