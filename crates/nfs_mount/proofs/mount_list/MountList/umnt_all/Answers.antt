use Rattle.std.proofs.Common.{rules, ap, ◌∙◌}
use Rattle.std.proofs.lemmas.Fn.{filter_same}
use Rattle.nfs_mount.specs.Mounts.{is_of_another, without_addr}
use Rattle.nfs_mount.proofs.mount_list.MountList.umnt_all.Goals as goal

pub returns : goal.returns
returns c = filter_same _ (is_of_another c.args.addr) _ (λ m b f call. search rules) _ _ c.retain.ensures.filtered ∙ ap (without_addr c.args.addr) c.self.view_is
