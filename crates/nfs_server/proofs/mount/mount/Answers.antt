use Rattle.std.proofs.Common.{◌≡◌, refl, subst}
use Rattle.nfs_mount.specs.MountAnswers.{Mounts}
use Rattle.nfs_mount.specs.Mounts.{after_umnt}
use Rattle.nfs_server.proofs.Mounted.{of_args}
use Rattle.nfs_server.proofs.Room.{none_written}
use Rattle.nfs_server.proofs.mount.mount.Goals as goal

pub returns-in-Mount-clause-mounts : goal.returns-in-Mount-clause-mounts
returns-in-Mount-clause-mounts c = of_args _ _ _ _ _ _ _ _ _ _ c.in-Mount.is
    (subst (λ path. Mounts c.args.tree.now c.args.table.now c.args.addr path c.mnt.result c.args.mounts.now c.mnt.new.self c.args.out.now c.mnt.new.out) c.bytes.ensures c.mnt.ensures)

pub returns-in-Dump-clause-mounts : goal.returns-in-Dump-clause-mounts
returns-in-Dump-clause-mounts c = of_args _ _ _ _ _ _ _ _ _ _ c.in-Dump.is (refl, refl, c.write_dump.ensures.text, c.write_dump.ensures.encoded)

pub returns-in-Unmount-clause-mounts : goal.returns-in-Unmount-clause-mounts
returns-in-Unmount-clause-mounts c = of_args _ _ _ _ _ _ _ _ _ _ c.in-Unmount.is
    (refl, subst (λ path. c.umnt.new.self ≡ after_umnt c.args.tree.now c.args.addr path c.args.mounts.now) c.bytes-in-Unmount.ensures c.umnt.ensures, none_written c.args.out.now, record { value_is = refl; text_is = refl })

pub returns-in-UnmountAll-clause-mounts : goal.returns-in-UnmountAll-clause-mounts
returns-in-UnmountAll-clause-mounts c = of_args _ _ _ _ _ _ _ _ _ _ c.in-UnmountAll.is (refl, c.umnt_all.ensures, none_written c.args.out.now, record { value_is = refl; text_is = refl })

pub returns-in-Export-clause-mounts : goal.returns-in-Export-clause-mounts
returns-in-Export-clause-mounts c = of_args _ _ _ _ _ _ _ _ _ _ c.in-Export.is (refl, refl, c.write_export.ensures.text, c.write_export.ensures.encoded)
