use Rattle.std.proofs.Common.{◌++◌, codes}
use Rattle.std.specs.Prelude.{decimal}
use Rattle.nfs_words.proofs.Texts.{puts_then}
use Rattle.nfs_control.specs.Status.{line}
use Rattle.nfs_control.proofs.status.put_activity.Goals as goal

pub returns : goal.returns
returns c =
    let f = c.args.figures.now in
    let mounts = line (codes "mounts ") f.mounts in
    let cached = codes "cached-replies " ++ decimal f.cached in
    let places = line (codes " of=") f.places in
    let received = line (codes "received ") f.traffic.received in
    let sent = line (codes "sent ") f.traffic.sent in
    let pending = line (codes "pending ") f.pending in
    let dropped = line (codes "dropped-lines ") f.dropped in
    let out = c.args.out.now in
    puts_then (mounts ++ cached ++ places ++ received ++ sent ++ pending) dropped out c.put_line-5.new.out c.put_line-6.new.out
    (puts_then (mounts ++ cached ++ places ++ received ++ sent) pending out c.put_line-4.new.out c.put_line-5.new.out
    (puts_then (mounts ++ cached ++ places ++ received) sent out c.put_line-3.new.out c.put_line-4.new.out
    (puts_then (mounts ++ cached ++ places) received out c.put_line-2.new.out c.put_line-3.new.out
    (puts_then (mounts ++ cached) places out c.put_field.new.self c.put_line-2.new.out
    (puts_then mounts cached out c.put_line.new.out c.put_field.new.self c.put_line.ensures c.put_field.ensures)
    c.put_line-2.ensures)
    c.put_line-3.ensures)
    c.put_line-4.ensures)
    c.put_line-5.ensures)
    c.put_line-6.ensures
