use Rattle.std.proofs.Common.{◌++◌, codes}
use Rattle.nfs_words.proofs.Texts.{puts_then}
use Rattle.nfs_control.specs.Status.{line}
use Rattle.nfs_control.proofs.status.put_service.Goals as goal

pub returns : goal.returns
returns c =
    let f = c.args.figures.now in
    let uptime = line (codes "uptime ") f.standing.seconds in
    let clients = line (codes "clients ") f.standing.clients in
    let connections = line (codes "connections ") f.standing.joined in
    let calls = line (codes "calls ") f.calls in
    let rate = line (codes "calls-per-second ") f.calls_per_second in
    let denied = line (codes "denied ") f.denied in
    let out = c.args.out.now in
    puts_then (uptime ++ clients ++ connections ++ calls ++ rate) denied out c.put_line-5.new.out c.put_line-6.new.out
    (puts_then (uptime ++ clients ++ connections ++ calls) rate out c.put_line-4.new.out c.put_line-5.new.out
    (puts_then (uptime ++ clients ++ connections) calls out c.put_line-3.new.out c.put_line-4.new.out
    (puts_then (uptime ++ clients) connections out c.put_line-2.new.out c.put_line-3.new.out
    (puts_then uptime clients out c.put_line.new.out c.put_line-2.new.out c.put_line.ensures c.put_line-2.ensures)
    c.put_line-3.ensures)
    c.put_line-4.ensures)
    c.put_line-5.ensures)
    c.put_line-6.ensures
