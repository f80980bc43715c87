use Rattle.std.proofs.Common.{refl}
use Rattle.nfs_source.proofs.Readings.{keeps_part, on_any}
use Rattle.nfs_source.proofs.description.Reader.put_open.Goals as goal

pub returns : goal.returns
returns g c =
    let old = c.args.self.now in
    on_any c.check_length.result _
    (keeps_part g.D.LineDigest.has old (record { alloc = old.alloc; reading = old.reading; line = c.push.new.self }) c.args.part.now c.requires.in_order c.requires.part refl c.in_ok-push.ensures)
