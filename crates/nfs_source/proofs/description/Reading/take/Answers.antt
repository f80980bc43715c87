use Rattle.std.proofs.Common.{subst}
use Rattle.nfs_source.specs.Readings.{AreLoaded, AreRead}
use Rattle.nfs_source.proofs.Readings.{read_more}
use Rattle.nfs_source.proofs.description.Reading.take.Goals as goal

pub returns : goal.returns
returns g c = λ done read.
    let it = c.args.self.now in
    let has = g.D.LineDigest.has in
    let loaded : AreLoaded has it.loading it.digest done = subst (λ fault. AreRead has fault it.loading it.digest done) c.requires read in
    read_more has c.in_ok-self.field-0 it.loading c.load_line.new.loading it.digest c.take.new.self done c.args.line.now
    loaded (c.take.ensures done loaded.digested) c.in_ok-self.ensures
