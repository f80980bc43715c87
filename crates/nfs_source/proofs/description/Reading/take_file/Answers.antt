use Rattle.std.proofs.Common.{◌∷◌, [], ◌++◌, subst}
use Rattle.nfs_source.specs.OpenLines.{encode_in, text_of}
use Rattle.nfs_source.specs.Readings.{AreLoaded, AreRead}
use Rattle.nfs_source.proofs.Readings.{read_more}
use Rattle.nfs_source.proofs.description.Reading.take_file.Goals as goal

pub returns : goal.returns
returns g c = λ done read.
    let it = c.args.self.now in
    let has = g.D.LineDigest.has in
    let digits = encode_in c.args.line.case c.args.line.content in
    let loaded : AreLoaded has it.loading it.digest done = subst (λ fault. AreRead has fault it.loading it.digest done) c.requires.in_order read in
    read_more has c.in_ok-self.field-0 it.loading c.load_file.new.loading it.digest c.take_file.new.self done (text_of c.args.line) loaded
    (subst (λ words. has c.take_file.new.self (done ++ (words ++ 32 ∷ digits) ∷ [])) c.as_slice.ensures.value (c.take_file.ensures done digits loaded.digested)) c.in_ok-self.ensures
