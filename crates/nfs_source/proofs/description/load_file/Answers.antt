use Rattle.std.proofs.Common.{◌∷◌, ◌++◌, Ok, Err, subst}
use Rattle.nfs_load.specs.Loadings.{LineTaken}
use Rattle.nfs_source.specs.OpenLines.{encode_in}
use Rattle.nfs_source.proofs.OpenLines.{encodes}
use Rattle.nfs_source.proofs.description.load_file.Goals as goal

pub returns-in-Ok : goal.returns-in-Ok
returns-in-Ok c =
    let it = c.args.line in
    let digits = encode_in it.case it.content in
    subst (λ words. LineTaken c.args.loading.now (words ++ 32 ∷ digits) (Ok tt) c.take_file.new.self) c.as_slice-words.ensures.value
    (c.in-Ok.ensures digits (encodes it.content it.case c.requires.bytes c.requires.some))

pub returns : goal.returns
returns c =
    let it = c.args.line in
    let digits = encode_in it.case it.content in
    subst (λ words. LineTaken c.args.loading.now (words ++ 32 ∷ digits) (Err c.in-Err.error) c.take_file.new.self) c.as_slice-words.ensures.value
    (c.in-Err.ensures digits (encodes it.content it.case c.requires.bytes c.requires.some))
