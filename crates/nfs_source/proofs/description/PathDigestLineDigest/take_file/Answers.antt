use Rattle.nfs_source.proofs.Rows.{taken_file}
use Rattle.nfs_source.proofs.description.PathDigestLineDigest.take_file.Goals as goal

pub returns : goal.returns
returns c = λ done digits has. taken_file c.take.new.self done c.args.words.now digits c.requires (c.take.ensures done has)
