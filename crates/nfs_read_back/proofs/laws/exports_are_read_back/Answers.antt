use Rattle.nfs_read_back.proofs.Exports.{exports}
use Rattle.nfs_read_back.proofs.laws.exports_are_read_back.Goals as goal

pub returns : goal.returns
returns c = exports
