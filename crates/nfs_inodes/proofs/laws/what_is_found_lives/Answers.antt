use Rattle.nfs_inodes.proofs.Lookups.{found_lives}
use Rattle.nfs_inodes.proofs.laws.what_is_found_lives.Goals as goal

pub returns : goal.returns
returns c = λ t d n name law e. found_lives t law d n name e
