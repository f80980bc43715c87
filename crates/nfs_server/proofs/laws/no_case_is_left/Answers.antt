use Rattle.nfs_server.proofs.Cases.{calls_can_be_read, found_has_handle}
use Rattle.nfs_server.proofs.laws.no_case_is_left.Goals as goal

pub returns : goal.returns
returns c = record { requests = calls_can_be_read; handles = found_has_handle }
