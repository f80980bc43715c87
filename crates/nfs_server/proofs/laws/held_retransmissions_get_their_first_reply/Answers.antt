use Rattle.nfs_server.proofs.SurelyHeld.{none_but_the_first, surely_held}
use Rattle.nfs_server.proofs.laws.held_retransmissions_get_their_first_reply.Goals as goal

pub returns : goal.returns
returns c = record { surely = surely_held; first = none_but_the_first }
