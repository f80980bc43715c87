use Rattle.std.proofs.Common.{◌≡◌, length, option_map}
use Rattle.nfs_text.specs.Chunks.{chunks_left}
use Rattle.nfs_ask.specs.Words.{gids_of, gids_after}
use Rattle.nfs_ask.proofs.user.groups_of.Given as goal

abbrev pub invariant-loop-word : goal.invariant-loop-word
invariant-loop-word l = gids_of (option_map (λ text. text.now) l.fn.others) ≡ gids_after l.gids.items (chunks_left l.words)

abbrev pub decreases-loop-word : goal.decreases-loop-word
decreases-loop-word l = length (chunks_left l.words)
