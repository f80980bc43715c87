use Rattle.std.proofs.Common.{◌≡◌, ℕ, ◌++◌, List, [], Option, length}
use Rattle.nfs_text.specs.Lines.{lines, lines_left}
use Rattle.nfs_replay.specs.Scripts.{AreRun}
use Rattle.nfs_replay.specs.Sending.{Sent}
use Rattle.nfs_replay.proofs.Scripts.{Accounts}
use Rattle.nfs_replay.proofs.replay.Player.play.Given as goal

abbrev pub invariant-loop-line : goal.invariant-loop-line
invariant-loop-line g l =
    (past : List (List ℕ))
    × (sents : List (Option Sent))
    × AreRun [] past sents
    × (lines l.script ≡ past ++ lines_left l.lines)
    × (l.before ≡ length past)
    × Accounts l.sent sents (lines_left l.lines)

abbrev pub decreases-loop-line : goal.decreases-loop-line
decreases-loop-line g l = length (lines_left l.lines)
