-- What a network's answers report.
use Rattle.std.specs.Prelude.{◌≡◌, ℕ, List, Option, Some, None}
use Rattle.std.specs.Net.Socket.{socket_ip}
use Rattle.nfs_loop.specs.Reports.{Report, ready, listener_ready, nothing_ready, came, IsReported}
use Rattle.nfs_loop.specs.declared.network.Accepted.{Accepted}
use Rattle.nfs_loop.specs.declared.network.Accepted.TheVariants as accepted
use Rattle.nfs_loop.specs.declared.network.Ready.{Ready}
use Rattle.nfs_loop.specs.declared.network.Ready.TheVariants as answer

abbrev pub ReportsReady : Option (List Report) → Option Ready → Option (List Report) → Type 0
ReportsReady old None new = IsReported old nothing_ready new
ReportsReady old (Some answer.Listener) new = IsReported old listener_ready new
ReportsReady old (Some (answer.Client key is_closing)) new = IsReported old (ready key) new

abbrev pub ReportsAccepted : {S : Type 0} → Option (List Report) → ℕ → Accepted S → Option (List Report) → Type 0
ReportsAccepted old key (accepted.Connection stream peer) new = IsReported old (came key (socket_ip peer)) new
ReportsAccepted old key accepted.None new = new ≡ old
ReportsAccepted old key accepted.Gone new = new ≡ old
ReportsAccepted old key (accepted.Refused error) new = new ≡ old
ReportsAccepted old key (accepted.Closed peer error) new = new ≡ old
