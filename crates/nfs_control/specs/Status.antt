-- The answer to `status`.
use Rattle.std.specs.Prelude.{ℕ, zero, suc, List, [], ◌++◌, length, slice_get, codes, decimal, Option, Some, None}
use Rattle.nfs_inodes.specs.Tree.{Tree, Volume, bytes_of, files_of, on_some}
use Rattle.nfs_inodes.specs.declared.volumes.Totals.{Totals}
use Rattle.nfs_control.specs.declared.figures.Figures.{Figures}
use Rattle.nfs_server.specs.declared.journal_out.JournalFigures.{JournalFigures}

-- a name and a number
abbrev pub line : List ℕ → ℕ → List ℕ
line name n = name ++ decimal n ++ codes "\n"

-- how long the service runs, who it serves, and what it has answered
abbrev pub service_lines : Figures → List ℕ
service_lines f = line (codes "uptime ") f.standing.seconds ++ line (codes "clients ") f.standing.clients ++ line (codes "connections ") f.standing.joined
    ++ line (codes "calls ") f.calls ++ line (codes "calls-per-second ") f.calls_per_second ++ line (codes "denied ") f.denied

-- what it keeps, and what went through it
abbrev pub activity_lines : Figures → List ℕ
activity_lines f = line (codes "mounts ") f.mounts ++ (codes "cached-replies " ++ decimal f.cached) ++ line (codes " of=") f.places
    ++ line (codes "received ") f.traffic.received ++ line (codes "sent ") f.traffic.sent
    ++ line (codes "pending ") f.pending ++ line (codes "dropped-lines ") f.dropped

-- how much memory it takes, where that is known
abbrev pub resident_line : Option ℕ → List ℕ
resident_line None = []
resident_line (Some bytes) = line (codes "memory ") bytes

-- how much of a journal there is, how often it was synced, and how many microseconds that took
abbrev pub journal_line : Option JournalFigures → List ℕ
journal_line None = []
journal_line (Some j) = (codes "journal " ++ decimal j.bytes) ++ (codes " syncs=" ++ decimal j.syncs) ++ line (codes " sync-micros=") j.sync_micros

-- what a volume has, and how much it may have
abbrev pub volume_line : Volume → Totals → List ℕ
volume_line v t = codes "volume " ++ v.path ++ (codes " bytes=" ++ decimal t.bytes) ++ (codes " of=" ++ decimal v.max_bytes)
    ++ (codes " files=" ++ decimal t.files) ++ (codes " of=" ++ decimal v.max_files) ++ codes "\n"

-- the line of the volume at a place
abbrev pub line_at : Tree → ℕ → List ℕ
line_at t place = on_some (slice_get t.volumes place) [] (λ (v : Volume). volume_line v (record { bytes = bytes_of place t.files; files = files_of place t.files }))

-- those of the first volumes, so many
abbrev pub lines_of_first : Tree → ℕ → List ℕ
lines_of_first t zero = []
lines_of_first t (suc n) = lines_of_first t n ++ line_at t n

-- these first lines, what the service says of itself, and a line for each volume, in the order of the description
abbrev pub status_text : List ℕ → Figures → Tree → List ℕ
status_text first f t = first ++ service_lines f ++ activity_lines f ++ resident_line f.resident ++ journal_line f.journal ++ lines_of_first t (length t.volumes)
