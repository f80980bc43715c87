-- What a tree holds in all, in one line.
use Rattle.std.specs.Prelude.{ℕ, zero, suc, ◌+◌, ◌-◌, ◌^◌, List, ◌++◌, length, min, codes, decimal}
use Rattle.nfs_inodes.specs.Tree.{Tree, bytes_of, files_of}
use Rattle.nfs_inodes.specs.declared.volumes.Totals.{Totals}

-- a number of 64 bits, the largest for those above
abbrev pub at_most : ℕ → ℕ
at_most n = min n (2 ^ 64 - 1)

-- what the first volumes have together, so many
abbrev pub bytes_of_first : Tree → ℕ → ℕ
bytes_of_first t zero = 0
bytes_of_first t (suc n) = bytes_of_first t n + bytes_of n t.files

abbrev pub files_of_first : Tree → ℕ → ℕ
files_of_first t zero = 0
files_of_first t (suc n) = files_of_first t n + files_of n t.files

abbrev pub totals_of_first : Tree → ℕ → Totals
totals_of_first t n = record { bytes = at_most (bytes_of_first t n); files = at_most (files_of_first t n) }

-- all volumes together
abbrev pub totals_of : Tree → Totals
totals_of t = totals_of_first t (length t.volumes)

-- how many volumes there are, and what they have together
abbrev pub totals_line : Tree → List ℕ
totals_line t = codes "ok" ++ (codes " volumes=" ++ decimal (length t.volumes)) ++ (codes " files=" ++ decimal (totals_of t).files)
    ++ (codes " bytes=" ++ decimal (totals_of t).bytes) ++ codes "\n"
