-- What was found on disk, and how much of it.
use Rattle.std.specs.Prelude.{ℕ, ◌+◌, ◌*◌, ◌-◌, ◌^◌, ◌==◌, ◌||◌, not, Bool, true, false, List, [], ◌∷◌, length, min, nat_lt, if◌then◌else◌}
use Rattle.std.specs.List.{list_any}
use Rattle.nfs_disk.specs.declared.found.Found.{Found}
use Rattle.nfs_disk.specs.declared.found.Kind.{Kind}
use Rattle.nfs_disk.specs.declared.found.Kind.TheVariants.{Directory, Regular, Link}
use Rattle.nfs_disk.specs.declared.survey.Extent.{Extent}
use Rattle.nfs_disk.specs.declared.warning.SkipReason.{SkipReason}
use Rattle.nfs_disk.specs.declared.warning.SkipReason.TheVariants.{OtherKind, Grown, Unreadable, Full, NotText}

abbrev pub is_of : Kind → Kind → Bool
is_of Directory Directory = true
is_of Regular Regular = true
is_of Link Link = true
is_of kind other = false

abbrev pub is_because : SkipReason → SkipReason → Bool
is_because OtherKind OtherKind = true
is_because Grown Grown = true
is_because Unreadable Unreadable = true
is_because Full Full = true
is_because NotText NotText = true
is_because reason other = false

-- with another owner and group
abbrev pub owned_by : ℕ → ℕ → Found → Found
owned_by uid gid one = record one { given = record { mode = one.given.mode; uid = uid; gid = gid } }

-- the bytes of a file of a kind, and none of another one
abbrev pub size_of : Kind → Found → ℕ
size_of kind one = if is_of kind one.kind then one.size else 0

-- the bytes of all regular files
abbrev pub regular_bytes : List Found → ℕ
regular_bytes [] = 0
regular_bytes (one ∷ others) = size_of Regular one + regular_bytes others

-- the device and the number there, as one number that no other file has
abbrev pub number_of : Found → ℕ
number_of one = one.identity.0 * 2 ^ 64 + one.identity.1

-- a directory, or a file with no second name
abbrev pub is_alone : Found → Bool
is_alone one = is_of Directory one.kind || nat_lt one.names 2

-- the number is among these
abbrev pub is_among : ℕ → List ℕ → Bool
is_among number numbers = list_any (λ n. n == number) numbers

-- it is no further name of a file with one of these numbers
abbrev pub is_first : List ℕ → Found → Bool
is_first before one = is_alone one || not (is_among (number_of one) before)

-- these numbers, and that of a file that may have another name
abbrev pub seen_with : List ℕ → Found → List ℕ
seen_with before one = if is_alone one then before else number_of one ∷ before

-- each file once, by the first of its names; those with these numbers had one before
abbrev pub once : List ℕ → List Found → List Found
once before [] = []
once before (one ∷ others) = if is_first before one then one ∷ once (seen_with before one) others else once (seen_with before one) others

-- How many files there are, and how many bytes they have, up to 2 ^ 64 - 1 each. A file with several names is counted once.
abbrev pub extent_of : List Found → Extent
extent_of found = record { bytes = min (regular_bytes (once [] found)) (2 ^ 64 - 1); files = min (length (once [] found)) (2 ^ 64 - 1) }
