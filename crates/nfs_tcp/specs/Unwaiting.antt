-- What came of the bytes that are still to come.
use Rattle.std.specs.Prelude.{ℕ, ◌<◌, ◌≤◌, List, [], length, take, Option}
use Rattle.nfs_xdr.specs.Known.{Shrinks, IsAtEnd}
use Rattle.nfs_xdr.specs.declared.link.Came.{Came}
use Rattle.nfs_xdr.specs.declared.link.Came.TheVariants.{Bytes, Nothing, End}

-- it has room
abbrev pub CameInto : ℕ → Came → Type 0
CameInto room (Bytes n) = (0 < n) × (n ≤ room)
CameInto room Nothing = Unit {0}
CameInto room End = Unit {0}

-- where the bytes are known, it is the first of them; they may become known by a call
abbrev pub Gave : Option (List ℕ) → List ℕ → Came → Option (List ℕ) → Type 0
Gave before room (Bytes n) after = (0 < n) × (n ≤ length room) × Shrinks before (take n room) after
Gave before room Nothing after = Shrinks before [] after
Gave before room End after = Shrinks before [] after × IsAtEnd after
