-- The numbers of the programs, and their version (RFC 1813, section 2.1, and appendix I).
use Rattle.std.specs.Prelude.{ℕ}

abbrev pub NFS : ℕ
NFS = 100003

abbrev pub MOUNT : ℕ
MOUNT = 100005

-- of both
abbrev pub version : ℕ
version = 3
