-- What a caller may do with a file (RFC 1813, section 4.4).
use Rattle.std.specs.Prelude.{ℕ, ◌+◌, ◌/◌, ◌%◌, Bool, not, ◌&&◌, ◌||◌, nat_eq, if◌then◌else◌}
use Rattle.std.specs.List.{list_any}
use Rattle.nfs_attrs.specs.declared.fattr.Fattr.{Fattr}
use Rattle.nfs_rules.specs.declared.rights.Class.{Class}
use Rattle.nfs_rules.specs.declared.rights.Class.TheVariants.{Owner, Group, Others}
use Rattle.nfs_rules.specs.declared.rights.Right.{Right}
use Rattle.nfs_rules.specs.declared.rights.Right.TheVariants.{Read, Write, Execute}
use Rattle.nfs_exports.specs.Ids.{Ids}
use Rattle.nfs_inodes.specs.Reading.{is_directory_type, is_regular_type}

-- the owner, else a member of the group, else one of the others
abbrev pub class : Ids → Fattr → Class
class ids f = if nat_eq ids.uid f.uid then Owner else (if nat_eq ids.gid f.gid || list_any (nat_eq f.gid) ids.gids then Group else Others)

-- three bits of the mode for each class
abbrev pub bits_of : Class → ℕ → ℕ
bits_of Owner mode = mode / 64 % 8
bits_of Group mode = mode / 8 % 8
bits_of Others mode = mode % 8

-- read, write and execute, the first of them the highest
abbrev pub has_bit : ℕ → Right → Bool
has_bit bits Read = nat_eq (bits / 4 % 2) 1
has_bit bits Write = nat_eq (bits / 2 % 2) 1
has_bit bits Execute = nat_eq (bits % 2) 1

-- uid 0 may all, another what the bits of its one class say
abbrev pub may : Ids → Fattr → Right → Bool
may ids f right = nat_eq ids.uid 0 || has_bit (bits_of (class ids f) f.mode) right

-- uid 0 and the owner
abbrev pub owns : Ids → Fattr → Bool
owns ids f = nat_eq ids.uid 0 || nat_eq ids.uid f.uid

-- ---- restricted deletion (POSIX.1-2017, Base Definitions, section 4.3)

-- bit 0x200 of a mode, S_ISVTX
abbrev pub restricts_deletion : ℕ → Bool
restricts_deletion mode = nat_eq (mode / 512 % 2) 1

-- a directory with it lets the entry of a file go to uid 0, to its own owner and to that of the file alone
abbrev pub lets_go : Ids → Fattr → Fattr → Bool
lets_go ids dir f = not (restricts_deletion dir.mode) || owns ids dir || owns ids f

-- ---- ACCESS (RFC 1813, section 3.3.4)

-- a bit of what is asked for, where it is granted
abbrev pub granted_bit : ℕ → ℕ → Bool → ℕ
granted_bit asked bit granted = if nat_eq (asked / bit % 2) 1 && granted then bit else 0

-- READ by r, LOOKUP by x of a directory, MODIFY and EXTEND by w, DELETE by w and x of a directory, EXECUTE by
-- x of a regular file; those that change something only where the volume is exported for writing
abbrev pub access_bits : Bool → Ids → Fattr → ℕ → ℕ
access_bits read_only ids f asked =
    granted_bit asked 1 (may ids f Read)
    + granted_bit asked 2 (is_directory_type f.file_type && may ids f Execute)
    + granted_bit asked 4 (not read_only && may ids f Write)
    + granted_bit asked 8 (not read_only && may ids f Write)
    + granted_bit asked 16 (is_directory_type f.file_type && not read_only && may ids f Write && may ids f Execute)
    + granted_bit asked 32 (is_regular_type f.file_type && may ids f Execute)
