-- The names of statuses (RFC 1813, section 2.6, and appendix I, section 5.1.5).
use Rattle.std.specs.Prelude.{ℕ, List, [], ◌∷◌, Option, nat_eq, codes}
use Rattle.std.specs.Map.{lookup}

abbrev pub statuses : List (ℕ × List ℕ)
statuses =
    (0, codes "NFS3_OK") ∷ (1, codes "NFS3ERR_PERM") ∷ (2, codes "NFS3ERR_NOENT") ∷ (5, codes "NFS3ERR_IO") ∷ (6, codes "NFS3ERR_NXIO")
    ∷ (13, codes "NFS3ERR_ACCES") ∷ (17, codes "NFS3ERR_EXIST") ∷ (18, codes "NFS3ERR_XDEV") ∷ (19, codes "NFS3ERR_NODEV")
    ∷ (20, codes "NFS3ERR_NOTDIR") ∷ (21, codes "NFS3ERR_ISDIR") ∷ (22, codes "NFS3ERR_INVAL") ∷ (27, codes "NFS3ERR_FBIG")
    ∷ (28, codes "NFS3ERR_NOSPC") ∷ (30, codes "NFS3ERR_ROFS") ∷ (31, codes "NFS3ERR_MLINK") ∷ (63, codes "NFS3ERR_NAMETOOLONG")
    ∷ (66, codes "NFS3ERR_NOTEMPTY") ∷ (69, codes "NFS3ERR_DQUOT") ∷ (70, codes "NFS3ERR_STALE") ∷ (71, codes "NFS3ERR_REMOTE")
    ∷ (10001, codes "NFS3ERR_BADHANDLE") ∷ (10002, codes "NFS3ERR_NOT_SYNC") ∷ (10003, codes "NFS3ERR_BAD_COOKIE")
    ∷ (10004, codes "NFS3ERR_NOTSUPP") ∷ (10005, codes "NFS3ERR_TOOSMALL") ∷ (10006, codes "NFS3ERR_SERVERFAULT")
    ∷ (10007, codes "NFS3ERR_BADTYPE") ∷ (10008, codes "NFS3ERR_JUKEBOX") ∷ []

abbrev pub mount_statuses : List (ℕ × List ℕ)
mount_statuses =
    (0, codes "MNT3_OK") ∷ (1, codes "MNT3ERR_PERM") ∷ (2, codes "MNT3ERR_NOENT") ∷ (5, codes "MNT3ERR_IO") ∷ (13, codes "MNT3ERR_ACCES")
    ∷ (20, codes "MNT3ERR_NOTDIR") ∷ (22, codes "MNT3ERR_INVAL") ∷ (63, codes "MNT3ERR_NAMETOOLONG") ∷ (10004, codes "MNT3ERR_NOTSUPP")
    ∷ (10006, codes "MNT3ERR_SERVERFAULT") ∷ []

abbrev pub status_named : ℕ → Option (List ℕ)
status_named status = lookup (nat_eq status) statuses

abbrev pub mount_status_named : ℕ → Option (List ℕ)
mount_status_named status = lookup (nat_eq status) mount_statuses
