-- The words that people use for what a client may do.
use Rattle.std.specs.Prelude.{ℕ, List, [], ◌∷◌, Option, Some, None, bytes_eq, codes, if◌then◌else◌}
use Rattle.std.specs.Borrow.{Bor}
use Rattle.nfs_ask.specs.declared.operation.Operation.{Operation}
use Rattle.nfs_ask.specs.declared.operation.Operation.TheVariants as op

abbrev pub words : List (List ℕ × Operation)
words =
    (codes "stat", op.Stat) ∷ (codes "chmod", op.SetMode) ∷ (codes "chown", op.SetOwner) ∷ (codes "chgrp", op.SetGroup)
    ∷ (codes "truncate", op.Truncate) ∷ (codes "touch", op.Touch) ∷ (codes "utime", op.SetTimes) ∷ (codes "lookup", op.Lookup)
    ∷ (codes "access", op.Access) ∷ (codes "readlink", op.Readlink) ∷ (codes "read", op.Read) ∷ (codes "write", op.Write)
    ∷ (codes "create", op.Create) ∷ (codes "mkdir", op.Mkdir) ∷ (codes "symlink", op.Symlink) ∷ (codes "mknod", op.Mknod)
    ∷ (codes "remove", op.Remove) ∷ (codes "rm", op.Remove) ∷ (codes "unlink", op.Remove) ∷ (codes "rmdir", op.Rmdir)
    ∷ (codes "rename", op.Rename) ∷ (codes "mv", op.Rename) ∷ (codes "link", op.Link) ∷ (codes "ln", op.Link)
    ∷ (codes "list", op.List) ∷ (codes "ls", op.List) ∷ (codes "readdir", op.List) ∷ (codes "readdirplus", op.ListPlus)
    ∷ (codes "df", op.Room) ∷ (codes "fsinfo", op.Limits) ∷ (codes "pathconf", op.PathLimits) ∷ (codes "commit", op.Commit)
    ∷ (codes "mount", op.Mount) ∷ (codes "umount", op.Unmount) ∷ []

-- the first row of a table that has this word
abbrev pub row_of : List (List ℕ × Operation) → List ℕ → Option Operation
row_of [] word = None
row_of (row ∷ rows) word = if bytes_eq row.0 word then Some row.1 else row_of rows word

-- the operation that a word stands for
abbrev pub operation_of : List ℕ → Option Operation
operation_of word = row_of words word

-- the same in a table of words that are lent
abbrev pub operation_in : List (Bor (List ℕ) × Operation) → List ℕ → Option Operation
operation_in [] word = None
operation_in (row ∷ rows) word = if bytes_eq row.0.now word then Some row.1 else operation_in rows word
