-- The procedures: their numbers and names, and what else there is to say of each.
use Rattle.std.specs.Prelude.{ℕ, Bool, true, false, List, [], ◌∷◌, codes}
use Rattle.nfs_args.specs.declared.procedure.Procedure.{Procedure}
use Rattle.nfs_args.specs.declared.procedure.Procedure.TheVariants as proc
use Rattle.nfs_args.specs.declared.procedure.MountProcedure.{MountProcedure}
use Rattle.nfs_args.specs.declared.procedure.MountProcedure.TheVariants as mount

-- of NFS (RFC 1813, section 3.3)
abbrev pub procedure_number : Procedure → ℕ
procedure_number proc.Null = 0
procedure_number proc.Getattr = 1
procedure_number proc.Setattr = 2
procedure_number proc.Lookup = 3
procedure_number proc.Access = 4
procedure_number proc.Readlink = 5
procedure_number proc.Read = 6
procedure_number proc.Write = 7
procedure_number proc.Create = 8
procedure_number proc.Mkdir = 9
procedure_number proc.Symlink = 10
procedure_number proc.Mknod = 11
procedure_number proc.Remove = 12
procedure_number proc.Rmdir = 13
procedure_number proc.Rename = 14
procedure_number proc.Link = 15
procedure_number proc.Readdir = 16
procedure_number proc.Readdirplus = 17
procedure_number proc.Fsstat = 18
procedure_number proc.Fsinfo = 19
procedure_number proc.Pathconf = 20
procedure_number proc.Commit = 21

abbrev pub procedures : List Procedure
procedures =
    proc.Null ∷ proc.Getattr ∷ proc.Setattr ∷ proc.Lookup ∷ proc.Access ∷ proc.Readlink ∷ proc.Read ∷ proc.Write ∷ proc.Create
    ∷ proc.Mkdir ∷ proc.Symlink ∷ proc.Mknod
    ∷ proc.Remove ∷ proc.Rmdir ∷ proc.Rename ∷ proc.Link ∷ proc.Readdir ∷ proc.Readdirplus ∷ proc.Fsstat ∷ proc.Fsinfo ∷ proc.Pathconf ∷ proc.Commit ∷ []

abbrev pub procedure_name : Procedure → List ℕ
procedure_name proc.Null = codes "NULL"
procedure_name proc.Getattr = codes "GETATTR"
procedure_name proc.Setattr = codes "SETATTR"
procedure_name proc.Lookup = codes "LOOKUP"
procedure_name proc.Access = codes "ACCESS"
procedure_name proc.Readlink = codes "READLINK"
procedure_name proc.Read = codes "READ"
procedure_name proc.Write = codes "WRITE"
procedure_name proc.Create = codes "CREATE"
procedure_name proc.Mkdir = codes "MKDIR"
procedure_name proc.Symlink = codes "SYMLINK"
procedure_name proc.Mknod = codes "MKNOD"
procedure_name proc.Remove = codes "REMOVE"
procedure_name proc.Rmdir = codes "RMDIR"
procedure_name proc.Rename = codes "RENAME"
procedure_name proc.Link = codes "LINK"
procedure_name proc.Readdir = codes "READDIR"
procedure_name proc.Readdirplus = codes "READDIRPLUS"
procedure_name proc.Fsstat = codes "FSSTAT"
procedure_name proc.Fsinfo = codes "FSINFO"
procedure_name proc.Pathconf = codes "PATHCONF"
procedure_name proc.Commit = codes "COMMIT"

-- which of them may change the tree
abbrev pub may_change : Procedure → Bool
may_change proc.Setattr = true
may_change proc.Write = true
may_change proc.Create = true
may_change proc.Mkdir = true
may_change proc.Symlink = true
may_change proc.Remove = true
may_change proc.Rmdir = true
may_change proc.Rename = true
may_change proc.Link = true
may_change other = false

-- how many handles its arguments have
abbrev pub handles_of : Procedure → ℕ
handles_of proc.Null = 0
handles_of proc.Rename = 2
handles_of proc.Link = 2
handles_of other = 1

-- of MOUNT (appendix I, section 5.2)
abbrev pub mount_number : MountProcedure → ℕ
mount_number mount.Null = 0
mount_number mount.Mount = 1
mount_number mount.Dump = 2
mount_number mount.Unmount = 3
mount_number mount.UnmountAll = 4
mount_number mount.Export = 5

abbrev pub mount_procedures : List MountProcedure
mount_procedures = mount.Null ∷ mount.Mount ∷ mount.Dump ∷ mount.Unmount ∷ mount.UnmountAll ∷ mount.Export ∷ []

abbrev pub mount_procedure_name : MountProcedure → List ℕ
mount_procedure_name mount.Null = codes "NULL"
mount_procedure_name mount.Mount = codes "MNT"
mount_procedure_name mount.Dump = codes "DUMP"
mount_procedure_name mount.Unmount = codes "UMNT"
mount_procedure_name mount.UnmountAll = codes "UMNTALL"
mount_procedure_name mount.Export = codes "EXPORT"
