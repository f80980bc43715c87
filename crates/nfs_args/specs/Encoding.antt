-- Which bytes encode which arguments (RFC 1813, section 3.3, and appendix I, section 5.2).
use Rattle.std.specs.Prelude.{◌≡◌, ℕ, ◌^◌, ◌<◌, List, [], length}
use Rattle.std.specs.Int.{w32, w64}
use Rattle.nfs_xdr.specs.Encoding.{IsNumber, IsEnum, IsFixed, IsOpaque, IsOptional, ◌⨾◌}
use Rattle.nfs_attrs.specs.declared.file_type.FileType.{FileType}
use Rattle.nfs_attrs.specs.declared.file_type.FileType.TheVariants.{Regular, Directory, BlockDevice, CharacterDevice, SymbolicLink, Socket, Fifo}
use Rattle.nfs_attrs.specs.Encoding.{IsMoment, type_number, IsSpecData, IsSattr}
use Rattle.nfs_args.specs.declared.procedure.Procedure.{Procedure}
use Rattle.nfs_args.specs.declared.procedure.Procedure.TheVariants as proc
use Rattle.nfs_args.specs.declared.procedure.MountProcedure.{MountProcedure}
use Rattle.nfs_args.specs.declared.procedure.MountProcedure.TheVariants as mount
use Rattle.nfs_args.specs.declared.args.NfsArgs.{NfsArgs}
use Rattle.nfs_args.specs.declared.args.NfsArgs.TheVariants as asked
use Rattle.nfs_args.specs.declared.mount_args.MountArgs.{MountArgs}
use Rattle.nfs_args.specs.declared.mount_args.MountArgs.TheVariants as mount_asked
use Rattle.nfs_args.specs.declared.access.Access.{Access}
use Rattle.nfs_args.specs.declared.byte_range.ByteRange.{ByteRange}
use Rattle.nfs_args.specs.declared.create.Create.{Create}
use Rattle.nfs_args.specs.declared.create.CreateHow.{CreateHow}
use Rattle.nfs_args.specs.declared.create.CreateHow.TheVariants as how
use Rattle.nfs_args.specs.declared.dir_op.DirOp.{DirOp}
use Rattle.nfs_args.specs.declared.link.Link.{Link}
use Rattle.nfs_args.specs.declared.mkdir.Mkdir.{Mkdir}
use Rattle.nfs_args.specs.declared.mknod.DeviceData.{DeviceData}
use Rattle.nfs_args.specs.declared.mknod.Mknod.{Mknod}
use Rattle.nfs_args.specs.declared.mknod.NodeData.{NodeData}
use Rattle.nfs_args.specs.declared.mknod.NodeData.TheVariants as node
use Rattle.nfs_args.specs.declared.readdir.Readdir.{Readdir}
use Rattle.nfs_args.specs.declared.readdir.Readdirplus.{Readdirplus}
use Rattle.nfs_args.specs.declared.rename.Rename.{Rename}
use Rattle.nfs_args.specs.declared.setattr.Setattr.{Setattr}
use Rattle.nfs_args.specs.declared.symlink.Symlink.{Symlink}
use Rattle.nfs_args.specs.declared.write.Stability.{Stability}
use Rattle.nfs_args.specs.declared.write.Stability.TheVariants.{Unstable, DataSync, FileSync}
use Rattle.nfs_args.specs.declared.write.Write.{Write}

-- ---- unions (RFC 4506, section 4.15)

-- an arm that holds a value, of which the union's value is made
abbrev pub Arm : {A B : Type 0} → (A → B) → (A → List ℕ → Type 0) → B → List ℕ → Type 0
Arm {A} made Encodes value text = (held : A) × (made held ≡ value) × Encodes held text

-- an arm that holds nothing
pub record IsBare {A : Type 0} (made value : A) (text : List ℕ) : Type 0 where
  pub value_is : made ≡ value
  pub text_is : text ≡ []

-- the number of a kind, and then the arm of this kind
pub record IsUnion {K A : Type 0} (number : K → ℕ) (arm : K → A → List ℕ → Type 0) (value : A) (text : List ℕ) : Type 0 where
  pub kind : K
  pub encoded : (IsEnum number kind ⨾ arm kind value) text

-- ---- what several procedures are asked for

-- nfs_fh3
abbrev pub IsHandle : List ℕ → List ℕ → Type 0
IsHandle = IsOpaque 64

-- filename3, nfspath3, and data: without a bound of its own
abbrev pub IsString : List ℕ → List ℕ → Type 0
IsString = IsOpaque 4294967295

-- createverf3 and cookieverf3
abbrev pub IsVerifier : List ℕ → List ℕ → Type 0
IsVerifier = IsFixed 8

-- diropargs3
abbrev pub IsDirOp : DirOp → List ℕ → Type 0
IsDirOp a = IsHandle a.dir ⨾ IsString a.name

-- READ3args and COMMIT3args
abbrev pub IsByteRange : ByteRange → List ℕ → Type 0
IsByteRange a = IsHandle a.file ⨾ IsNumber w64 a.offset ⨾ IsNumber w32 a.count

-- ---- what one is asked for

-- SETATTR3args, where a boolean says whether the guard is there
abbrev pub IsSetattr : Setattr → List ℕ → Type 0
IsSetattr a = IsHandle a.file ⨾ IsSattr a.attributes ⨾ IsOptional IsMoment a.guard

-- stable_how
abbrev pub stability_number : Stability → ℕ
stability_number Unstable = 0
stability_number DataSync = 1
stability_number FileSync = 2

-- WRITE3args, whose count is the number of the bytes
abbrev pub IsWrite : Write → List ℕ → Type 0
IsWrite a = IsHandle a.file ⨾ IsNumber w64 a.offset ⨾ IsNumber w32 (length a.content) ⨾ IsEnum stability_number a.stable ⨾ IsString a.content

-- bytes to be written, if any are asked to be, of which a word can say how many they are
abbrev pub HasCountedBytes : NfsArgs → Type 0
HasCountedBytes (asked.Write a) = length a.content < 2 ^ 32
HasCountedBytes other = Unit {0}

-- createmode3
pub data CreateMode : Type 0 where
  Unchecked : CreateMode
  Guarded : CreateMode
  Exclusive : CreateMode

abbrev pub mode_number : CreateMode → ℕ
mode_number Unchecked = 0
mode_number Guarded = 1
mode_number Exclusive = 2

-- createhow3
abbrev pub IsCreateArm : CreateMode → CreateHow → List ℕ → Type 0
IsCreateArm Unchecked = Arm how.Unchecked IsSattr
IsCreateArm Guarded = Arm how.Guarded IsSattr
IsCreateArm Exclusive = Arm how.Exclusive IsVerifier

abbrev pub IsCreateHow : CreateHow → List ℕ → Type 0
IsCreateHow = IsUnion mode_number IsCreateArm

-- CREATE3args
abbrev pub IsCreate : Create → List ℕ → Type 0
IsCreate a = IsDirOp a.place ⨾ IsCreateHow a.how

-- ACCESS3args
abbrev pub IsAccess : Access → List ℕ → Type 0
IsAccess a = IsHandle a.file ⨾ IsNumber w32 a.rights

-- MKDIR3args
abbrev pub IsMkdir : Mkdir → List ℕ → Type 0
IsMkdir a = IsDirOp a.place ⨾ IsSattr a.attributes

-- SYMLINK3args
abbrev pub IsSymlink : Symlink → List ℕ → Type 0
IsSymlink a = IsDirOp a.place ⨾ IsSattr a.attributes ⨾ IsString a.path

-- devicedata3
abbrev pub IsDeviceData : DeviceData → List ℕ → Type 0
IsDeviceData a = IsSattr a.attributes ⨾ IsSpecData a.device

-- mknoddata3
abbrev pub IsNodeArm : FileType → NodeData → List ℕ → Type 0
IsNodeArm Regular = IsBare node.Regular
IsNodeArm Directory = IsBare node.Directory
IsNodeArm BlockDevice = Arm node.BlockDevice IsDeviceData
IsNodeArm CharacterDevice = Arm node.CharacterDevice IsDeviceData
IsNodeArm SymbolicLink = IsBare node.SymbolicLink
IsNodeArm Socket = Arm node.Socket IsSattr
IsNodeArm Fifo = Arm node.Fifo IsSattr

abbrev pub IsNodeData : NodeData → List ℕ → Type 0
IsNodeData = IsUnion type_number IsNodeArm

-- MKNOD3args
abbrev pub IsMknod : Mknod → List ℕ → Type 0
IsMknod a = IsDirOp a.place ⨾ IsNodeData a.node

-- RENAME3args
abbrev pub IsRename : Rename → List ℕ → Type 0
IsRename a = IsDirOp a.from ⨾ IsDirOp a.to

-- LINK3args
abbrev pub IsLink : Link → List ℕ → Type 0
IsLink a = IsHandle a.file ⨾ IsDirOp a.place

-- READDIR3args
abbrev pub IsReaddir : Readdir → List ℕ → Type 0
IsReaddir a = IsHandle a.dir ⨾ IsNumber w64 a.cookie ⨾ IsVerifier a.verifier ⨾ IsNumber w32 a.count

-- READDIRPLUS3args
abbrev pub IsReaddirplus : Readdirplus → List ℕ → Type 0
IsReaddirplus a = IsHandle a.dir ⨾ IsNumber w64 a.cookie ⨾ IsVerifier a.verifier ⨾ IsNumber w32 a.dircount ⨾ IsNumber w32 a.maxcount

-- ---- by the procedure

-- whose arguments these are
abbrev pub procedure_of : NfsArgs → Procedure
procedure_of asked.Null = proc.Null
procedure_of (asked.Getattr a) = proc.Getattr
procedure_of (asked.Setattr a) = proc.Setattr
procedure_of (asked.Lookup a) = proc.Lookup
procedure_of (asked.Access a) = proc.Access
procedure_of (asked.Readlink a) = proc.Readlink
procedure_of (asked.Read a) = proc.Read
procedure_of (asked.Write a) = proc.Write
procedure_of (asked.Create a) = proc.Create
procedure_of (asked.Mkdir a) = proc.Mkdir
procedure_of (asked.Symlink a) = proc.Symlink
procedure_of (asked.Mknod a) = proc.Mknod
procedure_of (asked.Remove a) = proc.Remove
procedure_of (asked.Rmdir a) = proc.Rmdir
procedure_of (asked.Rename a) = proc.Rename
procedure_of (asked.Link a) = proc.Link
procedure_of (asked.Readdir a) = proc.Readdir
procedure_of (asked.Readdirplus a) = proc.Readdirplus
procedure_of (asked.Fsstat a) = proc.Fsstat
procedure_of (asked.Fsinfo a) = proc.Fsinfo
procedure_of (asked.Pathconf a) = proc.Pathconf
procedure_of (asked.Commit a) = proc.Commit

abbrev pub IsArgsOf : Procedure → NfsArgs → List ℕ → Type 0
IsArgsOf proc.Null = IsBare asked.Null
IsArgsOf proc.Getattr = Arm asked.Getattr IsHandle
IsArgsOf proc.Setattr = Arm asked.Setattr IsSetattr
IsArgsOf proc.Lookup = Arm asked.Lookup IsDirOp
IsArgsOf proc.Access = Arm asked.Access IsAccess
IsArgsOf proc.Readlink = Arm asked.Readlink IsHandle
IsArgsOf proc.Read = Arm asked.Read IsByteRange
IsArgsOf proc.Write = Arm asked.Write IsWrite
IsArgsOf proc.Create = Arm asked.Create IsCreate
IsArgsOf proc.Mkdir = Arm asked.Mkdir IsMkdir
IsArgsOf proc.Symlink = Arm asked.Symlink IsSymlink
IsArgsOf proc.Mknod = Arm asked.Mknod IsMknod
IsArgsOf proc.Remove = Arm asked.Remove IsDirOp
IsArgsOf proc.Rmdir = Arm asked.Rmdir IsDirOp
IsArgsOf proc.Rename = Arm asked.Rename IsRename
IsArgsOf proc.Link = Arm asked.Link IsLink
IsArgsOf proc.Readdir = Arm asked.Readdir IsReaddir
IsArgsOf proc.Readdirplus = Arm asked.Readdirplus IsReaddirplus
IsArgsOf proc.Fsstat = Arm asked.Fsstat IsHandle
IsArgsOf proc.Fsinfo = Arm asked.Fsinfo IsHandle
IsArgsOf proc.Pathconf = Arm asked.Pathconf IsHandle
IsArgsOf proc.Commit = Arm asked.Commit IsByteRange

abbrev pub IsMountArgsOf : MountProcedure → MountArgs → List ℕ → Type 0
IsMountArgsOf mount.Null = IsBare mount_asked.Null
IsMountArgsOf mount.Mount = Arm mount_asked.Mount IsString
IsMountArgsOf mount.Dump = IsBare mount_asked.Dump
IsMountArgsOf mount.Unmount = Arm mount_asked.Unmount IsString
IsMountArgsOf mount.UnmountAll = IsBare mount_asked.UnmountAll
IsMountArgsOf mount.Export = IsBare mount_asked.Export
