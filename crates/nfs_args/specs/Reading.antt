-- Arguments from left to right: the value and the bytes after it, or the first fault that is met.
use Rattle.std.specs.Prelude.{◌≡◌, ℕ, List, [], ◌∷◌, length, Option, Result, Ok, Err, if◌then◌else◌, nat_eq}
use Rattle.std.specs.Int.{w32, w64}
use Rattle.nfs_xdr.specs.declared.fault.XdrFault.{XdrFault}
use Rattle.nfs_xdr.specs.declared.fault.XdrFault.TheVariants.{TooLong}
use Rattle.nfs_xdr.specs.Reading.{Read, ◌>>=◌, number_at, enum_at, optional_at, fixed_at, opaque_at}
use Rattle.nfs_attrs.specs.declared.moment.Moment.{Moment}
use Rattle.nfs_attrs.specs.declared.file_type.FileType.{FileType}
use Rattle.nfs_attrs.specs.declared.file_type.FileType.TheVariants.{Regular, Directory, BlockDevice, CharacterDevice, SymbolicLink, Socket, Fifo}
use Rattle.nfs_attrs.specs.Encoding.{type_number}
use Rattle.nfs_attrs.specs.Reading.{moment_at, file_types, spec_data_at, sattr_at}
use Rattle.nfs_args.specs.declared.unreadable.Unreadable.{Unreadable}
use Rattle.nfs_args.specs.declared.procedure.Procedure.{Procedure}
use Rattle.nfs_args.specs.declared.procedure.Procedure.TheVariants as proc
use Rattle.nfs_args.specs.declared.procedure.MountProcedure.{MountProcedure}
use Rattle.nfs_args.specs.declared.procedure.MountProcedure.TheVariants as mount
use Rattle.nfs_args.specs.declared.args.NfsArgs.{NfsArgs}
use Rattle.nfs_args.specs.declared.args.NfsArgs.TheVariants as asked
use Rattle.nfs_args.specs.declared.mount_args.MountArgs.{MountArgs}
use Rattle.nfs_args.specs.declared.mount_args.MountArgs.TheVariants as mount_asked
use Rattle.nfs_args.specs.declared.access.Access.{Access}
use Rattle.nfs_args.specs.declared.byte_range.ByteRange.{ByteRange}
use Rattle.nfs_args.specs.declared.create.Create.{Create}
use Rattle.nfs_args.specs.declared.create.CreateHow.{CreateHow}
use Rattle.nfs_args.specs.declared.create.CreateHow.TheVariants as how
use Rattle.nfs_args.specs.declared.dir_op.DirOp.{DirOp}
use Rattle.nfs_args.specs.declared.link.Link.{Link}
use Rattle.nfs_args.specs.declared.mkdir.Mkdir.{Mkdir}
use Rattle.nfs_args.specs.declared.mknod.DeviceData.{DeviceData}
use Rattle.nfs_args.specs.declared.mknod.Mknod.{Mknod}
use Rattle.nfs_args.specs.declared.mknod.NodeData.{NodeData}
use Rattle.nfs_args.specs.declared.mknod.NodeData.TheVariants as node
use Rattle.nfs_args.specs.declared.readdir.Readdir.{Readdir}
use Rattle.nfs_args.specs.declared.readdir.Readdirplus.{Readdirplus}
use Rattle.nfs_args.specs.declared.rename.Rename.{Rename}
use Rattle.nfs_args.specs.declared.setattr.Setattr.{Setattr}
use Rattle.nfs_args.specs.declared.symlink.Symlink.{Symlink}
use Rattle.nfs_args.specs.declared.write.Stability.{Stability}
use Rattle.nfs_args.specs.declared.write.Stability.TheVariants.{Unstable, DataSync, FileSync}
use Rattle.nfs_args.specs.declared.write.Write.{Write}
use Rattle.nfs_args.specs.Encoding.{CreateMode, Unchecked, Guarded, Exclusive, mode_number, stability_number}

-- what an arm holds, and the union's value that is made of it
abbrev pub arm_at : {A B : Type 0} → (A → B) → (List ℕ → Read A) → List ℕ → Read B
arm_at made read bytes = do
  held ← read bytes
  Ok (made held.0, held.1)

-- an arm that holds nothing
abbrev pub bare_at : {A : Type 0} → A → List ℕ → Read A
bare_at made bytes = Ok (made, bytes)

-- the number of a kind, and then what follows it
abbrev pub union_at : {K A : Type 0} → (K → ℕ) → List K → (K → List ℕ → Read A) → List ℕ → Read A
union_at number kinds arm bytes = do
  kind ← enum_at number kinds bytes
  arm kind.0 kind.1

-- ---- what several procedures are asked for

abbrev pub handle_at : List ℕ → Read (List ℕ)
handle_at = opaque_at 64

abbrev pub string_at : List ℕ → Read (List ℕ)
string_at = opaque_at 4294967295

abbrev pub verifier_at : List ℕ → Read (List ℕ)
verifier_at = fixed_at 8

abbrev pub dir_op_at : List ℕ → Read DirOp
dir_op_at bytes = do
  dir ← handle_at bytes
  name ← string_at dir.1
  Ok (record { dir = dir.0; name = name.0 }, name.1)

abbrev pub byte_range_at : List ℕ → Read ByteRange
byte_range_at bytes = do
  file ← handle_at bytes
  offset ← number_at w64 file.1
  count ← number_at w32 offset.1
  Ok (record { file = file.0; offset = offset.0; count = count.0 }, count.1)

-- ---- what one is asked for

abbrev pub guard_at : List ℕ → Read (Option Moment)
guard_at = optional_at moment_at

abbrev pub setattr_at : List ℕ → Read Setattr
setattr_at bytes = do
  file ← handle_at bytes
  attributes ← sattr_at file.1
  guard ← guard_at attributes.1
  Ok (record { file = file.0; attributes = attributes.0; guard = guard.0 }, guard.1)

abbrev pub stabilities : List Stability
stabilities = Unstable ∷ DataSync ∷ FileSync ∷ []

abbrev pub stability_at : List ℕ → Read Stability
stability_at = enum_at stability_number stabilities

abbrev pub write_at : List ℕ → Read Write
write_at bytes = do
  file ← handle_at bytes
  offset ← number_at w64 file.1
  count ← number_at w32 offset.1
  stable ← stability_at count.1
  content ← string_at stable.1
  if nat_eq (length content.0) count.0 then Ok (record { file = file.0; offset = offset.0; stable = stable.0; content = content.0 }, content.1) else Err TooLong

abbrev pub create_modes : List CreateMode
create_modes = Unchecked ∷ Guarded ∷ Exclusive ∷ []

abbrev pub create_arm_at : CreateMode → List ℕ → Read CreateHow
create_arm_at Unchecked = arm_at how.Unchecked sattr_at
create_arm_at Guarded = arm_at how.Guarded sattr_at
create_arm_at Exclusive = arm_at how.Exclusive verifier_at

abbrev pub create_how_at : List ℕ → Read CreateHow
create_how_at = union_at mode_number create_modes create_arm_at

abbrev pub create_at : List ℕ → Read Create
create_at bytes = do
  place ← dir_op_at bytes
  how ← create_how_at place.1
  Ok (record { place = place.0; how = how.0 }, how.1)

abbrev pub access_at : List ℕ → Read Access
access_at bytes = do
  file ← handle_at bytes
  rights ← number_at w32 file.1
  Ok (record { file = file.0; rights = rights.0 }, rights.1)

abbrev pub mkdir_at : List ℕ → Read Mkdir
mkdir_at bytes = do
  place ← dir_op_at bytes
  attributes ← sattr_at place.1
  Ok (record { place = place.0; attributes = attributes.0 }, attributes.1)

abbrev pub symlink_at : List ℕ → Read Symlink
symlink_at bytes = do
  place ← dir_op_at bytes
  attributes ← sattr_at place.1
  path ← string_at attributes.1
  Ok (record { place = place.0; attributes = attributes.0; path = path.0 }, path.1)

abbrev pub device_data_at : List ℕ → Read DeviceData
device_data_at bytes = do
  attributes ← sattr_at bytes
  device ← spec_data_at attributes.1
  Ok (record { attributes = attributes.0; device = device.0 }, device.1)

abbrev pub node_arm_at : FileType → List ℕ → Read NodeData
node_arm_at Regular = bare_at node.Regular
node_arm_at Directory = bare_at node.Directory
node_arm_at BlockDevice = arm_at node.BlockDevice device_data_at
node_arm_at CharacterDevice = arm_at node.CharacterDevice device_data_at
node_arm_at SymbolicLink = bare_at node.SymbolicLink
node_arm_at Socket = arm_at node.Socket sattr_at
node_arm_at Fifo = arm_at node.Fifo sattr_at

abbrev pub node_data_at : List ℕ → Read NodeData
node_data_at = union_at type_number file_types node_arm_at

abbrev pub mknod_at : List ℕ → Read Mknod
mknod_at bytes = do
  place ← dir_op_at bytes
  node ← node_data_at place.1
  Ok (record { place = place.0; node = node.0 }, node.1)

abbrev pub rename_at : List ℕ → Read Rename
rename_at bytes = do
  from ← dir_op_at bytes
  to ← dir_op_at from.1
  Ok (record { from = from.0; to = to.0 }, to.1)

abbrev pub link_at : List ℕ → Read Link
link_at bytes = do
  file ← handle_at bytes
  place ← dir_op_at file.1
  Ok (record { file = file.0; place = place.0 }, place.1)

abbrev pub readdir_at : List ℕ → Read Readdir
readdir_at bytes = do
  dir ← handle_at bytes
  cookie ← number_at w64 dir.1
  verifier ← verifier_at cookie.1
  count ← number_at w32 verifier.1
  Ok (record { dir = dir.0; cookie = cookie.0; verifier = verifier.0; count = count.0 }, count.1)

abbrev pub readdirplus_at : List ℕ → Read Readdirplus
readdirplus_at bytes = do
  dir ← handle_at bytes
  cookie ← number_at w64 dir.1
  verifier ← verifier_at cookie.1
  dircount ← number_at w32 verifier.1
  maxcount ← number_at w32 dircount.1
  Ok (record { dir = dir.0; cookie = cookie.0; verifier = verifier.0; dircount = dircount.0; maxcount = maxcount.0 }, maxcount.1)

-- ---- by the procedure

abbrev pub args_at : Procedure → List ℕ → Read NfsArgs
args_at proc.Null = bare_at asked.Null
args_at proc.Getattr = arm_at asked.Getattr handle_at
args_at proc.Setattr = arm_at asked.Setattr setattr_at
args_at proc.Lookup = arm_at asked.Lookup dir_op_at
args_at proc.Access = arm_at asked.Access access_at
args_at proc.Readlink = arm_at asked.Readlink handle_at
args_at proc.Read = arm_at asked.Read byte_range_at
args_at proc.Write = arm_at asked.Write write_at
args_at proc.Create = arm_at asked.Create create_at
args_at proc.Mkdir = arm_at asked.Mkdir mkdir_at
args_at proc.Symlink = arm_at asked.Symlink symlink_at
args_at proc.Mknod = arm_at asked.Mknod mknod_at
args_at proc.Remove = arm_at asked.Remove dir_op_at
args_at proc.Rmdir = arm_at asked.Rmdir dir_op_at
args_at proc.Rename = arm_at asked.Rename rename_at
args_at proc.Link = arm_at asked.Link link_at
args_at proc.Readdir = arm_at asked.Readdir readdir_at
args_at proc.Readdirplus = arm_at asked.Readdirplus readdirplus_at
args_at proc.Fsstat = arm_at asked.Fsstat handle_at
args_at proc.Fsinfo = arm_at asked.Fsinfo handle_at
args_at proc.Pathconf = arm_at asked.Pathconf handle_at
args_at proc.Commit = arm_at asked.Commit byte_range_at

abbrev pub mount_args_at : MountProcedure → List ℕ → Read MountArgs
mount_args_at mount.Null = bare_at mount_asked.Null
mount_args_at mount.Mount = arm_at mount_asked.Mount string_at
mount_args_at mount.Dump = bare_at mount_asked.Dump
mount_args_at mount.Unmount = arm_at mount_asked.Unmount string_at
mount_args_at mount.UnmountAll = bare_at mount_asked.UnmountAll
mount_args_at mount.Export = bare_at mount_asked.Export

-- ---- readers

-- What a reader answered is what reading gives; it has moved on after it. Where it refused, it may stand anywhere.
abbrev pub Takes : {A : Type 0} → List ℕ → List ℕ → Result A XdrFault → Read A → Type 0
Takes old new (Ok value) read = read ≡ Ok (value, new)
Takes old new (Err fault) read = read ≡ Err fault

-- a value that was read, with some rest, or a refusal for whatever fault
abbrev pub Answers : {A : Type 0} → Result A Unreadable → Read A → Type 0
Answers (Ok value) read = (rest : List ℕ) × (read ≡ Ok (value, rest))
Answers (Err refusal) read = (fault : XdrFault) × (read ≡ Err fault)

-- The same where the value is put in the place of another, which stays where nothing can be read.
abbrev pub TakesInto : {A : Type 0} → A → A → List ℕ → Result (Unit {0}) XdrFault → Read A → Type 0
TakesInto was is new (Ok done) read = read ≡ Ok (is, new)
TakesInto was is new (Err fault) read = (read ≡ Err fault) × (is ≡ was)

abbrev pub Fills : {A : Type 0} → A → A → Result (Unit {0}) Unreadable → Read A → Type 0
Fills was is (Ok done) read = (rest : List ℕ) × (read ≡ Ok (is, rest))
Fills was is (Err refusal) read = ((fault : XdrFault) × (read ≡ Err fault)) × (is ≡ was)
