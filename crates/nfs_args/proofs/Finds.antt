-- Reading arguments finds their encoding.
use Rattle.std.proofs.Common.{◌≡◌, ℕ, true, eqb, List, length, Some, Ok, Err, refl, sym, ap, ◌∙◌}
use Rattle.std.specs.Int.{w32, w64}
use Rattle.std.proofs.lemmas.Bool.{eqb-true, eq-eqb}
use Rattle.nfs_xdr.specs.declared.fault.XdrFault.{XdrFault}
use Rattle.nfs_xdr.specs.declared.fault.XdrFault.TheVariants.{TooLong}
use Rattle.nfs_xdr.specs.Encoding.{IsNumber, IsEnum, IsOptional, Begins, BeginsNone}
use Rattle.nfs_xdr.specs.Reading.{Read, AreBytes, Finds, numbered}
use Rattle.nfs_xdr.proofs.Finding.{finds_image, finds_field, finds_last, finds_all, finds_none}
use Rattle.nfs_xdr.proofs.Items.{finds_u32, finds_u64, finds_fixed, finds_opaque, finds_enum, finds_optional}
use Rattle.nfs_attrs.specs.declared.file_type.FileType.{FileType}
use Rattle.nfs_attrs.specs.declared.file_type.FileType.TheVariants.{Regular, Directory, BlockDevice, CharacterDevice, SymbolicLink, Socket, Fifo}
use Rattle.nfs_attrs.specs.Encoding.{IsMoment, type_number, IsSpecData, IsSattr}
use Rattle.nfs_attrs.specs.Reading.{moment_at, file_types, sattr_at}
use Rattle.nfs_attrs.proofs.Finds.{finds_moment, finds_spec_data, finds_sattr}
use Rattle.nfs_args.specs.declared.procedure.Procedure.{Procedure}
use Rattle.nfs_args.specs.declared.procedure.Procedure.TheVariants as proc
use Rattle.nfs_args.specs.declared.procedure.MountProcedure.{MountProcedure}
use Rattle.nfs_args.specs.declared.procedure.MountProcedure.TheVariants as mount
use Rattle.nfs_args.specs.declared.args.NfsArgs.TheVariants as asked
use Rattle.nfs_args.specs.declared.mount_args.MountArgs.TheVariants as mount_asked
use Rattle.nfs_args.specs.declared.access.Access.{Access}
use Rattle.nfs_args.specs.declared.byte_range.ByteRange.{ByteRange}
use Rattle.nfs_args.specs.declared.create.Create.{Create}
use Rattle.nfs_args.specs.declared.create.CreateHow.TheVariants as how
use Rattle.nfs_args.specs.declared.dir_op.DirOp.{DirOp}
use Rattle.nfs_args.specs.declared.link.Link.{Link}
use Rattle.nfs_args.specs.declared.mkdir.Mkdir.{Mkdir}
use Rattle.nfs_args.specs.declared.mknod.DeviceData.{DeviceData}
use Rattle.nfs_args.specs.declared.mknod.Mknod.{Mknod}
use Rattle.nfs_args.specs.declared.mknod.NodeData.TheVariants as node
use Rattle.nfs_args.specs.declared.readdir.Readdir.{Readdir}
use Rattle.nfs_args.specs.declared.readdir.Readdirplus.{Readdirplus}
use Rattle.nfs_args.specs.declared.rename.Rename.{Rename}
use Rattle.nfs_args.specs.declared.setattr.Setattr.{Setattr}
use Rattle.nfs_args.specs.declared.symlink.Symlink.{Symlink}
use Rattle.nfs_args.specs.declared.write.Stability.{Stability}
use Rattle.nfs_args.specs.declared.write.Stability.TheVariants.{Unstable, DataSync, FileSync}
use Rattle.nfs_args.specs.declared.write.Write.{Write}
use Rattle.nfs_args.specs.Encoding.{IsHandle, IsString, IsVerifier, IsDirOp, IsByteRange, IsSetattr, stability_number, IsWrite, CreateMode, Unchecked, Guarded, Exclusive, mode_number, IsCreateArm, IsCreateHow, IsCreate, IsAccess, IsMkdir, IsSymlink, IsDeviceData, IsNodeArm, IsNodeData, IsMknod, IsRename, IsLink, IsReaddir, IsReaddirplus, IsArgsOf, IsMountArgsOf}
use Rattle.nfs_args.specs.Reading.{handle_at, string_at, verifier_at, dir_op_at, byte_range_at, guard_at, setattr_at, stabilities, stability_at, write_at, create_modes, create_arm_at, create_how_at, create_at, access_at, mkdir_at, symlink_at, device_data_at, node_arm_at, node_data_at, mknod_at, rename_at, link_at, readdir_at, readdirplus_at, args_at, mount_args_at}
use Rattle.nfs_args.proofs.Unions.{finds_bare, finds_union, finds_last_if}

pub finds_handle : Finds IsHandle handle_at
finds_handle = finds_opaque 64

pub finds_string : Finds IsString string_at
finds_string = finds_opaque 4294967295

finds_verifier : Finds IsVerifier verifier_at
finds_verifier = finds_fixed 8

finds_dir_op : Finds IsDirOp dir_op_at
finds_dir_op =
    finds_all IsDirOp dir_op_at
    (finds_field (λ _. Unit {0}) IsHandle (λ (a : DirOp). a.dir) _ _ _ finds_handle (λ dir.
    finds_last _ IsString (λ (a : DirOp). a.name) _ (λ name. record { dir = dir; name = name }) finds_string (λ name. ((tt, refl), refl)) (λ a name known e i. record { dir = known.1 i; name = e i })))

finds_byte_range : Finds IsByteRange byte_range_at
finds_byte_range =
    finds_all IsByteRange byte_range_at
    (finds_field (λ _. Unit {0}) IsHandle (λ (a : ByteRange). a.file) _ _ _ finds_handle (λ file.
    finds_field _ (IsNumber w64) (λ (a : ByteRange). a.offset) _ _ _ finds_u64 (λ offset.
    finds_last _ (IsNumber w32) (λ (a : ByteRange). a.count) _ (λ count. record { file = file; offset = offset; count = count }) finds_u32 (λ count. (((tt, refl), refl), refl)) (λ a count known e i. record { file = known.0.1 i; offset = known.1 i; count = e i }))))

finds_guard : Finds (IsOptional IsMoment) guard_at
finds_guard = finds_optional IsMoment moment_at finds_moment

finds_setattr : Finds IsSetattr setattr_at
finds_setattr =
    finds_all IsSetattr setattr_at
    (finds_field (λ _. Unit {0}) IsHandle (λ (a : Setattr). a.file) _ _ _ finds_handle (λ file.
    finds_field _ IsSattr (λ (a : Setattr). a.attributes) _ _ _ finds_sattr (λ attributes.
    finds_last _ (IsOptional IsMoment) (λ (a : Setattr). a.guard) _ (λ guard. record { file = file; attributes = attributes; guard = guard }) finds_guard (λ guard. (((tt, refl), refl), refl)) (λ a guard known e i. record { file = known.0.1 i; attributes = known.1 i; guard = e i }))))

-- ---- WRITE

stability_numbered : (s : Stability) → numbered stability_number stabilities (stability_number s) ≡ Some s
stability_numbered Unstable = refl
stability_numbered DataSync = refl
stability_numbered FileSync = refl

pub finds_stability : Finds (IsEnum stability_number) stability_at
finds_stability = finds_enum stability_number stabilities stability_numbered

same_length : (held content : List ℕ) (count : ℕ) → length held ≡ count → held ≡ content → eqb (length content) count ≡ true
same_length held content count counted e = eq-eqb (length content) count (sym (ap length e) ∙ counted)

finds_write : Finds IsWrite write_at
finds_write =
    finds_all IsWrite write_at
    (finds_field (λ _. Unit {0}) IsHandle (λ (a : Write). a.file) _ _ _ finds_handle (λ file.
    finds_field _ (IsNumber w64) (λ (a : Write). a.offset) _ _ _ finds_u64 (λ offset.
    finds_field _ (IsNumber w32) (λ (a : Write). length a.content) _ _ _ finds_u32 (λ count.
    finds_field _ (IsEnum stability_number) (λ (a : Write). a.stable) _ _ _ finds_stability (λ stable.
    finds_last_if _ IsString (λ (a : Write). a.content) _ (λ content. record { file = file; offset = offset; stable = stable; content = content }) (λ content. eqb (length content) count) TooLong finds_string
    (λ content agreed. (((((tt, refl), refl), eqb-true (length content) count agreed), refl), refl))
    (λ a content known e. (same_length a.content content count known.0.1 e, λ i. record { file = known.0.0.0.1 i; offset = known.0.0.1 i; stable = known.1 i; content = e i })))))))

-- ---- CREATE

mode_numbered : (m : CreateMode) → numbered mode_number create_modes (mode_number m) ≡ Some m
mode_numbered Unchecked = refl
mode_numbered Guarded = refl
mode_numbered Exclusive = refl

finds_create_arm : (m : CreateMode) → Finds (IsCreateArm m) (create_arm_at m)
finds_create_arm Unchecked = finds_image IsSattr how.Unchecked sattr_at finds_sattr
finds_create_arm Guarded = finds_image IsSattr how.Guarded sattr_at finds_sattr
finds_create_arm Exclusive = finds_image IsVerifier how.Exclusive verifier_at finds_verifier

finds_create_how : Finds IsCreateHow create_how_at
finds_create_how = finds_union mode_number create_modes IsCreateArm create_arm_at mode_numbered finds_create_arm

finds_create : Finds IsCreate create_at
finds_create =
    finds_all IsCreate create_at
    (finds_field (λ _. Unit {0}) IsDirOp (λ (a : Create). a.place) _ _ _ finds_dir_op (λ place.
    finds_last _ IsCreateHow (λ (a : Create). a.how) _ (λ how. record { place = place; how = how }) finds_create_how (λ how. ((tt, refl), refl)) (λ a how known e i. record { place = known.1 i; how = e i })))

-- ---- the others

finds_access : Finds IsAccess access_at
finds_access =
    finds_all IsAccess access_at
    (finds_field (λ _. Unit {0}) IsHandle (λ (a : Access). a.file) _ _ _ finds_handle (λ file.
    finds_last _ (IsNumber w32) (λ (a : Access). a.rights) _ (λ rights. record { file = file; rights = rights }) finds_u32 (λ rights. ((tt, refl), refl)) (λ a rights known e i. record { file = known.1 i; rights = e i })))

finds_mkdir : Finds IsMkdir mkdir_at
finds_mkdir =
    finds_all IsMkdir mkdir_at
    (finds_field (λ _. Unit {0}) IsDirOp (λ (a : Mkdir). a.place) _ _ _ finds_dir_op (λ place.
    finds_last _ IsSattr (λ (a : Mkdir). a.attributes) _ (λ attributes. record { place = place; attributes = attributes }) finds_sattr (λ attributes. ((tt, refl), refl)) (λ a attributes known e i. record { place = known.1 i; attributes = e i })))

finds_symlink : Finds IsSymlink symlink_at
finds_symlink =
    finds_all IsSymlink symlink_at
    (finds_field (λ _. Unit {0}) IsDirOp (λ (a : Symlink). a.place) _ _ _ finds_dir_op (λ place.
    finds_field _ IsSattr (λ (a : Symlink). a.attributes) _ _ _ finds_sattr (λ attributes.
    finds_last _ IsString (λ (a : Symlink). a.path) _ (λ path. record { place = place; attributes = attributes; path = path }) finds_string (λ path. (((tt, refl), refl), refl)) (λ a path known e i. record { place = known.0.1 i; attributes = known.1 i; path = e i }))))

finds_device_data : Finds IsDeviceData device_data_at
finds_device_data =
    finds_all IsDeviceData device_data_at
    (finds_field (λ _. Unit {0}) IsSattr (λ (a : DeviceData). a.attributes) _ _ _ finds_sattr (λ attributes.
    finds_last _ IsSpecData (λ (a : DeviceData). a.device) _ (λ device. record { attributes = attributes; device = device }) finds_spec_data (λ device. ((tt, refl), refl)) (λ a device known e i. record { attributes = known.1 i; device = e i })))

type_numbered : (t : FileType) → numbered type_number file_types (type_number t) ≡ Some t
type_numbered Regular = refl
type_numbered Directory = refl
type_numbered BlockDevice = refl
type_numbered CharacterDevice = refl
type_numbered SymbolicLink = refl
type_numbered Socket = refl
type_numbered Fifo = refl

finds_node_arm : (t : FileType) → Finds (IsNodeArm t) (node_arm_at t)
finds_node_arm Regular = finds_bare node.Regular
finds_node_arm Directory = finds_bare node.Directory
finds_node_arm BlockDevice = finds_image IsDeviceData node.BlockDevice device_data_at finds_device_data
finds_node_arm CharacterDevice = finds_image IsDeviceData node.CharacterDevice device_data_at finds_device_data
finds_node_arm SymbolicLink = finds_bare node.SymbolicLink
finds_node_arm Socket = finds_image IsSattr node.Socket sattr_at finds_sattr
finds_node_arm Fifo = finds_image IsSattr node.Fifo sattr_at finds_sattr

finds_node_data : Finds IsNodeData node_data_at
finds_node_data = finds_union type_number file_types IsNodeArm node_arm_at type_numbered finds_node_arm

finds_mknod : Finds IsMknod mknod_at
finds_mknod =
    finds_all IsMknod mknod_at
    (finds_field (λ _. Unit {0}) IsDirOp (λ (a : Mknod). a.place) _ _ _ finds_dir_op (λ place.
    finds_last _ IsNodeData (λ (a : Mknod). a.node) _ (λ node. record { place = place; node = node }) finds_node_data (λ node. ((tt, refl), refl)) (λ a node known e i. record { place = known.1 i; node = e i })))

finds_rename : Finds IsRename rename_at
finds_rename =
    finds_all IsRename rename_at
    (finds_field (λ _. Unit {0}) IsDirOp (λ (a : Rename). a.from) _ _ _ finds_dir_op (λ from.
    finds_last _ IsDirOp (λ (a : Rename). a.to) _ (λ to. record { from = from; to = to }) finds_dir_op (λ to. ((tt, refl), refl)) (λ a to known e i. record { from = known.1 i; to = e i })))

finds_link : Finds IsLink link_at
finds_link =
    finds_all IsLink link_at
    (finds_field (λ _. Unit {0}) IsHandle (λ (a : Link). a.file) _ _ _ finds_handle (λ file.
    finds_last _ IsDirOp (λ (a : Link). a.place) _ (λ place. record { file = file; place = place }) finds_dir_op (λ place. ((tt, refl), refl)) (λ a place known e i. record { file = known.1 i; place = e i })))

finds_readdir : Finds IsReaddir readdir_at
finds_readdir =
    finds_all IsReaddir readdir_at
    (finds_field (λ _. Unit {0}) IsHandle (λ (a : Readdir). a.dir) _ _ _ finds_handle (λ dir.
    finds_field _ (IsNumber w64) (λ (a : Readdir). a.cookie) _ _ _ finds_u64 (λ cookie.
    finds_field _ IsVerifier (λ (a : Readdir). a.verifier) _ _ _ finds_verifier (λ verifier.
    finds_last _ (IsNumber w32) (λ (a : Readdir). a.count) _ (λ count. record { dir = dir; cookie = cookie; verifier = verifier; count = count }) finds_u32 (λ count. ((((tt, refl), refl), refl), refl)) (λ a count known e i. record { dir = known.0.0.1 i; cookie = known.0.1 i; verifier = known.1 i; count = e i })))))

finds_readdirplus : Finds IsReaddirplus readdirplus_at
finds_readdirplus =
    finds_all IsReaddirplus readdirplus_at
    (finds_field (λ _. Unit {0}) IsHandle (λ (a : Readdirplus). a.dir) _ _ _ finds_handle (λ dir.
    finds_field _ (IsNumber w64) (λ (a : Readdirplus). a.cookie) _ _ _ finds_u64 (λ cookie.
    finds_field _ IsVerifier (λ (a : Readdirplus). a.verifier) _ _ _ finds_verifier (λ verifier.
    finds_field _ (IsNumber w32) (λ (a : Readdirplus). a.dircount) _ _ _ finds_u32 (λ dircount.
    finds_last _ (IsNumber w32) (λ (a : Readdirplus). a.maxcount) _ (λ maxcount. record { dir = dir; cookie = cookie; verifier = verifier; dircount = dircount; maxcount = maxcount }) finds_u32 (λ maxcount. (((((tt, refl), refl), refl), refl), refl)) (λ a maxcount known e i. record { dir = known.0.0.0.1 i; cookie = known.0.0.1 i; verifier = known.0.1 i; dircount = known.1 i; maxcount = e i }))))))

-- ---- by the procedure

pub finds_args : (p : Procedure) → Finds (IsArgsOf p) (args_at p)
finds_args proc.Null = finds_bare asked.Null
finds_args proc.Getattr = finds_image IsHandle asked.Getattr handle_at finds_handle
finds_args proc.Setattr = finds_image IsSetattr asked.Setattr setattr_at finds_setattr
finds_args proc.Lookup = finds_image IsDirOp asked.Lookup dir_op_at finds_dir_op
finds_args proc.Access = finds_image IsAccess asked.Access access_at finds_access
finds_args proc.Readlink = finds_image IsHandle asked.Readlink handle_at finds_handle
finds_args proc.Read = finds_image IsByteRange asked.Read byte_range_at finds_byte_range
finds_args proc.Write = finds_image IsWrite asked.Write write_at finds_write
finds_args proc.Create = finds_image IsCreate asked.Create create_at finds_create
finds_args proc.Mkdir = finds_image IsMkdir asked.Mkdir mkdir_at finds_mkdir
finds_args proc.Symlink = finds_image IsSymlink asked.Symlink symlink_at finds_symlink
finds_args proc.Mknod = finds_image IsMknod asked.Mknod mknod_at finds_mknod
finds_args proc.Remove = finds_image IsDirOp asked.Remove dir_op_at finds_dir_op
finds_args proc.Rmdir = finds_image IsDirOp asked.Rmdir dir_op_at finds_dir_op
finds_args proc.Rename = finds_image IsRename asked.Rename rename_at finds_rename
finds_args proc.Link = finds_image IsLink asked.Link link_at finds_link
finds_args proc.Readdir = finds_image IsReaddir asked.Readdir readdir_at finds_readdir
finds_args proc.Readdirplus = finds_image IsReaddirplus asked.Readdirplus readdirplus_at finds_readdirplus
finds_args proc.Fsstat = finds_image IsHandle asked.Fsstat handle_at finds_handle
finds_args proc.Fsinfo = finds_image IsHandle asked.Fsinfo handle_at finds_handle
finds_args proc.Pathconf = finds_image IsHandle asked.Pathconf handle_at finds_handle
finds_args proc.Commit = finds_image IsByteRange asked.Commit byte_range_at finds_byte_range

pub finds_mount_args : (p : MountProcedure) → Finds (IsMountArgsOf p) (mount_args_at p)
finds_mount_args mount.Null = finds_bare mount_asked.Null
finds_mount_args mount.Mount = finds_image IsString mount_asked.Mount string_at finds_string
finds_mount_args mount.Dump = finds_bare mount_asked.Dump
finds_mount_args mount.Unmount = finds_image IsString mount_asked.Unmount string_at finds_string
finds_mount_args mount.UnmountAll = finds_bare mount_asked.UnmountAll
finds_mount_args mount.Export = finds_bare mount_asked.Export

-- ---- what a reader of these bytes found, or did not

pub found_there : {A : Type 0} (S : A → List ℕ → Type 0) (read : List ℕ → Read A) (bytes old : List ℕ) (value : A) (rest : List ℕ) → Finds S read → AreBytes old → bytes ≡ old → read bytes ≡ Ok (value, rest) → (rest : List ℕ) × Begins S value old rest
found_there S read bytes old value rest finds are same e = (rest, finds.found old value rest are (ap read (sym same) ∙ e))

pub none_there : {A : Type 0} (S : A → List ℕ → Type 0) (read : List ℕ → Read A) (bytes old : List ℕ) (fault : XdrFault) → Finds S read → bytes ≡ old → read bytes ≡ Err fault → BeginsNone S old
none_there S read bytes old fault finds same e = finds_none S read old fault finds (ap read (sym same) ∙ e)
