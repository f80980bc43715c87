-- Which bytes encode which attributes (RFC 1813, section 2.6).
use Rattle.std.specs.Prelude.{ℕ, List, ◌++◌, Option}
use Rattle.std.specs.Int.{w32, w64, to_be_bytes}
use Rattle.nfs_xdr.specs.Encoding.{IsNumber, IsEnum, IsOptional, ◌⨾◌, optional_text}
use Rattle.nfs_attrs.specs.declared.moment.Moment.{Moment}
use Rattle.nfs_attrs.specs.declared.fattr.SpecData.{SpecData}
use Rattle.nfs_attrs.specs.declared.fattr.Fattr.{Fattr}
use Rattle.nfs_attrs.specs.declared.pre_attr.PreAttr.{PreAttr}
use Rattle.nfs_attrs.specs.declared.wcc.Wcc.{Wcc}
use Rattle.nfs_attrs.specs.declared.sattr.Sattr.{Sattr}
use Rattle.nfs_attrs.specs.declared.time_setting.TimeSetting.{TimeSetting}
use Rattle.nfs_attrs.specs.declared.time_setting.TimeSetting.TheVariants.{Leave, ServerTime, ClientTime}
use Rattle.nfs_attrs.specs.declared.file_type.FileType.{FileType}
use Rattle.nfs_attrs.specs.declared.file_type.FileType.TheVariants.{Regular, Directory, BlockDevice, CharacterDevice, SymbolicLink, Socket, Fifo}

-- nfstime3: seconds and nanoseconds
abbrev pub IsMoment : Moment → List ℕ → Type 0
IsMoment m = IsNumber w32 m.seconds ⨾ IsNumber w32 m.nanos

-- ftype3
abbrev pub type_number : FileType → ℕ
type_number Regular = 1
type_number Directory = 2
type_number BlockDevice = 3
type_number CharacterDevice = 4
type_number SymbolicLink = 5
type_number Socket = 6
type_number Fifo = 7

abbrev pub IsFileType : FileType → List ℕ → Type 0
IsFileType = IsEnum type_number

-- specdata3: two numbers
abbrev pub IsSpecData : SpecData → List ℕ → Type 0
IsSpecData d = IsNumber w32 d.specdata1 ⨾ IsNumber w32 d.specdata2

-- fattr3: the kind of file, and what follows it
abbrev pub IsAfterType : Fattr → List ℕ → Type 0
IsAfterType a =
    IsNumber w32 a.mode ⨾ IsNumber w32 a.nlink ⨾ IsNumber w32 a.uid ⨾ IsNumber w32 a.gid ⨾ IsNumber w64 a.size ⨾ IsNumber w64 a.used
    ⨾ IsSpecData a.rdev ⨾ IsNumber w64 a.fsid ⨾ IsNumber w64 a.fileid ⨾ IsMoment a.atime ⨾ IsMoment a.mtime ⨾ IsMoment a.ctime

abbrev pub IsFattr : Fattr → List ℕ → Type 0
IsFattr a = IsFileType a.file_type ⨾ IsAfterType a

-- post_op_attr
abbrev pub IsPostOpAttr : Option Fattr → List ℕ → Type 0
IsPostOpAttr = IsOptional IsFattr

-- wcc_attr
abbrev pub IsPreAttr : PreAttr → List ℕ → Type 0
IsPreAttr a = IsNumber w64 a.size ⨾ IsMoment a.mtime ⨾ IsMoment a.ctime

-- pre_op_attr
abbrev pub IsPreOpAttr : Option PreAttr → List ℕ → Type 0
IsPreOpAttr = IsOptional IsPreAttr

-- wcc_data
abbrev pub IsWcc : Wcc → List ℕ → Type 0
IsWcc w = IsPreOpAttr w.before ⨾ IsPostOpAttr w.after

-- set_atime and set_mtime: 0 leaves the time, 1 takes the server's, 2 takes the client's, which follows
abbrev pub IsTimeSetting : TimeSetting → List ℕ → Type 0
IsTimeSetting Leave = IsNumber w32 0
IsTimeSetting ServerTime = IsNumber w32 1
IsTimeSetting (ClientTime moment) = IsNumber w32 2 ⨾ IsMoment moment

-- sattr3
abbrev pub IsSattr : Sattr → List ℕ → Type 0
IsSattr s =
    IsOptional (IsNumber w32) s.mode ⨾ IsOptional (IsNumber w32) s.uid ⨾ IsOptional (IsNumber w32) s.gid ⨾ IsOptional (IsNumber w64) s.size
    ⨾ IsTimeSetting s.atime ⨾ IsTimeSetting s.mtime

-- ---- the texts that are written

abbrev pub moment_text : Moment → List ℕ
moment_text m = to_be_bytes w32 m.seconds ++ to_be_bytes w32 m.nanos

abbrev pub file_type_text : FileType → List ℕ
file_type_text t = to_be_bytes w32 (type_number t)

abbrev pub spec_data_text : SpecData → List ℕ
spec_data_text d = to_be_bytes w32 d.specdata1 ++ to_be_bytes w32 d.specdata2

abbrev pub after_type_text : Fattr → List ℕ
after_type_text a =
    to_be_bytes w32 a.mode ++ to_be_bytes w32 a.nlink ++ to_be_bytes w32 a.uid ++ to_be_bytes w32 a.gid
    ++ to_be_bytes w64 a.size ++ to_be_bytes w64 a.used
    ++ spec_data_text a.rdev ++ to_be_bytes w64 a.fsid ++ to_be_bytes w64 a.fileid ++ moment_text a.atime ++ moment_text a.mtime ++ moment_text a.ctime

abbrev pub fattr_text : Fattr → List ℕ
fattr_text a = file_type_text a.file_type ++ after_type_text a

abbrev pub post_op_attr_text : Option Fattr → List ℕ
post_op_attr_text = optional_text fattr_text

abbrev pub pre_attr_text : PreAttr → List ℕ
pre_attr_text a = to_be_bytes w64 a.size ++ moment_text a.mtime ++ moment_text a.ctime

abbrev pub pre_op_attr_text : Option PreAttr → List ℕ
pre_op_attr_text = optional_text pre_attr_text

abbrev pub wcc_text : Wcc → List ℕ
wcc_text w = pre_op_attr_text w.before ++ post_op_attr_text w.after

abbrev pub time_setting_text : TimeSetting → List ℕ
time_setting_text Leave = to_be_bytes w32 0
time_setting_text ServerTime = to_be_bytes w32 1
time_setting_text (ClientTime moment) = to_be_bytes w32 2 ++ moment_text moment

abbrev pub sattr_text : Sattr → List ℕ
sattr_text s =
    optional_text (to_be_bytes w32) s.mode ++ optional_text (to_be_bytes w32) s.uid ++ optional_text (to_be_bytes w32) s.gid
    ++ optional_text (to_be_bytes w64) s.size
    ++ time_setting_text s.atime ++ time_setting_text s.mtime
