-- Attributes from left to right: the value and the bytes after it, or the first fault that is met.
use Rattle.std.specs.Prelude.{ℕ, List, [], ◌∷◌, Option, Ok, Err, if◌then◌else◌, nat_eq}
use Rattle.std.specs.Int.{w32, w64}
use Rattle.nfs_xdr.specs.declared.fault.XdrFault.TheVariants.{BadEnum}
use Rattle.nfs_xdr.specs.Reading.{Read, ◌>>=◌, number_at, enum_at, optional_at}
use Rattle.nfs_attrs.specs.declared.moment.Moment.{Moment}
use Rattle.nfs_attrs.specs.declared.fattr.SpecData.{SpecData}
use Rattle.nfs_attrs.specs.declared.fattr.Fattr.{Fattr}
use Rattle.nfs_attrs.specs.declared.pre_attr.PreAttr.{PreAttr}
use Rattle.nfs_attrs.specs.declared.wcc.Wcc.{Wcc}
use Rattle.nfs_attrs.specs.declared.sattr.Sattr.{Sattr}
use Rattle.nfs_attrs.specs.declared.time_setting.TimeSetting.{TimeSetting}
use Rattle.nfs_attrs.specs.declared.time_setting.TimeSetting.TheVariants.{Leave, ServerTime, ClientTime}
use Rattle.nfs_attrs.specs.declared.file_type.FileType.{FileType}
use Rattle.nfs_attrs.specs.declared.file_type.FileType.TheVariants.{Regular, Directory, BlockDevice, CharacterDevice, SymbolicLink, Socket, Fifo}
use Rattle.nfs_attrs.specs.Encoding.{type_number}

abbrev pub moment_at : List ℕ → Read Moment
moment_at bytes = do
  seconds ← number_at w32 bytes
  nanos ← number_at w32 seconds.1
  Ok (record { seconds = seconds.0; nanos = nanos.0 }, nanos.1)

abbrev pub file_types : List FileType
file_types = Regular ∷ Directory ∷ BlockDevice ∷ CharacterDevice ∷ SymbolicLink ∷ Socket ∷ Fifo ∷ []

abbrev pub file_type_at : List ℕ → Read FileType
file_type_at = enum_at type_number file_types

abbrev pub spec_data_at : List ℕ → Read SpecData
spec_data_at bytes = do
  specdata1 ← number_at w32 bytes
  specdata2 ← number_at w32 specdata1.1
  Ok (record { specdata1 = specdata1.0; specdata2 = specdata2.0 }, specdata2.1)

abbrev pub fattr_at : List ℕ → Read Fattr
fattr_at bytes = do
  file_type ← file_type_at bytes
  mode ← number_at w32 file_type.1
  nlink ← number_at w32 mode.1
  uid ← number_at w32 nlink.1
  gid ← number_at w32 uid.1
  size ← number_at w64 gid.1
  used ← number_at w64 size.1
  rdev ← spec_data_at used.1
  fsid ← number_at w64 rdev.1
  fileid ← number_at w64 fsid.1
  atime ← moment_at fileid.1
  mtime ← moment_at atime.1
  ctime ← moment_at mtime.1
  Ok (
    record {
      file_type = file_type.0;
      mode = mode.0;
      nlink = nlink.0;
      uid = uid.0;
      gid = gid.0;
      size = size.0;
      used = used.0;
      rdev = rdev.0;
      fsid = fsid.0;
      fileid = fileid.0;
      atime = atime.0;
      mtime = mtime.0;
      ctime = ctime.0;
    },
    ctime.1,
  )

abbrev pub post_op_attr_at : List ℕ → Read (Option Fattr)
post_op_attr_at = optional_at fattr_at

abbrev pub pre_attr_at : List ℕ → Read PreAttr
pre_attr_at bytes = do
  size ← number_at w64 bytes
  mtime ← moment_at size.1
  ctime ← moment_at mtime.1
  Ok (record { size = size.0; mtime = mtime.0; ctime = ctime.0 }, ctime.1)

abbrev pub pre_op_attr_at : List ℕ → Read (Option PreAttr)
pre_op_attr_at = optional_at pre_attr_at

abbrev pub wcc_at : List ℕ → Read Wcc
wcc_at bytes = do
  before ← pre_op_attr_at bytes
  after ← post_op_attr_at before.1
  Ok (record { before = before.0; after = after.0 }, after.1)

abbrev pub client_time_at : List ℕ → Read TimeSetting
client_time_at bytes = do
  moment ← moment_at bytes
  Ok (ClientTime moment.0, moment.1)

-- what follows its number
abbrev pub time_setting_of : ℕ → List ℕ → Read TimeSetting
time_setting_of n bytes = if nat_eq n 0 then Ok (Leave, bytes)
    else (if nat_eq n 1 then Ok (ServerTime, bytes) else (if nat_eq n 2 then client_time_at bytes else Err BadEnum))

abbrev pub time_setting_at : List ℕ → Read TimeSetting
time_setting_at bytes = do
  n ← number_at w32 bytes
  time_setting_of n.0 n.1

abbrev pub sattr_at : List ℕ → Read Sattr
sattr_at bytes = do
  mode ← optional_at (number_at w32) bytes
  uid ← optional_at (number_at w32) mode.1
  gid ← optional_at (number_at w32) uid.1
  size ← optional_at (number_at w64) gid.1
  atime ← time_setting_at size.1
  mtime ← time_setting_at atime.1
  Ok (record { mode = mode.0; uid = uid.0; gid = gid.0; size = size.0; atime = atime.0; mtime = mtime.0 }, mtime.1)
