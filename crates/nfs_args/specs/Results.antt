-- Which bytes encode which results (RFC 1813, section 3.3), and what is written.
use Rattle.std.specs.Prelude.{◌≡◌, ℕ, ◌^◌, ◌<◌, ◌≤◌, Bool, List, [], ◌++◌, length, Option, Some, None, Result, Ok, Err}
use Rattle.std.specs.Int.{w32, w64, to_be_bytes}
use Rattle.nfs_xdr.specs.Encoding.{IsNumber, IsBoolean, IsEnum, IsOptional, ◌⨾◌, number_of, opaque_text, fixed_text, optional_text}
use Rattle.nfs_attrs.specs.declared.fattr.Fattr.{Fattr}
use Rattle.nfs_attrs.specs.Encoding.{IsMoment, IsPostOpAttr, IsWcc, moment_text, post_op_attr_text, wcc_text}
use Rattle.nfs_args.specs.Encoding.{IsHandle, IsString, stability_number}
use Rattle.nfs_args.specs.declared.failed.Failed.{Failed}
use Rattle.nfs_args.specs.declared.found.Found.{Found}
use Rattle.nfs_args.specs.declared.rights.Rights.{Rights}
use Rattle.nfs_args.specs.declared.link_path.LinkPath.{LinkPath}
use Rattle.nfs_args.specs.declared.read_data.ReadData.{ReadData}
use Rattle.nfs_args.specs.declared.written.Written.{Written}
use Rattle.nfs_args.specs.declared.committed.Committed.{Committed}
use Rattle.nfs_args.specs.declared.made.Made.{Made}
use Rattle.nfs_args.specs.declared.renamed.Renamed.{Renamed}
use Rattle.nfs_args.specs.declared.linked.Linked.{Linked}
use Rattle.nfs_args.specs.declared.volume_space.Space.{Space}
use Rattle.nfs_args.specs.declared.volume_space.VolumeSpace.{VolumeSpace}
use Rattle.nfs_args.specs.declared.server_limits.Transfer.{Transfer}
use Rattle.nfs_args.specs.declared.server_limits.ServerLimits.{ServerLimits}
use Rattle.nfs_args.specs.declared.path_limits.PathLimits.{PathLimits}

-- ---- a status, and the arm that it has

-- nothing at all
pub record IsEmpty (value : Unit {0}) (text : List ℕ) : Type 0 where
  pub text_is : text ≡ []

abbrev pub empty_text : Unit {0} → List ℕ
empty_text value = []

-- a status other than 0, and what is shown all the same
pub record IsFailed {B : Type 0} (Shows : B → List ℕ → Type 0) (failed : Failed B) (text : List ℕ) : Type 0 where
  pub status : 0 < failed.status
  pub encoded : (IsNumber w32 failed.status ⨾ Shows failed.shown) text

abbrev pub failed_text : {B : Type 0} → (B → List ℕ) → Failed B → List ℕ
failed_text shown failed = to_be_bytes w32 failed.status ++ shown failed.shown

-- the status 0 and what was asked for, or a failure
abbrev pub IsResult : {A B : Type 0} → (A → List ℕ → Type 0) → (B → List ℕ → Type 0) → Result A (Failed B) → List ℕ → Type 0
IsResult Encodes Shows (Ok value) text = (IsNumber w32 0 ⨾ Encodes value) text
IsResult Encodes Shows (Err failed) text = IsFailed Shows failed text

abbrev pub result_text : {A B : Type 0} → (A → List ℕ) → (B → List ℕ) → Result A (Failed B) → List ℕ
result_text answer shown (Ok value) = to_be_bytes w32 0 ++ answer value
result_text answer shown (Err failed) = failed_text shown failed

-- what can be written: an answer that fits, or a failure whose status is one
abbrev pub ResultFits : {A B : Type 0} → (A → Type 0) → Result A (Failed B) → Type 0
ResultFits Fits (Ok value) = Fits value
ResultFits Fits (Err failed) = 0 < failed.status

abbrev pub AlwaysFits : {A : Type 0} → A → Type 0
AlwaysFits value = Unit {0}

-- ---- the arms of the status 0

abbrev pub boolean_text : Bool → List ℕ
boolean_text b = to_be_bytes w32 (number_of b)

-- strings, and other opaque data without a bound of its own
abbrev pub StringFits : List ℕ → Type 0
StringFits string = length string < 2 ^ 32

-- post_op_fh3
abbrev pub HandleFits : Option (List ℕ) → Type 0
HandleFits None = Unit {0}
HandleFits (Some handle) = length handle ≤ 64

-- LOOKUP3resok
abbrev pub IsFound : Found → List ℕ → Type 0
IsFound a = IsHandle a.file ⨾ IsPostOpAttr a.attributes ⨾ IsPostOpAttr a.dir

abbrev pub found_text : Found → List ℕ
found_text a = opaque_text a.file ++ post_op_attr_text a.attributes ++ post_op_attr_text a.dir

abbrev pub FoundFits : Found → Type 0
FoundFits a = length a.file ≤ 64

-- ACCESS3resok
abbrev pub IsRights : Rights → List ℕ → Type 0
IsRights a = IsPostOpAttr a.attributes ⨾ IsNumber w32 a.rights

abbrev pub rights_text : Rights → List ℕ
rights_text a = post_op_attr_text a.attributes ++ to_be_bytes w32 a.rights

-- READLINK3resok
abbrev pub IsLinkPath : LinkPath → List ℕ → Type 0
IsLinkPath a = IsPostOpAttr a.attributes ⨾ IsString a.path

abbrev pub link_path_text : LinkPath → List ℕ
link_path_text a = post_op_attr_text a.attributes ++ opaque_text a.path

abbrev pub LinkPathFits : LinkPath → Type 0
LinkPathFits a = StringFits a.path

-- READ3resok, whose count is the number of the bytes
abbrev pub IsReadData : ReadData → List ℕ → Type 0
IsReadData a = IsPostOpAttr a.attributes ⨾ IsNumber w32 (length a.content) ⨾ IsBoolean a.eof ⨾ IsString a.content

-- what stands in front of count bytes
abbrev pub read_head_text : Option Fattr → ℕ → Bool → List ℕ
read_head_text attributes count eof = post_op_attr_text attributes ++ (to_be_bytes w32 count ++ boolean_text eof ++ to_be_bytes w32 count)

-- the head and then any count bytes with their padding are an answer
abbrev pub BeginsReadData : Option Fattr → ℕ → Bool → Type 0
BeginsReadData attributes count eof = (content : List ℕ) → length content ≡ count
    → IsReadData (record { attributes = attributes; eof = eof; content = content }) (read_head_text attributes count eof
    ++ fixed_text content)

abbrev pub read_data_text : ReadData → List ℕ
read_data_text a = read_head_text a.attributes (length a.content) a.eof ++ fixed_text a.content

abbrev pub ReadDataFits : ReadData → Type 0
ReadDataFits a = StringFits a.content

-- WRITE3resok
abbrev pub IsWritten : Written → List ℕ → Type 0
IsWritten a = IsWcc a.file ⨾ IsNumber w32 a.count ⨾ IsEnum stability_number a.committed ⨾ IsNumber w64 a.verifier

abbrev pub written_text : Written → List ℕ
written_text a = wcc_text a.file ++ (to_be_bytes w32 a.count ++ to_be_bytes w32 (stability_number a.committed) ++ to_be_bytes w64 a.verifier)

-- COMMIT3resok
abbrev pub IsCommitted : Committed → List ℕ → Type 0
IsCommitted a = IsWcc a.file ⨾ IsNumber w64 a.verifier

abbrev pub committed_text : Committed → List ℕ
committed_text a = wcc_text a.file ++ to_be_bytes w64 a.verifier

-- CREATE3resok, MKDIR3resok, SYMLINK3resok and MKNOD3resok
abbrev pub IsMade : Made → List ℕ → Type 0
IsMade a = IsOptional IsHandle a.file ⨾ IsPostOpAttr a.attributes ⨾ IsWcc a.dir

abbrev pub made_text : Made → List ℕ
made_text a = optional_text opaque_text a.file ++ post_op_attr_text a.attributes ++ wcc_text a.dir

abbrev pub MadeFits : Made → Type 0
MadeFits a = HandleFits a.file

-- what RENAME3res has after its status
abbrev pub IsRenamed : Renamed → List ℕ → Type 0
IsRenamed a = IsWcc a.from ⨾ IsWcc a.to

abbrev pub renamed_text : Renamed → List ℕ
renamed_text a = wcc_text a.from ++ wcc_text a.to

-- what LINK3res has after its status
abbrev pub IsLinked : Linked → List ℕ → Type 0
IsLinked a = IsPostOpAttr a.attributes ⨾ IsWcc a.dir

abbrev pub linked_text : Linked → List ℕ
linked_text a = post_op_attr_text a.attributes ++ wcc_text a.dir

-- FSSTAT3resok, where the bytes stand before the files
abbrev pub IsSpace : Space → List ℕ → Type 0
IsSpace a = IsNumber w64 a.total ⨾ IsNumber w64 a.free ⨾ IsNumber w64 a.available

abbrev pub space_text : Space → List ℕ
space_text a = to_be_bytes w64 a.total ++ to_be_bytes w64 a.free ++ to_be_bytes w64 a.available

abbrev pub IsRoom : VolumeSpace → List ℕ → Type 0
IsRoom a = IsPostOpAttr a.attributes ⨾ IsSpace a.bytes ⨾ IsSpace a.files ⨾ IsNumber w32 a.invarsec

abbrev pub room_text : VolumeSpace → List ℕ
room_text a = post_op_attr_text a.attributes ++ (space_text a.bytes ++ space_text a.files ++ to_be_bytes w32 a.invarsec)

-- FSINFO3resok
abbrev pub IsTransfer : Transfer → List ℕ → Type 0
IsTransfer a = IsNumber w32 a.max ⨾ IsNumber w32 a.preferred ⨾ IsNumber w32 a.multiple

abbrev pub transfer_text : Transfer → List ℕ
transfer_text a = to_be_bytes w32 a.max ++ to_be_bytes w32 a.preferred ++ to_be_bytes w32 a.multiple

abbrev pub IsServerLimits : ServerLimits → List ℕ → Type 0
IsServerLimits a = IsPostOpAttr a.attributes ⨾ IsTransfer a.read ⨾ IsTransfer a.write ⨾ IsNumber w32 a.readdir
    ⨾ IsNumber w64 a.max_file_size ⨾ IsMoment a.time_delta ⨾ IsNumber w32 a.properties

abbrev pub server_limits_text : ServerLimits → List ℕ
server_limits_text a = post_op_attr_text a.attributes
    ++ (transfer_text a.read ++ transfer_text a.write ++ to_be_bytes w32 a.readdir ++ to_be_bytes w64 a.max_file_size
    ++ moment_text a.time_delta ++ to_be_bytes w32 a.properties)

-- PATHCONF3resok
abbrev pub IsPathLimits : PathLimits → List ℕ → Type 0
IsPathLimits a = IsPostOpAttr a.attributes ⨾ IsNumber w32 a.linkmax ⨾ IsNumber w32 a.name_max ⨾ IsBoolean a.no_trunc
    ⨾ IsBoolean a.chown_restricted ⨾ IsBoolean a.case_insensitive ⨾ IsBoolean a.case_preserving

abbrev pub path_limits_text : PathLimits → List ℕ
path_limits_text a = post_op_attr_text a.attributes
    ++ (to_be_bytes w32 a.linkmax ++ to_be_bytes w32 a.name_max ++ boolean_text a.no_trunc ++ boolean_text a.chown_restricted
    ++ boolean_text a.case_insensitive ++ boolean_text a.case_preserving)
