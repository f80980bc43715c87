-- What is written for a request is read back as its arguments.
use Rattle.std.specs.Prelude.{◌≡◌, ℕ, ◌<◌, ◌≤◌, ◌^◌, List, ◌++◌, length, Option, Some, None, Ok}
use Rattle.std.specs.List.{AllByRecursion}
use Rattle.nfs_attrs.specs.declared.sattr.Sattr.{Sattr}
use Rattle.nfs_attrs.specs.declared.time_setting.TimeSetting.{TimeSetting}
use Rattle.nfs_attrs.specs.declared.time_setting.TimeSetting.TheVariants.{Leave, ServerTime, ClientTime}
use Rattle.nfs_rpc.specs.AuthSys.{Credential, cred_at}
use Rattle.nfs_rpc.specs.Calls.{head_at}
use Rattle.nfs_args.specs.declared.procedure.Procedure.{Procedure}
use Rattle.nfs_args.specs.declared.args.NfsArgs.{NfsArgs}
use Rattle.nfs_args.specs.Reading.{args_at}
use Rattle.nfs_client.specs.Calls.{head_text, call_said, auth_sys_text}
use Rattle.nfs_client.specs.declared.call_header.CallHeader.{CallHeader}
use Rattle.nfs_client.specs.declared.file_request.FileRequest.{FileRequest}
use Rattle.nfs_client.specs.declared.file_request.FileRequest.TheVariants as of_file
use Rattle.nfs_client.specs.declared.name_request.NameRequest.{NameRequest}
use Rattle.nfs_client.specs.declared.name_request.NameRequest.TheVariants as of_name
use Rattle.nfs_client.specs.Requests.{file_procedure, file_args, file_text, name_procedure, name_args, name_text}

-- ---- numbers that fit into their items

abbrev pub IsWord : ℕ → Type 0
IsWord n = n < 2 ^ 32

abbrev pub IsHyper : ℕ → Type 0
IsHyper n = n < 2 ^ 64

abbrev pub IfGiven : (ℕ → Type 0) → Option ℕ → Type 0
IfGiven Fits None = Unit {0}
IfGiven Fits (Some n) = Fits n

abbrev pub TimeFits : TimeSetting → Type 0
TimeFits Leave = Unit {0}
TimeFits ServerTime = Unit {0}
TimeFits (ClientTime m) = IsWord m.seconds × IsWord m.nanos

pub record SattrFits (s : Sattr) : Type 0 where
  pub mode : IfGiven IsWord s.mode
  pub uid : IfGiven IsWord s.uid
  pub gid : IfGiven IsWord s.gid
  pub size : IfGiven IsHyper s.size
  pub atime : TimeFits s.atime
  pub mtime : TimeFits s.mtime

abbrev pub FileFits : FileRequest → Type 0
FileFits of_file.Stat = Unit {0}
FileFits (of_file.Set attributes) = SattrFits attributes
FileFits of_file.Access = Unit {0}
FileFits of_file.Readlink = Unit {0}
FileFits (of_file.Read offset count) = IsHyper offset × IsWord count
FileFits (of_file.Write offset digits) = IsHyper offset
FileFits (of_file.List cookie) = IsHyper cookie
FileFits (of_file.ListPlus cookie) = IsHyper cookie
FileFits of_file.Room = Unit {0}
FileFits of_file.Limits = Unit {0}
FileFits of_file.PathLimits = Unit {0}
FileFits of_file.Commit = Unit {0}

abbrev pub NameFits : NameRequest → Type 0
NameFits of_name.Lookup = Unit {0}
NameFits (of_name.Create attributes) = SattrFits attributes
NameFits (of_name.Mkdir attributes) = SattrFits attributes
NameFits (of_name.Symlink path) = length path.now < 2 ^ 32
NameFits of_name.Mknod = Unit {0}
NameFits of_name.Remove = Unit {0}
NameFits of_name.Rmdir = Unit {0}

-- ---- what is read back, whatever follows it

abbrev pub AreReadBack : Procedure → NfsArgs → List ℕ → Type 0
AreReadBack p args text = (rest : List ℕ) → args_at p (text ++ rest) ≡ Ok (args, rest)

abbrev pub FilesAreReadBack : Type 0
FilesAreReadBack = (r : FileRequest) (file content : List ℕ) → FileFits r → length file ≤ 64 → length content < 2 ^ 32
    → AreReadBack (file_procedure r) (file_args r file content) (file_text r file content)

abbrev pub NamesAreReadBack : Type 0
NamesAreReadBack = (r : NameRequest) (dir name : List ℕ) → NameFits r → length dir ≤ 64 → length name < 2 ^ 32
    → AreReadBack (name_procedure r) (name_args r dir name) (name_text r dir name)

pub record CallFits (call : CallHeader) : Type 0 where
  pub xid : IsWord call.xid
  pub program : IsWord call.program
  pub procedure : IsWord call.procedure

abbrev pub HeadsAreReadBack : Type 0
HeadsAreReadBack = (call : CallHeader) (body rest : List ℕ) → CallFits call → length body ≤ 400 → head_at (head_text call body ++ rest) ≡ Ok (call_said call body, rest)

pub record CredentialFits (cred : Credential) : Type 0 where
  pub uid : IsWord cred.uid
  pub gid : IsWord cred.gid
  pub few : length cred.gids ≤ 16
  pub gids : AllByRecursion IsWord cred.gids

abbrev pub CredentialsAreReadBack : Type 0
CredentialsAreReadBack = (cred : Credential) (rest : List ℕ) → CredentialFits cred → cred_at (auth_sys_text cred ++ rest) ≡ Ok (cred, rest)
