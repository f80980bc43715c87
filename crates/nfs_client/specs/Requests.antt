-- What is asked for, and which bytes are written for it (RFC 1813, section 3.3).
use Rattle.std.specs.Prelude.{ℕ, List, [], ◌∷◌, ◌++◌, length, None}
use Rattle.std.specs.Int.{w32, w64, to_be_bytes}
use Rattle.nfs_xdr.specs.Encoding.{opaque_text, numbers_text}
use Rattle.nfs_attrs.specs.declared.sattr.Sattr.{Sattr}
use Rattle.nfs_attrs.specs.declared.time_setting.TimeSetting.TheVariants.{Leave}
use Rattle.nfs_attrs.specs.Encoding.{sattr_text}
use Rattle.nfs_args.specs.declared.procedure.Procedure.{Procedure}
use Rattle.nfs_args.specs.declared.procedure.Procedure.TheVariants as proc
use Rattle.nfs_args.specs.declared.args.NfsArgs.{NfsArgs}
use Rattle.nfs_args.specs.declared.args.NfsArgs.TheVariants as asked
use Rattle.nfs_args.specs.declared.write.Stability.TheVariants.{Unstable}
use Rattle.nfs_client.specs.declared.file_request.FileRequest.{FileRequest}
use Rattle.nfs_args.specs.declared.create.CreateHow.TheVariants.{Unchecked}
use Rattle.nfs_args.specs.declared.dir_op.DirOp.{DirOp}
use Rattle.nfs_args.specs.declared.mknod.NodeData.TheVariants.{Fifo}
use Rattle.nfs_client.specs.declared.file_request.FileRequest.TheVariants as of_file
use Rattle.nfs_client.specs.declared.name_request.NameRequest.{NameRequest}
use Rattle.nfs_client.specs.declared.name_request.NameRequest.TheVariants as of_name

-- ---- of a file

abbrev pub file_procedure : FileRequest → Procedure
file_procedure of_file.Stat = proc.Getattr
file_procedure (of_file.Set attributes) = proc.Setattr
file_procedure of_file.Access = proc.Access
file_procedure of_file.Readlink = proc.Readlink
file_procedure (of_file.Read offset count) = proc.Read
file_procedure (of_file.Write offset digits) = proc.Write
file_procedure (of_file.List cookie) = proc.Readdir
file_procedure (of_file.ListPlus cookie) = proc.Readdirplus
file_procedure of_file.Room = proc.Fsstat
file_procedure of_file.Limits = proc.Fsinfo
file_procedure of_file.PathLimits = proc.Pathconf
file_procedure of_file.Commit = proc.Commit

-- the digits of a WRITE
abbrev pub digits_of : FileRequest → List ℕ
digits_of of_file.Stat = []
digits_of (of_file.Set attributes) = []
digits_of of_file.Access = []
digits_of of_file.Readlink = []
digits_of (of_file.Read offset count) = []
digits_of (of_file.Write offset digits) = digits.now
digits_of (of_file.List cookie) = []
digits_of (of_file.ListPlus cookie) = []
digits_of of_file.Room = []
digits_of of_file.Limits = []
digits_of of_file.PathLimits = []
digits_of of_file.Commit = []

-- the verifier of a first page
abbrev pub no_verifier : List ℕ
no_verifier = 0 ∷ 0 ∷ 0 ∷ 0 ∷ 0 ∷ 0 ∷ 0 ∷ 0 ∷ []

-- the arguments, for a file of this handle; a WRITE is of these bytes
abbrev pub file_args : FileRequest → List ℕ → List ℕ → NfsArgs
file_args of_file.Stat file content = asked.Getattr file
file_args (of_file.Set attributes) file content = asked.Setattr (record { file = file; attributes = attributes; guard = None })
file_args of_file.Access file content = asked.Access (record { file = file; rights = 63 })
file_args of_file.Readlink file content = asked.Readlink file
file_args (of_file.Read offset count) file content = asked.Read (record { file = file; offset = offset; count = count })
file_args (of_file.Write offset digits) file content = asked.Write (record { file = file; offset = offset; stable = Unstable; content = content })
file_args (of_file.List cookie) file content = asked.Readdir (record { dir = file; cookie = cookie; verifier = no_verifier; count = 4096 })
file_args (of_file.ListPlus cookie) file content =
    asked.Readdirplus (record { dir = file; cookie = cookie; verifier = no_verifier; dircount = 4096; maxcount = 4096 })
file_args of_file.Room file content = asked.Fsstat file
file_args of_file.Limits file content = asked.Fsinfo file
file_args of_file.PathLimits file content = asked.Pathconf file
file_args of_file.Commit file content = asked.Commit (record { file = file; offset = 0; count = 0 })

-- what stands after the handle
abbrev pub file_rest : FileRequest → List ℕ → List ℕ
file_rest of_file.Stat content = []
file_rest (of_file.Set attributes) content = sattr_text attributes ++ to_be_bytes w32 0
file_rest of_file.Access content = to_be_bytes w32 63
file_rest of_file.Readlink content = []
file_rest (of_file.Read offset count) content = to_be_bytes w64 offset ++ to_be_bytes w32 count
file_rest (of_file.Write offset digits) content = to_be_bytes w64 offset ++ (numbers_text (length content ∷ 0 ∷ []) ++ opaque_text content)
file_rest (of_file.List cookie) content = to_be_bytes w64 cookie ++ numbers_text (0 ∷ 0 ∷ 4096 ∷ [])
file_rest (of_file.ListPlus cookie) content = to_be_bytes w64 cookie ++ numbers_text (0 ∷ 0 ∷ 4096 ∷ 4096 ∷ [])
file_rest of_file.Room content = []
file_rest of_file.Limits content = []
file_rest of_file.PathLimits content = []
file_rest of_file.Commit content = numbers_text (0 ∷ 0 ∷ 0 ∷ [])

abbrev pub file_text : FileRequest → List ℕ → List ℕ → List ℕ
file_text request file content = opaque_text file ++ file_rest request content

-- ---- of a name in a directory

abbrev pub name_procedure : NameRequest → Procedure
name_procedure of_name.Lookup = proc.Lookup
name_procedure (of_name.Create attributes) = proc.Create
name_procedure (of_name.Mkdir attributes) = proc.Mkdir
name_procedure (of_name.Symlink path) = proc.Symlink
name_procedure of_name.Mknod = proc.Mknod
name_procedure of_name.Remove = proc.Remove
name_procedure of_name.Rmdir = proc.Rmdir

-- no attribute at all
abbrev pub nothing : Sattr
nothing = record { mode = None; uid = None; gid = None; size = None; atime = Leave; mtime = Leave }

abbrev pub nothing_text : List ℕ
nothing_text = numbers_text (0 ∷ 0 ∷ 0 ∷ 0 ∷ 0 ∷ 0 ∷ [])

-- what a link is to hold
abbrev pub target_of : NameRequest → List ℕ
target_of of_name.Lookup = []
target_of (of_name.Create attributes) = []
target_of (of_name.Mkdir attributes) = []
target_of (of_name.Symlink path) = path.now
target_of of_name.Mknod = []
target_of of_name.Remove = []
target_of of_name.Rmdir = []

-- a name in the directory of this handle
abbrev pub named_in : List ℕ → List ℕ → DirOp
named_in dir name = record { dir = dir; name = name }

abbrev pub name_args : NameRequest → List ℕ → List ℕ → NfsArgs
name_args of_name.Lookup dir name = asked.Lookup (named_in dir name)
name_args (of_name.Create attributes) dir name = asked.Create (record { place = named_in dir name; how = Unchecked attributes })
name_args (of_name.Mkdir attributes) dir name = asked.Mkdir (record { place = named_in dir name; attributes = attributes })
name_args (of_name.Symlink path) dir name = asked.Symlink (record { place = named_in dir name; attributes = nothing; path = path.now })
name_args of_name.Mknod dir name = asked.Mknod (record { place = named_in dir name; node = Fifo nothing })
name_args of_name.Remove dir name = asked.Remove (named_in dir name)
name_args of_name.Rmdir dir name = asked.Rmdir (named_in dir name)

abbrev pub name_rest : NameRequest → List ℕ
name_rest of_name.Lookup = []
name_rest (of_name.Create attributes) = to_be_bytes w32 0 ++ sattr_text attributes
name_rest (of_name.Mkdir attributes) = sattr_text attributes
name_rest (of_name.Symlink path) = nothing_text ++ opaque_text path.now
name_rest of_name.Mknod = to_be_bytes w32 7 ++ nothing_text
name_rest of_name.Remove = []
name_rest of_name.Rmdir = []

abbrev pub dir_op_text : List ℕ → List ℕ → List ℕ
dir_op_text dir name = opaque_text dir ++ opaque_text name

abbrev pub name_text : NameRequest → List ℕ → List ℕ → List ℕ
name_text request dir name = dir_op_text dir name ++ name_rest request
