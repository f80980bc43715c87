-- The record of a call that is asked for, over a tree.
use Rattle.std.specs.Prelude.{◌≡◌, ℕ, Bool, true, false, ◌||◌, nat_lt, length, List, ◌++◌, Option, Some, None, Result, Ok, Err}
use Rattle.nfs_xdr.specs.Encoding.{opaque_text}
use Rattle.hex.specs.Hex.{decode_of}
use Rattle.nfs_rpc.specs.AuthSys.{Credential, credential_of}
use Rattle.nfs_args.specs.Procedures.{procedure_number, mount_number}
use Rattle.nfs_args.specs.Programs.{NFS, MOUNT}
use Rattle.nfs_args.specs.declared.procedure.Procedure.{Procedure}
use Rattle.nfs_args.specs.declared.procedure.Procedure.TheVariants as proc
use Rattle.nfs_args.specs.declared.procedure.MountProcedure.{MountProcedure}
use Rattle.nfs_args.specs.declared.procedure.MountProcedure.TheVariants as mount
use Rattle.nfs_inodes.specs.Tree.{Tree, on_some}
use Rattle.nfs_client.specs.declared.fault.CallFault.{CallFault}
use Rattle.nfs_client.specs.declared.fault.CallFault.TheVariants.{NoFile, TooLong, BadDigits, Memory}
use Rattle.nfs_client.specs.declared.caller.Caller as kept_caller
use Rattle.nfs_client.specs.declared.sender.Sender as kept_sender
use Rattle.nfs_client.specs.declared.sender.Named as kept_named
use Rattle.nfs_client.specs.declared.request.Request.{Request}
use Rattle.nfs_client.specs.declared.request.Request.TheVariants as request
use Rattle.nfs_client.specs.declared.file_request.FileRequest.{FileRequest}
use Rattle.nfs_client.specs.declared.name_request.NameRequest.{NameRequest}
use Rattle.nfs_client.specs.Calls.{head_text, auth_sys_text}
use Rattle.nfs_client.specs.Places.{ResolvedPath, place_at, file_at, handle_in}
use Rattle.nfs_client.specs.Requests.{digits_of, target_of, file_procedure, file_text, name_procedure, name_text, dir_op_text}

-- a call's number, and who calls
pub record Sent : Type 0 where
  pub xid : ℕ
  pub cred : Credential

abbrev pub sent_by : kept_sender.Sender → Sent
sent_by sender = record { xid = sender.xid; cred = credential_of sender.cred.now }

abbrev pub sent_of : kept_caller.Caller → Sent
sent_of caller = record { xid = caller.xid; cred = credential_of caller.cred.now }

-- the head of a call, by the numbers of the program and of the procedure
abbrev pub head_of : Sent → ℕ → ℕ → List ℕ
head_of s program procedure = head_text (record { xid = s.xid; program = program; procedure = procedure }) (auth_sys_text s.cred)

-- a call of NFS, and one of MOUNT
abbrev pub nfs_text : Sent → Procedure → List ℕ → List ℕ
nfs_text s p args = head_of s NFS (procedure_number p) ++ args

abbrev pub mount_text : Sent → MountProcedure → List ℕ → List ℕ
mount_text s p args = head_of s MOUNT (mount_number p) ++ args

-- ---- on files whose handles are known

abbrev pub on_ok : {X Y E : Type 0} → Result X E → (X → Option Y) → Option Y
on_ok (Ok x) f = f x
on_ok (Err e) f = None

abbrev pub file_call : Sent → List ℕ → FileRequest → Option (List ℕ)
file_call s file r = on_ok (decode_of (digits_of r)) (λ content. Some (nfs_text s (file_procedure r) (file_text r file content)))

-- by the handle of a directory and a name in it
abbrev pub name_call : Sent → List ℕ → List ℕ → NameRequest → List ℕ
name_call s dir name r = nfs_text s (name_procedure r) (name_text r dir name)

-- from a name in a directory to one in another
abbrev pub rename_call : Sent → List ℕ → List ℕ → List ℕ → List ℕ → List ℕ
rename_call s from from_name to to_name = nfs_text s proc.Rename (dir_op_text from from_name ++ dir_op_text to to_name)

abbrev pub link_call : Sent → List ℕ → List ℕ → List ℕ → List ℕ
link_call s file dir name = nfs_text s proc.Link (opaque_text file ++ dir_op_text dir name)

abbrev pub mount_record : Sent → MountProcedure → List ℕ → List ℕ
mount_record s p path = mount_text s p (opaque_text path)

abbrev pub exports_call : Sent → List ℕ
exports_call s = head_of s MOUNT (mount_number mount.Export)

-- ---- on files that paths name

-- the handle of the file that a path names
abbrev pub handle_of_path : Tree → List ℕ → Option (List ℕ)
handle_of_path t path = on_some (file_at t path) None (λ n. handle_in t n)

-- the handle of a directory, and a name in it
pub record Named : Type 0 where
  pub handle : List ℕ
  pub name : List ℕ

abbrev pub named_seen : kept_named.Named → Named
named_seen named = record { handle = named.handle; name = named.name.now }

abbrev pub named_at : Tree → ResolvedPath → Option Named
named_at t place = on_some (handle_in t place.dir) None (λ handle. Some (record { handle = handle; name = place.name }))

-- the directory that a path ends in, and the name that it ends with
abbrev pub name_of_path : Tree → List ℕ → Option Named
name_of_path t path = on_some (place_at t path) None (λ place. named_at t place)

-- ---- by what is asked for

abbrev pub file_record : Tree → Sent → List ℕ → FileRequest → Option (List ℕ)
file_record t s path r = on_some (handle_of_path t path) None (λ file. file_call s file r)

abbrev pub name_record : Tree → Sent → List ℕ → NameRequest → Option (List ℕ)
name_record t s path r = on_some (name_of_path t path) None (λ named. Some (name_call s named.handle named.name r))

abbrev pub rename_record : Tree → Sent → List ℕ → List ℕ → Option (List ℕ)
rename_record t s path to = on_some (name_of_path t path) None (λ one. on_some (name_of_path t to) None (λ two.
    Some (rename_call s one.handle one.name two.handle two.name)))

abbrev pub link_record : Tree → Sent → List ℕ → List ℕ → Option (List ℕ)
link_record t s path name = on_some (handle_of_path t path) None (λ file. on_some (name_of_path t name) None (λ to.
    Some (link_call s file to.handle to.name)))

abbrev pub record_in : Tree → Sent → List ℕ → Request → Option (List ℕ)
record_in t s path (request.File r) = file_record t s path r
record_in t s path (request.Name r) = name_record t s path r
record_in t s path (request.Rename to) = rename_record t s path to.now
record_in t s path (request.Link name) = link_record t s path name.now
record_in t s path request.Mount = Some (mount_record s mount.Mount path)
record_in t s path request.Unmount = Some (mount_record s mount.Unmount path)

-- ---- faults

-- whether a name, a path or bytes are longer than any that is written
abbrev pub is_long : List ℕ → Bool
is_long bytes = nat_lt 262144 (length bytes)

abbrev pub has_long_name : Tree → List ℕ → Bool
has_long_name t path = on_some (name_of_path t path) false (λ named. is_long named.name)

abbrev pub is_long_content : {E : Type 0} → Result (List ℕ) E → Bool
is_long_content (Ok content) = is_long content
is_long_content (Err e) = false

-- whether what is asked for has such a part
abbrev pub has_long_part : Tree → List ℕ → Request → Bool
has_long_part t path (request.File r) = is_long_content (decode_of (digits_of r))
has_long_part t path (request.Name r) = has_long_name t path || is_long (target_of r)
has_long_part t path (request.Rename to) = has_long_name t path || has_long_name t to.now
has_long_part t path (request.Link name) = has_long_name t name.now
has_long_part t path request.Mount = is_long path
has_long_part t path request.Unmount = is_long path

-- a fault other than of memory comes only where there is nothing, or a part that is too long
abbrev pub OnlyWithout : {A : Type 0} → Option A → Bool → CallFault → Type 0
OnlyWithout wanted long (NoFile part) = wanted ≡ None
OnlyWithout wanted long (TooLong part) = long ≡ true
OnlyWithout wanted long BadDigits = wanted ≡ None
OnlyWithout wanted long Memory = Unit {0}

-- the value, if there is one
abbrev pub ok_of : {A E : Type 0} → Result A E → Option A
ok_of (Ok x) = Some x
ok_of (Err e) = None

abbrev pub IsFileFault : Tree → Sent → List ℕ → FileRequest → CallFault → Type 0
IsFileFault t s path r = OnlyWithout (file_record t s path r) (has_long_part t path (request.File r))

abbrev pub IsNameFault : Tree → Sent → List ℕ → NameRequest → CallFault → Type 0
IsNameFault t s path r = OnlyWithout (name_record t s path r) (has_long_part t path (request.Name r))

abbrev pub IsRenameFault : Tree → Sent → List ℕ → List ℕ → CallFault → Type 0
IsRenameFault t s path to = OnlyWithout (rename_record t s path to) (has_long_name t path || has_long_name t to)

abbrev pub IsLinkFault : Tree → Sent → List ℕ → List ℕ → CallFault → Type 0
IsLinkFault t s path name = OnlyWithout (link_record t s path name) (has_long_name t name)

abbrev pub IsNamedFault : Tree → List ℕ → CallFault → Type 0
IsNamedFault t path = OnlyWithout (name_of_path t path) (has_long_name t path)

-- why a record can't be written
abbrev pub IsRecordFault : Tree → Sent → List ℕ → Request → CallFault → Type 0
IsRecordFault t s path r = OnlyWithout (record_in t s path r) (has_long_part t path r)
