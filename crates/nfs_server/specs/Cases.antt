-- Cases of the definitions that no call comes to.
use Rattle.std.specs.Prelude.{◌≡◌, ℕ, List, Some, None, IsSome}
use Rattle.nfs_handles.specs.Handles.{handle_at}
use Rattle.nfs_inodes.specs.Tree.{Tree}
use Rattle.nfs_inodes.specs.Law.{Law}
use Rattle.nfs_inodes.specs.Reading.{number_under, numbered_files}
use Rattle.nfs_rpc.specs.Calls.{Call}
use Rattle.nfs_exports.specs.declared.addr.Addr.{Addr}
use Rattle.nfs_server.specs.Requests.{request_of}
use Rattle.nfs_server.specs.RpcRules.{rpc_failure_of}

-- Where no rule of RPC fails, a call can be read.
abbrev pub CallsCanBeRead : Type 0
CallsCanBeRead = (addr : Addr) (call : Call) (bytes : List ℕ) → rpc_failure_of call bytes ≡ None → IsSome (request_of addr call bytes)

-- What a lawful tree finds under a name has a handle.
abbrev pub FoundHasHandle : Type 0
FoundHasHandle = (t : Tree) (d n : ℕ) (name : List ℕ) → Law t → number_under t d name ≡ Some n → IsSome (handle_at (numbered_files t) n)
