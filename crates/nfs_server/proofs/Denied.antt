-- Whether a call fails a rule, from its rules of RPC to what it asks for.
use Rattle.std.proofs.Common.{◌≡◌, ℕ, Bool, true, false, not, ◌&&◌, List, ◌++◌, Option, Some, None, is_some}
use Rattle.std.specs.List.{find}
use Rattle.nfs_args.specs.declared.args.NfsArgs.{NfsArgs}
use Rattle.nfs_args.specs.declared.mount_args.MountArgs.{MountArgs}
use Rattle.nfs_procs.specs.Scenes.{verdict_in}
use Rattle.nfs_reply_cache.specs.Places.{cached_reply}
use Rattle.nfs_rpc.specs.AuthSys.{caller, credential_of}
use Rattle.nfs_rpc.specs.Calls.{Call}
use Rattle.nfs_rpc.specs.declared.auth_sys.Cred.{Cred}
use Rattle.nfs_server.specs.Denying.{fails_by, fails_judged, fails_mount}
use Rattle.nfs_server.specs.Events.{Event}
use Rattle.nfs_server.specs.Fits.{Held}
use Rattle.nfs_server.specs.OneEvent.{scene_for}
use Rattle.nfs_server.specs.Requests.{Request, args_in, is_nfs, is_null, lacks_args, mount_args_in}
use Rattle.nfs_server.specs.Retransmissions.{key_of, may_change}
use Rattle.nfs_server.specs.RpcRules.{caller_rules, fails_rpc, head_rules}
use Rattle.nfs_server.specs.declared.rpc_rules.RpcRule.{RpcRule}
use Rattle.nfs_server.proofs.ByRules.{by_failure, by_later, by_mount, by_nfs, by_null, by_unread}
use Rattle.nfs_server.proofs.Judged.{call_rules}

module _ (s : Held) (event : Event) (call : Call) (bytes : List ℕ) where
  abbrev fails : List RpcRule → Bool
  fails rules = fails_by rules s event call bytes

  abbrev reply : Option (List ℕ)
  reply = cached_reply (key_of event) s.kept

  abbrev said : Option RpcRule → Option Request → Bool
  said failure request = fails_judged failure request reply s event

  -- one of the first rules fails
  pub fails_first : (rules later : List RpcRule) (rule : RpcRule) → find (fails_rpc call bytes) rules ≡ Some rule → true ≡ fails (rules ++ later)
  fails_first = by_failure said event call bytes

  -- none of them does
  pub fails_later : (rules later : List RpcRule) → find (fails_rpc call bytes) rules ≡ None → fails later ≡ fails (rules ++ later)
  fails_later = by_later said event call bytes

  -- the arguments can't be read
  pub fails_unread : is_null call ≡ false → find (fails_rpc call bytes) caller_rules ≡ None → lacks_args call bytes ≡ true → true ≡ fails call_rules
  fails_unread = by_unread said event call bytes

  -- something of NFS
  pub nfs_fails : (cred : Cred) (args : NfsArgs) → is_nfs call ≡ true → is_null call ≡ false → find (fails_rpc call bytes) caller_rules ≡ None → caller call.cred.body ≡ Some (credential_of cred) → args_in call.proc bytes ≡ Some args
      → (not (may_change args && is_some reply) && is_some (verdict_in (scene_for s event cred args))) ≡ fails call_rules
  nfs_fails cred args = by_nfs said event call bytes (credential_of cred) args

  -- something of MOUNT
  pub mount_fails : (args : MountArgs) → is_nfs call ≡ false → is_null call ≡ false → find (fails_rpc call bytes) caller_rules ≡ None → mount_args_in call.proc bytes ≡ Some args
      → fails_mount args s.state.tree s.setup.exports event.addr ≡ fails call_rules
  mount_fails = by_mount said event call bytes

  -- NULL
  pub null_fails : find (fails_rpc call bytes) head_rules ≡ None → is_null call ≡ true → false ≡ fails (head_rules ++ call_rules)
  null_fails = by_null said event call bytes s
