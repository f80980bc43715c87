-- What is said of a call by the first rule of RPC that fails and by what it asks for, from its rules to that.
use Rattle.std.proofs.Common.{◌≡◌, ℕ, true, false, List, [], ◌∷◌, ◌++◌, Option, Some, None, is_none, sym, ap, ◌∙◌}
use Rattle.std.specs.List.{find}
use Rattle.nfs_args.specs.declared.args.NfsArgs.{NfsArgs}
use Rattle.nfs_args.specs.declared.mount_args.MountArgs.{MountArgs}
use Rattle.nfs_rpc.specs.AuthSys.{Credential, caller}
use Rattle.nfs_rpc.specs.Calls.{Call}
use Rattle.nfs_server.specs.Events.{Event}
use Rattle.nfs_server.specs.Fits.{Held}
use Rattle.nfs_server.specs.Requests.{Request, Nothing, OfNfs, OfMount, args_in, is_nfs, is_null, lacks_args, mount_args_in, request_of}
use Rattle.nfs_server.specs.RpcRules.{caller_rules, fails_rpc, head_rules}
use Rattle.nfs_server.specs.declared.rpc_rules.RpcRule.{RpcRule}
use Rattle.nfs_server.specs.declared.rpc_rules.RpcRule.TheVariants.{Arguments}
use Rattle.nfs_server.proofs.Judged.{by_arguments, call_rules, find_after, find_before, mount_asked, mount_lacks, nfs_asked, nfs_lacks, null_passes, requests}

module _ {X : Type 0} (said : Option RpcRule → Option Request → X) (event : Event) (call : Call) (bytes : List ℕ) where
  abbrev by_first : Option RpcRule → X
  by_first failure = said failure (request_of event.addr call bytes)

  abbrev by : List RpcRule → X
  by rules = by_first (find (fails_rpc call bytes) rules)

  -- one of the first rules fails
  pub by_failure : (rules later : List RpcRule) (rule : RpcRule) → find (fails_rpc call bytes) rules ≡ Some rule → by_first (Some rule) ≡ by (rules ++ later)
  by_failure rules later rule found = ap by_first (sym (find_before (fails_rpc call bytes) rule rules later found))

  -- none of them does
  pub by_later : (rules later : List RpcRule) → find (fails_rpc call bytes) rules ≡ None → by later ≡ by (rules ++ later)
  by_later rules later kept = ap by_first (sym (find_after (fails_rpc call bytes) rules later kept))

  -- the arguments can't be read
  pub by_unread : is_null call ≡ false → find (fails_rpc call bytes) caller_rules ≡ None → lacks_args call bytes ≡ true → by_first (Some Arguments) ≡ by call_rules
  by_unread other known lacks = ap by_first (sym (by_arguments call bytes true other lacks)) ∙ by_later caller_rules (Arguments ∷ []) known

  -- no rule of RPC fails, and this is asked for
  by_request : (request : Request) → is_null call ≡ false → find (fails_rpc call bytes) caller_rules ≡ None → lacks_args call bytes ≡ false → request_of event.addr call bytes ≡ Some request
      → said None (Some request) ≡ by call_rules
  by_request request other known lacks request_is = ap (said None) (sym request_is) ∙ ap by_first (sym (by_arguments call bytes false other lacks)) ∙ by_later caller_rules (Arguments ∷ []) known

  -- something of NFS
  pub by_nfs : (cred : Credential) (args : NfsArgs) → is_nfs call ≡ true → is_null call ≡ false → find (fails_rpc call bytes) caller_rules ≡ None → caller call.cred.body ≡ Some cred → args_in call.proc bytes ≡ Some args
      → said None (Some (OfNfs (record { addr = event.addr; cred = cred }) args)) ≡ by call_rules
  by_nfs cred args nfs other known cred_is args_is = by_request (OfNfs (record { addr = event.addr; cred = cred }) args) other known (nfs_lacks call bytes nfs ∙ ap is_none args_is)
      (nfs_asked event call bytes cred args nfs other cred_is args_is)

  -- something of MOUNT
  pub by_mount : (args : MountArgs) → is_nfs call ≡ false → is_null call ≡ false → find (fails_rpc call bytes) caller_rules ≡ None → mount_args_in call.proc bytes ≡ Some args
      → said None (Some (OfMount args)) ≡ by call_rules
  by_mount args mount other known args_is = by_request (OfMount args) other known (mount_lacks call bytes mount ∙ ap is_none args_is) (mount_asked event call bytes args mount other args_is)

  -- NULL
  pub by_null : (s : Held) → find (fails_rpc call bytes) head_rules ≡ None → is_null call ≡ true → said None (Some Nothing) ≡ by (head_rules ++ call_rules)
  by_null s kept null =
      let asked : request_of event.addr call bytes ≡ Some Nothing = ap (λ b. requests b (is_nfs call) event call bytes) null in
      ap (said None) (sym asked) ∙ ap by_first (sym (null_passes s event call bytes null)) ∙ by_later head_rules call_rules kept
