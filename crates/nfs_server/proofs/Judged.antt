-- Calls, from their rules of RPC to what they ask for.
use Rattle.std.proofs.Common.{◌≡◌, ℕ, Bool, true, false, cond, not, ◌&&◌, ◌||◌, List, [], ◌∷◌, ◌++◌, Option, Some, None, is_none, refl, sym, ap, subst, ◌∙◌, append-nil}
use Rattle.std.specs.Prelude.{Result, nat_eq}
use Rattle.std.specs.List.{find}
use Rattle.std.specs.Option.{option_or}
use Rattle.std.proofs.lemmas.List.Folds.{find-append}
use Rattle.std.specs.Option.{option_map}
use Rattle.nfs_args.specs.declared.args.NfsArgs.{NfsArgs}
use Rattle.nfs_args.specs.declared.mount_args.MountArgs.{MountArgs}
use Rattle.nfs_reply_cache.specs.Places.{Place, cached_reply}
use Rattle.nfs_rpc.specs.AuthSys.{Credential, caller, credential_of}
use Rattle.nfs_rpc.specs.declared.auth_sys.Cred.{Cred}
use Rattle.nfs_rules.specs.Subjects.{Caller}
use Rattle.nfs_rpc.specs.Calls.{Call}
use Rattle.nfs_rpc.specs.Replies.{accepted_text}
use Rattle.nfs_rpc.specs.declared.call.RpcFault.{RpcFault}
use Rattle.nfs_rpc.specs.declared.reply.Accept.TheVariants.{Success}
use Rattle.nfs_server.specs.AuditLines.{line_of}
use Rattle.nfs_server.specs.Events.{Event, Answer, Choice, granted, denied}
use Rattle.nfs_server.specs.Fits.{Held}
use Rattle.nfs_server.specs.OneEvent.{AnswersBy, AnswersCalled, AnswersChange, AnswersJudged, AnswersCached, AnswersMount, PerformsAnew, scene_for}
use Rattle.nfs_server.specs.Retransmissions.{calls_change, key_of, may_change}
use Rattle.nfs_server.specs.Requests.{Request, Nothing, OfNfs, OfMount, args_in, asked, is_nfs, is_null, lacks_args, mount_args_in, request_of}
use Rattle.nfs_server.specs.RpcRules.{AUTH_NONE, AUTH_SYS, caller_rules, fails_rpc, head_rules, rpc_reply}
use Rattle.nfs_server.specs.InMemory.{reported}
use Rattle.nfs_server.specs.Steps.{Called, MountPerformed, Requested, State}
use Rattle.nfs_server.specs.declared.audit_line.AuditLine.{AuditLine}
use Rattle.nfs_server.specs.declared.audit_line.DenialReason.TheVariants as reason
use Rattle.nfs_server.specs.declared.rpc_rules.RpcRule.{RpcRule}
use Rattle.nfs_server.specs.declared.rpc_rules.RpcRule.TheVariants.{Arguments, Flavor, WeakCredential, Credential as RpcCredential}
use Rattle.nfs_server.proofs.Performed.{with_memory}

-- ---- the line that was held before

any_line_before : (changes : Bool) (reply : Option (List ℕ)) (Anew : Type 0) (old : Held) (line : Option AuditLine) (event : Event) (answer : Answer) (new : State) (kept : List Place)
    → AnswersCached changes reply Anew (record old { line = line }) event answer new kept → AnswersCached changes reply Anew old event answer new kept
any_line_before false reply Anew old line event answer new kept a = a
any_line_before true (Some reply) Anew old line event answer new kept a = a
any_line_before true None Anew old line event answer new kept a = a

-- what is answered doesn't hang on the line that the server holds
pub whatever_line : (head : Result (Call × List ℕ) RpcFault) (old : Held) (line : Option AuditLine) (event : Event) (answer : Answer) (new : Held)
    → AnswersCalled head (record old { line = line }) event answer new → AnswersCalled head old event answer new
whatever_line head old line event answer new a =
    (a.0, any_line_before (calls_change event.addr head) (cached_reply (key_of event) old.kept) (Called head old.setup old.state event a.0 answer new.state) old line event answer new.state new.kept a.1)

-- ---- the first of a list that fails

-- where none of the first ones fails, those after them decide
pub find_after : (p : RpcRule → Bool) (xs ys : List RpcRule) → find p xs ≡ None → find p (xs ++ ys) ≡ find p ys
find_after p xs ys none = find-append p xs ys ∙ ap (λ o. option_or o (find p ys)) none

-- where one of the first ones fails, it is the first
pub find_before : (p : RpcRule → Bool) (x : RpcRule) (xs ys : List RpcRule) → find p xs ≡ Some x → find p (xs ++ ys) ≡ Some x
find_before p x xs ys found = find-append p xs ys ∙ ap (λ o. option_or o (find p ys)) found

-- ---- what a call asks for

abbrev pub call_rules : List RpcRule
call_rules = caller_rules ++ Arguments ∷ []

-- what a call asks for by whether it is NULL, and whether it is of NFS
abbrev pub requests : Bool → Bool → Event → Call → List ℕ → Option Request
requests null nfs event call bytes = cond null (Some Nothing) (cond nfs (asked event.addr (caller call.cred.body) (args_in call.proc bytes)) (option_map OfMount (mount_args_in call.proc bytes)))

pub nfs_asked : (event : Event) (call : Call) (bytes : List ℕ) (cred : Credential) (args : NfsArgs) → is_nfs call ≡ true → is_null call ≡ false → caller call.cred.body ≡ Some cred → args_in call.proc bytes ≡ Some args
    → request_of event.addr call bytes ≡ Some (OfNfs (record { addr = event.addr; cred = cred }) args)
nfs_asked event call bytes cred args nfs other cred_is args_is =
    ap (λ b. requests b (is_nfs call) event call bytes) other ∙ ap (λ b. requests false b event call bytes) nfs
    ∙ ap (λ o. asked event.addr o (args_in call.proc bytes)) cred_is ∙ ap (asked event.addr (Some cred)) args_is

pub mount_asked : (event : Event) (call : Call) (bytes : List ℕ) (args : MountArgs) → is_nfs call ≡ false → is_null call ≡ false → mount_args_in call.proc bytes ≡ Some args
    → request_of event.addr call bytes ≡ Some (OfMount args)
mount_asked event call bytes args mount other args_is =
    ap (λ b. requests b (is_nfs call) event call bytes) other ∙ ap (λ b. requests false b event call bytes) mount ∙ ap (option_map OfMount) args_is

-- whether its arguments can be read
pub nfs_lacks : (call : Call) (bytes : List ℕ) → is_nfs call ≡ true → lacks_args call bytes ≡ is_none (args_in call.proc bytes)
nfs_lacks call bytes nfs = ap (λ b. cond b (is_none (args_in call.proc bytes)) (is_none (mount_args_in call.proc bytes))) nfs

pub mount_lacks : (call : Call) (bytes : List ℕ) → is_nfs call ≡ false → lacks_args call bytes ≡ is_none (mount_args_in call.proc bytes)
mount_lacks call bytes mount = ap (λ b. cond b (is_none (args_in call.proc bytes)) (is_none (mount_args_in call.proc bytes))) mount

pub by_arguments : (call : Call) (bytes : List ℕ) (b : Bool) → is_null call ≡ false → lacks_args call bytes ≡ b → find (fails_rpc call bytes) (Arguments ∷ []) ≡ cond b (Some Arguments) None
by_arguments call bytes b other lacks = ap (λ n. cond (not n && lacks_args call bytes) (Some Arguments) None) other ∙ ap (λ l. cond l (Some Arguments) None) lacks

-- the same call, read once more
pub of_copy : (rules : List RpcRule) (old : Held) (event : Event) (copy call : Call) (again bytes : List ℕ) (answer : Answer) (new : Held) → copy ≡ call → again ≡ bytes
    → AnswersBy rules old event copy again answer new → AnswersBy rules old event call bytes answer new
of_copy rules old event copy call again bytes answer new same_call same_bytes answers =
    subst (λ k. AnswersBy rules old event k bytes answer new) same_call (subst (λ b. AnswersBy rules old event copy b answer new) same_bytes answers)

-- ---- the rules, one part after another

module _ (old : Held) (event : Event) (call : Call) (bytes : List ℕ) where
  abbrev Answered : List RpcRule → Answer → Held → Type 0
  Answered rules answer new = AnswersBy rules old event call bytes answer new

  -- a rule fails
  pub denied_by : (rules later : List RpcRule) (rule : RpcRule) (reply : List ℕ) (new : Held) → find (fails_rpc call bytes) rules ≡ Some rule
      → reply ≡ rpc_reply rule call.xid → new ≡ record old { line = Some (line_of event.addr call (reason.Rpc rule)) }
      → Answered (rules ++ later) (reported reply new.line) new
  denied_by rules later rule reply new found reply_is new_is =
      let line = line_of event.addr call (reason.Rpc rule) in
      subst (λ n. Answered (rules ++ later) (reported reply n.line) n) (sym new_is)
      (subst (λ v. AnswersJudged v (request_of event.addr call bytes) old event call (reported reply (Some line)) (record old { line = Some line })) (sym (find_before (fails_rpc call bytes) rule rules later found))
      (with_memory, ((ap (λ r. denied r line) reply_is, refl), refl)))

  -- the arguments can't be read
  pub denied_unread : (reply : List ℕ) (new : Held) → is_null call ≡ false → find (fails_rpc call bytes) caller_rules ≡ None → lacks_args call bytes ≡ true
      → reply ≡ rpc_reply Arguments call.xid → new ≡ record old { line = Some (line_of event.addr call (reason.Rpc Arguments)) }
      → Answered call_rules (reported reply new.line) new
  denied_unread reply new other known lacks reply_is new_is =
      subst (λ v. AnswersJudged v (request_of event.addr call bytes) old event call (reported reply new.line) new) (sym (find_after (fails_rpc call bytes) caller_rules (Arguments ∷ []) known))
      (denied_by (Arguments ∷ []) [] Arguments reply new (by_arguments call bytes true other lacks) reply_is new_is)

  -- no rule fails, and this is asked for
  asked_so : (request : Request) (answer : Answer) (new : Held) → is_null call ≡ false → find (fails_rpc call bytes) caller_rules ≡ None → lacks_args call bytes ≡ false → request_of event.addr call bytes ≡ Some request
      → AnswersJudged None (Some request) old event call answer new → Answered call_rules answer new
  asked_so request answer new other known lacks request_is answers =
      let none = find_after (fails_rpc call bytes) caller_rules (Arguments ∷ []) known ∙ by_arguments call bytes false other lacks in
      subst (λ v. AnswersJudged v (request_of event.addr call bytes) old event call answer new) (sym none)
      (subst (λ r. AnswersJudged None r old event call answer new) (sym request_is) answers)

  module _ (cred : Cred) (args : NfsArgs) (answer : Answer) (new : Held) where
    abbrev Caller_ : Caller
    Caller_ = record { addr = event.addr; cred = credential_of cred }

    abbrev Anew : Type 0
    Anew = PerformsAnew (scene_for old event cred args) call answer old new

    abbrev Asks : Choice → Type 0
    Asks choice = Requested (Some (OfNfs Caller_ args)) old.setup old.state event call choice answer new.state

    -- by the reply that is kept
    by_kept : (o : Option (List ℕ)) → AnswersCached true o Anew old event answer new.state new.kept → (choice : Choice) × AnswersCached true o (Asks choice) old event answer new.state new.kept
    by_kept (Some reply) a = (with_memory, a)
    by_kept None a = (a.0.0.0, ((a.0.0.1, a.0.1), a.1))

    -- something of NFS that may change the tree
    pub change_requested : is_nfs call ≡ true → is_null call ≡ false → find (fails_rpc call bytes) caller_rules ≡ None → caller call.cred.body ≡ Some (credential_of cred) → args_in call.proc bytes ≡ Some args
        → may_change args ≡ true → AnswersChange (scene_for old event cred args) call old event answer new → Answered call_rules answer new
    change_requested nfs other known cred_is args_is changes a =
        let by = by_kept (cached_reply (key_of event) old.kept) a in
        asked_so (OfNfs Caller_ args) answer new other known (nfs_lacks call bytes nfs ∙ ap is_none args_is) (nfs_asked event call bytes (credential_of cred) args nfs other cred_is args_is)
        (by.0, subst (λ b. AnswersCached b (cached_reply (key_of event) old.kept) (Asks by.0) old event answer new.state new.kept) (sym changes) by.1)

    -- something else of NFS
    pub anew_requested : is_nfs call ≡ true → is_null call ≡ false → find (fails_rpc call bytes) caller_rules ≡ None → caller call.cred.body ≡ Some (credential_of cred) → args_in call.proc bytes ≡ Some args
        → may_change args ≡ false → Anew → new.kept ≡ old.kept → Answered call_rules answer new
    anew_requested nfs other known cred_is args_is changes a kept =
        let p = a.0 in
        asked_so (OfNfs Caller_ args) answer new other known (nfs_lacks call bytes nfs ∙ ap is_none args_is) (nfs_asked event call bytes (credential_of cred) args nfs other cred_is args_is)
        (p.0, subst (λ b. AnswersCached b (cached_reply (key_of event) old.kept) (Asks p.0) old event answer new.state new.kept) (sym changes) ((p.1, a.1), kept))

  -- something of MOUNT
  pub mount_requested : (args : MountArgs) (answer : Answer) (new : Held) → is_nfs call ≡ false → is_null call ≡ false → find (fails_rpc call bytes) caller_rules ≡ None → mount_args_in call.proc bytes ≡ Some args
      → new.state.tree ≡ old.state.tree → new.kept ≡ old.kept → AnswersMount args old.setup.exports old.state event.addr call answer new.state.mounts → Answered call_rules answer new
  mount_requested args answer new mount other known args_is tree kept performed =
      asked_so (OfMount args) answer new other known (mount_lacks call bytes mount ∙ ap is_none args_is) (mount_asked event call bytes args mount other args_is)
      (performed.0, (subst (λ t. MountPerformed args old.setup.exports old.state event.addr call performed.0 answer (record { tree = t; mounts = new.state.mounts })) (sym tree) performed.1, kept))

  -- the rules of the head are kept
  pub admitted : (answer : Answer) (new : Held) → find (fails_rpc call bytes) head_rules ≡ None → Answered call_rules answer new → Answered (head_rules ++ call_rules) answer new
  admitted answer new kept answered = subst (λ v. AnswersJudged v (request_of event.addr call bytes) old event call answer new) (sym (find_after (fails_rpc call bytes) head_rules call_rules kept)) answered

  pub null_passes : is_null call ≡ true → find (fails_rpc call bytes) call_rules ≡ None
  null_passes null =
      ap (λ b. cond (not b && not (nat_eq call.cred.flavor AUTH_NONE || nat_eq call.cred.flavor AUTH_SYS)) (Some Flavor) (find (fails_rpc call bytes) (RpcCredential ∷ WeakCredential ∷ Arguments ∷ []))) null
      ∙ ap (λ b. cond (not b && (nat_eq call.cred.flavor AUTH_SYS && is_none (caller call.cred.body))) (Some RpcCredential) (find (fails_rpc call bytes) (WeakCredential ∷ Arguments ∷ []))) null
      ∙ ap (λ b. cond (not b && (is_nfs call && nat_eq call.cred.flavor AUTH_NONE)) (Some WeakCredential) (find (fails_rpc call bytes) (Arguments ∷ []))) null
      ∙ ap (λ b. cond (not b && lacks_args call bytes) (Some Arguments) None) null

  -- NULL
  pub null_done : (reply : List ℕ) (line : Option AuditLine) → line ≡ None → find (fails_rpc call bytes) head_rules ≡ None → is_null call ≡ true → reply ≡ accepted_text call.xid Success → Answered (head_rules ++ call_rules) (reported reply line) old
  null_done reply line unset kept null reply_is =
      let asks : request_of event.addr call bytes ≡ Some Nothing = ap (λ b. requests b (is_nfs call) event call bytes) null in
      let none = find_after (fails_rpc call bytes) head_rules call_rules kept ∙ null_passes null in
      subst (λ v. AnswersJudged v (request_of event.addr call bytes) old event call (reported reply line) old) (sym none)
      (subst (λ r. AnswersJudged None r old event call (reported reply line) old) (sym asks)
      (with_memory, ((ap (reported reply) unset ∙ ap granted (reply_is ∙ sym (append-nil (accepted_text call.xid Success))), refl), refl)))
