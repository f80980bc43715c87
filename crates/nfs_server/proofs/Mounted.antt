-- What became of a call of MOUNT is a step of the server.
use Rattle.std.proofs.Common.{◌≡◌, ℕ, Bool, true, false, List, ◌++◌, Option, Some, None, sym, ap, subst, ◌∙◌}
use Rattle.std.proofs.lemmas.Bool.{true≢false}
use Rattle.std.specs.Prelude.{Result, Ok, Err}
use Rattle.std.specs.Result.{result_ok}
use Rattle.std.specs.declared.alloc.AllocError.{AllocError}
use Rattle.nfs_args.specs.MountAnswers.{mount_text}
use Rattle.nfs_args.specs.Procedures.{mount_number, mount_procedures}
use Rattle.nfs_args.specs.Reading.{Answers, mount_args_at}
use Rattle.nfs_args.specs.declared.procedure.MountProcedure.{MountProcedure}
use Rattle.nfs_args.specs.declared.unreadable.Unreadable.{Unreadable}
use Rattle.nfs_args.specs.declared.mount_answer.MountAnswer.{MountAnswer}
use Rattle.nfs_args.specs.declared.mount_answer.MountAnswer.TheVariants as result
use Rattle.nfs_args.specs.declared.mount_args.MountArgs.{MountArgs}
use Rattle.nfs_args.specs.declared.mount_args.MountArgs.TheVariants as asked
use Rattle.nfs_exports.specs.declared.addr.Addr.{Addr}
use Rattle.nfs_exports.specs.declared.export_table.Export.{Export}
use Rattle.nfs_inodes.specs.Tree.{Tree, on_some}
use Rattle.nfs_mount.specs.MountAnswers.{Mounts, denied_answer, dump_answer, export_answer, granted_answer}
use Rattle.nfs_mount.specs.Mounts.{after_umnt, without_addr}
use Rattle.nfs_mount.specs.declared.mount.Mount.{Mount}
use Rattle.nfs_mount.specs.declared.outcome.MountOutcome.{MountOutcome}
use Rattle.nfs_mount.specs.declared.outcome.MountOutcome.TheVariants.{Granted, Denied, Memory}
use Rattle.nfs_rpc.specs.Calls.{Call}
use Rattle.nfs_rpc.specs.Replies.{accepted_text}
use Rattle.nfs_rpc.specs.declared.reply.Accept.TheVariants.{SystemErr}
use Rattle.nfs_rules.specs.declared.rule.Rule.{Rule}
use Rattle.nfs_server.specs.AuditLines.{line_of}
use Rattle.nfs_server.specs.Events.{granted, denied}
use Rattle.nfs_server.specs.OneEvent.{AnswersMount, Leaves, MountsAs}
use Rattle.nfs_server.specs.Requests.{mount_args_in, read_args}
use Rattle.nfs_server.specs.InMemory.{reported}
use Rattle.nfs_server.specs.Steps.{MountDecided, MountDone, State, success}
use Rattle.nfs_server.specs.declared.audit_line.AuditLine.{AuditLine}
use Rattle.nfs_server.specs.declared.audit_line.DenialReason.TheVariants as reason
use Rattle.nfs_server.specs.ReplyRoom.{Adds}
use Rattle.nfs_server.proofs.Performed.{with_memory, without_memory}
use Rattle.nfs_server.proofs.Room.{adds, adds_none}
use Rattle.nfs_xdr.specs.Reading.{numbered}
use Rattle.nfs_xdr.specs.Written.{Written}

-- ---- the room

adds_left : (answer : MountAnswer) (mounts : List Mount) (came : MountOutcome) (new : List Mount) (before after : Written) → Leaves answer mounts came new before after → Adds before after
adds_left answer mounts came new before after l = adds (mount_text answer) before after l.2

pub adds_mount : (args : MountArgs) (t : Tree) (exports : List (List Export)) (addr : Addr) (came : MountOutcome) (old new : List Mount) (before after : Written) → MountsAs args t exports addr came old new before after → Adds before after
adds_mount asked.Null t exports addr came old new before after m = adds_left result.Null old came new before after m
adds_mount (asked.Mount path) t exports addr Granted old new before after m = adds (mount_text (granted_answer m.2)) before after m.4
adds_mount (asked.Mount path) t exports addr (Denied rule) old new before after m = adds (mount_text (denied_answer rule)) before after m.2
adds_mount (asked.Mount path) t exports addr (Memory refused) old new before after m = adds_none before after m.3
adds_mount asked.Dump t exports addr came old new before after m = adds_left (dump_answer t old) old came new before after m
adds_mount (asked.Unmount path) t exports addr came old new before after m = adds_left result.Unmount (after_umnt t addr path old) came new before after m
adds_mount asked.UnmountAll t exports addr came old new before after m = adds_left result.UnmountAll (without_addr addr old) came new before after m
adds_mount asked.Export t exports addr came old new before after m = adds_left (export_answer t exports) old came new before after m

-- ---- what is asked for

pub arguments_read : (proc : ℕ) (procedure : MountProcedure) (bytes : List ℕ) (r : Result MountArgs Unreadable) → numbered mount_number mount_procedures proc ≡ Some procedure → Answers r (mount_args_at procedure bytes) → result_ok r ≡ mount_args_in proc bytes
arguments_read proc procedure bytes (Ok args) is read = sym (ap (λ o. on_some o None (λ p. read_args (mount_args_at p bytes))) is ∙ ap read_args read.1)
arguments_read proc procedure bytes (Err e) is read = sym (ap (λ o. on_some o None (λ p. read_args (mount_args_at p bytes))) is ∙ ap read_args read.1)

pub of_args : (a b : MountArgs) (t : Tree) (exports : List (List Export)) (addr : Addr) (came : MountOutcome) (old new : List Mount) (before after : Written) → a ≡ b → MountsAs b t exports addr came old new before after → MountsAs a t exports addr came old new before after
of_args a b t exports addr came old new before after e m = subst (λ x. MountsAs x t exports addr came old new before after) (sym e) m

-- ---- the steps

abbrev is_granted : MountOutcome → Bool
is_granted Granted = true
is_granted (Denied rule) = false
is_granted (Memory refused) = false

module _ (t : Tree) (exports : List (List Export)) (addr : Addr) (call : Call) (came : MountOutcome) (old new : List Mount) (before after : Written) (reply : List ℕ) where
  abbrev StateOf : List Mount → State
  StateOf mounts = record { tree = t; mounts = mounts }

  abbrev Replies : Type 0
  Replies = (text : List ℕ) → after.bytes ≡ before.bytes ++ text → reply ≡ success call text

  left : (answer : MountAnswer) (mounts : List Mount) → Leaves answer mounts came new before after → Replies → MountDone call (StateOf old) answer mounts (reported reply None) (StateOf new)
  left answer mounts l wrote = (ap granted (wrote (mount_text answer) l.2.bytes), ap StateOf l.1, l.3)

  granted_left : (args : MountArgs) → came ≡ Granted → MountsAs args t exports addr came old new before after → Replies → AnswersMount args exports (StateOf old) addr call (reported reply None) new
  granted_left asked.Null e m wrote = (with_memory, left result.Null old m wrote)
  granted_left (asked.Mount path) e m wrote =
      let g : Mounts t exports addr path Granted old new before after = subst (λ x. Mounts t exports addr path x old new before after) e m in
      (with_memory, subst (λ v. MountDecided v true (StateOf old) addr path call (reported reply None) (StateOf new)) (sym g.0) (g.2, g.3, (ap granted (wrote (mount_text (granted_answer g.2)) g.4.bytes), ap StateOf g.1, g.5)))
  granted_left asked.Dump e m wrote = (with_memory, left (dump_answer t old) old m wrote)
  granted_left (asked.Unmount path) e m wrote = (with_memory, left result.Unmount (after_umnt t addr path old) m wrote)
  granted_left asked.UnmountAll e m wrote = (with_memory, left result.UnmountAll (without_addr addr old) m wrote)
  granted_left asked.Export e m wrote = (with_memory, left (export_answer t exports) old m wrote)

  pub granted_mount : (args : MountArgs) (line : Option AuditLine) → line ≡ None → came ≡ Granted → MountsAs args t exports addr came old new before after → Replies → AnswersMount args exports (StateOf old) addr call (reported reply line) new
  granted_mount args line none e m wrote = subst (λ l. AnswersMount args exports (StateOf old) addr call (reported reply l) new) (sym none) (granted_left args e m wrote)

  pub denied_mount : (args : MountArgs) (line : AuditLine) (rule : Rule) → came ≡ Denied rule → MountsAs args t exports addr came old new before after → Replies → line ≡ line_of addr call (reason.Rule rule None)
      → AnswersMount args exports (StateOf old) addr call (reported reply (Some line)) new
  denied_mount asked.Null line rule e m wrote line_is = absurd (true≢false (ap is_granted (sym m.0 ∙ e)))
  denied_mount (asked.Mount path) line rule e m wrote line_is =
      let d : Mounts t exports addr path (Denied rule) old new before after = subst (λ x. Mounts t exports addr path x old new before after) e m in
      let text = mount_text (denied_answer rule) in
      (with_memory, subst (λ v. MountDecided v true (StateOf old) addr path call (reported reply (Some line)) (StateOf new)) (sym d.0) (ap (λ r. denied r line) (wrote text d.2.bytes) ∙ ap (denied (success call text)) line_is, ap StateOf d.1, d.3))
  denied_mount asked.Dump line rule e m wrote line_is = absurd (true≢false (ap is_granted (sym m.0 ∙ e)))
  denied_mount (asked.Unmount path) line rule e m wrote line_is = absurd (true≢false (ap is_granted (sym m.0 ∙ e)))
  denied_mount asked.UnmountAll line rule e m wrote line_is = absurd (true≢false (ap is_granted (sym m.0 ∙ e)))
  denied_mount asked.Export line rule e m wrote line_is = absurd (true≢false (ap is_granted (sym m.0 ∙ e)))

  pub refused_mount : (args : MountArgs) (line : AuditLine) (refused : AllocError) → came ≡ Memory refused → MountsAs args t exports addr came old new before after → reply ≡ accepted_text call.xid SystemErr → line ≡ line_of addr call reason.Memory
      → AnswersMount args exports (StateOf old) addr call (reported reply (Some line)) new
  refused_mount asked.Null line refused e m reply_is line_is = absurd (true≢false (ap is_granted (sym m.0 ∙ e)))
  refused_mount (asked.Mount path) line refused e m reply_is line_is =
      let r : Mounts t exports addr path (Memory refused) old new before after = subst (λ x. Mounts t exports addr path x old new before after) e m in
      (without_memory, subst (λ v. MountDecided v false (StateOf old) addr path call (reported reply (Some line)) (StateOf new)) (sym r.0) (r.1, ap (λ x. denied x line) reply_is ∙ ap (denied (accepted_text call.xid SystemErr)) line_is, ap StateOf r.2))
  refused_mount asked.Dump line refused e m reply_is line_is = absurd (true≢false (ap is_granted (sym m.0 ∙ e)))
  refused_mount (asked.Unmount path) line refused e m reply_is line_is = absurd (true≢false (ap is_granted (sym m.0 ∙ e)))
  refused_mount asked.UnmountAll line refused e m reply_is line_is = absurd (true≢false (ap is_granted (sym m.0 ∙ e)))
  refused_mount asked.Export line refused e m reply_is line_is = absurd (true≢false (ap is_granted (sym m.0 ∙ e)))
