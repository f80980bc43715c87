-- What became of a call of NFS is a step of the server.
use Rattle.std.proofs.Common.{◌≡◌, ℕ, true, false, List, [], ◌++◌, Option, Some, None, refl, sym, ap, subst, ◌∙◌, append-nil}
use Rattle.std.proofs.lemmas.Bool.{false≢true}
use Rattle.std.specs.declared.alloc.AllocError.{AllocError}
use Rattle.nfs_args.specs.Answers.{nfs_text}
use Rattle.nfs_args.specs.declared.args.NfsArgs.{NfsArgs}
use Rattle.nfs_args.specs.declared.args.NfsArgs.TheVariants as nfs
use Rattle.nfs_inodes.specs.Tree.{Tree, on_some}
use Rattle.nfs_procs.specs.Doing.{Doing}
use Rattle.nfs_procs.specs.Performing.{HasEffect, HasFailed, HasNoMemory}
use Rattle.nfs_procs.specs.Procedures.{PerformsAs, doing_of}
use Rattle.nfs_procs.specs.Scenes.{Scene, seen_in}
use Rattle.nfs_procs.specs.declared.done.Done.{Done}
use Rattle.nfs_procs.specs.declared.done.Done.TheVariants.{Granted, Denied, Memory}
use Rattle.nfs_rpc.specs.Calls.{Call}
use Rattle.nfs_rpc.specs.Replies.{accepted_text}
use Rattle.nfs_rpc.specs.declared.reply.Accept.TheVariants.{SystemErr}
use Rattle.nfs_rules.specs.Rules.{status_of}
use Rattle.nfs_rules.specs.Subjects.{Subject}
use Rattle.nfs_rules.specs.declared.rule.Rule.{Rule}
use Rattle.nfs_server.specs.AuditLines.{line_of}
use Rattle.nfs_server.specs.Events.{Choice, Answer, granted, denied}
use Rattle.nfs_server.specs.Retransmissions.{may_change}
use Rattle.nfs_server.specs.ReplyRoom.{Adds}
use Rattle.nfs_server.proofs.Room.{adds, adds_none}
use Rattle.nfs_server.specs.InMemory.{reported}
use Rattle.nfs_server.specs.Steps.{Decided, Performed, Refusable, success}
use Rattle.nfs_server.specs.declared.audit_line.AuditLine.{AuditLine}
use Rattle.nfs_server.specs.declared.audit_line.DenialReason.TheVariants as reason
use Rattle.nfs_xdr.specs.Written.{Written}

-- ---- the room

pub adds_result : (c : Scene) (o : Option Doing) (came : Option Done) (new : Tree) (before after : Written) → PerformsAs c o came new before after → Adds before after
adds_result c None None new before after p = adds_none before after p.1
adds_result c None (Some came) new before after p = absurd p
adds_result c (Some doing) None new before after p = absurd p
adds_result c (Some doing) (Some Granted) new before after p = adds _ before after p.written.text
adds_result c (Some doing) (Some (Denied rule uid)) new before after p = adds _ before after p.written.text
adds_result c (Some doing) (Some (Memory refused)) new before after p = adds_none before after p.written

-- ---- the steps

-- there is memory
abbrev pub with_memory : Choice
with_memory = record { has_memory = true }

abbrev pub without_memory : Choice
without_memory = record { has_memory = false }

-- a procedure that may find no memory may change the tree
wanting : (args : NfsArgs) (one two : Subject) → on_some (doing_of args) false (λ d. d.takes_memory one two) ≡ true → may_change args ≡ true
wanting nfs.Null one two h = absurd (false≢true h)
wanting (nfs.Getattr a) one two h = absurd (false≢true h)
wanting (nfs.Setattr a) one two h = refl
wanting (nfs.Lookup a) one two h = absurd (false≢true h)
wanting (nfs.Access a) one two h = absurd (false≢true h)
wanting (nfs.Readlink a) one two h = absurd (false≢true h)
wanting (nfs.Read a) one two h = absurd (false≢true h)
wanting (nfs.Write a) one two h = refl
wanting (nfs.Create a) one two h = refl
wanting (nfs.Mkdir a) one two h = refl
wanting (nfs.Symlink a) one two h = refl
wanting (nfs.Mknod a) one two h = absurd (false≢true h)
wanting (nfs.Remove a) one two h = refl
wanting (nfs.Rmdir a) one two h = refl
wanting (nfs.Rename a) one two h = refl
wanting (nfs.Link a) one two h = refl
wanting (nfs.Readdir a) one two h = absurd (false≢true h)
wanting (nfs.Readdirplus a) one two h = absurd (false≢true h)
wanting (nfs.Fsstat a) one two h = absurd (false≢true h)
wanting (nfs.Fsinfo a) one two h = absurd (false≢true h)
wanting (nfs.Pathconf a) one two h = absurd (false≢true h)
wanting (nfs.Commit a) one two h = absurd (false≢true h)

abbrev pub Performs : Option Doing → Scene → Call → Answer → Tree → Type 0
Performs o c call answer new = (choice : Choice) × Performed o c call choice answer new

pub nothing_done : (c : Scene) (o : Option Doing) (came : Option Done) (new : Tree) (before after : Written) (call : Call) (reply : List ℕ) (line : Option AuditLine) → line ≡ None → came ≡ None → PerformsAs c o came new before after
    → ((text : List ℕ) → after.bytes ≡ before.bytes ++ text → reply ≡ success call text)
    → Performs o c call (reported reply line) new
nothing_done c None came new before after call reply line unset e performs wrote =
    let p : PerformsAs c None None new before after = subst (λ d. PerformsAs c None d new before after) e performs in
    (with_memory, (ap (reported reply) unset ∙ ap granted (wrote [] (ap (λ (w : Written). w.bytes) p.1 ∙ sym (append-nil before.bytes))), p.0))
nothing_done c (Some doing) came new before after call reply line unset e performs wrote = absurd (subst (λ d. PerformsAs c (Some doing) d new before after) e performs)

pub granted_done : (c : Scene) (o : Option Doing) (came : Option Done) (new : Tree) (before after : Written) (call : Call) (reply : List ℕ) (line : Option AuditLine) → line ≡ None → came ≡ Some Granted → PerformsAs c o came new before after
    → ((text : List ℕ) → after.bytes ≡ before.bytes ++ text → reply ≡ success call text)
    → Performs o c call (reported reply line) new
granted_done c None came new before after call reply line unset e performs wrote = absurd (subst (λ d. PerformsAs c None d new before after) e performs)
granted_done c (Some doing) came new before after call reply line unset e performs wrote =
    let h : HasEffect c doing new before after = subst (λ d. PerformsAs c (Some doing) d new before after) e performs in (
      with_memory,
      subst (λ v. Decided v c doing call (reported reply line) new) (sym h.granted.verdict)
          (record { one = h.one; two = h.two; subjects = h.granted.subjects; tag = h.tag; tag_is = h.tag_is; new_is = h.new_is; answer_is = ap (reported reply) unset ∙ ap granted (wrote _ h.written.text.bytes); encoded = h.written.encoded }),
    )

pub denied_done : (c : Scene) (o : Option Doing) (came : Option Done) (new : Tree) (before after : Written) (call : Call) (reply : List ℕ) (line : AuditLine) (rule : Rule) (uid : Option ℕ) → came ≡ Some (Denied rule uid) → PerformsAs c o came new before after
    → ((text : List ℕ) → after.bytes ≡ before.bytes ++ text → reply ≡ success call text) → line ≡ line_of c.caller.addr call (reason.Rule rule uid)
    → Performs o c call (reported reply (Some line)) new
denied_done c None came new before after call reply line rule uid e performs wrote line_is = absurd (subst (λ d. PerformsAs c None d new before after) e performs)
denied_done c (Some doing) came new before after call reply line rule uid e performs wrote line_is =
    let h : HasFailed c doing rule uid new before after = subst (λ d. PerformsAs c (Some doing) d new before after) e performs in
    let text = nfs_text (doing.denied (status_of rule) (seen_in c)) in (
      with_memory,
      subst (λ v. Decided v c doing call (reported reply (Some line)) new) (sym h.verdict)
          (record {
            new_is = h.new_is;
            encoded = h.written.encoded;
            answer_is = ap (λ r. denied r line) (wrote text h.written.text.bytes) ∙ ap (denied (success call text)) (line_is ∙ ap (λ u. line_of c.caller.addr call (reason.Rule rule u)) h.uid_is);
          }),
    )

pub refused_done : (c : Scene) (o : Option Doing) (came : Option Done) (new : Tree) (before after : Written) (call : Call) (reply : List ℕ) (line : AuditLine) (refused : AllocError) → doing_of c.args ≡ o → came ≡ Some (Memory refused) → PerformsAs c o came new before after
    → reply ≡ accepted_text call.xid SystemErr → line ≡ line_of c.caller.addr call reason.Memory
    → Performs o c call (reported reply (Some line)) new
refused_done c None came new before after call reply line refused asks e performs reply_is line_is = absurd (subst (λ d. PerformsAs c None d new before after) e performs)
refused_done c (Some doing) came new before after call reply line refused asks e performs reply_is line_is =
    let h : HasNoMemory c doing new before after = subst (λ d. PerformsAs c (Some doing) d new before after) e performs in (
      without_memory,
      subst (λ b. Refusable b (Some doing) c call (reported reply (Some line)) new) (sym (wanting c.args h.one h.two (ap (λ o. on_some o false (λ d. d.takes_memory h.one h.two)) asks ∙ h.takes)))
          (record { new_is = h.new_is; answer_is = ap (λ r. denied r line) reply_is ∙ ap (denied (accepted_text call.xid SystemErr)) line_is }),
    )

-- a call that may change the tree, for which there is no place
pub no_place : (c : Scene) (o : Option Doing) (new : Tree) (call : Call) (reply : List ℕ) (line : AuditLine) → may_change c.args ≡ true → new ≡ c.tree
    → reply ≡ accepted_text call.xid SystemErr → line ≡ line_of c.caller.addr call reason.Memory
    → Performs o c call (reported reply (Some line)) new
no_place c o new call reply line changes new_is reply_is line_is = (
  without_memory,
  subst (λ b. Refusable b o c call (reported reply (Some line)) new) (sym changes)
      (record { new_is = new_is; answer_is = ap (λ r. denied r line) reply_is ∙ ap (denied (accepted_text call.xid SystemErr)) line_is }),
)
