-- What is not noted leaves the state: a call that may change nothing, and one that was refused for want of memory.
use Rattle.std.proofs.Common.{◌≡◌, ℕ, Bool, true, false, not, ◌&&◌, List, [], ◌∷◌, Option, Some, None, is_none, option_map, refl, sym, ap, subst, ◌∙◌}
use Rattle.std.specs.Prelude.{Result, Ok, Err, if◌then◌else◌, nat_eq}
use Rattle.std.proofs.lemmas.Bool.{true≢false}
use Rattle.nfs_args.specs.declared.args.NfsArgs.{NfsArgs}
use Rattle.nfs_args.specs.declared.args.NfsArgs.TheVariants as nfs
use Rattle.nfs_args.specs.declared.mount_args.MountArgs.{MountArgs}
use Rattle.nfs_args.specs.declared.mount_args.MountArgs.TheVariants as asked
use Rattle.nfs_attrs.specs.declared.moment.Moment.{Moment}
use Rattle.nfs_exports.specs.declared.export_table.Export.{Export}
use Rattle.nfs_inodes.specs.Tree.{Tree, on_some}
use Rattle.nfs_server.specs.Noted.{may_change_mounts, is_noted_request, is_noted_call, is_noted, has_entry}
use Rattle.nfs_mount.specs.MountRules.{mount_verdict}
use Rattle.nfs_procs.proofs.Judged.{subject_tree}
use Rattle.nfs_procs.specs.Doing.{Doing}
use Rattle.nfs_procs.specs.Procedures.{doing_of}
use Rattle.nfs_procs.specs.Scenes.{Scene, verdict_in}
use Rattle.nfs_rpc.specs.Calls.{Call, head_at}
use Rattle.nfs_rpc.specs.declared.call.RpcFault.{RpcFault}
use Rattle.nfs_rules.specs.Subjects.{Caller, Subject, subject_at}
use Rattle.nfs_rules.specs.Verdicts.{handles_in, subjects_at}
use Rattle.nfs_rules.specs.declared.rule.Rule.{Rule}
use Rattle.nfs_server.specs.Events.{Event, Answer, Choice, Done}
use Rattle.nfs_server.specs.Requests.{Request, Nothing, OfNfs, OfMount, request_of}
use Rattle.nfs_server.specs.Retransmissions.{first_reply, is_refused, may_change}
use Rattle.nfs_server.specs.RpcRules.{rpc_failure_of}
use Rattle.nfs_server.specs.Steps.{Setup, State, Step, Retransmitted, Called, Judged, Requested, Performed, Refusable, Decided, MountPerformed, MountDecided, scene_of}
use Rattle.nfs_server.specs.declared.rpc_rules.RpcRule.{RpcRule}

both_parts : (s u : State) → s.tree ≡ u.tree → s.mounts ≡ u.mounts → s ≡ u
both_parts s u e m = λ i. record { tree = e i; mounts = m i }

-- ---- a call that may change nothing

-- a procedure that may not change the tree leaves it
abbrev Leaves : Option Doing → Type 0
Leaves None = Unit {0}
Leaves (Some doing) = (one two : Subject) (now : Moment) (tag : ℕ) → doing.effect one two now tag ≡ one.tree

leaves : (args : NfsArgs) → may_change args ≡ false → Leaves (doing_of args)
leaves nfs.Null e = tt
leaves (nfs.Getattr file) e = λ one two now tag. refl
leaves (nfs.Setattr a) e = absurd (true≢false e)
leaves (nfs.Lookup a) e = λ one two now tag. refl
leaves (nfs.Access a) e = λ one two now tag. refl
leaves (nfs.Readlink file) e = λ one two now tag. refl
leaves (nfs.Read a) e = λ one two now tag. refl
leaves (nfs.Write a) e = absurd (true≢false e)
leaves (nfs.Create a) e = absurd (true≢false e)
leaves (nfs.Mkdir a) e = absurd (true≢false e)
leaves (nfs.Symlink a) e = absurd (true≢false e)
leaves (nfs.Mknod a) e = λ one two now tag. refl
leaves (nfs.Remove a) e = absurd (true≢false e)
leaves (nfs.Rmdir a) e = absurd (true≢false e)
leaves (nfs.Rename a) e = absurd (true≢false e)
leaves (nfs.Link a) e = absurd (true≢false e)
leaves (nfs.Readdir a) e = λ one two now tag. refl
leaves (nfs.Readdirplus a) e = λ one two now tag. refl
leaves (nfs.Fsstat file) e = λ one two now tag. refl
leaves (nfs.Fsinfo file) e = λ one two now tag. refl
leaves (nfs.Pathconf file) e = λ one two now tag. refl
leaves (nfs.Commit a) e = λ one two now tag. refl

-- what the handles of a call name is in its tree
module _ (t : Tree) (exports : List (List Export)) (caller : Caller) where
  tree_of : (handle : List ℕ) (p : Subject × Subject) (o : Option Subject) → subject_at t exports caller handle ≡ o → option_map (λ s. (s, s)) o ≡ Some p → p.0.tree ≡ t
  tree_of handle p None is e = cc
  tree_of handle p (Some s) is e = ap (λ (q : Option (Subject × Subject)). on_some q t (λ x. x.0.tree)) (sym e) ∙ subject_tree t exports caller handle s is

  tree_of_two : (one two : List ℕ) (p : Subject × Subject) (o : Option Subject) → subject_at t exports caller one ≡ o
      → on_some o None (λ s. on_some (subject_at t exports caller two) None (λ u. if nat_eq s.file.fsid u.file.fsid then Some (s, u) else None)) ≡ Some p → p.0.tree ≡ t
  tree_of_two one two p None is e = cc
  tree_of_two one two p (Some s) is e = by_second (subject_at t exports caller two) e
    where
      by_volume : (b : Bool) (u : Subject) → (if b then Some (s, u) else None) ≡ Some p → p.0.tree ≡ t
      by_volume true u e = ap (λ (q : Option (Subject × Subject)). on_some q t (λ x. x.0.tree)) (sym e) ∙ subject_tree t exports caller one s is
      by_volume false u e = cc

      by_second : (o : Option Subject) → on_some o None (λ u. if nat_eq s.file.fsid u.file.fsid then Some (s, u) else None) ≡ Some p → p.0.tree ≡ t
      by_second None e = cc
      by_second (Some u) e = by_volume (nat_eq s.file.fsid u.file.fsid) u e

  subjects_tree : (handles : List (List ℕ)) (p : Subject × Subject) → subjects_at t exports caller handles ≡ Some p → p.0.tree ≡ t
  subjects_tree [] p e = cc
  subjects_tree (one ∷ []) p e = tree_of one p (subject_at t exports caller one) refl e
  subjects_tree (one ∷ two ∷ others) p e = tree_of_two one two p (subject_at t exports caller one) refl e

and_false : (b : Bool) → b && false ≡ false
and_false true = refl
and_false false = refl

module _ (c : Scene) (call : Call) (answer : Answer) (new : Tree) where
  decided : (v : Option Rule) (doing : Doing) → Leaves (Some doing) → Decided v c doing call answer new → new ≡ c.tree
  decided (Some rule) doing l h = h.new_is
  decided None doing l h = h.new_is ∙ l h.one h.two c.now h.tag ∙ subjects_tree c.tree c.exports c.caller (handles_in c.args) (h.one, h.two) h.subjects

  refusable : (procedure : Option Doing) → Leaves procedure → Refusable false procedure c call answer new → new ≡ c.tree
  refusable None l h = h.1
  refusable (Some doing) l h = decided (verdict_in c) doing l h

  performed : (choice : Choice) → may_change c.args ≡ false → Performed (doing_of c.args) c call choice answer new → new ≡ c.tree
  performed choice e h =
      let never : not choice.has_memory && may_change c.args ≡ false = ap (λ b. not choice.has_memory && b) e ∙ and_false (not choice.has_memory) in
      refusable (doing_of c.args) (leaves c.args e) (subst (λ b. Refusable b (doing_of c.args) c call answer new) never h)

module _ (setup : Setup) (old : State) (event : Event) (call : Call) (choice : Choice) (answer : Answer) (new : State) where
  mount_performed : (args : MountArgs) → may_change_mounts args ≡ false → MountPerformed args setup.exports old event.addr call choice answer new → new ≡ old
  mount_performed asked.Null e h = h.1
  mount_performed (asked.Mount path) e h = absurd (true≢false e)
  mount_performed asked.Dump e h = h.1
  mount_performed (asked.Unmount path) e h = absurd (true≢false e)
  mount_performed asked.UnmountAll e h = absurd (true≢false e)
  mount_performed asked.Export e h = h.1

  requested : (r : Option Request) → is_noted_request r ≡ false → Requested r setup old event call choice answer new → new ≡ old
  requested None e h = absurd h
  requested (Some Nothing) e h = h.1
  requested (Some (OfNfs caller args)) e h = both_parts new old (performed (scene_of setup old event caller args) call answer new.tree choice e h.0) h.1
  requested (Some (OfMount args)) e h = mount_performed args e h

  judged : (v : Option RpcRule) (r : Option Request) → is_none v && is_noted_request r ≡ false → Judged v r setup old event call choice answer new → new ≡ old
  judged (Some rule) r e h = h.1
  judged None r e h = requested r e h

module _ (setup : Setup) (old : State) (event : Event) (choice : Choice) (answer : Answer) (new : State) where
  called : (head : Result (Call × List ℕ) RpcFault) → is_noted_call event.addr head ≡ false → Called head setup old event choice answer new → new ≡ old
  called (Err fault) e h = h.1
  called (Ok head) e h = judged setup old event head.0 choice answer new (rpc_failure_of head.0 head.1) (request_of event.addr head.0 head.1) e h

  plain_stays : (first : Option (List ℕ)) → is_noted event ≡ false → Retransmitted first setup old event choice answer new → new ≡ old
  plain_stays (Some reply) e h = h.1
  plain_stays None e h = called (head_at event.bytes) e h

-- ---- want of memory

abbrev IsRefused : Answer → Type 0
IsRefused answer = is_refused answer.line ≡ true

apart : {X : Type 0} (answer other : Answer) → IsRefused answer → answer ≡ other → is_refused other.line ≡ false → X
apart answer other r e f = absurd (true≢false (sym r ∙ ap (λ (x : Answer). is_refused x.line) e ∙ f))

module _ (c : Scene) (call : Call) (answer : Answer) (new : Tree) (r : IsRefused answer) where
  undecided : (v : Option Rule) (doing : Doing) → Decided v c doing call answer new → new ≡ c.tree
  undecided (Some rule) doing h = h.new_is
  undecided None doing h = apart answer _ r h.answer_is refl

  undone : (b : Bool) (o : Option Doing) → Refusable b o c call answer new → new ≡ c.tree
  undone true o h = h.new_is
  undone false None h = h.1
  undone false (Some doing) h = undecided (verdict_in c) doing h

module _ (setup : Setup) (old : State) (event : Event) (call : Call) (choice : Choice) (answer : Answer) (new : State) (r : IsRefused answer) where
  unmounted : (args : MountArgs) → MountPerformed args setup.exports old event.addr call choice answer new → new ≡ old
  unmounted asked.Null h = h.1
  unmounted (asked.Mount path) h = by (mount_verdict old.tree setup.exports event.addr path) choice.has_memory h
    where
      by : (v : Option Rule) (has_memory : Bool) → MountDecided v has_memory old event.addr path call answer new → new ≡ old
      by (Some rule) has_memory h = h.1
      by None true h = apart answer _ r h.2.0 refl
      by None false h = h.2
  unmounted asked.Dump h = h.1
  unmounted (asked.Unmount path) h = apart answer _ r h.0 refl
  unmounted asked.UnmountAll h = apart answer _ r h.0 refl
  unmounted asked.Export h = h.1

  unrequested : (q : Option Request) → Requested q setup old event call choice answer new → new ≡ old
  unrequested None h = absurd h
  unrequested (Some Nothing) h = h.1
  unrequested (Some (OfNfs caller args)) h = both_parts new old (undone (scene_of setup old event caller args) call answer new.tree r (not choice.has_memory && may_change args) (doing_of args) h.0) h.1
  unrequested (Some (OfMount args)) h = unmounted args h

  unjudged : (v : Option RpcRule) (q : Option Request) → Judged v q setup old event call choice answer new → new ≡ old
  unjudged (Some rule) q h = h.1
  unjudged None q h = unrequested q h

module _ (setup : Setup) (old : State) (event : Event) (choice : Choice) (answer : Answer) (new : State) (r : IsRefused answer) where
  uncalled : (head : Result (Call × List ℕ) RpcFault) → Called head setup old event choice answer new → new ≡ old
  uncalled (Err fault) h = h.1
  uncalled (Ok head) h = unjudged setup old event head.0 choice answer new r (rpc_failure_of head.0 head.1) (request_of event.addr head.0 head.1) h

  refused_stays : (first : Option (List ℕ)) → Retransmitted first setup old event choice answer new → new ≡ old
  refused_stays (Some reply) h = h.1
  refused_stays None h = uncalled (head_at event.bytes) h

-- ---- an event without an entry

pub stays : (setup : Setup) (history : List Done) (d : Done) (old new : State) → has_entry d ≡ false → Step setup history old d.event d.choice d.answer new → new ≡ old
stays setup history d old new e h = by (is_noted d.event) (is_refused d.answer.line) refl refl e
  where
    first : Option (List ℕ)
    first = first_reply setup.places history d.event

    by : (n r : Bool) → is_noted d.event ≡ n → is_refused d.answer.line ≡ r → n && not r ≡ false → new ≡ old
    by false r n e f = plain_stays setup old d.event d.choice d.answer new first n h
    by true false n e f = absurd (true≢false f)
    by true true n e f = refused_stays setup old d.event d.choice d.answer new e first h
