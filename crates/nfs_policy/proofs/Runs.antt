-- Confinement, from one call to runs.
use Rattle.std.proofs.Common.{◌≡◌, ℕ, Bool, true, false, List, [], ◌∷◌, length, Option, Some, None, refl, sym, ap, subst, ◌∙◌}
use Rattle.std.specs.Prelude.{nat_eq, slice_get, Result, Ok, Err, not, ◌&&◌}
use Rattle.nfs_args.specs.Answers.{nfs_text}
use Rattle.nfs_args.specs.declared.args.NfsArgs.{NfsArgs}
use Rattle.nfs_args.specs.declared.mount_args.MountArgs.{MountArgs}
use Rattle.nfs_args.specs.declared.mount_args.MountArgs.TheVariants as asked
use Rattle.nfs_args.specs.MountAnswers.{mount_text}
use Rattle.nfs_args.specs.declared.mount_answer.MountAnswer.{MountAnswer}
use Rattle.nfs_args.specs.declared.mount_answer.MountAnswer.TheVariants as result
use Rattle.nfs_mount.specs.declared.mount.Mount.{Mount}
use Rattle.nfs_inodes.specs.Reading.{volume_named}
use Rattle.nfs_inodes.specs.Tree.{Tree, on_some}
use Rattle.nfs_mount.specs.MountAnswers.{IsMountEncoded, root_of, dump_answer, export_answer, granted_answer}
use Rattle.nfs_mount.specs.MountRules.{mount_verdict}
use Rattle.nfs_mount.specs.Mounts.{after_mnt, after_umnt, is_mounted, without_addr}
use Rattle.nfs_procs.specs.Doing.{Doing}
use Rattle.nfs_procs.specs.Performing.{IsEncoded}
use Rattle.nfs_procs.specs.Procedures.{doing_of}
use Rattle.nfs_procs.specs.Scenes.{Scene, verdict_in}
use Rattle.nfs_rpc.specs.Calls.{Call, head_at}
use Rattle.nfs_rpc.specs.declared.call.RpcFault.{RpcFault}
use Rattle.nfs_rules.specs.Rules.{status_of}
use Rattle.nfs_rules.specs.Subjects.{Caller}
use Rattle.nfs_rules.specs.declared.rule.Rule.{Rule}
use Rattle.nfs_server.specs.AuditLines.{line_of}
use Rattle.nfs_server.specs.Events.{Event, Answer, Choice, Done, granted, denied}
use Rattle.nfs_server.specs.Requests.{Request, Nothing, OfNfs, OfMount, request_of}
use Rattle.nfs_server.specs.RpcRules.{rpc_failure_of}
use Rattle.nfs_server.specs.Steps.{Setup, State, success, Decided, Refusable, Performed, MountDone, MountDecided, MountPerformed, scene_of, Requested, Judged, Called, Retransmitted, Step, IsRun}
use Rattle.nfs_server.specs.Retransmissions.{first_reply, may_change}
use Rattle.nfs_server.specs.declared.audit_line.DenialReason.TheVariants as reason
use Rattle.nfs_server.specs.declared.rpc_rules.RpcRule.{RpcRule}
use Rattle.nfs_policy.proofs.Blanks.{handle_blank, next_tag_outside}
use Rattle.nfs_policy.proofs.Calls.{d, same_verdict, same_seen, same_uid, others, apart, same_effect, same_answer}
use Rattle.nfs_policy.specs.Confining.{Asks, AgreeThrough, ReadingIsConfined}
use Rattle.nfs_policy.specs.Reading.{ReadsNot}
use Rattle.nfs_policy.specs.Shape.{blank, AgreeOutside}

-- ---- a call of NFS

module _ (f : ℕ) (c : Scene) (other : Tree) (agree : AgreeOutside f c.tree other) (call : Call) (choice : Choice) (answer : Answer) (new : Tree) where
  abbrev there : Scene
  there = record c { tree = other }

  abbrev Goes : (Tree → Type 0) → Type 0
  Goes P = (new' : Tree) × P new' × AgreeOutside f new new'

  decided : ReadsNot f c → (doing : Doing) → doing_of c.args ≡ Some doing → (v : Option Rule) → verdict_in c ≡ v → Decided v c doing call answer new → Goes (Decided v there doing call answer)
  decided reads doing is (Some rule) v h = (
    other,
    record {
      new_is = refl;
      answer_is = h.answer_is ∙ (λ i. denied (success call (nfs_text (doing.denied (status_of rule) (same_seen f c other agree i)))) (line_of c.caller.addr call (reason.Rule rule (same_uid f c other agree i))));
      encoded = subst (λ s. IsEncoded (doing.denied (status_of rule) s)) (same_seen f c other agree) h.encoded;
    },
    ap (blank (nat_eq f)) h.new_is ∙ agree,
  )
  decided reads doing is None v h =
      let o = others f c other agree h.one h.two h.subjects in
      let new' = doing.effect o.0 o.1 c.now h.tag in
      let same : AgreeOutside f new new' = ap (blank (nat_eq f)) h.new_is ∙ same_effect f c other agree doing is h.one h.two o.0 o.1 c.now h.tag o.3 o.4 in
      let same_answer_is = same_answer f c other agree doing is h.one h.two o.0 o.1 new new' o.3 o.4 same
      (λ a e. apart f c other agree h.one.file.fileid (reads a h.one h.two e (record { subjects = h.subjects; verdict = v }))) in (
        new',
        record {
          one = o.0;
          two = o.1;
          subjects = o.2;
          tag = h.tag;
          tag_is = next_tag_outside f c.tree other agree h.tag h.tag_is;
          new_is = refl;
          answer_is = h.answer_is ∙ ap (λ a. granted (success call (nfs_text a))) same_answer_is;
          encoded = subst IsEncoded same_answer_is h.encoded;
        },
        same,
      )

  refusable : ReadsNot f c → (refused : Bool) (o : Option Doing) → doing_of c.args ≡ o → Refusable refused o c call answer new → Goes (Refusable refused o there call answer)
  refusable reads true o is h = (other, record { new_is = refl; answer_is = h.answer_is }, ap (blank (nat_eq f)) h.new_is ∙ agree)
  refusable reads false None is h = (other, (h.0, refl), ap (blank (nat_eq f)) h.1 ∙ agree)
  refusable reads false (Some doing) is h = subst (λ v. Goes (Decided v there doing call answer)) (same_verdict f c other agree) (decided reads doing is (verdict_in c) refl h)

  performed : ReadsNot f c → (o : Option Doing) → doing_of c.args ≡ o → Performed o c call choice answer new → Goes (Performed o there call choice answer)
  performed reads o is h = refusable reads (not choice.has_memory && may_change c.args) o is h

-- ---- an event

module _ (f : ℕ) (setup : Setup) (old : State) (other : Tree) (agree : AgreeOutside f old.tree other) (event : Event) (choice : Choice) (answer : Answer) (new : State) where
  abbrev over : State
  over = record old { tree = other }

  -- there is such a state, with a tree that agrees and the same mounts
  abbrev To : (State → Type 0) → Type 0
  To P = (new' : State) × P new' × AgreeOutside f new.tree new'.tree × (new'.mounts ≡ new.mounts)

  unchanged : (P : State → Type 0) → P over → new ≡ old → To P
  unchanged P h is = (over, h, ap (λ (s : State). blank (nat_eq f) s.tree) is ∙ agree, ap (λ (s : State). s.mounts) (sym is))

  -- what MOUNT looks at is the volumes and their roots' handles
  same_look : {X : Type 0} (look : Tree → X) → ((t : Tree) → look (blank (nat_eq f) t) ≡ look t) → look old.tree ≡ look other
  same_look look blank = sym (blank old.tree) ∙ ap look agree ∙ blank other

  root_blank : (path : List ℕ) (t : Tree) → root_of (blank (nat_eq f) t) path ≡ root_of t path
  root_blank path t = λ i. on_some (volume_named t path) None (λ index. on_some (slice_get t.volumes index) None (λ v. handle_blank (nat_eq f) t v.root i))

  mount_done : (call : Call) (result : Tree → MountAnswer) (mounts : Tree → List Mount) → result old.tree ≡ result other → mounts old.tree ≡ mounts other → MountDone call old (result old.tree) (mounts old.tree) answer new → To (λ new. MountDone call over (result other) (mounts other) answer new)
  mount_done call result mounts e g h = (
    record { tree = other; mounts = mounts other },
    (subst (λ r. answer ≡ granted (success call (mount_text r))) e h.0, refl, subst IsMountEncoded e h.2),
    ap (λ (s : State). blank (nat_eq f) s.tree) h.1 ∙ agree,
    sym g ∙ ap (λ (s : State). s.mounts) (sym h.1),
  )

  mount_decided : (v : Option Rule) (has_memory : Bool) (path : List ℕ) (call : Call) → MountDecided v has_memory old event.addr path call answer new → To (λ new. MountDecided v has_memory over event.addr path call answer new)
  mount_decided (Some rule) has_memory path call h = unchanged (λ new. MountDecided (Some rule) has_memory over event.addr path call answer new) (h.0, refl, h.2) h.1
  mount_decided None true path call h =
      let m = mount_done call (λ t. granted_answer h.0) (λ t. after_mnt t event.addr path old.mounts) refl (same_look (λ t. after_mnt t event.addr path old.mounts) (λ t. refl)) h.2 in
      (m.0, (h.0, sym (same_look (λ t. root_of t path) (root_blank path)) ∙ h.1, m.1), m.2, m.3)
  mount_decided None false path call h = unchanged (λ new. MountDecided None false over event.addr path call answer new) (sym (same_look (λ t. is_mounted t event.addr path old.mounts) (λ t. refl)) ∙ h.0, h.1, refl) h.2

  mount_performed : (asks : MountArgs) (call : Call) → MountPerformed asks setup.exports old event.addr call choice answer new → To (λ new. MountPerformed asks setup.exports over event.addr call choice answer new)
  mount_performed asked.Null call h = mount_done call (λ t. result.Null) (λ t. old.mounts) refl refl h
  mount_performed (asked.Mount path) call h = subst (λ v. To (λ new. MountDecided v choice.has_memory over event.addr path call answer new)) (same_look (λ t. mount_verdict t setup.exports event.addr path) (λ t. refl))
      (mount_decided (mount_verdict old.tree setup.exports event.addr path) choice.has_memory path call h)
  mount_performed asked.Dump call h = mount_done call (λ t. dump_answer t old.mounts) (λ t. old.mounts) (same_look (λ t. dump_answer t old.mounts) (λ t. refl)) refl h
  mount_performed (asked.Unmount path) call h = mount_done call (λ t. result.Unmount) (λ t. after_umnt t event.addr path old.mounts) refl (same_look (λ t. after_umnt t event.addr path old.mounts) (λ t. refl)) h
  mount_performed asked.UnmountAll call h = mount_done call (λ t. result.UnmountAll) (λ t. without_addr event.addr old.mounts) refl refl h
  mount_performed asked.Export call h = mount_done call (λ t. export_answer t setup.exports) (λ t. old.mounts) (same_look (λ t. export_answer t setup.exports) (λ t. refl)) refl h

  requested : (call : Call) (r : Option Request) → ((caller : Caller) (args : NfsArgs) → r ≡ Some (OfNfs caller args) → ReadsNot f (scene_of setup old event caller args)) → Requested r setup old event call choice answer new → To (λ new. Requested r setup over event call choice answer new)
  requested call None reads h = absurd h
  requested call (Some Nothing) reads h = unchanged (λ new. Requested (Some Nothing) setup over event call choice answer new) (h.0, refl) h.1
  requested call (Some (OfNfs caller args)) reads h =
      let g = performed f (scene_of setup old event caller args) other agree call choice answer new.tree (reads caller args refl) (doing_of args) refl h.0 in
      (record { tree = g.0; mounts = old.mounts }, (g.1, refl), g.2, sym h.1)
  requested call (Some (OfMount args)) reads h = mount_performed args call h

  judged : (call : Call) (v : Option RpcRule) (r : Option Request) → (v ≡ None → (caller : Caller) (args : NfsArgs) → r ≡ Some (OfNfs caller args) → ReadsNot f (scene_of setup old event caller args)) → Judged v r setup old event call choice answer new → To (λ new. Judged v r setup over event call choice answer new)
  judged call (Some rule) r reads h = unchanged (λ new. Judged (Some rule) r setup over event call choice answer new) (h.0, refl) h.1
  judged call None r reads h = requested call r (reads refl) h

  called : (head : Result (Call × List ℕ) RpcFault) → head_at event.bytes ≡ head → ((caller : Caller) (args : NfsArgs) → Asks event caller args → ReadsNot f (scene_of setup old event caller args)) → Called head setup old event choice answer new → To (λ new. Called head setup over event choice answer new)
  called (Err fault) is reads h = unchanged (λ new. Called (Err fault) setup over event choice answer new) (h.0, refl) h.1
  called (Ok head) is reads h = judged head.0 (rpc_failure_of head.0 head.1) (request_of event.addr head.0 head.1)
      (λ v caller args r. reads caller args (record { call = head.0; rest = head.1; head = is; kept = v; request = r })) h

  retransmitted : (reply : Option (List ℕ)) → ((caller : Caller) (args : NfsArgs) → Asks event caller args → ReadsNot f (scene_of setup old event caller args)) → Retransmitted reply setup old event choice answer new → To (λ new. Retransmitted reply setup over event choice answer new)
  retransmitted (Some reply) reads h = unchanged (λ new. Retransmitted (Some reply) setup over event choice answer new) (h.0, refl) h.1
  retransmitted None reads h = called (head_at event.bytes) refl reads h

-- ---- a run

same_mounts : (f : ℕ) (setup : Setup) (old : State) (state : State) (P : State → Type 0) → state.mounts ≡ old.mounts → P (record old { tree = state.tree }) → P state
same_mounts f setup old state P e h = subst P (λ i. record { tree = state.tree; mounts = sym e i }) h

-- trees that agree all the way agree at the end
pub agree_at_end : (f : ℕ) (setups : ℕ → Setup) (opening : State) (other : Tree) (history : List Done) (state state' : State) (run : IsRun setups opening history state) (run' : IsRun setups (record opening { tree = other }) history state')
    → AgreeThrough f setups opening (record opening { tree = other }) history state state' run run' → AgreeOutside f state.tree state'.tree × (state'.mounts ≡ state.mounts)
agree_at_end f setups opening other [] state state' run run' h = h
agree_at_end f setups opening other (d ∷ history) state state' run run' h = (h.1, h.2)

pub reading_is_confined : ReadingIsConfined
reading_is_confined f setups opening [] state run never other agree = (record opening { tree = other }, refl, (ap (λ (s : State). blank (nat_eq f) s.tree) run ∙ agree, ap (λ (s : State). s.mounts) (sym run)))
reading_is_confined f setups opening (e ∷ before) state run never other agree =
    let r = reading_is_confined f setups opening before run.0 run.1 never.0 other agree in
    let now = agree_at_end f setups opening other before run.0 r.0 run.1 r.1 r.2 in
    let setup = setups (length before) in
    let s = retransmitted f setup run.0 r.0.tree now.0 e.event e.choice e.answer state (first_reply setup.places before e.event) never.1 run.2 in
    let step : Step setup before r.0 e.event e.choice e.answer s.0 = same_mounts f setup run.0 r.0 (λ old. Step setup before old e.event e.choice e.answer s.0) now.1 s.1 in
    (s.0, (r.0, r.1, step), (r.2, s.2, s.3))
