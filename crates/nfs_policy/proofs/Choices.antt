-- With the same choices there is one answer to an event, and one state after it.
use Rattle.std.proofs.Common.{◌≡◌, ℕ, Bool, true, false, List, [], ◌∷◌, length, Option, Some, None, refl, sym, ap, subst, ◌∙◌}
use Rattle.std.specs.Prelude.{Result, Ok, Err, not, ◌&&◌}
use Rattle.nfs_args.specs.Answers.{nfs_text}
use Rattle.nfs_args.specs.MountAnswers.{mount_text}
use Rattle.nfs_args.specs.declared.mount_answer.MountAnswer.{MountAnswer}
use Rattle.nfs_args.specs.declared.mount_args.MountArgs.{MountArgs}
use Rattle.nfs_args.specs.declared.mount_args.MountArgs.TheVariants as asked
use Rattle.nfs_handles.proofs.Tags.{one_is_next}
use Rattle.nfs_handles.specs.Tags.{OneIsNext}
use Rattle.nfs_inodes.proofs.Lists.{same_some}
use Rattle.nfs_inodes.specs.Reading.{numbered_files}
use Rattle.nfs_inodes.specs.Tree.{Tree, File}
use Rattle.nfs_mount.specs.MountAnswers.{granted_answer}
use Rattle.nfs_mount.specs.MountRules.{mount_verdict}
use Rattle.nfs_mount.specs.declared.mount.Mount.{Mount}
use Rattle.nfs_procs.specs.Doing.{Doing}
use Rattle.nfs_procs.specs.Procedures.{doing_of}
use Rattle.nfs_procs.specs.Scenes.{Scene, verdict_in}
use Rattle.nfs_rpc.specs.Calls.{Call, head_at}
use Rattle.nfs_rpc.specs.declared.call.RpcFault.{RpcFault}
use Rattle.nfs_rules.specs.Subjects.{Subject}
use Rattle.nfs_rules.specs.declared.rule.Rule.{Rule}
use Rattle.nfs_server.specs.Events.{Event, Answer, Choice, Done, granted}
use Rattle.nfs_server.specs.Requests.{Request, Nothing, OfNfs, OfMount, request_of}
use Rattle.nfs_server.specs.Retransmissions.{first_reply, may_change}
use Rattle.nfs_server.specs.RpcRules.{rpc_failure_of}
use Rattle.nfs_server.specs.Steps.{Setup, State, success, HasDone, Decided, Refusable, MountDone, MountDecided, MountPerformed, scene_of, Requested, Judged, Called, Retransmitted, Step}
use Rattle.nfs_server.specs.declared.rpc_rules.RpcRule.{RpcRule}
use Rattle.nfs_policy.proofs.Runs.{agree_at_end, reading_is_confined}
use Rattle.nfs_policy.specs.Choices.{AnswersFollow, BytesAreHidden}
use Rattle.nfs_policy.specs.Shape.{AgreeOutside}

-- ---- a call of NFS

abbrev pair : Subject → Subject → Subject × Subject
pair one two = (one, two)

module _ (c : Scene) (call : Call) (a b : Answer) (new other : Tree) where
  abbrev SameTree : Type 0
  SameTree = (b ≡ a) × (other ≡ new)

  done : (doing : Doing) → HasDone c doing call a new → HasDone c doing call b other → SameTree
  done doing h g = (g.answer_is ∙ ap (λ (s : Subject × Subject). reply s other) (sym subjects) ∙ ap (reply (pair h.one h.two)) trees ∙ sym h.answer_is, trees)
    where
      subjects : pair h.one h.two ≡ pair g.one g.two
      subjects = same_some (sym h.subjects ∙ g.subjects)

      tags : g.tag ≡ h.tag
      tags = let follow : OneIsNext File = one_is_next in follow.one (numbered_files c.tree) g.tag h.tag g.tag_is h.tag_is

      trees : other ≡ new
      trees = g.new_is ∙ ap (doing.effect g.one g.two c.now) tags ∙ ap (λ (s : Subject × Subject). doing.effect s.0 s.1 c.now h.tag) (sym subjects) ∙ sym h.new_is

      reply : Subject × Subject → Tree → Answer
      reply s t = granted (success call (nfs_text (doing.granted s.0 s.1 t)))

  decided : (v : Option Rule) (doing : Doing) → Decided v c doing call a new → Decided v c doing call b other → SameTree
  decided (Some rule) doing h g = (g.answer_is ∙ sym h.answer_is, g.new_is ∙ sym h.new_is)
  decided None doing h g = done doing h g

  refusable : (refused : Bool) (o : Option Doing) → Refusable refused o c call a new → Refusable refused o c call b other → SameTree
  refusable true o h g = (g.answer_is ∙ sym h.answer_is, g.new_is ∙ sym h.new_is)
  refusable false None h g = (g.0 ∙ sym h.0, g.1 ∙ sym h.1)
  refusable false (Some doing) h g = decided (verdict_in c) doing h g

-- ---- an event

module _ (setup : Setup) (old : State) (event : Event) (choice : Choice) (a b : Answer) (new other : State) where
  abbrev Same : Type 0
  Same = (b ≡ a) × (other ≡ new)

  mount_done : (call : Call) (result : MountAnswer) (mounts : List Mount) → MountDone call old result mounts a new → MountDone call old result mounts b other → Same
  mount_done call result mounts h g = (g.0 ∙ sym h.0, g.1 ∙ sym h.1)

  mount_decided : (v : Option Rule) (has_memory : Bool) (path : List ℕ) (call : Call) → MountDecided v has_memory old event.addr path call a new → MountDecided v has_memory old event.addr path call b other → Same
  mount_decided (Some rule) has_memory path call h g = (g.0 ∙ sym h.0, g.1 ∙ sym h.1)
  mount_decided None true path call h g = (g.2.0 ∙ ap (λ handle. granted (success call (mount_text (granted_answer handle)))) (same_some (sym g.1 ∙ h.1)) ∙ sym h.2.0, g.2.1 ∙ sym h.2.1)
  mount_decided None false path call h g = (g.1 ∙ sym h.1, g.2 ∙ sym h.2)

  mount_performed : (asks : MountArgs) (call : Call) → MountPerformed asks setup.exports old event.addr call choice a new → MountPerformed asks setup.exports old event.addr call choice b other → Same
  mount_performed asked.Null call h g = (g.0 ∙ sym h.0, g.1 ∙ sym h.1)
  mount_performed (asked.Mount path) call h g = mount_decided (mount_verdict old.tree setup.exports event.addr path) choice.has_memory path call h g
  mount_performed asked.Dump call h g = (g.0 ∙ sym h.0, g.1 ∙ sym h.1)
  mount_performed (asked.Unmount path) call h g = (g.0 ∙ sym h.0, g.1 ∙ sym h.1)
  mount_performed asked.UnmountAll call h g = (g.0 ∙ sym h.0, g.1 ∙ sym h.1)
  mount_performed asked.Export call h g = (g.0 ∙ sym h.0, g.1 ∙ sym h.1)

  both_parts : other.tree ≡ new.tree → other.mounts ≡ new.mounts → other ≡ new
  both_parts e m = λ i. record { tree = e i; mounts = m i }

  requested : (call : Call) (r : Option Request) → Requested r setup old event call choice a new → Requested r setup old event call choice b other → Same
  requested call None h g = absurd h
  requested call (Some Nothing) h g = (g.0 ∙ sym h.0, g.1 ∙ sym h.1)
  requested call (Some (OfNfs caller args)) h g =
      let same = refusable (scene_of setup old event caller args) call a b new.tree other.tree (not choice.has_memory && may_change args) (doing_of args) h.0 g.0 in
      (same.0, both_parts same.1 (g.1 ∙ sym h.1))
  requested call (Some (OfMount args)) h g = mount_performed args call h g

  judged : (call : Call) (v : Option RpcRule) (r : Option Request) → Judged v r setup old event call choice a new → Judged v r setup old event call choice b other → Same
  judged call (Some rule) r h g = (g.0 ∙ sym h.0, g.1 ∙ sym h.1)
  judged call None r h g = requested call r h g

  called : (head : Result (Call × List ℕ) RpcFault) → Called head setup old event choice a new → Called head setup old event choice b other → Same
  called (Err fault) h g = (g.0 ∙ sym h.0, g.1 ∙ sym h.1)
  called (Ok head) h g = judged head.0 (rpc_failure_of head.0 head.1) (request_of event.addr head.0 head.1) h g

  retransmitted : (reply : Option (List ℕ)) → Retransmitted reply setup old event choice a new → Retransmitted reply setup old event choice b other → Same
  retransmitted (Some reply) h g = (g.0 ∙ sym h.0, g.1 ∙ sym h.1)
  retransmitted None h g = called (head_at event.bytes) h g

-- ---- a run

same_done : (d e : Done) → e.event ≡ d.event → e.choice ≡ d.choice → e.answer ≡ d.answer → e ≡ d
same_done d e event choice answer = λ i. record { event = event i; choice = choice i; answer = answer i }

pub answers_follow : AnswersFollow
answers_follow setups opening [] [] state state' run run' alike = (refl, run' ∙ sym run)
answers_follow setups opening [] (e ∷ earlier) state state' run run' alike = absurd alike
answers_follow setups opening (d ∷ before) [] state state' run run' alike = absurd alike
answers_follow setups opening (d ∷ before) (e ∷ earlier) state state' run run' alike =
    let was = answers_follow setups opening before earlier run.0 run'.0 run.1 run'.1 alike.0 in
    let setup = setups (length before) in
    let step : Step setup before run.0 d.event d.choice e.answer state' =
    subst (λ c. Step setup before run.0 d.event c e.answer state') alike.2
    (subst (λ v. Step setup before run.0 v e.choice e.answer state') alike.1
    (subst (λ old. Step setup before old e.event e.choice e.answer state') was.1
    (subst (λ history. Step (setups (length history)) history run'.0 e.event e.choice e.answer state') was.0 run'.2))) in
    let same = retransmitted setup run.0 d.event d.choice d.answer e.answer state state' (first_reply setup.places before d.event) run.2 step in
    ((λ i. same_done d e alike.1 alike.2 same.0 i ∷ was.0 i), same.1)

pub bytes_are_hidden : BytesAreHidden
bytes_are_hidden f setups opening history state run never other agree others state' run' alike =
    let r = reading_is_confined f setups opening history state run never other agree in
    let same = answers_follow setups (record opening { tree = other }) history others r.0 state' r.1 run' alike in
    let there = agree_at_end f setups opening other history state r.0 run r.1 r.2 in (
      same.0,
      subst (λ (s : State). AgreeOutside f state.tree s.tree) (sym same.1) there.0,
      subst (λ (s : State). s.mounts ≡ state.mounts) (sym same.1) there.1,
    )
