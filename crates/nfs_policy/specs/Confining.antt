-- What runs report of the bytes of a file that none of their calls reads, and what each of their events may change.
use Rattle.std.specs.Prelude.{◌≡◌, ℕ, List, [], ◌∷◌, length, Some, None, Ok, ◌⊎◌}
use Rattle.nfs_args.specs.declared.args.NfsArgs.{NfsArgs}
use Rattle.nfs_inodes.specs.Law.{Law}
use Rattle.nfs_inodes.specs.Tree.{Tree}
use Rattle.nfs_rpc.specs.Calls.{Call, head_at}
use Rattle.nfs_rules.specs.Subjects.{Caller}
use Rattle.nfs_server.specs.Events.{Event, Answer, Choice, Done}
use Rattle.nfs_server.specs.Requests.{OfNfs, request_of}
use Rattle.nfs_server.specs.RpcRules.{rpc_failure_of}
use Rattle.nfs_server.specs.Steps.{Setup, State, scene_of, Step, IsRun}
use Rattle.nfs_server.specs.Fits.{Held, History, Fits}
use Rattle.nfs_policy.specs.Naming.{NamesOn, HandlesNameOne, Through}
use Rattle.nfs_policy.specs.Policy.{Policy}
use Rattle.nfs_policy.specs.Reading.{ReadsNot}
use Rattle.nfs_policy.specs.Shape.{AgreeOutside}

-- the event asks something of NFS
pub record Asks (event : Event) (caller : Caller) (args : NfsArgs) : Type 0 where
  pub call : Call
  pub rest : List ℕ
  pub head : head_at event.bytes ≡ Ok (call, rest)
  pub kept : rpc_failure_of call rest ≡ None
  pub request : request_of event.addr call rest ≡ Some (OfNfs caller args)

-- no event of the run is a READ of file f that is granted
abbrev pub NeverReads : (f : ℕ) (setups : ℕ → Setup) (opening : State) (history : List Done) (state : State) → IsRun setups opening history state → Type 0
NeverReads f setups opening [] state run = Unit {0}
NeverReads f setups opening (d ∷ before) state run = NeverReads f setups opening before run.0 run.1
    × ((caller : Caller) (args : NfsArgs) → Asks d.event caller args → ReadsNot f (scene_of (setups (length before)) run.0 d.event caller args))

-- the trees of two runs agree outside f after each event, and the mount lists are the same
abbrev pub AgreeThrough : (f : ℕ) (setups : ℕ → Setup) (opening other : State) (history : List Done) (state state' : State)
    → IsRun setups opening history state → IsRun setups other history state' → Type 0
AgreeThrough f setups opening other [] state state' run run' = AgreeOutside f state.tree state'.tree × (state'.mounts ≡ state.mounts)
AgreeThrough f setups opening other (d ∷ before) state state' run run' = AgreeThrough f setups opening other before run.0 run'.0 run.1 run'.1
    × AgreeOutside f state.tree state'.tree × (state'.mounts ≡ state.mounts)

-- the same events, choices, replies and lines are a run from a tree that agrees outside f
abbrev pub ReadingIsConfined : Type 0
ReadingIsConfined = (f : ℕ) (setups : ℕ → Setup) (opening : State) (history : List Done) (state : State) (run : IsRun setups opening history state)
    → NeverReads f setups opening history state run → (other : Tree) → AgreeOutside f opening.tree other
    → (state' : State) × (run' : IsRun setups (record opening { tree = other }) history state')
    × AgreeThrough f setups opening (record opening { tree = other }) history state state' run run'

-- an event leaves the tree, or asks something of NFS and changes what the policy allows by the exports of this setup
abbrev pub Leaves : Setup → State → Event → State → Type 0
Leaves setup old event new = (new.tree ≡ old.tree)
    ⊎ ((caller : Caller) × (args : NfsArgs) × Asks event caller args × (caller.addr ≡ event.addr)
    × Policy setup.exports caller event.moment old.tree new.tree)

abbrev pub ChangeIsConfined : Type 0
ChangeIsConfined = (setup : Setup) (history : List Done) (old : State) (event : Event) (choice : Choice) (answer : Answer) (new : State)
    → Law old.tree → Step setup history old event choice answer new → Leaves setup old event new

-- this is so of each event of a run, with the setup in force when it came, the state before it and the state after it
abbrev pub Throughout : (setups : ℕ → Setup) (opening : State) (history : List Done) (state : State) → IsRun setups opening history state
    → (Setup → State → Event → State → Type 0) → Type 0
Throughout setups opening [] state run Holds = Unit {0}
Throughout setups opening (d ∷ before) state run Holds = Throughout setups opening before run.0 run.1 Holds × Holds (setups (length before)) run.0 d.event state

abbrev pub RunsAreConfined : Type 0
RunsAreConfined = (setups : ℕ → Setup) (opening : State) → Law opening.tree
    → (history : List Done) (state : State) (run : IsRun setups opening history state)
    → Law state.tree × Throughout setups opening history state run Leaves

-- What is known of a server that a history fits: so of each after `new`, `set_exports`, `handle`, `run`, `feed`, `serve_stream` and each turn of a client.
pub record IsConfined (history : History) (s : Held) (fits : Fits history s) : Type 0 where
  pub lawful : Law s.state.tree
  pub confined : Throughout history.setups history.opening history.done s.state fits.run Leaves
  pub one : HandlesNameOne s.state.tree
  pub good : Through history.setups history.opening history.done s.state fits.run (λ between. NamesOn between.tree s.state.tree)

abbrev pub ServersAreConfined : Type 0
ServersAreConfined = (history : History) (s : Held) (fits : Fits history s) → IsConfined history s fits
