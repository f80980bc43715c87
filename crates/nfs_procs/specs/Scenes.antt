-- A call: what it asks for, of whom, and where it comes to.
use Rattle.std.specs.Prelude.{ℕ, List, Option, option_map}
use Rattle.nfs_args.specs.declared.args.NfsArgs.{NfsArgs}
use Rattle.nfs_attrs.specs.declared.fattr.Fattr.{Fattr}
use Rattle.nfs_attrs.specs.declared.moment.Moment.{Moment}
use Rattle.nfs_exports.specs.declared.export_table.Export.{Export}
use Rattle.nfs_inodes.specs.Tree.{Tree}
use Rattle.nfs_procs.specs.declared.call_context.CallContext.{CallContext}
use Rattle.nfs_rules.specs.Subjects.{Caller, Subject, subject_at}
use Rattle.nfs_rules.specs.Verdicts.{handles_in, subjects_at, verdict}
use Rattle.nfs_rules.specs.Views.{caller_of}
use Rattle.nfs_rules.specs.declared.rule.Rule.{Rule}

pub record Scene : Type 0 where
  pub tree : Tree
  pub exports : List (List Export)
  pub caller : Caller
  pub now : Moment
  pub args : NfsArgs

-- of a call as it is in memory
abbrev pub scene : Tree → CallContext → NfsArgs → Scene
scene t call args = record { tree = t; exports = call.table.now; caller = caller_of call.caller; now = call.moment; args = args }

abbrev pub verdict_in : Scene → Option Rule
verdict_in c = verdict c.tree c.exports c.caller c.args

-- what its handles name; of one handle twice the same
abbrev pub subjects_in : Scene → Option (Subject × Subject)
subjects_in c = subjects_at c.tree c.exports c.caller (handles_in c.args)

-- the attributes that are shown of what a handle names: where the rules of this handle are kept
abbrev pub seen_in : Scene → List ℕ → Option Fattr
seen_in c handle = option_map (λ s. s.file) (subject_at c.tree c.exports c.caller handle)
