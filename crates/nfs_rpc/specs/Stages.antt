-- The stages of a reader of records.
use Rattle.std.specs.Prelude.{ℕ, Bool, [], ◌∷◌, Option, None, Some, if◌then◌else◌}
use Rattle.nfs_rpc.specs.declared.framer.Begun.{Begun}
use Rattle.nfs_rpc.specs.declared.framer.Stage.{Stage}
use Rattle.nfs_rpc.specs.declared.framer.Stage.TheVariants.{Header, Body, Ready}

-- what comes next in a fragment, by whether some of its bytes are left
abbrev pub stage_of : Bool → Bool → ℕ → Stage
stage_of some last left = if some then Body last left else (if last then Ready else Header (0 ∷ 0 ∷ 0 ∷ 0 ∷ []) 0)

-- a fragment that has begun, by how many bytes of its record's content have come, and the stage
abbrev pub begun_by : ℕ → Stage → Option Begun
begun_by come (Body last left) = Some (record { come = come; left = left })
begun_by come other = None
