-- What a framer keeps true of its fields.
use Rattle.std.specs.Prelude.{ℕ, ◌+◌, ◌<◌, ◌≤◌, vec_len, vec_capacity}
use Rattle.nfs_rpc.specs.declared.framer.Stage.{Stage}
use Rattle.nfs_rpc.specs.declared.framer.Stage.TheVariants.{Header, Body, Ready, Failed}
use Rattle.nfs_rpc.specs.declared.framer.Framer.TheInside.{Inside}

abbrev pub KeepsStage : ℕ → ℕ → ℕ → Stage → Type 0
KeepsStage limit len capacity (Header bytes have) = (have < 4) × (len ≤ limit)
KeepsStage limit len capacity (Body last left) = (0 < left) × (len + left ≤ limit) × (len + left ≤ capacity)
KeepsStage limit len capacity Ready = len ≤ limit
KeepsStage limit len capacity Failed = Unit {0}

abbrev pub Keeps : Inside → Type 0
Keeps a = KeepsStage a.limit (vec_len a.content) (vec_capacity a.content) a.stage
