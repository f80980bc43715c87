use Rattle.std.proofs.Common.{[], subst}
use Rattle.std.specs.Prelude.{◌≢◌}
use Rattle.nfs_text.specs.Chunks.{chunks}
use Rattle.nfs_load.proofs.PathNames.{some_names}
use Rattle.nfs_load.proofs.Timed.{some_chunk}
use Rattle.nfs_load.proofs.path.Path.law.Goals as goal

pub returns : goal.returns
returns c =
    subst (λ names. names ≢ []) c.self.view_is
    (some_names c.self.inside.form (chunks 47 c.self.inside.after_slash.now) (some_chunk 47 c.self.inside.after_slash.now) c.self.invariant)
