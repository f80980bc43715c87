use Rattle.std.proofs.Common.{ℕ, List}
use Rattle.nfs_load.proofs.Statements.{content_refused}
use Rattle.nfs_load.proofs.statement.FileLine.read.Goals as goal

pub returns-in_err-content : goal.returns-in_err-content
returns-in_err-content c = content_refused c.args.names c.args.tree.now.limits.file_size (λ (content : List ℕ). content) c.args.fields.now c.in_ok-path.path _ c.in_ok-given.given _ c.content.new.self c.in_err-content.field-0.0 c.from_residual-in_err-content.result c.in_ok-path.ensures c.in_ok-given.ensures c.in_err-content.ensures c.from_residual-in_err-content.ensures
