use Rattle.std.proofs.Common.{rules, ◌<◌, ◌≤◌, [], length}
use Rattle.nfs_load.specs.Statements.{file_line_of}
use Rattle.nfs_load.proofs.FileLines.{content_fault, front_fault, line_is, takes_fault}
use Rattle.nfs_load.proofs.statement.FileLine.with_content.Goals as goal

pub returns-in_err-path : goal.returns-in_err-path
returns-in_err-path c = λ digits encodes. takes_fault file_line_of [] c.from_residual.result _ c.in_err-path.field-0.0 c.from_residual.ensures
    (front_fault c.args.names c.args.tree.now.limits.file_size c.args.fields.now digits c.in_err-path.field-0.0 c.requires c.in_err-path.ensures)

pub returns-then-len-limits : goal.returns-then-len-limits
returns-then-len-limits c =
    let many : c.args.tree.now.limits.file_size < length c.args.content = search rules in
    λ digits encodes. content_fault c.args.names c.args.tree.now.limits.file_size c.args.fields.now digits c.args.content _ _ c.requires c.in_ok-path.ensures encodes many

pub returns : goal.returns
returns c =
    let few : length c.args.content ≤ c.args.tree.now.limits.file_size = search rules in
    λ digits encodes. line_is c.args.names c.args.tree.now.limits.file_size c.args.fields.now digits c.args.content _ _ c.requires c.in_ok-path.ensures encodes few
