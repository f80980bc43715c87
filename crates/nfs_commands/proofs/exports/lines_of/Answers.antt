use Rattle.std.proofs.Common.{◌++◌, ap, ◌∙◌}
use Rattle.std.proofs.lemmas.Result.{IfOk-weaker}
use Rattle.nfs_why.specs.Exports.{exports_text}
use Rattle.nfs_commands.proofs.exports.lines_of.Goals as goal

pub returns : goal.returns
returns c = IfOk-weaker c.into_bytes.result _ _ (λ bytes is. is.0 ∙ (c.put_exports.ensures is.1).1
    ∙ ap (λ l. l ++ exports_text c.args.loaded.now.tree c.args.loaded.now.table) c.new-lines.ensures.bytes) c.into_bytes.ensures
