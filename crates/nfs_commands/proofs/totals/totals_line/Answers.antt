use Rattle.std.proofs.Common.{ℕ, List, ◌++◌, length, codes, ap, ◌∙◌}
use Rattle.std.proofs.lemmas.Result.{IfOk-weaker}
use Rattle.std.specs.Prelude.{decimal}
use Rattle.nfs_inodes.specs.declared.volumes.Totals.{Totals}
use Rattle.nfs_words.specs.Texts.{Puts}
use Rattle.nfs_words.proofs.Texts.{puts_then}
use Rattle.nfs_commands.proofs.totals.totals_line.Goals as goal

pub returns : goal.returns
returns c =
    let all : ℕ → Totals → List ℕ = λ volumes totals. codes "ok" ++ (codes " volumes=" ++ decimal volumes) ++ (codes " files=" ++ decimal totals.files) ++ (codes " bytes=" ++ decimal totals.bytes) ++ codes "\n" in
    let volumes = codes " volumes=" ++ decimal c.volumes.result in
    let files = codes " files=" ++ decimal c.totals_of-bytes.result.files in
    let bytes = codes " bytes=" ++ decimal c.totals_of-bytes.result.bytes in
    let empty = c.new-line.result in
    let puts : Puts (all c.volumes.result c.totals_of-bytes.result) empty c.put-2.new.self =
    puts_then (codes "ok" ++ volumes ++ files ++ bytes) (codes "\n") empty c.put_field-3.new.self c.put-2.new.self
    (puts_then (codes "ok" ++ volumes ++ files) bytes empty c.put_field-2.new.self c.put_field-3.new.self
    (puts_then (codes "ok" ++ volumes) files empty c.put_field.new.self c.put_field-2.new.self
    (puts_then (codes "ok") volumes empty c.put.new.self c.put_field.new.self c.put.ensures c.put_field.ensures)
    c.put_field-2.ensures)
    c.put_field-3.ensures)
    c.put-2.ensures in
    IfOk-weaker c.into_bytes.result _ _ (λ line is. is.0 ∙ (puts is.1).1 ∙ ap (λ l. l ++ all c.volumes.result c.totals_of-bytes.result) c.new-line.ensures.bytes
    ∙ ap (λ n. all n c.totals_of-bytes.result) c.volumes.ensures ∙ ap (all (length c.args.tree.now.volumes)) c.totals_of-bytes.ensures) c.into_bytes.ensures
