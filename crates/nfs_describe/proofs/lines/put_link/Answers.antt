use Rattle.std.proofs.Common.{◌≡◌, ◌++◌, codes, ap, ◌∙◌, rules}
use Rattle.std.specs.Prelude.{decimal}
use Rattle.nfs_describe.specs.Lines.{path_text, target_text}
use Rattle.nfs_describe.proofs.Outputs.{joined_five, takes_as, takes_last, takes_then}
use Rattle.nfs_describe.proofs.lines.put_link.Goals as goal

pub returns : goal.returns
returns g c =
    let has = g.O.Output.has in
    let path = path_text c.args.form c.args.path.now in
    let words = codes "link " ++ path ++ c.as_slice.result.now in
    let target = target_text c.args.form c.args.target.now in
    let after : c.as_slice.result.now ≡ codes " " ++ decimal c.args.uid ++ codes " " ++ decimal c.args.gid ++ codes " " = search rules in
    let joined = joined_five (codes "link " ++ path) (codes " ") (decimal c.args.uid) (codes " ") (decimal c.args.gid) (codes " ") in
    takes_as has c.args.out.now c.put-2.new.self c.put-2.result ((words ++ target) ++ codes "\n") _
    (ap (λ l. (codes "link " ++ path ++ l) ++ target ++ codes "\n") after ∙ ap (λ l. l ++ target ++ codes "\n") joined)
    (takes_last has c.args.out.now c.put_target_text.new.out c.put-2.new.self c.put-2.result (words ++ target) (codes "\n")
    (takes_then has c.args.out.now c.put_words.new.out c.put_target_text.new.out words target c.in_ok-put_words.ensures c.in_ok-put_target_text.ensures)
    c.put-2.ensures)
