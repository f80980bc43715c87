use Rattle.std.proofs.Common.{◌≡◌, ◌++◌, codes, ap, ◌∙◌, rules}
use Rattle.std.specs.Prelude.{decimal}
use Rattle.nfs_describe.specs.Lines.{given_text}
use Rattle.nfs_describe.proofs.Outputs.{joined_six, takes_as}
use Rattle.nfs_describe.proofs.lines.put_volume_line.Goals as goal

pub returns : goal.returns
returns g c =
    let after : c.as_slice.result.now ≡ codes " " ++ decimal c.args.max_bytes ++ codes " " ++ decimal c.args.max_files ++ given_text c.args.given ++ codes "\n" = search rules in
    let words = codes "volume " ++ c.args.path.now in
    takes_as g.O.Output.has c.args.out.now c.put_words.new.out c.put_words.result _ _
    (ap (λ l. words ++ l) after
    ∙ joined_six words (codes " ") (decimal c.args.max_bytes) (codes " ") (decimal c.args.max_files) (given_text c.args.given) (codes "\n")) c.put_words.ensures
