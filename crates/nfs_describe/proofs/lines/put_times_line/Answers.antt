use Rattle.std.proofs.Common.{◌≡◌, ◌++◌, codes, ap, ◌∙◌, rules}
use Rattle.nfs_describe.specs.Lines.{moment_text, path_text}
use Rattle.nfs_describe.proofs.Outputs.{joined_seven, takes_as}
use Rattle.nfs_describe.proofs.lines.put_times_line.Goals as goal

pub returns : goal.returns
returns g c =
    let after : c.as_slice.result.now ≡ codes " " ++ moment_text c.args.atime ++ codes " " ++ moment_text c.args.mtime ++ codes " " ++ moment_text c.args.ctime ++ codes "\n" = search rules in
    let words = codes "times " ++ path_text c.args.form c.args.path.now in
    takes_as g.O.Output.has c.args.out.now c.put_words.new.out c.put_words.result _ _
    (ap (λ l. words ++ l) after
    ∙ joined_seven words (codes " ") (moment_text c.args.atime) (codes " ") (moment_text c.args.mtime) (codes " ") (moment_text c.args.ctime) (codes "\n")) c.put_words.ensures
