use Rattle.std.proofs.Common.{rules, sym, ◌∙◌, add-one}
use Rattle.std.proofs.lemmas.List.{take_rest}
use Rattle.nfs_text.proofs.Cuts.{cut_at, cut_whole}
use Rattle.nfs_text.proofs.chunks.cut.Goals as goal

pub returns-in-Some : goal.returns-in-Some
returns-in-Some c =
    let split = cut_at c.args.separator c.args.text.now c.in-Some.place (search rules) (search rules) (search rules) in
    sym (split ∙ simp (take_rest, add-one))

pub returns-in-None : goal.returns-in-None
returns-in-None c = sym (cut_whole c.args.separator c.args.text.now (search rules))
