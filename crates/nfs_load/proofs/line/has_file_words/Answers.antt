use Rattle.std.proofs.Common.{◌≡◌, ◌∷◌, ap, sym, ◌∙◌, length, arith}
use Rattle.nfs_text.specs.Words.{words, words_left}
use Rattle.nfs_load.proofs.Words.{words_few}
use Rattle.nfs_load.proofs.line.has_file_words.Goals as goal

pub count_words-requires : goal.count_words-requires
count_words-requires c =
    let after : words c.args.line.now ≡ c.in-Some.word.now ∷ words_left c.next.new.self = sym c.new-fields.ensures ∙ c.in-Some.ensures.steps in
    omega (arith, words_few c.args.line.now, ap length after)
