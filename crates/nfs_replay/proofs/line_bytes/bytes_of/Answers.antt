use Rattle.nfs_text.specs.Words.{words_left}
use Rattle.nfs_replay.proofs.Scripts.{by_line, word_fails, word_more, words_end}
use Rattle.nfs_replay.proofs.line_bytes.bytes_of.Goals as goal

pub loop-word-preserved : goal.loop-word-preserved
loop-word-preserved c =
    word_more c.args.tree.now (words_left c.args.words) (words_left c.loop-word.left) (words_left c.next.new.self) c.in-Some.word.now c.loop-word.bytes.items c.push_word.new.bytes.items
    c.loop-word.invariant c.in-Some.ensures.steps c.in_ok-push_word.ensures.ok

pub returns-in_err-push_word-clause-fault : goal.returns-in_err-push_word-clause-fault
returns-in_err-push_word-clause-fault c = by_line _ c.from_residual.result _ c.from_residual.ensures
    (word_fails c.args.tree.now (words_left c.args.words) (words_left c.loop-word.left) (words_left c.next.new.self) c.in-Some.word.now c.loop-word.bytes.items _
    c.loop-word.invariant c.in-Some.ensures.steps c.in_err-push_word.ensures.fault)

pub returns-clause-ok : goal.returns-clause-ok
returns-clause-ok c = words_end c.args.tree.now (words_left c.args.words) (words_left c.loop-word.left) c.loop-word.bytes.items c.loop-word.invariant c.in_default.ensures.steps.0
