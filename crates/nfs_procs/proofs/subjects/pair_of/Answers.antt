use Rattle.std.proofs.Common.{sym, ◌∙◌}
use Rattle.nfs_procs.proofs.Pairs.{are_pair, pair_part, pair_unnamed}
use Rattle.nfs_procs.proofs.subjects.pair_of.Goals as goal

pub returns-in-Ok : goal.returns-in-Ok
returns-in-Ok c =
    let call = c.args.call.now in
    let s = c.in-Ok.pair.0 in
    let u = c.in-Ok.pair.1 in
    let pair = are_pair c.of-one.result c.of-two.result s u (sym c.in_one_volume.ensures ∙ c.in-Ok.is) in record {
      first_is = pair_part c.args.tree.now call c.args.one.now c.bytes.result.now c.bytes.ensures c.of-one.result s pair.one c.of-one.ensures.rules c.of-one.ensures.subject c.law.ensures.law c.law.ensures.file;
      second_is = pair_part c.args.tree.now call c.args.two.now c.bytes-2.result.now c.bytes-2.ensures c.of-two.result u pair.two c.of-two.ensures.rules c.of-two.ensures.subject c.law-in-Ok.ensures.law c.law-in-Ok.ensures.file;
      volume = pair.volume;
    }

pub returns-in-Err : goal.returns-in-Err
returns-in-Err c = pair_unnamed c.args.tree.now c.args.call.now c.args.one.now c.args.two.now c.bytes.result.now c.bytes-2.result.now c.bytes.ensures c.bytes-2.ensures c.of-one.result c.of-two.result
    c.in-Err.rule _ _ (sym c.in_one_volume.ensures ∙ c.in-Err.is) c.of-one.ensures.rules c.of-one.ensures.subject c.of-two.ensures.rules c.of-two.ensures.subject
    c.attributes_of-one_shown.ensures c.attributes_of-two_shown.ensures
