use Rattle.std.proofs.Common.{◌++◌, subst}
use Rattle.std.specs.Prelude.{codes, option_map}
use Rattle.nfs_lives.specs.Paths.{word_of, old_text}
use Rattle.nfs_lives.specs.Rows.{Feeds}
use Rattle.nfs_lives.proofs.Fed.{fed}
use Rattle.nfs_lives.proofs.path_digest.feed.Goals as goal

pub returns : goal.returns
returns c =
    let a = c.args.digest.now in
    let b = c.put.new.digest in
    let d = c.put-2.new.digest in
    let e = c.put-3.new.digest in
    let f = c.feed_old.new.digest in
    let g = c.put-4.new.digest in
    let word = word_of c.args.row.keyword in
    let path = c.args.row.path.now in
    let old = old_text (option_map (λ it. it.now) c.args.row.old) in
    let worded : Feeds a word b = subst (λ text. Feeds a text b) c.word_of.ensures c.put.ensures in
    let parted : Feeds a (word ++ codes " ") d = fed a b d word (codes " ") worded c.put-2.ensures in
    let with_path : Feeds a (word ++ codes " " ++ path) e = fed a d e (word ++ codes " ") path parted c.put-3.ensures in
    let with_old : Feeds a (word ++ codes " " ++ path ++ old) f = fed a e f (word ++ codes " " ++ path) old with_path c.feed_old.ensures in
    fed a f g (word ++ codes " " ++ path ++ old) (codes "\n") with_old c.put-4.ensures
