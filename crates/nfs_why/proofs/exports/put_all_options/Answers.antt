use Rattle.std.proofs.Common.{◌++◌, codes}
use Rattle.nfs_words.proofs.Texts.{puts_then}
use Rattle.nfs_why.specs.Exports.{access_text, anonymous_text, squash_text}
use Rattle.nfs_why.proofs.Putting.{puts_as}
use Rattle.nfs_why.proofs.exports.put_all_options.Goals as goal

pub returns : goal.returns
returns c =
    let o = c.args.options in
    let first = codes "(sync,wdelay,hide,no_subtree_check" in
    let ids = first ++ anonymous_text o in
    let sec = ids ++ codes ",sec=sys" in
    let rights = sec ++ access_text o.read_only in
    let port = rights ++ codes ",insecure" in
    let mapping = port ++ squash_text o.squash in
    let out = c.args.out.now in
    puts_then mapping (codes ")") out c.put-5.new.self c.put-6.new.self
    (puts_then port (squash_text o.squash) out c.put-4.new.self c.put-5.new.self
    (puts_then rights (codes ",insecure") out c.put-3.new.self c.put-4.new.self
    (puts_then sec (access_text o.read_only) out c.put-2.new.self c.put-3.new.self
    (puts_then ids (codes ",sec=sys") out c.put_anonymous.new.out c.put-2.new.self
    (puts_then first (anonymous_text o) out c.put.new.self c.put_anonymous.new.out c.put.ensures c.put_anonymous.ensures)
    c.put-2.ensures)
    (puts_as c.access.result.now (access_text o.read_only) c.put-2.new.self c.put-3.new.self c.access.ensures c.put-3.ensures))
    c.put-4.ensures)
    (puts_as c.squash.result.now (squash_text o.squash) c.put-4.new.self c.put-5.new.self c.squash.ensures c.put-5.ensures))
    c.put-6.ensures
