use Rattle.std.proofs.Common.{◌++◌, codes}
use Rattle.nfs_words.proofs.Texts.{puts_then}
use Rattle.nfs_why.specs.Exports.{gap, host_text, options_text}
use Rattle.nfs_why.proofs.Putting.{puts_as}
use Rattle.nfs_why.proofs.exports.put_export.Goals as goal

pub returns : goal.returns
returns c =
    let e = c.args.export.now in
    let path = c.args.path.now in
    puts_then (path ++ gap path ++ host_text e.pattern ++ options_text e.options) (codes "\n") c.args.out.now c.put_all_options.new.out c.put-3.new.self
    (puts_then (path ++ gap path ++ host_text e.pattern) (options_text e.options) c.args.out.now c.put_host.new.out c.put_all_options.new.out
    (puts_then (path ++ gap path) (host_text e.pattern) c.args.out.now c.put-2.new.self c.put_host.new.out
    (puts_then path (gap path) c.args.out.now c.put.new.self c.put-2.new.self c.put.ensures
    (puts_as c.gap.result.now (gap path) c.put.new.self c.put-2.new.self c.gap.ensures c.put-2.ensures))
    c.put_host.ensures)
    c.put_all_options.ensures)
    c.put-3.ensures
