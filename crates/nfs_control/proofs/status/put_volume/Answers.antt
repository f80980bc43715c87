use Rattle.std.proofs.Common.{◌++◌, codes}
use Rattle.std.specs.Prelude.{decimal}
use Rattle.nfs_words.proofs.Texts.{puts_then}
use Rattle.nfs_control.proofs.status.put_volume.Goals as goal

pub returns : goal.returns
returns c =
    let v = c.args.volume in
    let t = c.args.totals in
    let path = codes "volume " ++ v.path.now in
    let bytes = path ++ (codes " bytes=" ++ decimal t.bytes) in
    let most_bytes = bytes ++ (codes " of=" ++ decimal v.max_bytes) in
    let files = most_bytes ++ (codes " files=" ++ decimal t.files) in
    let most_files = files ++ (codes " of=" ++ decimal v.max_files) in
    let out = c.args.out.now in
    puts_then most_files (codes "\n") out c.put_field-4.new.self c.put-3.new.self
    (puts_then files (codes " of=" ++ decimal v.max_files) out c.put_field-3.new.self c.put_field-4.new.self
    (puts_then most_bytes (codes " files=" ++ decimal t.files) out c.put_field-2.new.self c.put_field-3.new.self
    (puts_then bytes (codes " of=" ++ decimal v.max_bytes) out c.put_field.new.self c.put_field-2.new.self
    (puts_then path (codes " bytes=" ++ decimal t.bytes) out c.put-2.new.self c.put_field.new.self
    (puts_then (codes "volume ") v.path.now out c.put.new.self c.put-2.new.self c.put.ensures c.put-2.ensures)
    c.put_field.ensures)
    c.put_field-2.ensures)
    c.put_field-3.ensures)
    c.put_field-4.ensures)
    c.put-3.ensures
