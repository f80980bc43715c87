use Rattle.std.proofs.Common.{◌-◌, length, refl, ap, ◌∙◌}
use Rattle.nfs_inodes.specs.Tree.{bytes_in}
use Rattle.nfs_inodes.specs.Storage.{file_of}
use Rattle.nfs_inodes.proofs.StoredFiles.{on_err, unwritten, wrote}
use Rattle.nfs_inodes.proofs.stored_files.write.Goals as goal

pub returns-in_err-write_bytes-in-Some-clause-err :
    goal.returns-in_err-write_bytes-in-Some-clause-err
returns-in_err-write_bytes-in-Some-clause-err c = on_err c.from_residual.result (unwritten c.args.files.now c.args.number.0 c.requires.file.file c.in-Some.stored_file.now c.write_bytes.new.stored_file c.requires.file.at_file c.in-Some.ensures.value c.in_err-write_bytes-in-Some.ensures.err c.write_bytes.ensures.nlink)

pub returns-clause-ok : goal.returns-clause-ok
returns-clause-ok c = wrote c.args.files.now c.args.number.0 c.args.offset c.args.bytes.now c.args.now c.requires.file c.in-Some.stored_file.now c.write_bytes.new.stored_file (record { volume = c.write_bytes.new.stored_file.volume; bytes = c.size.result - c.size-before.result }) c.in-Some.ensures.value c.in_ok-write_bytes-in-Some.ensures.ok c.write_bytes.ensures.nlink refl
    (ap (λ n. n - c.size-before.result) c.size.ensures ∙ ap (λ n. length (bytes_in (file_of 0 c.write_bytes.new.stored_file).kind) - n) c.size-before.ensures)
