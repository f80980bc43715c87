use Rattle.std.proofs.Common.{◌≡◌, true, Some, Ok, take, drop, min, sym, ap, subst, ◌∙◌}
use Rattle.nfs_args.specs.declared.answer.NfsAnswer.TheVariants as answer
use Rattle.nfs_attrs.specs.declared.fattr.Fattr.{Fattr}
use Rattle.nfs_inodes.specs.Views.{bytes_seen}
use Rattle.nfs_procs.specs.Performing.{AppendsAnswer}
use Rattle.nfs_procs.specs.Readers as procedure
use Rattle.nfs_inodes.proofs.Readers.{seen_bytes}
use Rattle.nfs_inodes.specs.Reading.{attributes_at, bytes_at, is_regular_type}
use Rattle.nfs_procs.proofs.Data.{read_written, size_is}
use Rattle.nfs_xdr.specs.Written.{Appends}
use Rattle.nfs_procs.proofs.read.write_data.Goals as goal

pub returns : goal.returns
returns c =
    let tree = c.args.tree.now in
    let file = c.args.file.now in
    let same = c.attributes-attributes.ensures in
    let attributes = c.attributes-attributes.result in
    let there : attributes_at tree attributes.fileid ≡ Some attributes = subst (λ (f : Fattr). attributes_at tree f.fileid ≡ Some f) (sym same) c.requires.seen.0 in
    let regular : is_regular_type attributes.file_type ≡ true = subst (λ (f : Fattr). is_regular_type f.file_type ≡ true) (sym same) c.requires.regular in
    let bytes : bytes_seen file ≡ bytes_at tree attributes.fileid = seen_bytes tree file c.requires.seen ∙ ap (λ (f : Fattr). bytes_at tree f.fileid) (sym same) in
    subst (λ (f : Fattr). AppendsAnswer (answer.Read (Ok (procedure.data_of f c.args.offset (take (min c.args.count procedure.max_transfer) (drop c.args.offset (bytes_at tree f.fileid)))))) c.args.out.now c.pad.new.self) same
    (read_written attributes c.args.offset c.args.count c.saturating_sub-left.result c.min-len.result (bytes_at tree attributes.fileid) _ _ _ _ _
    (size_is tree attributes.fileid attributes there regular)
    c.saturating_sub-left.ensures
    (c.min-len.ensures ∙ ap (min c.saturating_sub-left.result) (c.from.ensures ∙ c.min.ensures))
    c.u32.ensures.text c.write_read_head.ensures.text
    (subst (λ bytes. Appends (take c.min-len.result (drop c.args.offset bytes)) c.write_read_head.new.out c.write_bytes.new.out) bytes c.write_bytes.ensures)
    c.pad.ensures c.write_read_head.ensures.encoded)
