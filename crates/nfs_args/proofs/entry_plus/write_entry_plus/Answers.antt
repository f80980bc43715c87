use Rattle.std.proofs.Common.{◌++◌, refl, subst, ◌∙◌}
use Rattle.std.specs.Int.{w64}
use Rattle.nfs_xdr.specs.Encoding.{IsOptional, ◌⨾◌, opaque_text, optional_text}
use Rattle.nfs_xdr.specs.Written.{Appends}
use Rattle.nfs_xdr.proofs.Writing.{number_written}
use Rattle.nfs_attrs.specs.Encoding.{IsPostOpAttr, post_op_attr_text}
use Rattle.nfs_args.specs.Encoding.{IsHandle}
use Rattle.nfs_args.proofs.Entries.{entry_plus_parts, entry_plus_written}
use Rattle.nfs_args.proofs.entry_plus.write_entry_plus.Goals as goal

pub returns-clause-text : goal.returns-clause-text
returns-clause-text c =
    entry_plus_parts c.args.entry.now _ _ _ _ refl (c.new.ensures ∙ c.bytes.ensures) refl c.write_entry.ensures.text
    (subst (λ o. Appends (post_op_attr_text o ++ optional_text opaque_text c.args.entry.now.file) c.write_entry.new.out c.write_entry_file.new.out) c.as_ref.ensures.value c.write_entry_file.ensures.text)

pub returns-clause-encoded : goal.returns-clause-encoded
returns-clause-encoded c = let entry = c.write_entry.ensures.encoded in
    entry_plus_written c.args.entry.now c.requires.fits (number_written w64 _ entry.first.fits) (number_written w64 _ entry.second.second.fits)
    (subst (λ o. (IsPostOpAttr o ⨾ IsOptional IsHandle c.args.entry.now.file) (post_op_attr_text o ++ optional_text opaque_text c.args.entry.now.file)) c.as_ref.ensures.value c.write_entry_file.ensures.encoded)
