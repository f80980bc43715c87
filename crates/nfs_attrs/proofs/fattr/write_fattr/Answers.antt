use Rattle.std.specs.Int.{w32, to_be_bytes}
use Rattle.std.proofs.Common.{◌++◌, subst}
use Rattle.nfs_xdr.specs.Written.{Appends}
use Rattle.nfs_xdr.proofs.Writing.{appends_then}
use Rattle.nfs_attrs.specs.Encoding.{after_type_text}
use Rattle.nfs_attrs.proofs.Writes.{fattr_written}
use Rattle.nfs_attrs.proofs.fattr.write_fattr.Goals as goal

pub returns-clause-text : goal.returns-clause-text
returns-clause-text c =
    subst (λ k. Appends (to_be_bytes w32 k ++ after_type_text c.args.attributes.now) c.args.out.now c.write_after_type.new.out) c.number_of.ensures
    (appends_then _ _ _ _ _ c.u32.ensures.text c.write_after_type.ensures.text)

pub returns-clause-encoded : goal.returns-clause-encoded
returns-clause-encoded c = fattr_written c.args.attributes.now _ c.number_of.ensures c.u32.ensures.encoded c.write_after_type.ensures.encoded
