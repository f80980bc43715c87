use Rattle.std.proofs.Common.{◌<◌, subst, ap, ◌∙◌}
use Rattle.nfs_entries.specs.Listing.{Listed}
use Rattle.nfs_inodes.specs.Reading.{number_named}
use Rattle.nfs_inodes.specs.Storage.{kind_of}
use Rattle.nfs_inodes.proofs.Tests.{takes_name}
use Rattle.nfs_inodes.proofs.conditions.takes_entry.Goals as goal

pub returns-else-not-is_name : goal.returns-else-not-is_name
returns-else-not-is_name c = takes_name c.args.stored_file.now c.in-Directory.parent.0 c.in-Directory.entries.value c.args.name.now c.number.result c.is_none.result (ap kind_of c.in-Directory.is)
    (subst (λ n. n < 18446744073709551615) (c.next.ensures ∙ ap (λ (e : Listed). e.next) c.deref.ensures) c.if-next-ge18446744073709551615.false) (c.is_name.ensures.0 c.if-not-is_name.false)
    (c.number.ensures ∙ ap (λ (e : Listed). number_named c.args.name.now e.entries) c.deref-in-Directory.ensures) c.is_none.ensures
