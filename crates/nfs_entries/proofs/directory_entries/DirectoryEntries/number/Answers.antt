use Rattle.std.proofs.Common.{Some, ap, sym, ◌∙◌}
use Rattle.nfs_entries.specs.Listing.{Listed, number_named}
use Rattle.nfs_entries.proofs.Rows.{found_number, none_number}
use Rattle.nfs_entries.proofs.directory_entries.DirectoryEntries.number.Goals as goal

pub returns-in-Some : goal.returns-in-Some
returns-in-Some c = ap Some c.number.ensures ∙ sym (found_number c.args.name.now c.self.inside.rows.entries c.self.inside.places.items c.self.inside.next _ _ c.self.invariant.0 c.in-Some.ensures.found) ∙ ap (λ (v : Listed). number_named c.args.name.now v.entries) c.self.view_is

pub returns-in-None : goal.returns-in-None
returns-in-None c = sym (none_number c.args.name.now c.self.inside.rows.entries c.self.inside.places.items c.in-None.ensures.none) ∙ ap (λ (v : Listed). number_named c.args.name.now v.entries) c.self.view_is
