use Rattle.std.proofs.Common.{List, ap, sym, ◌∙◌}
use Rattle.std.specs.Prelude.{length}
use Rattle.nfs_entries.specs.Listing.{Listed, Row, listed}
use Rattle.nfs_entries.proofs.Rows.{none_of, some_of, none_long}
use Rattle.nfs_entries.proofs.directory_entries.DirectoryEntries.is_empty.Goals as goal

pub returns : goal.returns
returns c =
    let rows = c.self.inside.rows.entries in
    let places = c.self.inside.places.items in
    let seen = ap (λ (v : Listed). v.entries) c.self.view_is in (
      λ y. sym seen ∙ ap (λ rows. listed rows places) (none_long rows (c.is_empty.ensures.0 y)) ∙ none_of places,
      λ none. c.is_empty.ensures.1 (ap (λ (rows : List Row). length rows) (some_of rows places c.self.inside.next c.self.invariant.0 (seen ∙ none))),
    )
