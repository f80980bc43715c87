use Rattle.std.proofs.Common.{◌≡◌, nat_lt, ap, ◌∙◌}
use Rattle.std.specs.Prelude.{filter}
use Rattle.nfs_entries.specs.Listing.{PlaceValue, Entry, Listed, listed}
use Rattle.nfs_entries.proofs.Rows.{listed_after}
use Rattle.nfs_entries.proofs.directory_entries.DirectoryEntries.after.Goals as goal

pub returns : goal.returns
returns c =
    let rows = c.self.inside.rows.entries in
    let places = c.self.inside.places.items in
    let rest : c.places_after.result.now ≡ filter (λ (p : PlaceValue). nat_lt c.args.cookie p.cookie) places = c.places_after.ensures ∙ ap (filter (λ (p : PlaceValue). nat_lt c.args.cookie p.cookie)) c.as_slice.ensures.value in
    ap (listed rows) rest ∙ listed_after c.args.cookie rows places
    ∙ ap (λ (v : Listed). filter (λ (e : Entry). nat_lt c.args.cookie e.cookie) v.entries) c.self.view_is
