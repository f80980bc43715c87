use Rattle.std.proofs.Common.{rules, ap, ◌∙◌}
use Rattle.std.specs.Prelude.{slice_set}
use Rattle.nfs_entries.specs.Listing.{PlaceValue}
use Rattle.nfs_entries.proofs.Places.{led_past, led_set}
use Rattle.nfs_entries.proofs.directory_entries.lead.Goals as goal

pub returns-then-at-len-clause-items : goal.returns-then-at-len-clause-items
returns-then-at-len-clause-items c =
    let places = c.args.places.now.items in
    ap (slice_set places c.args.at) (c.new.ensures ∙ ap (λ n. record { cookie = n; index = c.args.row }) (c.cookie-cookie.ensures ∙ ap (λ (p : PlaceValue). p.cookie) c.index.ensures))
    ∙ led_set c.args.at c.args.row places c.index.result.now (search rules)

pub returns-else-at-len-clause-items : goal.returns-else-at-len-clause-items
returns-else-at-len-clause-items c = led_past c.args.at c.args.row c.args.places.now.items (search rules)
