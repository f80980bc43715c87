use Rattle.std.proofs.Common.{inl, inr, ◌≡◌, List, length, sym, ap, subst, ◌∙◌, arith}
use Rattle.nfs_entries.specs.Listing.{PlaceValue, Row, linked, listed}
use Rattle.nfs_entries.proofs.Thinning.{each_linked, length-linked}
use Rattle.nfs_entries.proofs.directory_entries.thin.Goals as goal

pub returns-then-is_empty-clause-kept : goal.returns-then-is_empty-clause-kept
returns-then-is_empty-clause-kept c = inr (
  c.give_back.ensures.items ∙ c.close_up.ensures.items,
  c.give_back.ensures.entries ∙ c.link.ensures.entries ∙ ap (λ ps. linked 0 ps c.args.rows.now.entries) (c.as_slice.ensures.value ∙ sym c.give_back.ensures.items),
)

pub returns-then-is_empty-clause-few : goal.returns-then-is_empty-clause-few
returns-then-is_empty-clause-few c =
    let places = c.close_up.new.places.items in
    let linked_to : c.link.new.rows.entries ≡ linked 0 places c.args.rows.now.entries = c.link.ensures.entries ∙ ap (λ ps. linked 0 ps c.args.rows.now.entries) c.as_slice.ensures.value in
    let each = each_linked c.args.rows.now.entries c.args.places.now.items c.link.new.rows.entries places c.close_up.ensures.items linked_to in
    inl (subst (λ (rs : List Row). length (listed rs c.give_back.new.places.items) ≡ length c.give_back.new.places.items) (sym c.give_back.ensures.entries)
    (subst (λ (ps : List PlaceValue). length (listed c.link.new.rows.entries ps) ≡ length ps) (sym c.give_back.ensures.items) each))

pub returns-then-is_empty-clause-rows : goal.returns-then-is_empty-clause-rows
returns-then-is_empty-clause-rows c = ap (λ (rs : List Row). length rs) (c.give_back.ensures.entries ∙ c.link.ensures.entries) ∙ length-linked c.as_slice.result.now 0 c.args.rows.now.entries

pub give_back-requires : goal.give_back-requires
give_back-requires c =
    let long = ap (λ (rs : List Row). length rs) c.link.ensures.entries ∙ length-linked c.as_slice.result.now 0 c.args.rows.now.entries in
    let few = c.requires.rows in
    omega (arith, long, few)
