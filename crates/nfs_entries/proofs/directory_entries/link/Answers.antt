use Rattle.std.proofs.Common.{◌≡◌, ◌+◌, drop, ap, sym, ◌∙◌}
use Rattle.std.specs.Option.{option_copied_mut}
use Rattle.std.proofs.lemmas.List.{at_drop_more}
use Rattle.std.specs.Prelude.{slice_get}
use Rattle.indexmap.specs.IndexMap.{set_value_at, values, spare as room}
use Rattle.nfs_entries.specs.Listing.{PlaceValue, linked, placed_at}
use Rattle.nfs_entries.proofs.Thinning.{placed_set, placed_past}
use Rattle.nfs_entries.proofs.directory_entries.link.Goals.{in-Some, in_default}
use Rattle.nfs_entries.proofs.directory_entries.link.Goals as goal

pub loop-at-preserved : goal.loop-at-preserved
loop-at-preserved c =
    let at = c.loop-at.at in
    let ps = c.args.places.now in
    let rows = c.loop-at.rows.entries in
    let p = c.index-places-at.result in
    let here : linked at (drop at ps) rows ≡ linked (at + 1) (drop (at + 1) ps) (placed_at p.index at rows) =
    at_drop_more (λ l. linked at l rows) ps at p c.loop-at-test.true ∙ ap (λ (q : PlaceValue). linked (at + 1) (drop (at + 1) ps) (placed_at q.index at rows)) (sym c.index-places-at.is) in
    elim c.match-get_index_mut.branch [
      | in-Some w ↦
          let there = sym (ap (λ n. slice_get (values c.loop-at.rows) n) c.index.ensures) ∙ sym c.get_index_mut.ensures.value ∙ ap option_copied_mut w.in-Some.is in
          let placed = ap (λ m. m.entries) w.rows-is ∙ (λ i. set_value_at rows (c.index.ensures i) (w.move_to.ensures i)) ∙ placed_set p.index at rows w.in-Some.kept.now there in
          (ap (linked (at + 1) (drop (at + 1) ps)) placed ∙ sym here ∙ c.loop-at.invariant.0, ap (λ m. room m) w.rows-is ∙ c.loop-at.invariant.1)
      | in_default w ↦
          let there = sym (ap (λ n. slice_get (values c.loop-at.rows) n) c.index.ensures) ∙ sym c.get_index_mut.ensures.value ∙ ap option_copied_mut w.in_default.is in
          let placed = ap (λ m. m.entries) w.rows-is ∙ sym (placed_past p.index at rows there) in
          (ap (linked (at + 1) (drop (at + 1) ps)) placed ∙ sym here ∙ c.loop-at.invariant.0, ap (λ m. room m) w.rows-is ∙ c.loop-at.invariant.1)
    ]
