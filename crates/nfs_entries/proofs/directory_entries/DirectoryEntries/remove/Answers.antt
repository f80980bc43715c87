use Rattle.std.proofs.Common.{rules, ◌<◌, ap, sym, subst, ◌∙◌, arith}
use Rattle.nfs_entries.specs.Listing.{Listed, led, listed, no_row, without}
use Rattle.nfs_entries.proofs.Room.{some_left}
use Rattle.nfs_entries.proofs.Rows.{none_listed}
use Rattle.nfs_entries.proofs.Removals.{removed, without_none}
use Rattle.nfs_entries.proofs.directory_entries.DirectoryEntries.remove.Goals as goal

pub returns-in_default-clause-others : goal.returns-in_default-clause-others
returns-in_default-clause-others c =
    sym (ap (λ (v : Listed). v.entries) c.self.view_is)
    ∙ sym (without_none c.args.name.now (listed c.self.inside.rows.entries c.self.inside.places.items) (none_listed c.args.name.now c.self.inside.rows.entries c.self.inside.places.items c.in_default.ensures.none))
    ∙ ap (λ (v : Listed). without c.args.name.now v.entries) c.self.view_is

pub invariant_of-self : goal.invariant_of-self
invariant_of-self c = (
  (removed c.args.name.now c.self.inside.rows.entries c.swap_remove_index.new.self.entries c.thin.new.rows.entries c.self.inside.places.items c.lead.new.places.items c.settle.new.places.items c.thin.new.places.items c.self.inside.next _ _
      c.self.invariant.0 c.in-Some.ensures.found c.swap_remove_index.result c.swap_remove_index.ensures.entry c.swap_remove_index.ensures.entries
      (c.lead.ensures.items ∙ ap (λ k. led k no_row c.self.inside.places.items) c.place-place.ensures) c.settle.ensures.items c.thin.ensures.kept).1,
  c.thin.ensures.few,
  search rules,
)

pub returns-clause-others : goal.returns-clause-others
returns-clause-others c =
    (removed c.args.name.now c.self.inside.rows.entries c.swap_remove_index.new.self.entries c.thin.new.rows.entries c.self.inside.places.items c.lead.new.places.items c.settle.new.places.items c.thin.new.places.items c.self.inside.next _ _
    c.self.invariant.0 c.in-Some.ensures.found c.swap_remove_index.result c.swap_remove_index.ensures.entry c.swap_remove_index.ensures.entries
    (c.lead.ensures.items ∙ ap (λ k. led k no_row c.self.inside.places.items) c.place-place.ensures) c.settle.ensures.items c.thin.ensures.kept).0
    ∙ ap (λ (v : Listed). without c.args.name.now v.entries) c.self.view_is

pub returns-clause-room : goal.returns-clause-room
returns-clause-room c = λ some. some_left _ _ _ _ _ _ _ _ (λ rows. search rules) (λ places. search rules) (λ row. c.thin.ensures.row (let keeps = c.swap_remove_index.ensures.room in omega (arith, row, keeps))) (λ place. search rules)
    (subst (λ (v : Listed). 0 < v.spare) (sym c.self.view_is) some)
