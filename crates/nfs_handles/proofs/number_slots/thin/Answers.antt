use Rattle.std.proofs.Common.{◌≡◌, subst, sym, ap, rules, ◌∙◌}
use Rattle.std.specs.List.{filter}
use Rattle.std.proofs.lemmas.Fn.{filter_same}
use Rattle.nfs_handles.specs.Placed.{is_live, led, Rises}
use Rattle.nfs_handles.proofs.Rising.{led_live, filter_rises}
use Rattle.nfs_handles.proofs.number_slots.thin.Goals as goal

pub returns-clause-entries : goal.returns-clause-entries
returns-clause-entries c =
    let live : c.retain.new.self.items ≡ filter is_live c.args.places.now.items = filter_same _ is_live _ (λ x b f' k. search rules) _ _ c.retain.ensures.filtered in
    ap led (c.give_back.ensures ∙ live) ∙ led_live c.args.places.now.items

pub returns-clause-rises : goal.returns-clause-rises
returns-clause-rises c =
    let live : c.retain.new.self.items ≡ filter is_live c.args.places.now.items = filter_same _ is_live _ (λ x b f' k. search rules) _ _ c.retain.ensures.filtered in
    λ next rises. subst (λ ps. Rises 0 ps next) (sym (c.give_back.ensures ∙ live)) (filter_rises is_live 0 next c.args.places.now.items rises)
