use Rattle.std.proofs.Common.{rules, ◌≡◌, ◌++◌, ◌∷◌, [], bytes_eq, length, suc, if◌then◌else◌, refl, ap, sym, subst, ◌∙◌, arith}
use Rattle.std.specs.Prelude.{find, is_ok}
use Rattle.std.proofs.lemmas.Result.{IfOk-at_ok}
use Rattle.indexmap.specs.IndexMap.{insert_entry}
use Rattle.indexmap.proofs.CallerLemmas.{insert_entry-new}
use Rattle.nfs_entries.specs.Listing.{AreFew, Listed, KeptValue, PlaceValue, Row, listed, has_name, IsKept, HasNo}
use Rattle.nfs_entries.proofs.Cases.{flipped}
use Rattle.nfs_entries.proofs.Keys.{unlooked}
use Rattle.nfs_entries.proofs.Rows.{absent_from}
use Rattle.nfs_entries.proofs.Pushes.{few_more, listed_more, kept_more}
use Rattle.nfs_entries.proofs.directory_entries.DirectoryEntries.push.Goals as goal

pub invariant_of-self : goal.invariant_of-self
invariant_of-self c =
    let rows = c.self.inside.rows.entries in
    let places = c.self.inside.places.items in
    let kept : KeptValue = record { place = length places; number = c.args.number.0 } in
    let row : Row = (c.args.name, kept) in
    let place : PlaceValue = record { cookie = c.self.inside.next; index = length rows } in
    let absent : HasNo rows c.args.name = absent_from c.args.name rows places c.self.inside.next c.self.invariant.0 (ap (λ (v : Listed). find (has_name c.args.name) v.entries) c.self.view_is ∙ c.requires.absent) in
    let long : c.len-place.result ≡ length places = search rules in
    let inserted : c.insert.new.self.entries ≡ insert_entry bytes_eq rows c.args.name kept = IfOk-at_ok (λ _. c.insert.new.self.entries ≡ insert_entry bytes_eq rows c.args.name c.new.result) c.unwrap.ensures c.insert.ensures.entries ∙ (λ i. insert_entry bytes_eq rows c.args.name (c.new.ensures i)) ∙ ap (λ k. insert_entry bytes_eq rows c.args.name (record { place = k; number = c.args.number.0 })) long in
    let new_rows : c.insert.new.self.entries ≡ rows ++ row ∷ [] = inserted ∙ insert_entry-new bytes_eq c.self.inside.rows c.args.name kept (unlooked (bytes_eq c.args.name) rows (λ i r at. flipped c.args.name r.0 ∙ absent i r at)) in
    let pushed : c.push.new.self.items ≡ places ++ c.new-2.result ∷ [] = c.push.ensures.items ∙ ap (λ r. if is_ok r then places ++ c.new-2.result ∷ [] else places) c.unwrap-2.ensures in
    let new_places : c.push.new.self.items ≡ places ++ place ∷ [] = pushed ∙ ap (λ p. places ++ p ∷ []) c.new-2.ensures ∙ ap (λ n. places ++ (record { cookie = c.self.inside.next; index = n }) ∷ []) c.len-index.ensures.len in (
      subst (λ n. IsKept c.insert.new.self.entries c.push.new.self.items n) (omega arith)
          (subst (λ ps. IsKept c.insert.new.self.entries ps (suc c.self.inside.next)) (sym new_places)
          (subst (λ rs. IsKept rs (places ++ place ∷ []) (suc c.self.inside.next)) (sym new_rows) (kept_more rows places c.self.inside.next row c.self.invariant.0 absent (search rules) refl))),
      subst (λ ps. AreFew c.insert.new.self.entries ps) (sym new_places)
          (subst (λ rs. AreFew rs (places ++ place ∷ [])) (sym new_rows) (few_more rows places c.self.inside.next row c.self.invariant.0 absent (search rules) refl c.self.invariant.1)),
      search rules,
    )

pub returns-clause-entries : goal.returns-clause-entries
returns-clause-entries c =
    let rows = c.self.inside.rows.entries in
    let places = c.self.inside.places.items in
    let kept : KeptValue = record { place = length places; number = c.args.number.0 } in
    let row : Row = (c.args.name, kept) in
    let place : PlaceValue = record { cookie = c.self.inside.next; index = length rows } in
    let absent : HasNo rows c.args.name = absent_from c.args.name rows places c.self.inside.next c.self.invariant.0 (ap (λ (v : Listed). find (has_name c.args.name) v.entries) c.self.view_is ∙ c.requires.absent) in
    let long : c.len-place.result ≡ length places = search rules in
    let inserted : c.insert.new.self.entries ≡ insert_entry bytes_eq rows c.args.name kept = IfOk-at_ok (λ _. c.insert.new.self.entries ≡ insert_entry bytes_eq rows c.args.name c.new.result) c.unwrap.ensures c.insert.ensures.entries ∙ (λ i. insert_entry bytes_eq rows c.args.name (c.new.ensures i)) ∙ ap (λ k. insert_entry bytes_eq rows c.args.name (record { place = k; number = c.args.number.0 })) long in
    let new_rows : c.insert.new.self.entries ≡ rows ++ row ∷ [] = inserted ∙ insert_entry-new bytes_eq c.self.inside.rows c.args.name kept (unlooked (bytes_eq c.args.name) rows (λ i r at. flipped c.args.name r.0 ∙ absent i r at)) in
    let pushed : c.push.new.self.items ≡ places ++ c.new-2.result ∷ [] = c.push.ensures.items ∙ ap (λ r. if is_ok r then places ++ c.new-2.result ∷ [] else places) c.unwrap-2.ensures in
    let new_places : c.push.new.self.items ≡ places ++ place ∷ [] = pushed ∙ ap (λ p. places ++ p ∷ []) c.new-2.ensures ∙ ap (λ n. places ++ (record { cookie = c.self.inside.next; index = n }) ∷ []) c.len-index.ensures.len in
    (λ i. listed (new_rows i) (new_places i)) ∙ listed_more rows places c.self.inside.next row c.self.invariant.0 absent (search rules) refl
    ∙ ap (λ (v : Listed). v.entries ++ (record { cookie = v.next; name = c.args.name; number = c.args.number.0 }) ∷ []) c.self.view_is
