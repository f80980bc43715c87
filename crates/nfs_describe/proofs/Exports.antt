-- The lines of exports, one after the other.
use Rattle.std.proofs.Common.{◌≡◌, ℕ, ◌+◌, ◌<◌, List, ◌++◌, length, drop, get_or, sym, ap, ◌∙◌, append_assoc}
use Rattle.std.specs.List.{flat_map}
use Rattle.std.proofs.lemmas.List.{drop_more}
use Rattle.nfs_exports.specs.declared.export_table.Export.{Export}
use Rattle.nfs_describe.specs.Lines.{export_line}

-- one line more
pub export_more : (exports : List Export) (i : ℕ) (d : Export) (done all : List ℕ) → i < length exports → done ++ flat_map export_line (drop i exports) ≡ all
    → (done ++ export_line (get_or exports i d)) ++ flat_map export_line (drop (i + 1) exports) ≡ all
export_more exports i d done all inside so = append_assoc done (export_line (get_or exports i d)) (flat_map export_line (drop (i + 1) exports))
    ∙ ap (λ l. done ++ flat_map export_line l) (sym (drop_more exports i d inside)) ∙ so
