-- Which options an address has at a volume (exports(5)).
use Rattle.std.specs.Prelude.{ℕ, zero, suc, ◌+◌, List, [], ◌∷◌, ◌++◌, length, map, Option, option_map, Vec}
use Rattle.std.specs.List.{find}
use Rattle.nfs_exports.specs.declared.addr.Addr.{Addr}
use Rattle.nfs_exports.specs.declared.options.Options.{Options}
use Rattle.nfs_exports.specs.declared.export_table.Export.{Export}
use Rattle.nfs_exports.specs.Patterns.{covers}

-- the volume's list, by its index; after the last there are none
abbrev pub exports_of : List (List Export) → ℕ → List Export
exports_of [] volume = []
exports_of (exports ∷ others) zero = exports
exports_of (exports ∷ others) (suc volume) = exports_of others volume

-- the options of the first pattern that covers the address
abbrev pub grant : List Export → Addr → Option Options
grant exports addr = option_map (λ (e : Export). e.options) (find (λ (e : Export). covers e.pattern addr) exports)

-- the patterns of all volumes together
abbrev pub pattern_count : List (List Export) → ℕ
pattern_count [] = 0
pattern_count (exports ∷ others) = length exports + pattern_count others

-- with an export more, after those of its volume
abbrev pub added : List (List Export) → ℕ → Export → List (List Export)
added [] volume export = []
added (exports ∷ others) zero export = (exports ++ export ∷ []) ∷ others
added (exports ∷ others) (suc volume) export = exports ∷ added others volume export

-- lists as they are in memory
abbrev pub lists : {Z : Type 0} → List (Vec Export Z) → List (List Export)
lists {Z} volumes = map (λ (v : Vec Export Z). v.items) volumes
