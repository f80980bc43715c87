-- Exports by which anybody is root.
use Rattle.std.specs.Prelude.{Bool, false, nat_eq}
use Rattle.nfs_exports.specs.declared.options.Squash.{Squash}
use Rattle.nfs_exports.specs.declared.options.Squash.TheVariants.{No, Root, All}
use Rattle.nfs_exports.specs.declared.export_table.Export.{Export}

abbrev pub asks_bits : Squash → Export → Bool
asks_bits No export = nat_eq export.pattern.bits 0
asks_bits Root export = false
asks_bits All export = false

-- to every address with no_root_squash
abbrev pub is_open_export : Export → Bool
is_open_export export = asks_bits export.options.squash export
