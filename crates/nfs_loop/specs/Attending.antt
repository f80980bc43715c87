-- What an attendant may change of a server.
use Rattle.std.specs.Prelude.{◌≡◌, ◌⊎◌, List}
use Rattle.nfs_exports.specs.declared.export_table.Export.{Export}
use Rattle.nfs_server.specs.Fits.{Held, with_exports}

-- nothing, or the exports in force
abbrev pub MayReload : Held → Held → Type 0
MayReload old new = (new ≡ old) ⊎ ((exports : List (List Export)) × (new ≡ with_exports exports old))
