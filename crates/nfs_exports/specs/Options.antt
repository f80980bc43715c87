-- What holds where nothing is said.
use Rattle.std.specs.Prelude.{true}
use Rattle.nfs_exports.specs.declared.options.Options.{Options}
use Rattle.nfs_exports.specs.declared.options.Squash.TheVariants.{Root}

-- `ro`, `root_squash`, and the ids of nobody
abbrev pub default_options : Options
default_options = record { read_only = true; squash = Root; anonuid = 65534; anongid = 65534 }
