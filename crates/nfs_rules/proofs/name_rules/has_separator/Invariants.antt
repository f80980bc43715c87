use Rattle.std.proofs.Common.{◌≡◌, drop}
use Rattle.std.specs.List.{list_any}
use Rattle.nfs_rules.specs.Tests.{is_separator}
use Rattle.nfs_rules.proofs.name_rules.has_separator.Given as goal

abbrev pub invariant-loop-byte : goal.invariant-loop-byte
invariant-loop-byte l = list_any is_separator l.name ≡ list_any is_separator (drop l.byte-index l.name)
