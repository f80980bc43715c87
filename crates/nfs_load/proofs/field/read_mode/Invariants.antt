use Rattle.std.proofs.Common.{◌≡◌, ◌^◌, ◌<◌, true, take}
use Rattle.std.specs.List.{list_all}
use Rattle.std.specs.Str.Parse.{digits_value}
use Rattle.nfs_load.specs.Fields.{is_octal_digit}
use Rattle.nfs_load.proofs.field.read_mode.Given as goal

abbrev pub invariant-loop-byte : goal.invariant-loop-byte
invariant-loop-byte l =
    (l.mode ≡ digits_value 8 (take l.byte-index l.field)) × (list_all is_octal_digit (take l.byte-index l.field) ≡ true) × (l.mode < 8 ^ l.byte-index)
