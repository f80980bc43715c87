use Rattle.std.proofs.Common.{◌≡◌, drop}
use Rattle.std.specs.List.{list_all}
use Rattle.nfs_load.specs.Names.{is_plain}
use Rattle.nfs_describe.proofs.form.are_plain_bytes.Given as goal

abbrev pub invariant-loop-byte : goal.invariant-loop-byte
invariant-loop-byte l = list_all is_plain l.text ≡ list_all is_plain (drop l.byte-index l.text)
