use Rattle.std.proofs.Common.{◌≡◌, drop}
use Rattle.std.specs.List.{list_all}
use Rattle.nfs_describe.specs.Lines.{is_shown}
use Rattle.nfs_describe.proofs.form.are_shown.Given as goal

abbrev pub invariant-loop-byte : goal.invariant-loop-byte
invariant-loop-byte l = list_all is_shown l.text ≡ list_all is_shown (drop l.byte-index l.text)
