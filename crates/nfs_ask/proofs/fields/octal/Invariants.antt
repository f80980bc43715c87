use Rattle.std.proofs.Common.{◌≡◌, drop}
use Rattle.nfs_ask.specs.Words.{octal_of, octal_after}
use Rattle.nfs_ask.proofs.fields.octal.Given as goal

abbrev pub invariant-loop-byte : goal.invariant-loop-byte
invariant-loop-byte l = octal_of l.text ≡ octal_after l.number (drop l.byte-index l.text)
