use Rattle.std.proofs.Common.{◌≡◌, ◌++◌, length}
use Rattle.nfs_source.specs.OpenLines.{IsDecoded, text_of}
use Rattle.nfs_source.proofs.open_line.DecodedLine.push_pages.Given as goal

abbrev pub invariant-loop-rest : goal.invariant-loop-rest
invariant-loop-rest l = (text_of l.self ++ l.rest ≡ text_of l.fn.self ++ l.fn.digits) × IsDecoded l.self

abbrev pub decreases-loop-rest : goal.decreases-loop-rest
decreases-loop-rest l = length l.rest
