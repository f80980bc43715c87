use Rattle.std.proofs.Common.{rules, refl}
use Rattle.std.specs.Int.{w32}
use Rattle.std.proofs.lemmas.List.{length-set}
use Rattle.nfs_xdr.proofs.Items.{numbers_more, encoded_more, are_numbers}
use Rattle.nfs_xdr.proofs.output.Output.numbers.Goals as goal

pub loop-i-preserved : goal.loop-i-preserved
loop-i-preserved g c = (refl, search (rules, length-set), numbers_more w32 c.args.ns c.loop-i.words c.loop-i.i c.bytes_of.result (search rules) (search rules) c.bytes_of.ensures.text c.loop-i.invariant.2, encoded_more w32 c.args.ns c.loop-i.i c.loop-i.invariant.3 c.bytes_of.ensures.encoded)

pub returns-clause-encoded : goal.returns-clause-encoded
returns-clause-encoded g c = are_numbers w32 c.args.ns (λ j below. c.loop-i.invariant.3 j (search (rules, below)))
