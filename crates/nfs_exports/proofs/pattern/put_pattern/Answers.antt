use Rattle.std.proofs.Common.{◌<◌, ◌∷◌, [], rules, arith}
use Rattle.nfs_exports.proofs.Texts.{put_length, bits_short}
use Rattle.nfs_exports.proofs.pattern.put_pattern.Goals as goal

pub returns-clause-len : goal.returns-clause-len
returns-clause-len c =
    let few : c.args.pattern.bits < 32 = search rules in
    let a = put_length c.put_number.new.line.items c.put_addr-2.new.line.items (47 ∷ []) c.from.result c.put_number.ensures.items in
    let b = bits_short _ _ c.from.ensures few in
    omega (arith, a, b, c.put_addr-2.ensures.len)
