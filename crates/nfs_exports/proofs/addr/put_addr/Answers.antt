use Rattle.std.proofs.Common.{◌<◌, ◌^◌, ◌∷◌, [], rules, arith}
use Rattle.nfs_exports.proofs.Texts.{put_length, byte_short}
use Rattle.nfs_exports.proofs.addr.put_addr.Goals as goal

pub returns-clause-len : goal.returns-clause-len
returns-clause-len c =
    let small : c.args.addr.0 < 2 ^ 32 = search rules in
    let a = put_length c.put_number.new.line.items c.args.line.now.items [] c.from.result c.put_number.ensures.items in
    let b = put_length c.put_number-2.new.line.items c.put_number.new.line.items (46 ∷ []) c.from-2.result c.put_number-2.ensures.items in
    let d = put_length c.put_number-3.new.line.items c.put_number-2.new.line.items (46 ∷ []) c.from-3.result c.put_number-3.ensures.items in
    let e = put_length c.put_number-4.new.line.items c.put_number-3.new.line.items (46 ∷ []) c.from-4.result c.put_number-4.ensures.items in
    let f = byte_short _ _ c.from.ensures (omega (arith, small)) in
    let g = byte_short _ _ c.from-2.ensures (omega arith) in
    let h = byte_short _ _ c.from-3.ensures (omega arith) in
    let i = byte_short _ _ c.from-4.ensures (omega arith) in
    omega (arith, a, b, d, e, f, g, h, i)
