use Rattle.std.proofs.Common.{◌/◌, arith}
use Rattle.std.proofs.lemmas.Nat.{div-add-mod', mod_below}
use Rattle.nfs_serving.proofs.receive_size.whole_records.Goals as goal

pub returns-in_default-clause-ends : goal.returns-in_default-clause-ends
returns-in_default-clause-ends c = λ le fits.
    let after = c.saturating_sub-after.result in
    ((after / c.args.size, omega (arith, le, c.saturating_sub-after.ensures, div-add-mod' after c.args.size)), omega (arith, mod_below after c.args.size c.requires))
