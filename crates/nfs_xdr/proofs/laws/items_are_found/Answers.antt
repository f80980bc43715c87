use Rattle.std.specs.Int.{w32}
use Rattle.nfs_xdr.specs.Encoding.{IsNumber}
use Rattle.nfs_xdr.specs.Reading.{number_at}
use Rattle.nfs_xdr.proofs.Items.{finds_u32, finds_u64, finds_boolean, finds_fixed, finds_opaque, finds_array}
use Rattle.nfs_xdr.proofs.laws.items_are_found.Goals as goal

pub returns : goal.returns
returns c = record { unsigned = finds_u32; hyper = finds_u64; boolean = finds_boolean; fixed = finds_fixed; opaque = finds_opaque; numbers = λ max. finds_array (IsNumber w32) (number_at w32) max finds_u32 }
