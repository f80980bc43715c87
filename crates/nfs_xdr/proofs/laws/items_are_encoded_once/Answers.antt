use Rattle.std.specs.Int.{w32, w64}
use Rattle.nfs_xdr.specs.Encoding.{IsNumber, IsBoolean, IsFixed, IsOpaque, IsArray}
use Rattle.nfs_xdr.specs.Reading.{number_at, boolean_at, fixed_at, opaque_at, array_at}
use Rattle.nfs_xdr.proofs.Finding.{once}
use Rattle.nfs_xdr.proofs.Items.{finds_u32, finds_u64, finds_boolean, finds_fixed, finds_opaque, finds_array}
use Rattle.nfs_xdr.proofs.laws.items_are_encoded_once.Goals as goal

pub returns : goal.returns
returns c = record {
  unsigned = once (IsNumber w32) (number_at w32) finds_u32;
  hyper = once (IsNumber w64) (number_at w64) finds_u64;
  boolean = once IsBoolean boolean_at finds_boolean;
  fixed = λ len. once (IsFixed len) (fixed_at len) (finds_fixed len);
  opaque = λ max. once (IsOpaque max) (opaque_at max) (finds_opaque max);
  numbers = λ max. once (IsArray (IsNumber w32) max) (array_at (number_at w32) max) (finds_array (IsNumber w32) (number_at w32) max finds_u32);
}
