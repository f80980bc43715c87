use Rattle.std.proofs.Common.{◌≡◌, ◌≤◌, ◌+◌, ◌*◌, ◌++◌, drop}
use Rattle.arrayvec.specs.ArrayVec.{array_vec_len}
use Rattle.nfs_load.specs.Names.{name_text}
use Rattle.nfs_load.proofs.listing_line.put_name.Given as goal

abbrev pub invariant-loop-byte : goal.invariant-loop-byte
invariant-loop-byte l = record {
  written : l.line.items ++ name_text (drop l.byte-index l.name) ≡ l.fn.line.items ++ name_text l.name;
  len : array_vec_len l.line ≤ array_vec_len l.fn.line + 3 * l.byte-index;
}
