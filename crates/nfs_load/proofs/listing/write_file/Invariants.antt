use Rattle.std.proofs.Common.{◌≡◌, ◌≤◌, length}
use Rattle.std.specs.Prelude.{All}
use Rattle.std.specs.List.{flat_map}
use Rattle.nfs_inodes.specs.Tree.{Entry}
use Rattle.nfs_inodes.specs.Views.{entries_left}
use Rattle.nfs_load.specs.Listings.{entry_line, view_text}
use Rattle.nfs_load.proofs.Writes.{WritesBut}
use Rattle.nfs_load.proofs.listing.write_file.Given as goal

abbrev pub invariant-loop-entry : goal.invariant-loop-entry
invariant-loop-entry g l = record {
  written : WritesBut (g.W.ByteOut.contents l.fn.out) (view_text l.file) (flat_map entry_line (entries_left l.entries)) (g.W.ByteOut.contents l.out);
  short : All (λ (e : Entry). length e.name ≤ 255) (entries_left l.entries);
  alive : g.W.ByteOut.failed l.out ≡ g.W.ByteOut.failed l.fn.out;
}

abbrev pub decreases-loop-entry : goal.decreases-loop-entry
decreases-loop-entry g l = length (entries_left l.entries)
