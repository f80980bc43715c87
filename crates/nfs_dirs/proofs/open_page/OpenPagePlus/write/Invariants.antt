use Rattle.std.proofs.Common.{◌≡◌, ◌+◌, ◌<◌, min, length}
use Rattle.std.specs.Prelude.{sum_by}
use Rattle.nfs_args.specs.Sizes.{max_page}
use Rattle.nfs_dirs.specs.Opening.{left_in}
use Rattle.nfs_dirs.specs.Pages.{page_head_bytes, entry_bytes, entries_plus_text, EntriesPlusEncoded, fits_plus}
use Rattle.nfs_dirs.specs.Walk.{left_of}
use Rattle.nfs_dirs.proofs.Sizes.{all_bytes}
use Rattle.nfs_dirs.proofs.Walks.{IsWalked}
use Rattle.nfs_dirs.proofs.open_page.OpenPagePlus.write.Given as goal

abbrev pub invariant-loop-entry : goal.invariant-loop-entry
invariant-loop-entry l =
    (w : IsWalked (fits_plus l.dircount (l.self.page.room + page_head_bytes) l.self.searchable) (all_bytes l.self.searchable) (entries_plus_text l.tree l.self.searchable) (EntriesPlusEncoded l.tree l.self.searchable)
    (min (l.self.page.room + page_head_bytes) max_page) (left_in l.self.page) l.fn.out l.listed l.room l.given l.out)
    × (l.named ≡ sum_by entry_bytes w.entries) × (0 < l.given)

abbrev pub decreases-loop-entry : goal.decreases-loop-entry
decreases-loop-entry l = length (left_of l.listed)
