use Rattle.std.proofs.Common.{◌+◌, ◌<◌, min, length}
use Rattle.nfs_args.specs.Sizes.{max_page}
use Rattle.nfs_dirs.specs.Opening.{left_in}
use Rattle.nfs_dirs.specs.Pages.{page_head_bytes, entry_bytes, entries_text, EntriesEncoded, fits}
use Rattle.nfs_dirs.specs.Walk.{left_of}
use Rattle.nfs_dirs.proofs.Walks.{IsWalked}
use Rattle.nfs_dirs.proofs.open_page.OpenPage.write.Given as goal

abbrev pub invariant-loop-entry : goal.invariant-loop-entry
invariant-loop-entry l =
    (w : IsWalked (fits (l.self.room + page_head_bytes)) entry_bytes entries_text EntriesEncoded (min (l.self.room + page_head_bytes) max_page) (left_in l.self) l.fn.out l.listed l.room l.given l.out)
    × (0 < l.given)

abbrev pub decreases-loop-entry : goal.decreases-loop-entry
decreases-loop-entry l = length (left_of l.listed)
