-- The walk through a directory: what is still to be listed, and where a page ends before that.
use Rattle.std.specs.Prelude.{◌≡◌, ℕ, false, List, [], ◌∷◌, ◌++◌, Option, Some, None}
use Rattle.nfs_xdr.specs.Written.{Written, Appends}
use Rattle.nfs_args.specs.Pages.{page_end_text}
use Rattle.nfs_inodes.specs.Tree.{Entry}
use Rattle.nfs_inodes.specs.Views.{entry_seen, entries_left}
use Rattle.nfs_inodes.specs.declared.directory.EntryView.{EntryView}
use Rattle.nfs_dirs.specs.declared.listed.Listed.{Listed}
use Rattle.nfs_dirs.specs.declared.answer.WrittenPage.{WrittenPage}

-- the one entry, if there is one
abbrev pub one_of : Option EntryView → List Entry
one_of None = []
one_of (Some e) = entry_seen e ∷ []

abbrev pub left_of : Listed → List Entry
left_of l = one_of l.dot ++ (one_of l.dot_dot ++ entries_left l.entries)

-- the first of what was left was answered, and the rest is left
abbrev pub Steps : Option EntryView → Listed → Listed → Type 0
Steps None old new = left_of old ≡ []
Steps (Some e) old new = left_of old ≡ entry_seen e ∷ left_of new

-- so too, but where none is answered neither `.` nor `..` is left
abbrev pub StepsDots : Option EntryView → Listed → Listed → Type 0
StepsDots None old new = (left_of old ≡ left_of new) × (new.dot ≡ None) × (new.dot_dot ≡ None)
StepsDots (Some e) old new = left_of old ≡ entry_seen e ∷ left_of new

-- a page that ends after so many entries, before those that are left
abbrev pub IsCutOff : ℕ → WrittenPage → Written → Written → Type 0
IsCutOff given page old new = (page ≡ record { given = given; eof = false }) × Appends (page_end_text false) old new
