-- What is lent of the entries, as values.
use Rattle.std.specs.Prelude.{List}
use Rattle.nfs_entries.specs.declared.directory_entries.Entries.{Entries}
use Rattle.nfs_entries.specs.declared.directory_entries.EntryView.{EntryView}
use Rattle.nfs_entries.specs.Listing.{Entry, listed}

abbrev pub entry_seen : EntryView → Entry
entry_seen e = record { cookie = e.cookie; name = e.name.now; number = e.number.0 }

-- those that are to come
abbrev pub entries_left : Entries → List Entry
entries_left it = listed it.rows.now.entries it.places.now
