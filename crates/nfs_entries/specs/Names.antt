-- How a name is kept.
use Rattle.std.specs.Prelude.{ℕ, ◌≤◌, List, take}
use Rattle.nfs_entries.specs.declared.entry_name.NameForm.{NameForm}
use Rattle.nfs_entries.specs.declared.entry_name.NameForm.TheVariants.{Short, Long}

-- the bytes of a name
abbrev pub bytes_of : NameForm → List ℕ
bytes_of (Short len bytes) = take len bytes
bytes_of (Long name) = name.items

-- a short name has at most 30 bytes
abbrev pub IsNameForm : NameForm → Type 0
IsNameForm (Short len bytes) = len ≤ 30
IsNameForm (Long name) = Unit {0}
