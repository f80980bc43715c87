-- What the policy refuses of the example tree, exported to all for writing, by caller 9 of group 9.
use Rattle.std.specs.Prelude.{ℕ, false, List, [], ◌∷◌}
use Rattle.nfs_attrs.specs.declared.moment.Moment.{Moment}
use Rattle.nfs_exports.specs.declared.options.Squash.TheVariants.{No}
use Rattle.nfs_exports.specs.declared.export_table.Export.{Export}
use Rattle.nfs_exports.specs.Patterns.{any}
use Rattle.nfs_inodes.specs.Changes.{with_file, with_new_file, without_file, with_named_file, after_write_at}
use Rattle.nfs_inodes.specs.Example.{file_1, file_2, file_3, file_8, start, tree_e}
use Rattle.nfs_inodes.specs.Tree.{Tree, Volume, Directory}
use Rattle.nfs_inodes.specs.declared.limits.Limits.{Limits}
use Rattle.nfs_rules.specs.Subjects.{Caller}
use Rattle.nfs_policy.specs.Policy.{Policy}

abbrev pub to_all : List (List Export)
to_all = (record { pattern = any; options = record { read_only = false; squash = No; anonuid = 65534; anongid = 65534 } } ∷ []) ∷ []

abbrev pub by : ℕ → Caller
by uid = record { addr = record { 0 = 167772161 }; cred = record { uid = uid; gid = uid; gids = [] } }

abbrev pub later : Moment
later = record { seconds = 5; nanos = 0 }

abbrev pub RefusedFrom : Tree → ℕ → Tree → Type 0
RefusedFrom old uid new = Policy to_all (by uid) start old new → ⊥

abbrev pub Refused : ℕ → Tree → Type 0
Refused = RefusedFrom tree_e

-- file 3 with bit 0x800 of its mode, and directory 2 with bit 0x200
abbrev pub tree_set_uid : Tree
tree_set_uid = with_file tree_e 3 (record file_3 { mode = 2505 })

abbrev pub tree_sticky : Tree
tree_sticky = with_file tree_e 2 (record file_2 { mode = 1023 })

pub record Refuses : Type 0 where
  -- file 3 has mode 0711 and owner 1
  pub bytes : Refused 9 (after_write_at tree_e 3 0 (0x79 ∷ []) start)
  pub mode : Refused 9 (with_file tree_e 3 (record file_3 { mode = 511 }))
  -- a mode that loses bit 0x800 by one who may not write the file, and one that gains it by one who may
  pub loss : RefusedFrom tree_set_uid 9 tree_e
  pub gain : Refused 9 (with_file tree_e 2 (record file_2 { mode = 2559 }))
  -- its owner gives it away, and to a group that it is not in
  pub owner : Refused 1 (with_file tree_e 3 (record file_3 { uid = 9 }))
  pub group : Refused 1 (with_file tree_e 3 (record file_3 { gid = 7 }))
  -- a file of the second volume, which is exported to nobody
  pub volume : Refused 0 (with_file tree_e 8 (record file_8 { mode = 0 }))
  -- directory 1 has mode 0755 and owner 0
  pub entries : Refused 9 (with_file tree_e 1 (record file_1 { kind = Directory 1 7 [] }))
  -- directory 2 has mode 01777 and owner 1, as file 3 in it
  pub deletion : RefusedFrom tree_sticky 9 (with_file tree_sticky 2 (record file_2 { mode = 1023; kind = Directory 1 5 [] }))
  -- times of a file that the caller may not write, and a time of its own choice for one that it may
  pub time : Refused 9 (with_file tree_e 3 (record file_3 { atime = later }))
  pub own_time : Refused 9 (with_file tree_e 2 (record file_2 { mtime = later }))
  -- a file made in directory 2, mode 0777, in the name of another
  pub maker : Refused 9 (with_named_file tree_e 2 (0x66 ∷ []) file_3 start)
  -- a file that comes, and one that goes, where no directory gets or loses an entry
  pub comes : Refused 9 (with_new_file tree_e (record file_3 { uid = 9; gid = 9 }))
  pub goes : Refused 5 (without_file tree_e 7)

-- What it does not refuse: it speaks of files alone, so another key, other volumes, other limits and another next number pass.
abbrev pub PassesOver : Type 0
PassesOver = (exports : List (List Export)) (caller : Caller) (now : Moment) (t : Tree) (next : ℕ) (key : List ℕ) (volumes : List Volume) (limits : Limits)
    → Policy exports caller now t (record t { next = next; key = key; volumes = volumes; limits = limits })
