-- A tree with two volumes and eight files, as an example, and what becomes of it.
use Rattle.std.specs.Prelude.{◌≡◌, ℕ, List, [], ◌∷◌, Option, Some, None, option_map}
use Rattle.nfs_attrs.specs.declared.fattr.Fattr.{Fattr}
use Rattle.nfs_attrs.specs.declared.file_type.FileType.{FileType}
use Rattle.nfs_attrs.specs.declared.file_type.FileType.TheVariants as file_type
use Rattle.nfs_attrs.specs.declared.moment.Moment.{Moment}
use Rattle.nfs_inodes.specs.Limits.{default_limits}
use Rattle.nfs_inodes.specs.Tree.{Tree, File, Kind, Entry, Regular, Directory}
use Rattle.nfs_inodes.specs.Changes.{after_link, after_unlink, after_rename}
use Rattle.nfs_inodes.specs.Reading.{dot_dot, number_under, entry_after, next_cookie_at, attributes_at, totals_at, bytes_at, path_at, verifier_at, volume_named}

abbrev pub start : Moment
start = record { seconds = 0; nanos = 0 }

abbrev pub file : ℕ → Kind → ℕ → ℕ → ℕ → File
file volume kind mode uid gid = record {
  volume = volume;
  kind = kind;
  mode = mode;
  uid = uid;
  gid = gid;
  atime = start;
  mtime = start;
  ctime = start;
  tag = 0;
  verifier = None;
}

abbrev pub entry : ℕ → List ℕ → ℕ → Entry
entry cookie name number = record { cookie = cookie; name = name; number = number }

abbrev pub entries_1 : List Entry
entries_1 = entry 3 (0x70 ∷ 0x75 ∷ 0x62 ∷ []) 2 ∷ entry 4 (0x67 ∷ []) 5
    ∷ entry 5 (0x6f ∷ 0x77 ∷ 0x6e ∷ []) 6 ∷ entry 6 (0x7a ∷ 0x65 ∷ 0x72 ∷ 0x6f ∷ []) 7 ∷ []

-- mode 0755
abbrev pub file_1 : File
file_1 = file 0 (Directory 1 7 entries_1) 493 0 0

-- mode 0777
abbrev pub file_2 : File
file_2 = file 0 (Directory 1 5 (entry 3 (0x78 ∷ []) 3 ∷ entry 4 (0x6e ∷ []) 4 ∷ [])) 511 1 1

-- mode 0711
abbrev pub file_3 : File
file_3 = file 0 (Regular (0x68 ∷ 0x65 ∷ 0x6c ∷ 0x6c ∷ 0x6f ∷ [])) 457 1 1

-- mode 0710
abbrev pub file_4 : File
file_4 = file 0 (Regular (0x68 ∷ 0x65 ∷ 0x6c ∷ 0x6c ∷ 0x6f ∷ [])) 456 1 1

-- mode 0640
abbrev pub file_5 : File
file_5 = file 0 (Regular (0x6f ∷ 0x6b ∷ [])) 416 1 0

-- mode 0007
abbrev pub file_6 : File
file_6 = file 0 (Directory 1 3 []) 7 5 5

-- mode 0000
abbrev pub file_7 : File
file_7 = file 0 (Regular []) 0 5 5

-- mode 0777
abbrev pub file_8 : File
file_8 = file 1 (Directory 8 3 []) 511 0 0

abbrev pub tree_e : Tree
tree_e = record {
  files = (1, file_1) ∷ (2, file_2) ∷ (3, file_3) ∷ (4, file_4) ∷ (5, file_5) ∷ (6, file_6) ∷ (7, file_7) ∷ (8, file_8) ∷ [];
  next = 9;
  key = 0x01 ∷ 0x02 ∷ 0x03 ∷ 0x04 ∷ 0x05 ∷ 0x06 ∷ 0x07 ∷ 0x08 ∷ [];
  volumes = record { path = 0x2f ∷ 0x61 ∷ []; max_bytes = 20000000; max_files = 12; root = 1 }
      ∷ record { path = 0x2f ∷ 0x62 ∷ []; max_bytes = 1000; max_files = 4; root = 8 } ∷ [];
  limits = default_limits;
}

-- attributes of a file with the times 0
abbrev pub attributes : FileType → ℕ → ℕ → ℕ → ℕ → ℕ → ℕ → ℕ → Option Fattr
attributes type mode nlink uid gid size fsid fileid = Some (record {
  file_type = type;
  mode = mode;
  nlink = nlink;
  uid = uid;
  gid = gid;
  size = size;
  used = size;
  rdev = record { specdata1 = 0; specdata2 = 0 };
  fsid = fsid;
  fileid = fileid;
  atime = start;
  mtime = start;
  ctime = start;
})

abbrev pub later : Moment
later = record { seconds = 5; nanos = 0 }

abbrev pub name_g : List ℕ
name_g = 0x67 ∷ []

abbrev pub name_n : List ℕ
name_n = 0x6e ∷ []

abbrev pub name_own : List ℕ
name_own = 0x6f ∷ 0x77 ∷ 0x6e ∷ []

abbrev pub name_x : List ℕ
name_x = 0x78 ∷ []

-- the links of a file
abbrev pub links_at : Tree → ℕ → Option ℕ
links_at t n = option_map (λ (a : Fattr). a.nlink) (attributes_at t n)

-- the only name of file 3 is removed
abbrev pub tree_less : Tree
tree_less = after_unlink tree_e 2 name_x later

-- file 5 has a second name
abbrev pub tree_linked : Tree
tree_linked = after_link tree_e 5 2 name_g later

-- directory 6 goes from directory 1 to directory 2
abbrev pub tree_moved : Tree
tree_moved = after_rename tree_e 1 name_own 2 name_own later

-- file 3 takes the place of file 4
abbrev pub tree_replaced : Tree
tree_replaced = after_rename tree_e 2 name_x 2 name_n later

-- what is read of it after an unlink and after a rename
pub record ReadsOfChangedE : Type 0 where
  pub unlinked_name : number_under tree_less 2 name_x ≡ None
  pub unlinked_file : attributes_at tree_less 3 ≡ None
  pub unlinked_totals : totals_at tree_less 0 ≡ Some (record { bytes = 7; files = 6 })
  pub unlinked_cookie : next_cookie_at tree_less 2 ≡ Some 5
  pub unlinked_directory : links_at (after_unlink tree_e 1 name_own later) 1 ≡ Some 3
  pub unlinked_link : links_at (after_unlink tree_linked 1 name_g later) 5 ≡ Some 1
  pub unlinked_nothing : after_unlink tree_e 2 name_own later ≡ tree_e
  pub moved_from : number_under tree_moved 1 name_own ≡ None
  pub moved_to : entry_after tree_moved 2 4 ≡ Some (entry 5 name_own 6)
  pub moved_parent : number_under tree_moved 6 dot_dot ≡ Some 2
  pub moved_links_from : links_at tree_moved 1 ≡ Some 3
  pub moved_links_to : links_at tree_moved 2 ≡ Some 3
  pub moved_links : links_at tree_moved 6 ≡ Some 2
  pub moved_totals : totals_at tree_moved 0 ≡ Some (record { bytes = 12; files = 7 })
  pub replaced_by : entry_after tree_replaced 2 2 ≡ Some (entry 5 name_n 3)
  pub replaced_name : number_under tree_replaced 2 name_x ≡ None
  pub replaced_file : attributes_at tree_replaced 4 ≡ None
  pub replaced_totals : totals_at tree_replaced 0 ≡ Some (record { bytes = 7; files = 6 })
  pub renamed_to_itself : after_rename tree_e 2 name_x 2 name_x later ≡ tree_e
  pub renamed_to_link : after_rename tree_linked 1 name_g 2 name_g later ≡ tree_linked

-- what is read of it
pub record ReadsOfE : Type 0 where
  pub totals_a : totals_at tree_e 0 ≡ Some (record { bytes = 12; files = 7 })
  pub totals_b : totals_at tree_e 1 ≡ Some (record { bytes = 0; files = 1 })
  pub totals_none : totals_at tree_e 2 ≡ None
  pub attributes_1 : attributes_at tree_e 1 ≡ attributes file_type.Directory 493 4 0 0 4096 1 1
  pub attributes_2 : attributes_at tree_e 2 ≡ attributes file_type.Directory 511 2 1 1 4096 1 2
  pub attributes_3 : attributes_at tree_e 3 ≡ attributes file_type.Regular 457 1 1 1 5 1 3
  pub attributes_4 : attributes_at tree_e 4 ≡ attributes file_type.Regular 456 1 1 1 5 1 4
  pub attributes_5 : attributes_at tree_e 5 ≡ attributes file_type.Regular 416 1 1 0 2 1 5
  pub attributes_6 : attributes_at tree_e 6 ≡ attributes file_type.Directory 7 2 5 5 4096 1 6
  pub attributes_7 : attributes_at tree_e 7 ≡ attributes file_type.Regular 0 1 5 5 0 1 7
  pub attributes_8 : attributes_at tree_e 8 ≡ attributes file_type.Directory 511 2 0 0 4096 2 8
  pub attributes_none : attributes_at tree_e 9 ≡ None
  pub found_x : number_under tree_e 2 (0x78 ∷ []) ≡ Some 3
  pub found_none : number_under tree_e 2 (0x6e ∷ 0x6f ∷ 0x6e ∷ 0x65 ∷ []) ≡ None
  pub found_dot : number_under tree_e 1 (0x2e ∷ []) ≡ Some 1
  pub found_parent : number_under tree_e 2 (0x2e ∷ 0x2e ∷ []) ≡ Some 1
  pub found_root : number_under tree_e 1 (0x2e ∷ 0x2e ∷ []) ≡ Some 1
  pub found_in_file : number_under tree_e 5 (0x78 ∷ []) ≡ None
  pub first_entry : entry_after tree_e 2 0 ≡ Some (entry 1 (0x2e ∷ []) 2)
  pub second_entry : entry_after tree_e 2 1 ≡ Some (entry 2 (0x2e ∷ 0x2e ∷ []) 1)
  pub third_entry : entry_after tree_e 2 2 ≡ Some (entry 3 (0x78 ∷ []) 3)
  pub last_entry : entry_after tree_e 2 3 ≡ Some (entry 4 (0x6e ∷ []) 4)
  pub no_entry : entry_after tree_e 2 4 ≡ None
  pub next_cookie : next_cookie_at tree_e 2 ≡ Some 5
  pub bytes : bytes_at tree_e 3 ≡ 0x68 ∷ 0x65 ∷ 0x6c ∷ 0x6c ∷ 0x6f ∷ []
  pub no_path : path_at tree_e 3 ≡ None
  pub no_verifier : verifier_at tree_e 3 ≡ None
  pub named_b : volume_named tree_e (0x2f ∷ 0x62 ∷ []) ≡ Some 1
  pub named_none : volume_named tree_e (0x2f ∷ 0x63 ∷ []) ≡ None
  pub changed : ReadsOfChangedE
