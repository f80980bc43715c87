-- The table of the rules: those of each procedure after the rules of its handles, in order.
use Rattle.std.specs.Prelude.{ℕ, zero, suc, Bool, true, false, not, ◌&&◌, ◌||◌, List, [], ◌∷◌, length, Option, Some, None, is_some, nat_eq, if◌then◌else◌}
use Rattle.nfs_args.specs.declared.args.NfsArgs.{NfsArgs}
use Rattle.nfs_args.specs.declared.args.NfsArgs.TheVariants as nfs
use Rattle.nfs_args.specs.declared.create.Create.{Create}
use Rattle.nfs_args.specs.declared.create.CreateHow.{CreateHow}
use Rattle.nfs_args.specs.declared.create.CreateHow.TheVariants.{Unchecked, Guarded, Exclusive}
use Rattle.nfs_args.specs.declared.readdir.Readdir.{Readdir}
use Rattle.nfs_args.specs.declared.readdir.Readdirplus.{Readdirplus}
use Rattle.nfs_args.specs.declared.rename.Rename.{Rename}
use Rattle.nfs_args.specs.declared.setattr.Setattr.{Setattr}
use Rattle.nfs_args.specs.declared.write.Write.{Write}
use Rattle.nfs_attrs.specs.declared.fattr.Fattr.{Fattr}
use Rattle.nfs_dirs.specs.Pages.{plus_bytes}
use Rattle.nfs_inodes.specs.Law.{parent_of}
use Rattle.nfs_inodes.specs.Reading.{is_directory_type}
use Rattle.nfs_inodes.specs.Tree.{Tree, on_some}
use Rattle.nfs_rules.specs.Rights.{may, lets_go}
use Rattle.nfs_rules.specs.Subjects.{Subject}
use Rattle.nfs_rules.specs.Tests.{Test, only_where, read_only, not_regular, not_link, not_directory, link_directory, read_right}
use Rattle.nfs_rules.specs.Tests.{write_right, search_right, directory_read, directory_write, guard, owner_mode, owner_uid, owner_gid}
use Rattle.nfs_rules.specs.Tests.{size_type, owner_time, time_right, too_big, end_of, growth, space, files, links, cookies, numbers}
use Rattle.nfs_rules.specs.Tests.{name_long, name_form, dot_name, dot_alone, dot_dot_alone, path_long, found, no_entry, exists}
use Rattle.nfs_rules.specs.Tests.{exists_other, sticky, is_directory, target_not_directory, is_empty, not_empty, too_small}
use Rattle.nfs_rules.specs.declared.rights.Right.TheVariants.{Execute}
use Rattle.nfs_rules.specs.declared.rule.Rule.TheVariants as rule

-- ---- SETATTR and WRITE

abbrev pub setattr_rules : Subject → Setattr → List Test
setattr_rules s a =
    read_only s ∷ guard s a.guard ∷ owner_mode s a.attributes ∷ owner_uid s a.attributes ∷ owner_gid s a.attributes
    ∷ size_type s a.attributes ∷ only_where (is_some a.attributes.size) (write_right s) ∷ owner_time s a.attributes ∷ time_right s a.attributes
    ∷ too_big s.tree.limits a.attributes.size ∷ space s (growth s a.attributes.size) ∷ []

abbrev pub write_rules : Subject → Write → List Test
write_rules s a = read_only s ∷ not_regular s ∷ write_right s ∷ too_big s.tree.limits (end_of a.offset (length a.content))
    ∷ space s (growth s (end_of a.offset (length a.content))) ∷ []

-- ---- reading

abbrev pub lookup_rules : Subject → List ℕ → List Test
lookup_rules s name = not_directory s ∷ search_right s ∷ name_long name ∷ name_form name ∷ no_entry s name ∷ []

abbrev pub read_rules : Subject → List Test
read_rules s = not_regular s ∷ read_right s ∷ []

abbrev pub readdir_rules : Subject → Readdir → List Test
readdir_rules s a = not_directory s ∷ directory_read s ∷ too_small s a.cookie a.count 0 ∷ []

abbrev pub readdirplus_rules : Subject → Readdirplus → List Test
readdirplus_rules s a = not_directory s ∷ directory_read s ∷ too_small s a.cookie a.maxcount (plus_bytes (may s.ids s.file Execute)) ∷ []

-- ---- new files

abbrev pub size_in : CreateHow → Option ℕ
size_in (Unchecked attributes) = attributes.size
size_in (Guarded attributes) = attributes.size
size_in (Exclusive verifier) = None

-- CREATE of a name that is not there
abbrev pub new_file_rules : Subject → Option ℕ → List Test
new_file_rules s size = directory_write s ∷ files s ∷ too_big s.tree.limits size ∷ space s size ∷ numbers s ∷ []

-- CREATE of a file that is there, which may get a size
abbrev pub present_file_rules : Subject → CreateHow → List Test
present_file_rules s (Unchecked attributes) = only_where (is_some attributes.size) (write_right s) ∷ too_big s.tree.limits attributes.size
    ∷ space s (growth s attributes.size) ∷ []
present_file_rules s other = []

abbrev pub create_rules : Subject → Create → List Test
create_rules s a = read_only s ∷ not_directory s ∷ name_long a.place.name ∷ name_form a.place.name ∷ search_right s ∷ exists_other s a.place.name a.how
    ∷ on_some (found s a.place.name) (new_file_rules s (size_in a.how)) (λ f. present_file_rules (record s { file = f }) a.how)

abbrev pub mkdir_rules : Subject → List ℕ → List Test
mkdir_rules s name = read_only s ∷ not_directory s ∷ name_long name ∷ name_form name ∷ search_right s ∷ exists s name ∷ directory_write s
    ∷ files s ∷ links s.tree.limits s.file ∷ numbers s ∷ []

abbrev pub symlink_rules : Subject → List ℕ → List ℕ → List Test
symlink_rules s name path = read_only s ∷ not_directory s ∷ name_long name ∷ name_form name ∷ search_right s ∷ path_long s.tree.limits.link_path path
    ∷ exists s name ∷ directory_write s ∷ files s ∷ numbers s ∷ []

-- ---- entries

abbrev pub remove_rules : Subject → List ℕ → List Test
remove_rules s name = read_only s ∷ not_directory s ∷ dot_name name ∷ name_long name ∷ name_form name ∷ search_right s ∷ no_entry s name ∷ directory_write s
    ∷ on_some (found s name) [] (λ f. sticky s f ∷ is_directory f ∷ [])

abbrev pub rmdir_rules : Subject → List ℕ → List Test
rmdir_rules s name = read_only s ∷ not_directory s ∷ dot_alone name ∷ dot_dot_alone name ∷ name_long name ∷ name_form name
    ∷ search_right s ∷ no_entry s name ∷ directory_write s
    ∷ on_some (found s name) [] (λ f. sticky s f ∷ target_not_directory f ∷ not_empty s.tree f ∷ [])

-- the file and the directory that takes the hard link
abbrev pub link_rules : Subject → Subject → List ℕ → List Test
link_rules file dir name = read_only file ∷ link_directory file ∷ not_directory dir ∷ name_long name ∷ name_form name ∷ search_right dir ∷ exists dir name
    ∷ directory_write dir ∷ links file.tree.limits file.file ∷ cookies dir ∷ []

-- whether file n is directory d or one above it, within so many steps to the parent
abbrev pub is_above_within : ℕ → Tree → ℕ → ℕ → Bool
is_above_within zero t n d = nat_eq d n
is_above_within (suc steps) t n d = nat_eq d n || is_above_within steps t n (parent_of t.files d)

abbrev pub is_above : Tree → ℕ → ℕ → Bool
is_above t n d = is_above_within (length t.files) t n d

abbrev pub into_itself : Subject → Fattr → Test
into_itself to moved = (rule.IntoItself, is_directory_type moved.file_type && is_above to.tree moved.fileid to.file.fileid)

-- two files of which neither is a directory, or two directories, of which the one that goes is empty
abbrev pub replaces : Tree → Fattr → Fattr → Bool
replaces t moved old = not (is_directory_type moved.file_type) && not (is_directory_type old.file_type)
    || is_directory_type moved.file_type && is_directory_type old.file_type && is_empty t old

abbrev pub incompatible : Subject → Fattr → Fattr → Test
incompatible to moved old = (rule.Incompatible, not (replaces to.tree moved old))

-- each directory lets go what it loses: what is moved, and what the new name names
abbrev pub sticky_move : Subject → Subject → Fattr → Option Fattr → Test
sticky_move from to moved old = (rule.Sticky, not (lets_go from.ids from.file moved && on_some old true (lets_go to.ids to.file)))

-- where something comes under a name: what it takes the place of, if anything
abbrev pub entering_rules : Subject → Subject → Fattr → Option Fattr → List Test
entering_rules from to moved None = into_itself to moved
    ∷ only_where (is_directory_type moved.file_type && not (nat_eq from.file.fileid to.file.fileid)) (links to.tree.limits to.file) ∷ cookies to ∷ []
entering_rules from to moved (Some old) = incompatible to moved old ∷ into_itself to moved ∷ cookies to ∷ []

-- whether what the new name names, if anything, is what is moved
abbrev pub is_moved : Fattr → Option Fattr → Bool
is_moved moved old = on_some old false (λ o. nat_eq moved.fileid o.fileid)

-- what RENAME does with what it found: what is moved, and what the new name names
abbrev pub move_rules : Subject → Subject → Fattr → Option Fattr → List Test
move_rules from to moved old = if is_moved moved old then [] else (sticky_move from to moved old ∷ entering_rules from to moved old)

-- by what the entries of both directories are
abbrev pub rename_entry_rules : Subject → Subject → Rename → List Test
rename_entry_rules from to a = search_right from ∷ search_right to ∷ no_entry from a.from.name ∷ directory_write from ∷ directory_write to
    ∷ on_some (found from a.from.name) [] (λ moved. move_rules from to moved (found to a.to.name))

abbrev pub rename_rules : Subject → Subject → Rename → List Test
rename_rules from to a = read_only from ∷ not_directory from ∷ not_directory to ∷ dot_name a.from.name ∷ dot_name a.to.name
    ∷ name_long a.from.name ∷ name_long a.to.name ∷ name_form a.from.name ∷ name_form a.to.name ∷ rename_entry_rules from to a

-- ---- the table

-- by the file of the first handle and that of the second; where there is only one, both are it
abbrev pub rules_of : Subject → Subject → NfsArgs → List Test
rules_of one two nfs.Null = []
rules_of one two (nfs.Getattr file) = []
rules_of one two (nfs.Setattr a) = setattr_rules one a
rules_of one two (nfs.Lookup a) = lookup_rules one a.name
rules_of one two (nfs.Access a) = []
rules_of one two (nfs.Readlink file) = not_link one ∷ []
rules_of one two (nfs.Read a) = read_rules one
rules_of one two (nfs.Write a) = write_rules one a
rules_of one two (nfs.Create a) = create_rules one a
rules_of one two (nfs.Mkdir a) = mkdir_rules one a.place.name
rules_of one two (nfs.Symlink a) = symlink_rules one a.place.name a.path
rules_of one two (nfs.Mknod a) = (rule.NoMknod, true) ∷ []
rules_of one two (nfs.Remove a) = remove_rules one a.name
rules_of one two (nfs.Rmdir a) = rmdir_rules one a.name
rules_of one two (nfs.Rename a) = rename_rules one two a
rules_of one two (nfs.Link a) = link_rules one two a.place.name
rules_of one two (nfs.Readdir a) = readdir_rules one a
rules_of one two (nfs.Readdirplus a) = readdirplus_rules one a
rules_of one two (nfs.Fsstat file) = []
rules_of one two (nfs.Fsinfo file) = []
rules_of one two (nfs.Pathconf file) = []
rules_of one two (nfs.Commit a) = not_regular one ∷ []
