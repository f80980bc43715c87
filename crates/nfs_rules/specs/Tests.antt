-- The rules, each as a test of what a call looks at. None looks at the bytes of a regular file but at how many they are.
use Rattle.std.specs.Prelude.{ℕ, ◌+◌, ◌-◌, ◌^◌, Bool, true, false, not, ◌&&◌, ◌||◌, List, [], ◌∷◌, length, min, Option, Some, None}
use Rattle.std.specs.Prelude.{option_map, is_some, is_none, nat_eq, nat_lt, nat_le, bytes_eq, slice_get, if◌then◌else◌}
use Rattle.std.specs.List.{list_any}
use Rattle.nfs_args.specs.Sizes.{max_page}
use Rattle.nfs_args.specs.declared.create.CreateHow.{CreateHow}
use Rattle.nfs_args.specs.declared.create.CreateHow.TheVariants.{Unchecked, Guarded, Exclusive}
use Rattle.nfs_attrs.specs.declared.fattr.Fattr.{Fattr}
use Rattle.nfs_attrs.specs.declared.file_type.FileType.{FileType}
use Rattle.nfs_attrs.specs.declared.file_type.FileType.TheVariants.{SymbolicLink}
use Rattle.nfs_attrs.specs.declared.moment.Moment.{Moment}
use Rattle.nfs_attrs.specs.declared.sattr.Sattr.{Sattr}
use Rattle.nfs_attrs.specs.declared.time_setting.TimeSetting.{TimeSetting}
use Rattle.nfs_attrs.specs.declared.time_setting.TimeSetting.TheVariants.{ClientTime, ServerTime}
use Rattle.nfs_dirs.specs.Pages.{page_head_bytes, entry_bytes}
use Rattle.nfs_exports.specs.Ids.{Ids}
use Rattle.nfs_inodes.specs.declared.limits.Limits.{Limits}
use Rattle.nfs_inodes.specs.Limits.{max_name_bytes}
use Rattle.nfs_inodes.specs.Reading.{attributes_at, dot, dot_dot, entry_after, is_directory_type, is_regular_type, next_cookie_at}
use Rattle.nfs_inodes.specs.Reading.{number_under, totals_at, verifier_at}
use Rattle.nfs_inodes.specs.Tree.{Tree, Volume, on_some}
use Rattle.nfs_inodes.specs.declared.volumes.Totals.{Totals}
use Rattle.nfs_rules.specs.Rights.{may, owns, lets_go}
use Rattle.nfs_rules.specs.Subjects.{Subject}
use Rattle.nfs_rules.specs.declared.rights.Right.{Right}
use Rattle.nfs_rules.specs.declared.rights.Right.TheVariants.{Read, Write, Execute}
use Rattle.nfs_rules.specs.declared.rule.Rule.{Rule}
use Rattle.nfs_rules.specs.declared.rule.Rule.TheVariants as rule

-- a rule, and whether the call fails it
abbrev pub Test : Type 0
Test = Rule × Bool

-- the rule of the first test that is failed
abbrev pub first : List Test → Option Rule
first [] = None
first (t ∷ ts) = if t.1 then Some t.0 else first ts

-- a rule that is looked at only where this is so
abbrev pub only_where : Bool → Test → Test
only_where so t = (t.0, so && t.1)

-- ---- the file

abbrev pub is_link_type : FileType → Bool
is_link_type SymbolicLink = true
is_link_type other = false

abbrev pub read_only : Subject → Test
read_only s = (rule.ReadOnly, s.options.read_only)

abbrev pub not_regular : Subject → Test
not_regular s = (rule.NotRegular, not (is_regular_type s.file.file_type))

abbrev pub not_link : Subject → Test
not_link s = (rule.NotLink, not (is_link_type s.file.file_type))

abbrev pub not_directory : Subject → Test
not_directory s = (rule.NotDirectory, not (is_directory_type s.file.file_type))

abbrev pub link_directory : Subject → Test
link_directory s = (rule.LinkDirectory, is_directory_type s.file.file_type)

-- ---- rights: the owner of a file may read and write it whatever its mode says, and who may execute it may read it

abbrev pub owns_or_may : Subject → Right → Bool
owns_or_may s right = owns s.ids s.file || may s.ids s.file right

abbrev pub read_right : Subject → Test
read_right s = (rule.ReadRight, not (owns_or_may s Read || may s.ids s.file Execute))

abbrev pub write_right : Subject → Test
write_right s = (rule.WriteRight, not (owns_or_may s Write))

abbrev pub search_right : Subject → Test
search_right s = (rule.Search, not (may s.ids s.file Execute))

abbrev pub directory_read : Subject → Test
directory_read s = (rule.DirectoryRead, not (may s.ids s.file Read))

abbrev pub directory_write : Subject → Test
directory_write s = (rule.DirectoryWrite, not (may s.ids s.file Write))

-- ---- what SETATTR sets

abbrev pub same_moment : Moment → Moment → Bool
same_moment a b = nat_eq a.seconds b.seconds && nat_eq a.nanos b.nanos

abbrev pub guard : Subject → Option Moment → Test
guard s ctime = (rule.Guard, on_some ctime false (λ moment. not (same_moment moment s.file.ctime)))

abbrev pub owner_mode : Subject → Sattr → Test
owner_mode s a = (rule.OwnerMode, is_some a.mode && not (owns s.ids s.file))

-- the owner may give the present owner
abbrev pub gives_uid : Ids → Fattr → ℕ → Bool
gives_uid ids f uid = nat_eq ids.uid 0 || nat_eq ids.uid f.uid && nat_eq uid f.uid

abbrev pub owner_uid : Subject → Sattr → Test
owner_uid s a = (rule.OwnerUid, on_some a.uid false (λ uid. not (gives_uid s.ids s.file uid)))

-- the owner may give the present group, and those that it is in
abbrev pub gives_gid : Ids → Fattr → ℕ → Bool
gives_gid ids f gid = nat_eq ids.uid 0 || nat_eq ids.uid f.uid && (nat_eq gid f.gid || nat_eq gid ids.gid || list_any (nat_eq gid) ids.gids)

abbrev pub owner_gid : Subject → Sattr → Test
owner_gid s a = (rule.OwnerGid, on_some a.gid false (λ gid. not (gives_gid s.ids s.file gid)))

abbrev pub size_type : Subject → Sattr → Test
size_type s a = (rule.SizeType, is_some a.size && not (is_regular_type s.file.file_type))

abbrev pub is_client_time : TimeSetting → Bool
is_client_time (ClientTime moment) = true
is_client_time other = false

abbrev pub is_server_time : TimeSetting → Bool
is_server_time ServerTime = true
is_server_time other = false

abbrev pub owner_time : Subject → Sattr → Test
owner_time s a = (rule.OwnerTime, (is_client_time a.atime || is_client_time a.mtime) && not (owns s.ids s.file))

abbrev pub time_right : Subject → Sattr → Test
time_right s a = (rule.TimeRight, (is_server_time a.atime || is_server_time a.mtime) && not (owns_or_may s Write))

-- ---- limits

-- where a file ends then, if it is to have a new end
abbrev pub too_big : Limits → Option ℕ → Test
too_big limits size = (rule.TooBig, on_some size false (nat_lt limits.file_size))

-- the end of some bytes at an offset; no bytes have none
abbrev pub end_of : ℕ → ℕ → Option ℕ
end_of offset count = if nat_eq count 0 then None else Some (offset + count)

-- how many bytes it has more then
abbrev pub growth : Subject → Option ℕ → Option ℕ
growth s size = option_map (λ n. n - s.file.size) size

-- whether something is so of the file's volume and what its files have in all
abbrev pub in_volume : Subject → (Volume → Totals → Bool) → Bool
in_volume s test = on_some (slice_get s.tree.volumes (s.file.fsid - 1)) false (λ volume. on_some (totals_at s.tree (s.file.fsid - 1)) false (test volume))

abbrev pub space : Subject → Option ℕ → Test
space s more = (rule.Space, on_some more false (λ n. in_volume s (λ volume totals. nat_lt volume.max_bytes (totals.bytes + n))))

abbrev pub files : Subject → Test
files s = (rule.Files, in_volume s (λ volume totals. nat_le volume.max_files totals.files))

abbrev pub links : Limits → Fattr → Test
links limits f = (rule.Links, nat_le limits.links f.nlink)

-- the last number and the last cookie are never given
abbrev pub last_number : ℕ
last_number = 2 ^ 64 - 1

-- for a hard link
abbrev pub cookies : Subject → Test
cookies s = (rule.Numbers, on_some (next_cookie_at s.tree s.file.fileid) false (nat_le last_number))

-- for a new file
abbrev pub numbers : Subject → Test
numbers s = (rule.Numbers, nat_le last_number s.tree.next || on_some (next_cookie_at s.tree s.file.fileid) false (nat_le last_number))

-- ---- names and paths

-- a byte that no name has: 0 or `/`
abbrev pub is_separator : ℕ → Bool
is_separator byte = nat_eq byte 0 || nat_eq byte 47

abbrev pub name_long : List ℕ → Test
name_long name = (rule.NameLong, nat_lt max_name_bytes (length name))

abbrev pub name_form : List ℕ → Test
name_form name = (rule.NameForm, nat_eq (length name) 0 || list_any is_separator name)

abbrev pub dot_name : List ℕ → Test
dot_name name = (rule.DotName, bytes_eq name dot || bytes_eq name dot_dot)

-- for RMDIR
abbrev pub dot_alone : List ℕ → Test
dot_alone name = (rule.DotName, bytes_eq name dot)

abbrev pub dot_dot_alone : List ℕ → Test
dot_dot_alone name = (rule.DotDot, bytes_eq name dot_dot)

-- MNTPATHLEN (RFC 1813, section 5.1.4)
abbrev pub max_mount_path_bytes : ℕ
max_mount_path_bytes = 1024

abbrev pub path_long : ℕ → List ℕ → Test
path_long most path = (rule.PathLong, nat_lt most (length path))

-- ---- entries, of which `.` and `..` are two

-- the attributes of the file under a name in the directory
abbrev pub found : Subject → List ℕ → Option Fattr
found s name = on_some (number_under s.tree s.file.fileid name) None (attributes_at s.tree)

abbrev pub no_entry : Subject → List ℕ → Test
no_entry s name = (rule.NoEntry, is_none (found s name))

abbrev pub exists : Subject → List ℕ → Test
exists s name = (rule.Exists, is_some (found s name))

-- what CREATE takes where it is there: any regular file, none, or the regular file that this verifier made
abbrev pub takes : Tree → CreateHow → Fattr → Bool
takes t (Unchecked attributes) f = is_regular_type f.file_type
takes t (Guarded attributes) f = false
takes t (Exclusive verifier) f = is_regular_type f.file_type && on_some (verifier_at t f.fileid) false (bytes_eq verifier)

abbrev pub exists_other : Subject → List ℕ → CreateHow → Test
exists_other s name how = (rule.Exists, on_some (found s name) false (λ f. not (takes s.tree how f)))

abbrev pub sticky : Subject → Fattr → Test
sticky s f = (rule.Sticky, not (lets_go s.ids s.file f))

abbrev pub is_directory : Fattr → Test
is_directory f = (rule.IsDirectory, is_directory_type f.file_type)

abbrev pub target_not_directory : Fattr → Test
target_not_directory f = (rule.TargetNotDirectory, not (is_directory_type f.file_type))

-- a directory lists nothing after `.` and `..`
abbrev pub is_empty : Tree → Fattr → Bool
is_empty t f = is_none (entry_after t f.fileid 2)

abbrev pub not_empty : Tree → Fattr → Test
not_empty t f = (rule.NotEmpty, not (is_empty t f))

-- ---- pages of a directory

-- the page takes not so many bytes as its head has, or an entry is left and the first doesn't fit, with so many bytes beside it
abbrev pub too_small : Subject → ℕ → ℕ → ℕ → Test
too_small s cookie count beside = (
  rule.TooSmall,
  nat_lt (min count max_page) page_head_bytes
      || on_some (entry_after s.tree s.file.fileid cookie) false (λ e. nat_lt (min count max_page) (page_head_bytes + entry_bytes e + beside)),
)
