-- What new files are like (RFC 1813, section 2.6, sattr3).
use Rattle.std.specs.Prelude.{ℕ, ◌||◌, Option, nat_eq, if◌then◌else◌}
use Rattle.std.specs.List.{list_any}
use Rattle.nfs_attrs.specs.declared.moment.Moment.{Moment}
use Rattle.nfs_attrs.specs.declared.sattr.Sattr.{Sattr}
use Rattle.nfs_attrs.specs.declared.time_setting.TimeSetting.{TimeSetting}
use Rattle.nfs_attrs.specs.declared.time_setting.TimeSetting.TheVariants.{ClientTime}
use Rattle.nfs_exports.specs.Ids.{Ids}
use Rattle.nfs_inodes.specs.Changes.{or_else}
use Rattle.nfs_inodes.specs.Tree.{on_some}
use Rattle.nfs_inodes.specs.declared.new_file.NewFile.{NewFile}

-- uid 0 gives a file to whom it likes
abbrev pub uid_of : Ids → Option ℕ → ℕ
uid_of ids given = on_some given ids.uid (λ uid. if nat_eq ids.uid 0 then uid else ids.uid)

-- and to any group, another to a group that it is in
abbrev pub gid_of : Ids → Option ℕ → ℕ
gid_of ids given = on_some given ids.gid (λ gid. if nat_eq ids.uid 0 || nat_eq gid ids.gid || list_any (nat_eq gid) ids.gids then gid else ids.gid)

-- a time that the client gives, else this moment
abbrev pub time_of : Moment → TimeSetting → Moment
time_of now (ClientTime moment) = moment
time_of now other = now

-- a file that the caller makes at this moment; its mode where none is given
abbrev pub new_file_of : ℕ → Ids → Moment → Sattr → NewFile
new_file_of mode ids now given = record {
  mode = or_else given.mode mode;
  uid = uid_of ids given.uid;
  gid = gid_of ids given.gid;
  atime = time_of now given.atime;
  mtime = time_of now given.mtime;
}
