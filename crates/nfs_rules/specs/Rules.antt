-- The rules of the procedures: what audit lines call each, and the status of a call that fails it.
use Rattle.std.specs.Prelude.{ℕ, List, codes}
use Rattle.nfs_rules.specs.declared.rule.Rule.{Rule}
use Rattle.nfs_rules.specs.declared.rule.Rule.TheVariants as rule

abbrev pub name_of : Rule → List ℕ
name_of rule.BadHandle = codes "bad-handle"
name_of rule.StaleHandle = codes "stale-handle"
name_of rule.Export = codes "export"
name_of rule.CrossVolume = codes "cross-volume"
name_of rule.ReadOnly = codes "read-only"
name_of rule.NotRegular = codes "not-regular"
name_of rule.NotLink = codes "not-link"
name_of rule.NotDirectory = codes "not-dir"
name_of rule.Guard = codes "guard"
name_of rule.OwnerMode = codes "owner-mode"
name_of rule.OwnerUid = codes "owner-uid"
name_of rule.OwnerGid = codes "owner-gid"
name_of rule.SizeType = codes "size-type"
name_of rule.WriteRight = codes "write-right"
name_of rule.ReadRight = codes "read-right"
name_of rule.OwnerTime = codes "owner-time"
name_of rule.TimeRight = codes "time-right"
name_of rule.TooBig = codes "too-big"
name_of rule.Space = codes "space"
name_of rule.Search = codes "search"
name_of rule.DirectoryRead = codes "dir-read"
name_of rule.DirectoryWrite = codes "dir-write"
name_of rule.Sticky = codes "sticky"
name_of rule.NameLong = codes "name-long"
name_of rule.NameForm = codes "name-form"
name_of rule.DotName = codes "dot-name"
name_of rule.DotDot = codes "dot-dot"
name_of rule.PathLong = codes "path-long"
name_of rule.MountPath = codes "mount-path"
name_of rule.NoEntry = codes "no-entry"
name_of rule.Exists = codes "exists"
name_of rule.IsDirectory = codes "is-dir"
name_of rule.TargetNotDirectory = codes "target-not-dir"
name_of rule.NotEmpty = codes "not-empty"
name_of rule.Incompatible = codes "incompatible"
name_of rule.IntoItself = codes "into-itself"
name_of rule.LinkDirectory = codes "link-dir"
name_of rule.Files = codes "files"
name_of rule.Links = codes "links"
name_of rule.Numbers = codes "numbers"
name_of rule.NoMknod = codes "no-mknod"
name_of rule.TooSmall = codes "too-small"

-- nfsstat3 and mountstat3
abbrev pub status_of : Rule → ℕ
status_of rule.BadHandle = 10001
status_of rule.StaleHandle = 70
status_of rule.Export = 13
status_of rule.CrossVolume = 18
status_of rule.ReadOnly = 30
status_of rule.NotRegular = 22
status_of rule.NotLink = 22
status_of rule.NotDirectory = 20
status_of rule.Guard = 10002
status_of rule.OwnerMode = 1
status_of rule.OwnerUid = 1
status_of rule.OwnerGid = 1
status_of rule.SizeType = 22
status_of rule.WriteRight = 13
status_of rule.ReadRight = 13
status_of rule.OwnerTime = 1
status_of rule.TimeRight = 13
status_of rule.TooBig = 27
status_of rule.Space = 28
status_of rule.Search = 13
status_of rule.DirectoryRead = 13
status_of rule.DirectoryWrite = 13
status_of rule.Sticky = 1
status_of rule.NameLong = 63
status_of rule.NameForm = 13
status_of rule.DotName = 22
status_of rule.DotDot = 17
status_of rule.PathLong = 63
status_of rule.MountPath = 2
status_of rule.NoEntry = 2
status_of rule.Exists = 17
status_of rule.IsDirectory = 21
status_of rule.TargetNotDirectory = 20
status_of rule.NotEmpty = 66
status_of rule.Incompatible = 17
status_of rule.IntoItself = 22
status_of rule.LinkDirectory = 22
status_of rule.Files = 28
status_of rule.Links = 31
status_of rule.Numbers = 28
status_of rule.NoMknod = 10004
status_of rule.TooSmall = 10005
