-- Every procedure by its arguments.
use Rattle.std.specs.Prelude.{◌≡◌, ℕ, Option, Some, None}
use Rattle.nfs_args.specs.declared.args.NfsArgs.{NfsArgs}
use Rattle.nfs_args.specs.declared.args.NfsArgs.TheVariants as nfs
use Rattle.nfs_inodes.specs.Tree.{Tree}
use Rattle.nfs_procs.specs.Changers.{setattr, write, create, mkdir, symlink, remove, rmdir, rename, link}
use Rattle.nfs_procs.specs.Doing.{Doing}
use Rattle.nfs_procs.specs.Performing.{Performs}
use Rattle.nfs_procs.specs.Readers.{getattr, lookup, access, readlink, read, readdir, readdirplus, mknod, fsstat, fsinfo, pathconf, commit}
use Rattle.nfs_procs.specs.Scenes.{Scene}
use Rattle.nfs_procs.specs.declared.done.Done.{Done}
use Rattle.nfs_xdr.specs.Written.{Written}

-- none for NULL
abbrev pub doing_of : NfsArgs → Option Doing
doing_of nfs.Null = None
doing_of (nfs.Getattr file) = Some getattr
doing_of (nfs.Setattr a) = Some (setattr a)
doing_of (nfs.Lookup a) = Some (lookup a)
doing_of (nfs.Access a) = Some (access a)
doing_of (nfs.Readlink file) = Some (readlink file)
doing_of (nfs.Read a) = Some (read a)
doing_of (nfs.Write a) = Some (write a)
doing_of (nfs.Create a) = Some (create a)
doing_of (nfs.Mkdir a) = Some (mkdir a)
doing_of (nfs.Symlink a) = Some (symlink a)
doing_of (nfs.Mknod a) = Some (mknod a)
doing_of (nfs.Remove a) = Some (remove a)
doing_of (nfs.Rmdir a) = Some (rmdir a)
doing_of (nfs.Rename a) = Some (rename a)
doing_of (nfs.Link a) = Some (link a)
doing_of (nfs.Readdir a) = Some (readdir a)
doing_of (nfs.Readdirplus a) = Some (readdirplus a)
doing_of (nfs.Fsstat file) = Some (fsstat file)
doing_of (nfs.Fsinfo file) = Some (fsinfo file)
doing_of (nfs.Pathconf file) = Some (pathconf file)
doing_of (nfs.Commit a) = Some (commit a)

-- the room that the longest result takes
abbrev pub room_for : Option Doing → ℕ
room_for None = 0
room_for (Some doing) = doing.largest

-- what is not done changes and writes nothing
abbrev pub PerformsAs : Scene → Option Doing → Option Done → Tree → Written → Written → Type 0
PerformsAs c None None new before after = (new ≡ c.tree) × (after ≡ before)
PerformsAs c None (Some done) new before after = ⊥
PerformsAs c (Some doing) None new before after = ⊥
PerformsAs c (Some doing) (Some done) new before after = Performs c doing done new before after
