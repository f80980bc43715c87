-- That the answers of granted calls have all their parts: cases of the definitions that no call comes to.
use Rattle.std.specs.Prelude.{◌≡◌, ℕ, ◌-◌, ◌<◌, ◌^◌, List, Some, slice_get, Contains, IsSome}
use Rattle.nfs_args.specs.declared.args.NfsArgs.TheVariants as nfs
use Rattle.nfs_args.specs.declared.create.Create.{Create}
use Rattle.nfs_args.specs.declared.dir_op.DirOp.{DirOp}
use Rattle.nfs_args.specs.declared.link.Link.{Link}
use Rattle.nfs_args.specs.declared.mkdir.Mkdir.{Mkdir}
use Rattle.nfs_args.specs.declared.readdir.Readdirplus.{Readdirplus}
use Rattle.nfs_args.specs.declared.rename.Rename.{Rename}
use Rattle.nfs_args.specs.declared.symlink.Symlink.{Symlink}
use Rattle.nfs_attrs.specs.declared.fattr.Fattr.{Fattr}
use Rattle.nfs_handles.specs.Handles.{handle_at}
use Rattle.nfs_inodes.specs.Law.{Law}
use Rattle.nfs_inodes.specs.Reading.{attributes_at, listing_at, path_at, totals_at, numbered_files}
use Rattle.nfs_inodes.specs.Tree.{Tree, Entry, on_some}
use Rattle.nfs_procs.specs.Changers.{create, mkdir, symlink, rename, link}
use Rattle.nfs_procs.specs.Doing.{Doing}
use Rattle.nfs_procs.specs.Performing.{IsGranted}
use Rattle.nfs_procs.specs.Procedures.{doing_of}
use Rattle.nfs_procs.specs.Scenes.{Scene}
use Rattle.nfs_rules.specs.Subjects.{Subject}
use Rattle.nfs_rules.specs.Tests.{found}

-- of each call that is granted over a lawful tree, and what its handles name
abbrev pub OfGranted : (Scene → Subject → Subject → Type 0) → Type 0
OfGranted Holds = (c : Scene) → Law c.tree → (one two : Subject) → IsGranted c one two → Holds c one two

-- READLINK: the link's path
abbrev pub HasPath : Scene → Subject → Subject → Type 0
HasPath c one two = (handle : List ℕ) → c.args ≡ nfs.Readlink handle → IsSome (path_at one.tree one.file.fileid)

-- LOOKUP: the file under the name, and its handle
abbrev pub HasFound : Scene → Subject → Subject → Type 0
HasFound c one two = (a : DirOp) → c.args ≡ nfs.Lookup a
    → (f : Fattr) × (found one a.name ≡ Some f) × IsSome (handle_at (numbered_files one.tree) f.fileid)

-- FSSTAT: the volume's limits, and what its files have of them
abbrev pub HasVolume : Scene → Subject → Subject → Type 0
HasVolume c one two = (handle : List ℕ) → c.args ≡ nfs.Fsstat handle
    → IsSome (slice_get one.tree.volumes (one.file.fsid - 1)) × IsSome (totals_at one.tree (one.file.fsid - 1))

-- the attributes and the handle of a file
abbrev pub IsShown : Tree → ℕ → Type 0
IsShown t n = IsSome (attributes_at t n) × IsSome (handle_at (numbered_files t) n)

-- READDIRPLUS: those of each file that the directory lists, of `.` and `..` too
abbrev pub HasListed : Scene → Subject → Subject → Type 0
HasListed c one two = (a : Readdirplus) → c.args ≡ nfs.Readdirplus a
    → (e : Entry) → Contains (listing_at one.tree one.file.fileid) e → IsShown one.tree e.number

-- of each procedure: the attributes that the file of its first handle has afterwards
abbrev pub HasChanged : Scene → Subject → Subject → Type 0
HasChanged c one two = (doing : Doing) (tag : ℕ) → doing_of c.args ≡ Some doing → tag < 2 ^ 32
    → IsSome (attributes_at (doing.effect one two c.now tag) one.file.fileid)

-- RENAME and LINK: those of the second handle's
abbrev pub HasBoth : Scene → Subject → Subject → Type 0
HasBoth c one two = ((a : Rename) (tag : ℕ) → c.args ≡ nfs.Rename a → IsSome (attributes_at ((rename a).effect one two c.now tag) two.file.fileid))
    × ((a : Link) (tag : ℕ) → c.args ≡ nfs.Link a → IsSome (attributes_at ((link a).effect one two c.now tag) two.file.fileid))

-- CREATE, MKDIR and SYMLINK: the attributes and the handle of the file that was made or, by CREATE, was there
abbrev pub HasMade : Scene → Subject → Subject → Type 0
HasMade c one two = ((a : Create) (tag : ℕ) → c.args ≡ nfs.Create a
    → IsShown ((create a).effect one two c.now tag) (on_some (found one a.place.name) one.tree.next (λ f. f.fileid)))
    × ((a : Mkdir) (tag : ℕ) → c.args ≡ nfs.Mkdir a → IsShown ((mkdir a).effect one two c.now tag) one.tree.next)
    × ((a : Symlink) (tag : ℕ) → c.args ≡ nfs.Symlink a → IsShown ((symlink a).effect one two c.now tag) one.tree.next)
