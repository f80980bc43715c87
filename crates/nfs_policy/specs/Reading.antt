-- What a call may report of the bytes of a file that it doesn't read.
use Rattle.std.specs.Prelude.{◌≡◌, ◌≢◌, ℕ, Option}
use Rattle.nfs_args.specs.declared.args.NfsArgs.TheVariants as nfs
use Rattle.nfs_args.specs.declared.byte_range.ByteRange.{ByteRange}
use Rattle.nfs_inodes.specs.Tree.{Tree}
use Rattle.nfs_procs.specs.Performing.{IsGranted}
use Rattle.nfs_procs.specs.Procedures.{PerformsAs, doing_of}
use Rattle.nfs_procs.specs.Scenes.{Scene}
use Rattle.nfs_procs.specs.declared.done.Done.{Done}
use Rattle.nfs_rules.specs.Subjects.{Subject}
use Rattle.nfs_xdr.specs.Written.{Written}
use Rattle.nfs_policy.specs.Shape.{AgreeOutside}

-- the call is no READ of file f that is granted
abbrev pub ReadsNot : ℕ → Scene → Type 0
ReadsNot f c = (a : ByteRange) (one two : Subject) → c.args ≡ nfs.Read a → IsGranted c one two → one.file.fileid ≢ f

-- a call that doesn't read f is done and answered alike in a tree that agrees outside f, and the trees after it agree so
abbrev pub CallsAreConfined : Type 0
CallsAreConfined = (f : ℕ) (c : Scene) (other : Tree) → AgreeOutside f c.tree other → ReadsNot f c
    → (done : Option Done) (new : Tree) (before after : Written) → PerformsAs c (doing_of c.args) done new before after
    → (other_new : Tree) × PerformsAs (record c { tree = other }) (doing_of c.args) done other_new before after × AgreeOutside f new other_new
