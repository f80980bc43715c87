-- What a procedure does and answers.
use Rattle.std.specs.Prelude.{ℕ, Bool, true, false, List, Option, option_map}
use Rattle.nfs_args.specs.declared.answer.NfsAnswer.{NfsAnswer}
use Rattle.nfs_attrs.specs.declared.fattr.Fattr.{Fattr}
use Rattle.nfs_attrs.specs.declared.moment.Moment.{Moment}
use Rattle.nfs_attrs.specs.declared.pre_attr.PreAttr.{PreAttr}
use Rattle.nfs_attrs.specs.declared.wcc.Wcc.{Wcc}
use Rattle.nfs_inodes.specs.Tree.{Tree}
use Rattle.nfs_rules.specs.Subjects.{Subject}

-- By what the two handles name; of one handle it is the same.
pub record Doing : Type 0 where
  -- whether want of memory may be the answer
  pub takes_memory : Subject → Subject → Bool
  -- the tree after a granted call, at this moment; a new file has this tag
  pub effect : Subject → Subject → Moment → ℕ → Tree
  -- what a granted call is answered, by the tree after it
  pub granted : Subject → Subject → Tree → NfsAnswer
  -- how many bytes the longest result has
  pub largest : ℕ
  -- what a denied call is answered: by its status, and the attributes that are shown of what a handle names
  pub denied : ℕ → (List ℕ → Option Fattr) → NfsAnswer

-- a procedure under which nothing grows takes no memory
abbrev pub never : Subject → Subject → Bool
never one two = false

-- and one that makes something always some
abbrev pub always : Subject → Subject → Bool
always one two = true

-- a procedure that reads leaves the tree as it is
abbrev pub unchanged : Subject → Subject → Moment → ℕ → Tree
unchanged one two now tag = one.tree

-- wcc_data
abbrev pub pre_of : Fattr → PreAttr
pre_of f = record { size = f.size; mtime = f.mtime; ctime = f.ctime }

abbrev pub change : Option Fattr → Option Fattr → Wcc
change before after = record { before = option_map pre_of before; after = after }

-- a file that a denied call named, which stays as it was
abbrev pub no_change : Option Fattr → Wcc
no_change file = change file file
