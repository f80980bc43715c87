-- What is planned of procedures that change the tree, once their rules are kept.
use Rattle.std.specs.Prelude.{◌≡◌, ℕ, true, List, length, min, Option, Some, None, option_map, Result, Ok, Err}
use Rattle.nfs_args.specs.declared.create.Create.{Create}
use Rattle.nfs_args.specs.declared.create.CreateHow.{CreateHow}
use Rattle.nfs_args.specs.declared.mkdir.Mkdir.{Mkdir}
use Rattle.nfs_args.specs.declared.readdir.Readdir.{Readdir}
use Rattle.nfs_args.specs.declared.readdir.Readdirplus.{Readdirplus}
use Rattle.nfs_args.specs.declared.rename.Rename.{Rename}
use Rattle.nfs_args.specs.declared.setattr.Setattr.{Setattr}
use Rattle.nfs_args.specs.declared.symlink.Symlink.{Symlink}
use Rattle.nfs_args.specs.declared.write.Write.{Write}
use Rattle.nfs_attrs.specs.declared.fattr.Fattr.{Fattr}
use Rattle.nfs_attrs.specs.declared.moment.Moment.{Moment}
use Rattle.nfs_attrs.specs.declared.wcc.Wcc.{Wcc}
use Rattle.nfs_attrs.specs.declared.sattr.Sattr.{Sattr}
use Rattle.nfs_args.specs.Sizes.{max_page}
use Rattle.nfs_dirs.specs.Opening.{IsOpen}
use Rattle.nfs_dirs.specs.Pages.{left_after, plus_bytes}
use Rattle.nfs_dirs.specs.declared.open_page.OpenPage.{OpenPage}
use Rattle.nfs_dirs.specs.declared.open_page.OpenPagePlus.{OpenPagePlus}
use Rattle.nfs_handles.specs.declared.number.Number.{Number}
use Rattle.nfs_inodes.specs.Changes.{after_make_file, zeros}
use Rattle.nfs_inodes.specs.Conditions.{MayLink, MayMake, MayMakeDirectory, MayMakeLink, MayRenameSeen, MayResize, MayUnlinkSeen, MayWrite}
use Rattle.nfs_inodes.specs.Law.{Lives}
use Rattle.nfs_inodes.specs.Reading.{is_regular_type, attributes_at}
use Rattle.nfs_inodes.specs.Tree.{Tree, File, on_some}
use Rattle.nfs_inodes.specs.Views.{FileView, IsSeen, standing_of}
use Rattle.nfs_procs.specs.Doing.{change}
use Rattle.nfs_procs.specs.NewFiles.{new_file_of}
use Rattle.nfs_procs.specs.Changers.{file_mode, directory_mode, link_mode, attributes_in, verifier_in, after_taking, size_taken, cleared_mode, has_bytes, with_cleared_mode}
use Rattle.nfs_procs.specs.declared.denial.Denial.{Denial}
use Rattle.nfs_procs.specs.declared.plan.Plan.{Plan}
use Rattle.nfs_procs.specs.declared.plan.FileBefore.{FileBefore}
use Rattle.nfs_procs.specs.declared.plan.FilePlan.{FilePlan}
use Rattle.nfs_procs.specs.declared.plan.RemovalPlan.{RemovalPlan}
use Rattle.nfs_procs.specs.declared.plan.RenamePlan.{RenamePlan}
use Rattle.nfs_rules.specs.Rights.{may}
use Rattle.nfs_rules.specs.Subjects.{Subject}
use Rattle.nfs_rules.specs.Table.{size_in}
use Rattle.nfs_rules.specs.Tests.{found}
use Rattle.nfs_rules.specs.declared.rights.Right.TheVariants.{Execute}
use Rattle.nfs_rules.specs.declared.rule.Rule.{Rule}

-- a new directory
pub record PlansDirectory (t : Tree) (now : Moment) (a : Mkdir) (plan : Plan) (s : Subject) : Type 0 where
  pub tree : s.tree ≡ t
  pub dir : plan.dir.attributes ≡ s.file
  pub given : plan.given ≡ new_file_of directory_mode s.ids now a.attributes
  pub may : MayMakeDirectory t s.file.fileid a.place.name

-- a call that leaves the tree as it is: its subject
pub record PlansReading (t : Tree) (plan s : Subject) : Type 0 where
  pub subject : plan ≡ s
  pub tree : s.tree ≡ t

-- a file that was found under a name in a directory
pub record PlansFound (t : Tree) (name : List ℕ) (plan : Subject × FileView) (s : Subject) : Type 0 where
  pub subject : plan.0 ≡ s
  pub tree : s.tree ≡ t
  pub found : found s name ≡ Some plan.1.attributes
  pub seen : IsSeen t plan.1

-- a regular file that is read
pub record PlansData (t : Tree) (plan s : Subject) : Type 0 where
  pub subject : plan ≡ s
  pub tree : s.tree ≡ t
  pub regular : is_regular_type s.file.file_type ≡ true

-- a directory that is listed, and its page, which has room for the first entry that is left
pub record PlansPage (t : Tree) (a : Readdir) (plan : Subject × OpenPage) (s : Subject) : Type 0 where
  pub subject : plan.0 ≡ s
  pub tree : s.tree ≡ t
  pub page : IsOpen (left_after s.tree s.file.fileid a.cookie) (min a.count max_page) 0 plan.1

pub record PlansPagePlus (t : Tree) (a : Readdirplus) (plan : Subject × OpenPagePlus) (s : Subject) : Type 0 where
  pub subject : plan.0 ≡ s
  pub tree : s.tree ≡ t
  pub page : IsOpen (left_after s.tree s.file.fileid a.cookie) (min a.maxcount max_page) (plus_bytes (may s.ids s.file Execute)) plan.1.page
  pub searchable : plan.1.searchable ≡ may s.ids s.file Execute

-- an entry that is taken away: its directory, and what is known of its file
pub record PlansRemoval (t : Tree) (name : List ℕ) (plan : RemovalPlan) (s : Subject) : Type 0 where
  pub tree : s.tree ≡ t
  pub dir : plan.dir.attributes ≡ s.file
  pub may : MayUnlinkSeen t plan.dir.attributes.fileid name plan.number.0 plan.file

-- an entry that the rules grant to be taken away, or the denial by the first of them that fails
abbrev pub PlansEntry : Subject → Result FileView Rule → Result RemovalPlan Denial → Type 0
PlansEntry s (Ok file) (Ok plan) = (plan.dir.attributes ≡ s.file) × (plan.number.0 ≡ file.attributes.fileid) × (plan.file ≡ standing_of file.attributes)
PlansEntry s (Err rule) (Err denial) = denial ≡ record { rule = rule; uid = Some s.ids.uid; shown = Some s.file }
PlansEntry s (Ok file) (Err denial) = ⊥
PlansEntry s (Err rule) (Ok plan) = ⊥

-- what a directory was, and what it is now
abbrev pub directory_change : Tree → RemovalPlan → Wcc
directory_change new plan = change (Some plan.dir.attributes) (attributes_at new plan.dir.attributes.fileid)

-- a hard link: the file, and the directory of the name
pub record PlansLink (t : Tree) (name : List ℕ) (plan : FileBefore × FileBefore) (file dir : Subject) : Type 0 where
  pub tree : file.tree ≡ t
  pub file_is : plan.0.attributes ≡ file.file
  pub dir_is : plan.1.attributes ≡ dir.file
  pub may : MayLink t plan.0.attributes.fileid plan.1.attributes.fileid name

-- where an entry goes from one directory to another, of the file that moves and of the one that the new name names
pub record RoutesRename (from to : Subject) (moved replaced : Option Fattr) (plan : RenamePlan) : Type 0 where
  pub from_is : plan.from ≡ from.file
  pub to_is : plan.to ≡ to.file
  pub from_number : plan.route.from.0 ≡ from.file.fileid
  pub to_number : plan.route.to.0 ≡ to.file.fileid
  pub number : Some plan.route.number.0 ≡ option_map (λ (f : Fattr). f.fileid) moved
  pub names : option_map (λ (n : Number). n.0) plan.route.replaced ≡ option_map (λ (f : Fattr). f.fileid) replaced

-- a name that is changed: both directories, and the files that its rules have found
pub record PlansRename (t : Tree) (a : Rename) (plan : RenamePlan) (from to : Subject) : Type 0 where
  pub tree : from.tree ≡ t
  pub routes : RoutesRename from to (found from a.from.name) (found to a.to.name) plan
  pub may : MayRenameSeen t plan.route a.from.name a.to.name

-- a new link
pub record PlansSymlink (t : Tree) (now : Moment) (a : Symlink) (plan : Plan) (s : Subject) : Type 0 where
  pub tree : s.tree ≡ t
  pub dir : plan.dir.attributes ≡ s.file
  pub given : plan.given ≡ record (new_file_of link_mode s.ids now a.attributes) { mode = link_mode }
  pub may : MayMakeLink t s.file.fileid a.place.name a.path

-- bytes for a file that is there, and the mode that it gets with them, if it gets one
pub record PlansBytes (t : Tree) (a : Write) (plan : FileBefore × Option ℕ) (s : Subject) : Type 0 where
  pub tree : s.tree ≡ t
  pub same : plan.0.attributes ≡ s.file
  pub mode : plan.1 ≡ cleared_mode s.ids.uid s.file (has_bytes a.content)
  pub may : MayWrite t s.file.fileid a.offset (length a.content)

-- a file that is there may have a size, where there is one
abbrev pub MayTakeSize : Tree → ℕ → Option ℕ → Type 0
MayTakeSize t n size = (bytes : ℕ) → size ≡ Some bytes → MayResize t n bytes

-- attributes of a file that is there, and what is set of them
pub record PlansSettings (t : Tree) (a : Setattr) (plan : FileBefore × Sattr) (s : Subject) : Type 0 where
  pub tree : s.tree ≡ t
  pub same : plan.0.attributes ≡ s.file
  pub given : plan.1 ≡ with_cleared_mode s.ids.uid s.file a.attributes
  pub lives : (f : File) × Lives t s.file.fileid f
  pub may : MayTakeSize t s.file.fileid plan.1.size

-- a file that is there may be taken
abbrev pub MayTake : Tree → ℕ → CreateHow → Type 0
MayTake t n how = MayTakeSize t n (size_taken how)

-- a file may be made in directory d, or that which is there may be taken
abbrev pub MayMakeOrTake : Tree → ℕ → Create → Option Fattr → Type 0
MayMakeOrTake t d a None = MayMake t d a.place.name (on_some (size_in a.how) 0 (λ size. size))
MayMakeOrTake t d a (Some f) = MayTake t f.fileid a.how

abbrev pub after_making : Tree → FilePlan → Create → Moment → ℕ → Tree
after_making t plan a now tag = after_make_file t plan.dir.attributes.fileid a.place.name (zeros (on_some (size_in a.how) 0 (λ size. size))) plan.given (verifier_in a.how) tag now

-- the file that is taken, if there is one
abbrev pub present_in : FilePlan → Option Fattr
present_in plan = option_map (λ f. f.attributes) plan.present

abbrev pub after_making_or_taking : Tree → FilePlan → Create → Moment → ℕ → Tree
after_making_or_taking t plan a now tag = on_some (present_in plan) (after_making t plan a now tag) (λ f. after_taking t plan.uid f a.how now)

-- the number of the file that is there, or of a new one
abbrev pub number_of : Tree → Option Fattr → ℕ
number_of t present = on_some present t.next (λ f. f.fileid)

-- a regular file
pub record PlansFile (t : Tree) (now : Moment) (a : Create) (plan : FilePlan) (s : Subject) : Type 0 where
  pub tree : s.tree ≡ t
  pub dir : plan.dir.attributes ≡ s.file
  pub present : present_in plan ≡ found s a.place.name
  pub uid : plan.uid ≡ s.ids.uid
  pub given : plan.given ≡ new_file_of file_mode s.ids now (attributes_in a.how)
  pub may : MayMakeOrTake t plan.dir.attributes.fileid a (present_in plan)
