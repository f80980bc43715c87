-- Regular files are made, or taken where they are there.
use Rattle.std.proofs.Common.{◌≡◌, ℕ, Option, Some, None, refl, sym, ap, subst, ◌∙◌}
use Rattle.std.specs.Int.{w32, to_be_bytes}
use Rattle.std.specs.Prelude.{Ok}
use Rattle.nfs_args.specs.Results.{IsMade, made_text}
use Rattle.nfs_args.specs.declared.answer.NfsAnswer.TheVariants as answer
use Rattle.nfs_args.specs.declared.create.Create.{Create}
use Rattle.nfs_args.specs.declared.create.CreateHow.{CreateHow}
use Rattle.nfs_args.specs.declared.create.CreateHow.TheVariants.{Unchecked, Guarded, Exclusive}
use Rattle.nfs_attrs.specs.Encoding.{IsWcc}
use Rattle.nfs_attrs.specs.declared.fattr.Fattr.{Fattr}
use Rattle.nfs_attrs.specs.declared.moment.Moment.{Moment}
use Rattle.nfs_attrs.specs.declared.wcc.Wcc.{Wcc}
use Rattle.nfs_inodes.proofs.Lists.{not_both}
use Rattle.nfs_inodes.specs.Changes.{Makes, after_make_file, zeros}
use Rattle.nfs_inodes.specs.Law.{Law, Lives}
use Rattle.nfs_inodes.specs.Reading.{attributes_at}
use Rattle.nfs_inodes.specs.Tree.{Tree, File, on_some}
use Rattle.nfs_inodes.specs.declared.new_file.NewFile.{NewFile}
use Rattle.nfs_procs.proofs.Made.{shows_made}
use Rattle.nfs_procs.proofs.Encoded.{granted_encoded}
use Rattle.nfs_procs.specs.Changers.{create, attributes_in, file_mode, new_file_in, size_taken, verifier_in, after_taking}
use Rattle.nfs_procs.specs.Doing.{change}
use Rattle.nfs_procs.specs.NewFiles.{new_file_of}
use Rattle.nfs_procs.specs.Performing.{AppendsAnswer, IsGranted, HasEffect}
use Rattle.nfs_procs.specs.Plans.{MayTake, MayMakeOrTake, PlansFile, after_making_or_taking, number_of, present_in}
use Rattle.nfs_procs.specs.Scenes.{Scene}
use Rattle.nfs_procs.specs.declared.plan.FilePlan.{FilePlan}
use Rattle.nfs_rules.proofs.NewFiles.{may_make_file}
use Rattle.nfs_rules.proofs.Sizes.{may_resize_present}
use Rattle.nfs_rules.specs.Subjects.{Subject}
use Rattle.nfs_rules.specs.Table.{create_rules, size_in}
use Rattle.nfs_rules.specs.Tests.{first, found}
use Rattle.nfs_xdr.proofs.Writing.{appends_then}
use Rattle.nfs_xdr.specs.Written.{Written, Appends}

-- where no rule is failed
pub may_make_or_take : (s : Subject) → Law s.tree → attributes_at s.tree s.file.fileid ≡ Some s.file → (a : Create) → first (create_rules s a) ≡ None
    → (present : Option Fattr) → present ≡ found s a.place.name → MayMakeOrTake s.tree s.file.fileid a present
may_make_or_take s law seen a none None is = may_make_file s law seen a none (sym is)
may_make_or_take s law seen a none (Some f) is = may_take a.how refl
  where
    may_take : (how : CreateHow) → a.how ≡ how → MayTake s.tree f.fileid how
    may_take (Unchecked attributes) e = λ n size. may_resize_present s law a none f (sym is) attributes e n size
    may_take (Guarded attributes) e = λ n size. absurd (not_both refl size)
    may_take (Exclusive verifier) e = λ n size. absurd (not_both refl size)

-- a file that gets a size is there
pub lives_taken : (t : Tree) (n size : ℕ) (how : CreateHow) → MayTake t n how → size_taken how ≡ Some size → (f : File) × Lives t n f
lives_taken t n size how may e = let m = may size e in (m.file, m.at_file)

-- what becomes of the tree by the parts of a plan
abbrev after_plan : Tree → Create → Moment → ℕ → Fattr → Option Fattr → ℕ → NewFile → Tree
after_plan t a now tag dir present uid given = on_some present (after_make_file t dir.fileid a.place.name (zeros (on_some (size_in a.how) 0 (λ size. size))) given (verifier_in a.how) tag now) (λ f. after_taking t uid f a.how now)

pub created : (c : Scene) (a : Create) (s : Subject) (plan : FilePlan) (new : Tree) (n : ℕ) (dir : Wcc) (x y z : Written) → IsGranted c s s → PlansFile c.tree c.now a plan s
    → Makes c.tree (after_making_or_taking c.tree plan a c.now) new → n ≡ number_of c.tree (present_in plan)
    → dir ≡ change (Some plan.dir.attributes) (attributes_at new plan.dir.attributes.fileid)
    → Appends (to_be_bytes w32 0) x y → Appends (made_text (new_file_in new n dir)) y z → IsMade (new_file_in new n dir) (made_text (new_file_in new n dir))
    → HasEffect c (create a) new x z
created c a s plan new n dir x y z granted plans makes number shown status made encoded = record {
  one = s;
  two = s;
  granted = granted;
  tag = makes.tag;
  tag_is = makes.tag_is;
  new_is = makes.new_is
      ∙ ap (λ dir. after_plan c.tree a c.now makes.tag dir (present_in plan) plan.uid plan.given) plans.dir
      ∙ ap (λ present. after_plan c.tree a c.now makes.tag s.file present plan.uid plan.given) plans.present
      ∙ ap (λ uid. after_plan c.tree a c.now makes.tag s.file (found s a.place.name) uid plan.given) plans.uid
      ∙ ap (after_plan c.tree a c.now makes.tag s.file (found s a.place.name) s.ids.uid) plans.given
      ∙ ap (λ t. after_plan t a c.now makes.tag s.file (found s a.place.name) s.ids.uid (new_file_of file_mode s.ids c.now (attributes_in a.how))) (sym plans.tree);
  written = subst (λ m. AppendsAnswer (answer.Create (Ok m)) x z) (shows_made new n (number_of s.tree (found s a.place.name)) s plan.dir.attributes dir plans.dir numbered shown) (record {
    text = appends_then _ _ x y z status made;
    encoded = granted_encoded answer.Create IsMade IsWcc made_text (new_file_in new n dir) encoded;
  });
}
  where
    numbered : n ≡ number_of s.tree (found s a.place.name)
    numbered = number ∙ ap (number_of c.tree) plans.present ∙ ap (λ t. number_of t (found s a.place.name)) (sym plans.tree)
