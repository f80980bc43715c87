-- A directory is made.
use Rattle.std.proofs.Common.{◌≡◌, ℕ, Some, sym, ap, subst, ◌∙◌}
use Rattle.std.specs.Int.{w32, to_be_bytes}
use Rattle.std.specs.Prelude.{Ok}
use Rattle.nfs_args.specs.Results.{IsMade, made_text}
use Rattle.nfs_args.specs.declared.answer.NfsAnswer.TheVariants as answer
use Rattle.nfs_args.specs.declared.mkdir.Mkdir.{Mkdir}
use Rattle.nfs_attrs.specs.Encoding.{IsWcc}
use Rattle.nfs_attrs.specs.declared.fattr.Fattr.{Fattr}
use Rattle.nfs_attrs.specs.declared.wcc.Wcc.{Wcc}
use Rattle.nfs_inodes.specs.Changes.{Makes, after_mkdir}
use Rattle.nfs_inodes.specs.Reading.{attributes_at}
use Rattle.nfs_inodes.specs.Tree.{Tree}
use Rattle.nfs_procs.proofs.Made.{shows_made}
use Rattle.nfs_procs.proofs.Encoded.{granted_encoded}
use Rattle.nfs_procs.specs.Doing.{change}
use Rattle.nfs_procs.specs.NewFiles.{new_file_of}
use Rattle.nfs_procs.specs.Performing.{AppendsAnswer, IsGranted, HasEffect}
use Rattle.nfs_procs.specs.Plans.{PlansDirectory}
use Rattle.nfs_procs.specs.Changers.{mkdir, directory_mode, new_file_in}
use Rattle.nfs_procs.specs.Scenes.{Scene}
use Rattle.nfs_procs.specs.declared.plan.Plan.{Plan}
use Rattle.nfs_rules.specs.Subjects.{Subject}
use Rattle.nfs_xdr.proofs.Writing.{appends_then}
use Rattle.nfs_xdr.specs.Written.{Written, Appends}

pub made_directory : (c : Scene) (a : Mkdir) (s : Subject) (plan : Plan) (new : Tree) (n : ℕ) (dir : Wcc) (x y z : Written) → IsGranted c s s → PlansDirectory c.tree c.now a plan s
    → Makes c.tree (λ tag. after_mkdir c.tree plan.dir.attributes.fileid a.place.name plan.given tag c.now) new → n ≡ c.tree.next
    → dir ≡ change (Some plan.dir.attributes) (attributes_at new plan.dir.attributes.fileid)
    → Appends (to_be_bytes w32 0) x y → Appends (made_text (new_file_in new n dir)) y z → IsMade (new_file_in new n dir) (made_text (new_file_in new n dir))
    → HasEffect c (mkdir a) new x z
made_directory c a s plan new n dir x y z granted plans makes number shown status made encoded = record {
  one = s;
  two = s;
  granted = granted;
  tag = makes.tag;
  tag_is = makes.tag_is;
  new_is = makes.new_is
      ∙ ap (λ (d : Fattr). after_mkdir c.tree d.fileid a.place.name plan.given makes.tag c.now) plans.dir
      ∙ ap (λ g. after_mkdir c.tree s.file.fileid a.place.name g makes.tag c.now) plans.given
      ∙ ap (λ t. after_mkdir t s.file.fileid a.place.name (new_file_of directory_mode s.ids c.now a.attributes) makes.tag c.now) (sym plans.tree);
  written = subst (λ m. AppendsAnswer (answer.Mkdir (Ok m)) x z) (shows_made new n s.tree.next s plan.dir.attributes dir plans.dir (number ∙ ap (λ (t : Tree). t.next) (sym plans.tree)) shown) (record {
    text = appends_then _ _ x y z status made;
    encoded = granted_encoded answer.Mkdir IsMade IsWcc made_text (new_file_in new n dir) encoded;
  });
}
