-- Attributes are set.
use Rattle.std.proofs.Common.{◌≡◌, ℕ, List, [], ◌∷◌, Option, Some, None, Ok, sym, ap, subst, ◌∙◌}
use Rattle.nfs_args.specs.declared.answer.NfsAnswer.TheVariants as answer
use Rattle.nfs_args.specs.declared.setattr.Setattr.{Setattr}
use Rattle.nfs_attrs.specs.declared.fattr.Fattr.{Fattr}
use Rattle.nfs_attrs.specs.declared.moment.Moment.{Moment}
use Rattle.nfs_attrs.specs.declared.sattr.Sattr.{Sattr}
use Rattle.nfs_attrs.specs.declared.wcc.Wcc.{Wcc}
use Rattle.nfs_inodes.proofs.Maps.{at_with_same}
use Rattle.nfs_inodes.proofs.law.Settings.{resized_is}
use Rattle.nfs_inodes.specs.Changes.{after_resize, resized_to, after_write_at, file_with_bytes, with_file}
use Rattle.nfs_inodes.specs.Law.{Lives}
use Rattle.nfs_handles.proofs.Tags.{some_next_tag}
use Rattle.nfs_inodes.specs.Reading.{attributes_at, numbered_files}
use Rattle.nfs_inodes.specs.Tree.{Tree, File, on_some}
use Rattle.nfs_procs.specs.Changers.{setattr, after_settings, with_cleared_mode}
use Rattle.nfs_procs.specs.Doing.{change}
use Rattle.nfs_procs.specs.Performing.{AppendsAnswer, IsGranted, HasEffect}
use Rattle.nfs_procs.specs.declared.plan.FileBefore.{FileBefore}
use Rattle.nfs_procs.specs.Plans.{PlansSettings}
use Rattle.nfs_procs.specs.Scenes.{Scene}
use Rattle.nfs_rules.specs.Subjects.{Subject}
use Rattle.nfs_xdr.specs.Written.{Written}

-- a file that gets a size still lives
pub lives_sized : (t : Tree) (n : ℕ) (size : Option ℕ) (now : Moment) (f : File) → Lives t n f → (g : File) × Lives (on_some size t (λ size. after_resize t n size now)) n g
lives_sized t n None now f at_f = (f, at_f)
lives_sized t n (Some size) now f at_f = (resized_to f size now, subst (λ u. Lives u n (resized_to f size now)) (sym (resized_is t n size now f at_f)) (at_with_same n f (resized_to f size now) t.files at_f))

-- and so does one into which bytes are written
pub lives_written : (t : Tree) (n offset : ℕ) (bytes : List ℕ) (now : Moment) (f : File) → Lives t n f → (g : File) × Lives (after_write_at t n offset bytes now) n g
lives_written t n offset [] now f at_f = (f, at_f)
lives_written t n offset (b ∷ bytes) now f at_f =
    let g : File = file_with_bytes f offset (b ∷ bytes) now in
    (g, subst (λ o. Lives (on_some o t (λ f. with_file t n (file_with_bytes f offset (b ∷ bytes) now))) n g) (sym at_f) (at_with_same n f g t.files at_f))

pub has_set : (c : Scene) (a : Setattr) (s : Subject) (file : FileBefore) (given : Sattr) (new : Tree) (shown : Wcc) (x y : Written) → IsGranted c s s → PlansSettings c.tree a (file, given) s
    → new ≡ after_settings c.tree file.attributes.fileid given c.now → shown ≡ change (Some file.attributes) (attributes_at new file.attributes.fileid)
    → AppendsAnswer (answer.Setattr (Ok shown)) x y → HasEffect c (setattr a) new x y
has_set c a s file given new shown x y granted plans is shows written = record {
  one = s;
  two = s;
  granted = granted;
  tag = (some_next_tag (numbered_files c.tree)).0;
  tag_is = (some_next_tag (numbered_files c.tree)).1;
  new_is = is
      ∙ ap (λ (f : Fattr). after_settings c.tree f.fileid given c.now) plans.same
      ∙ ap (λ g. after_settings c.tree s.file.fileid g c.now) plans.given
      ∙ ap (λ t. after_settings t s.file.fileid (with_cleared_mode s.ids.uid s.file a.attributes) c.now) (sym plans.tree);
  written = subst (λ w. AppendsAnswer (answer.Setattr (Ok w)) x y) (shows ∙ ap (λ (f : Fattr). change (Some f) (attributes_at new f.fileid)) plans.same) written;
}
