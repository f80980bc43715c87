-- Bytes are written.
use Rattle.std.proofs.Common.{◌≡◌, ℕ, List, refl, sym, ap, subst, ◌∙◌, arith, ◌<◌, length, true, Bool, false, not, nat_eq}
use Rattle.std.proofs.lemmas.Bool.{eqb-true}
use Rattle.std.specs.Prelude.{Option, Some, Ok, length}
use Rattle.nfs_args.specs.declared.answer.NfsAnswer.TheVariants as answer
use Rattle.nfs_args.specs.declared.write.Stability.TheVariants.{FileSync}
use Rattle.nfs_args.specs.declared.write.Write.{Write}
use Rattle.nfs_args.specs.declared.written.Written.{Written}
use Rattle.nfs_attrs.specs.declared.fattr.Fattr.{Fattr}
use Rattle.nfs_attrs.specs.declared.moment.Moment.{Moment}
use Rattle.nfs_attrs.specs.declared.wcc.Wcc.{Wcc}
use Rattle.nfs_inodes.specs.Changes.{after_write_at}
use Rattle.nfs_inodes.specs.Law.{Lives}
use Rattle.nfs_handles.proofs.Tags.{some_next_tag}
use Rattle.nfs_inodes.specs.Reading.{attributes_at, numbered_files}
use Rattle.nfs_inodes.specs.Tree.{Tree, File}
use Rattle.nfs_procs.proofs.GivenSettings.{lives_written}
use Rattle.nfs_procs.specs.Changers.{write, changed, after_writing, cleared_mode, has_bytes}
use Rattle.nfs_procs.specs.Doing.{change}
use Rattle.nfs_procs.specs.Performing.{AppendsAnswer, IsGranted, HasEffect, HasNoMemory}
use Rattle.nfs_procs.specs.declared.plan.FileBefore.{FileBefore}
use Rattle.nfs_procs.specs.Plans.{PlansBytes}
use Rattle.nfs_procs.specs.Readers.{verifier_of}
use Rattle.nfs_procs.specs.Scenes.{Scene}
use Rattle.nfs_rules.specs.Subjects.{Subject}
use Rattle.nfs_xdr.specs.Written as output

-- what is answered of it
abbrev pub answer_of : Wcc → ℕ → ℕ → Written
answer_of file count verifier = record { file = file; count = count; committed = FileSync; verifier = verifier }

-- the file into which they are written is there afterwards
pub lives_after : (t new : Tree) (a : Write) (plan : FileBefore × Option ℕ) (s : Subject) (bytes : List ℕ) (now : Moment) → PlansBytes t a plan s → new ≡ after_write_at t plan.0.attributes.fileid a.offset bytes now → (f : File) × Lives new plan.0.attributes.fileid f
lives_after t new a plan s bytes now plans is = subst (λ u. (f : File) × Lives u plan.0.attributes.fileid f) (sym is)
    (lives_written t plan.0.attributes.fileid a.offset bytes now plans.may.file (subst (λ (k : Fattr). Lives t k.fileid plans.may.file) (sym plans.same) plans.may.at_file))

pub wrote : (c : Scene) (a : Write) (s : Subject) (file : FileBefore) (mode : Option ℕ) (new : Tree) (shown : Wcc) (count verifier : ℕ) (x y : output.Written) → IsGranted c s s → PlansBytes c.tree a (file, mode) s
    → new ≡ after_writing c.tree file.attributes.fileid a.offset a.content mode c.now
    → shown ≡ change (Some file.attributes) (attributes_at new file.attributes.fileid) → count ≡ length a.content → verifier ≡ verifier_of c.tree
    → AppendsAnswer (answer.Write (Ok (answer_of shown count verifier))) x y → HasEffect c (write a) new x y
wrote c a s file mode new shown count verifier x y granted plans is shows counts verifies written = record {
  one = s;
  two = s;
  granted = granted;
  tag = (some_next_tag (numbered_files c.tree)).0;
  tag_is = (some_next_tag (numbered_files c.tree)).1;
  new_is = is
      ∙ ap (λ (f : Fattr). after_writing c.tree f.fileid a.offset a.content mode c.now) plans.same
      ∙ ap (λ m. after_writing c.tree s.file.fileid a.offset a.content m c.now) plans.mode
      ∙ ap (λ t. after_writing t s.file.fileid a.offset a.content (cleared_mode s.ids.uid s.file (has_bytes a.content)) c.now) (sym plans.tree);
  written = subst (λ w. AppendsAnswer (answer.Write (Ok w)) x y) same written;
}
  where
    same : answer_of shown count verifier ≡ answer_of (changed new s) (length a.content) (verifier_of s.tree)
    same = ap (λ w. answer_of w count verifier) (shows ∙ ap (λ (f : Fattr). change (Some f) (attributes_at new f.fileid)) plans.same)
        ∙ ap (λ n. answer_of (changed new s) n verifier) counts
        ∙ ap (answer_of (changed new s) (length a.content)) (verifies ∙ ap verifier_of (sym plans.tree))

-- where there is no memory for some of them
pub unwritten : (c : Scene) (a : Write) (s : Subject) (file : FileBefore) (mode : Option ℕ) (new : Tree) (bytes : List ℕ) (x : output.Written) → IsGranted c s s → PlansBytes c.tree a (file, mode) s → bytes ≡ a.content
    → new ≡ c.tree → 0 < length bytes → HasNoMemory c (write a) new x x
unwritten c a s file mode new bytes x granted plans same is some = record {
  one = s;
  two = s;
  granted = granted;
  takes = are_some a.content (subst (λ (b : List ℕ). 0 < length b) same some);
  new_is = is;
  written = refl;
}
  where
    are_some : (bs : List ℕ) → 0 < length bs → has_bytes bs ≡ true
    are_some bs some = by (nat_eq (length bs) 0) (eqb-true (length bs) 0)
      where
        by : (b : Bool) → (b ≡ true → length bs ≡ 0) → not b ≡ true
        by true f = absurd (let e : length bs ≡ 0 = f refl in omega (arith, some, e))
        by false f = refl
