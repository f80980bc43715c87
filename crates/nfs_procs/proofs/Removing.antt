-- An entry is taken away.
use Rattle.std.proofs.Common.{◌≡◌, ℕ, List, [], ◌∷◌, Some, None, sym, ap, subst, ◌∙◌}
use Rattle.std.specs.Prelude.{Result, Ok, Err, IfOk}
use Rattle.nfs_args.specs.declared.answer.NfsAnswer.{NfsAnswer}
use Rattle.nfs_attrs.specs.declared.fattr.Fattr.{Fattr}
use Rattle.nfs_args.specs.declared.args.NfsArgs.{NfsArgs}
use Rattle.nfs_attrs.specs.declared.wcc.Wcc.{Wcc}
use Rattle.nfs_inodes.specs.Changes.{after_unlink}
use Rattle.nfs_inodes.specs.Conditions.{MayUnlinkSeen}
use Rattle.nfs_handles.proofs.Tags.{some_next_tag}
use Rattle.nfs_inodes.specs.Reading.{attributes_at, numbered_files}
use Rattle.nfs_inodes.specs.Tree.{Tree}
use Rattle.nfs_inodes.specs.Views.{FileView, standing_of}
use Rattle.nfs_procs.proofs.Judged.{denied_by_rule, granted_by_rules}
use Rattle.nfs_procs.specs.Changers.{changed}
use Rattle.nfs_procs.specs.Denials.{IsNamed, Decides}
use Rattle.nfs_procs.specs.Doing.{Doing, change}
use Rattle.nfs_procs.specs.Performing.{AppendsAnswer, IsGranted, HasEffect}
use Rattle.nfs_procs.specs.Plans.{PlansEntry, PlansRemoval}
use Rattle.nfs_procs.specs.Scenes.{Scene, scene}
use Rattle.nfs_procs.specs.declared.call_context.CallContext.{CallContext}
use Rattle.nfs_procs.specs.declared.denial.Denial.{Denial}
use Rattle.nfs_procs.specs.declared.plan.RemovalPlan.{RemovalPlan}
use Rattle.nfs_rules.specs.Judging.{Judges}
use Rattle.nfs_rules.specs.Subjects.{Subject}
use Rattle.nfs_rules.specs.Table.{rules_of}
use Rattle.nfs_rules.specs.Tests.{first, found}
use Rattle.nfs_rules.specs.Verdicts.{handles_in}
use Rattle.nfs_rules.specs.declared.rule.Rule.{Rule}
use Rattle.nfs_xdr.specs.Written.{Written}

pub removes : (c : Scene) (doing : Doing) (answer : Wcc → NfsAnswer) (name bytes : List ℕ) (plan : RemovalPlan) (s : Subject) (new : Tree) (x y : Written) → IsGranted c s s → PlansRemoval c.tree name plan s → bytes ≡ name
    → ((tag : ℕ) → doing.effect s s c.now tag ≡ after_unlink s.tree s.file.fileid name c.now) → doing.granted s s new ≡ answer (changed new s)
    → new ≡ after_unlink c.tree plan.dir.attributes.fileid bytes c.now → AppendsAnswer (answer (change (Some plan.dir.attributes) (attributes_at new plan.dir.attributes.fileid))) x y → HasEffect c doing new x y
removes c doing answer name bytes plan s new x y granted plans same effect reports is written = record {
  one = s;
  two = s;
  granted = granted;
  tag = (some_next_tag (numbered_files c.tree)).0;
  tag_is = (some_next_tag (numbered_files c.tree)).1;
  new_is = is ∙ ap (λ b. after_unlink c.tree plan.dir.attributes.fileid b c.now) same ∙ ap (λ (f : Fattr). after_unlink c.tree f.fileid name c.now) plans.dir
      ∙ ap (λ t. after_unlink t s.file.fileid name c.now) (sym plans.tree) ∙ sym (effect (some_next_tag (numbered_files c.tree)).0);
  written = subst (λ a. AppendsAnswer a x y) (sym reports) (subst (λ (f : Fattr). AppendsAnswer (answer (change (Some f) (attributes_at new f.fileid))) x y) plans.dir written);
}

-- ---- what is decided of a removal

module _ (t : Tree) (call : CallContext) (args : NfsArgs) (h : List ℕ) (one : handles_in args ≡ h ∷ []) (s : Subject) (named : IsNamed t call h s) where
  -- by what its rules have found
  pub removal_decided : (judged : Result FileView Rule) (decided : Result RemovalPlan Denial) → PlansEntry s judged decided → (name : List ℕ)
      → Judges judged (rules_of s s args) → IfOk judged (λ f. found s name ≡ Some f.attributes)
      → (first (rules_of s s args) ≡ None → (f : Fattr) → found s name ≡ Some f → MayUnlinkSeen s.tree s.file.fileid name f.fileid (standing_of f))
      → Decides (scene t call args) h (PlansRemoval t name) decided
  removal_decided (Ok file) (Ok plan) plans name kept there may = (
    s,
    granted_by_rules t call args h one s named kept,
    record {
      tree = named.tree;
      dir = plans.0;
      may = subst (λ (d : Fattr). MayUnlinkSeen t d.fileid name plan.number.0 plan.file) (sym plans.0)
          (subst (λ t. MayUnlinkSeen t s.file.fileid name plan.number.0 plan.file) named.tree
          (subst (λ n. MayUnlinkSeen s.tree s.file.fileid name n plan.file) (sym plans.1)
          (subst (λ standing. MayUnlinkSeen s.tree s.file.fileid name file.attributes.fileid standing) (sym plans.2) (may kept file.attributes there))));
    },
  )
  removal_decided (Err rule) (Err denial) is name failed there may = denied_by_rule t call args h one s rule denial named failed is
  removal_decided (Ok file) (Err denial) plans name kept there may = absurd plans
  removal_decided (Err rule) (Ok plan) plans name failed there may = absurd plans
