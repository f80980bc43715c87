-- What the rules of one handle, and those after them, report of a call.
use Rattle.std.proofs.Common.{◌≡◌, ℕ, true, false, List, [], ◌∷◌, ◌++◌, Option, Some, None, option_map, refl, sym, ap, subst, ◌∙◌}
use Rattle.std.specs.Prelude.{Result, Ok, Err, IsErr, IsErrAnd}
use Rattle.nfs_args.specs.declared.args.NfsArgs.{NfsArgs}
use Rattle.nfs_attrs.specs.declared.fattr.Fattr.{Fattr}
use Rattle.nfs_exports.specs.declared.options.Options.{Options}
use Rattle.nfs_exports.specs.declared.export_table.Export.{Export}
use Rattle.nfs_inodes.proofs.Lists.{same_some, not_both, if_true, if_false}
use Rattle.nfs_inodes.specs.Tree.{Tree, on_some}
use Rattle.nfs_procs.specs.Denials.{IsNamed, IsUnnamed, IsDenied, Decides}
use Rattle.nfs_procs.specs.Performing.{IsGranted}
use Rattle.nfs_procs.specs.Scenes.{scene, verdict_in, subjects_in}
use Rattle.nfs_procs.specs.declared.call_context.CallContext.{CallContext}
use Rattle.nfs_procs.specs.declared.denial.Denial.{Denial}
use Rattle.nfs_rules.proofs.Firsts.{first_after_passed, first_of_failed}
use Rattle.nfs_rules.specs.Subjects.{Caller, Subject, named, granted, subject_with, subject_at}
use Rattle.nfs_rules.specs.Table.{rules_of}
use Rattle.nfs_rules.specs.Tests.{Test, first}
use Rattle.nfs_rules.specs.Verdicts.{handle_rules, handles_rules, handles_in, subjects_at}
use Rattle.nfs_rules.specs.Views.{caller_of}
use Rattle.nfs_rules.specs.declared.rule.Rule.{Rule}

-- the rules after those of the handles, by what the handles name
abbrev pub rules_after : NfsArgs → Option (Subject × Subject) → List Test
rules_after args subjects = on_some subjects [] (λ s. rules_of s.0 s.1 args)

-- Of a call with one handle.
module _ (t : Tree) (call : CallContext) (args : NfsArgs) (h : List ℕ) (one : handles_in args ≡ h ∷ []) where
  subjects_one : (o : Option Subject) → subject_at t call.table.now (caller_of call.caller) h ≡ o → subjects_in (scene t call args) ≡ option_map (λ s. (s, s)) o
  subjects_one o is = ap (subjects_at t call.table.now (caller_of call.caller)) one ∙ ap (option_map (λ s. (s, s))) is

  verdict_one : (o : Option Subject) → subject_at t call.table.now (caller_of call.caller) h ≡ o
      → verdict_in (scene t call args) ≡ first (handle_rules t call.table.now (caller_of call.caller) h ++ rules_after args (option_map (λ s. (s, s)) o))
  verdict_one o is = ap (λ hs. first (handles_rules t call.table.now (caller_of call.caller) hs ++ rules_after args (subjects_in (scene t call args)))) one
      ∙ ap (λ s. first (handle_rules t call.table.now (caller_of call.caller) h ++ rules_after args s)) (subjects_one o is)

  pub denied_by_handle : (denial : Denial) → IsUnnamed t call h denial → IsDenied (scene t call args) h denial
  denied_by_handle denial is = record {
    verdict = verdict_one None is.none ∙ first_of_failed (handle_rules t call.table.now (caller_of call.caller) h) [] denial.rule is.failed;
    uid = is.uid ∙ ap (option_map (λ s. s.0.ids.uid)) (sym (subjects_one None is.none));
    shown = is.shown ∙ sym (ap (option_map (λ s. s.file)) is.none);
  }

  -- and so it is where the denial is passed on
  pub denied_through : {P : Type 0} (Plans : P → Subject → Type 0) (result : Result P Denial) (denial : Denial) → IsErr result × IsErrAnd result (λ e. e ≡ denial) → IsUnnamed t call h denial
      → Decides (scene t call args) h Plans result
  denied_through Plans (Ok plan) denial passed is = absurd passed.1
  denied_through Plans (Err e) denial passed is = denied_by_handle e (subst (IsUnnamed t call h) (sym passed.1) is)

  pub denied_by_rule : (s : Subject) (rule : Rule) (denial : Denial) → IsNamed t call h s → first (rules_of s s args) ≡ Some rule
      → denial ≡ record { rule = rule; uid = Some s.ids.uid; shown = Some s.file } → IsDenied (scene t call args) h denial
  denied_by_rule s rule denial names failed is = subst (IsDenied (scene t call args) h) (sym is) (record {
    verdict = verdict_one (Some s) names.subject ∙ first_after_passed (handle_rules t call.table.now (caller_of call.caller) h) (rules_of s s args) names.kept ∙ failed;
    uid = ap (option_map (λ s. s.0.ids.uid)) (sym (subjects_one (Some s) names.subject));
    shown = sym (ap (option_map (λ s. s.file)) names.subject);
  })

  pub granted_by_rules : (s : Subject) → IsNamed t call h s → first (rules_of s s args) ≡ None → IsGranted (scene t call args) s s
  granted_by_rules s names kept = record {
    subjects = subjects_one (Some s) names.subject;
    verdict = verdict_one (Some s) names.subject ∙ first_after_passed (handle_rules t call.table.now (caller_of call.caller) h) (rules_of s s args) names.kept ∙ kept;
  }

-- ---- subjects

-- what a handle names is of the tree
subject_tree_in : (t : Tree) (exports : List (List Export)) (caller : Caller) (n : Option Fattr) (s : Subject) → on_some n None (λ f. option_map (subject_with t caller.cred f) (granted exports caller.addr f)) ≡ Some s → s.tree ≡ t
subject_tree_in t exports caller None s e = absurd (not_both refl e)
subject_tree_in t exports caller (Some f) s e = with_options (granted exports caller.addr f) e
  where
    with_options : (o : Option Options) → option_map (subject_with t caller.cred f) o ≡ Some s → s.tree ≡ t
    with_options None e = absurd (not_both refl e)
    with_options (Some options) e = sym (ap (λ (u : Subject). u.tree) (same_some e))

pub subject_tree : (t : Tree) (exports : List (List Export)) (caller : Caller) (handle : List ℕ) (s : Subject) → subject_at t exports caller handle ≡ Some s → s.tree ≡ t
subject_tree t exports caller handle s e = subject_tree_in t exports caller (named t handle) s e

-- ---- one rule alone

pub one_passed : (t : Test) → t.1 ≡ false → first (t ∷ []) ≡ None
one_passed t e = if_false (Some t.0) None e

pub one_failed : (t : Test) (rule : Rule) → (t.1 ≡ true) × (rule ≡ t.0) → first (t ∷ []) ≡ Some rule
one_failed t rule e = if_true (Some t.0) None e.0 ∙ ap Some (sym e.1)
