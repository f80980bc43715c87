-- The verdict of a call, by what its handles name.
use Rattle.std.proofs.Common.{◌≡◌, ℕ, List, [], ◌∷◌, ◌++◌, Some, None, ap, subst, sym, ◌∙◌}
use Rattle.std.specs.Prelude.{Result, Ok, Err}
use Rattle.nfs_args.specs.declared.args.NfsArgs.{NfsArgs}
use Rattle.nfs_exports.specs.declared.export_table.Export.{Export}
use Rattle.nfs_inodes.specs.Tree.{Tree, on_some}
use Rattle.nfs_rules.proofs.Firsts.{first_after_passed, first_of_failed}
use Rattle.nfs_rules.specs.Judging.{Judges}
use Rattle.nfs_rules.specs.Subjects.{Caller, Subject, subject_at}
use Rattle.nfs_rules.specs.Table.{rules_of}
use Rattle.nfs_rules.specs.Tests.{Test, first}
use Rattle.nfs_rules.specs.Verdicts.{handle_rules, handles_in, handles_rules, in_one_volume, subjects_at, verdict}
use Rattle.nfs_rules.specs.Views.{ok_of}
use Rattle.nfs_rules.specs.declared.rule.Rule.{Rule}
use Rattle.nfs_rules.proofs.Pairs.{pair_judged, pair_named}

module _ (t : Tree) (exports : List (List Export)) (caller : Caller) (args : NfsArgs) where
  -- the rules after those of the handles
  abbrev after_handles : List (List ℕ) → List Test
  after_handles handles = on_some (subjects_at t exports caller handles) [] (λ s. rules_of s.0 s.1 args)

  by_handles : (handles : List (List ℕ)) → handles ≡ handles_in args → first (handles_rules t exports caller handles ++ after_handles handles) ≡ verdict t exports caller args
  by_handles handles e = ap (λ hs. first (handles_rules t exports caller hs ++ after_handles hs)) e

  -- a rule of the handles fails
  pub denied_by : (handles : List (List ℕ)) (rule : Rule) → handles ≡ handles_in args → first (handles_rules t exports caller handles) ≡ Some rule → Some rule ≡ verdict t exports caller args
  denied_by handles rule e failed = sym (first_of_failed (handles_rules t exports caller handles) (after_handles handles) rule failed) ∙ by_handles handles e

  -- none does, and they name these
  pub judged_by : (handles : List (List ℕ)) (one two : Subject) → handles ≡ handles_in args → first (handles_rules t exports caller handles) ≡ None → Some (one, two) ≡ subjects_at t exports caller handles
      → first (rules_of one two args) ≡ verdict t exports caller args
  judged_by handles one two e passed named =
      ap (λ o. first (on_some o [] (λ (s : Subject × Subject). rules_of s.0 s.1 args))) named
      ∙ sym (first_after_passed (handles_rules t exports caller handles) (after_handles handles) passed)
      ∙ by_handles handles e

  -- there are none
  pub none_named : [] ≡ handles_in args → None ≡ verdict t exports caller args
  none_named e = by_handles [] e

  -- what one handle names
  pub one_named : (handle : List ℕ) (one : Subject) → handle ∷ [] ≡ handles_in args → first (handle_rules t exports caller handle) ≡ None → Some one ≡ subject_at t exports caller handle
      → first (rules_of one one args) ≡ verdict t exports caller args
  one_named handle one e passed named = judged_by (handle ∷ []) one one e passed (ap (λ o. elim o [ None ↦ None | Some s ↦ Some (s, s) ]) named)

  -- what two handles name
  module _ (h k : List ℕ) (e : h ∷ k ∷ [] ≡ handles_in args) (one two : Result Subject Rule) (one_judged : Judges one (handle_rules t exports caller h)) (one_is : ok_of one ≡ subject_at t exports caller h)
      (two_judged : Judges two (handle_rules t exports caller k)) (two_is : ok_of two ≡ subject_at t exports caller k) where
    both : (r : Result (Subject × Subject) Rule) → in_one_volume one two ≡ r → Judges r (handles_rules t exports caller (h ∷ k ∷ []))
    both r is = subst (λ r. Judges r (handles_rules t exports caller (h ∷ k ∷ []))) is (pair_judged t exports caller h k one two one_judged one_is two_judged two_is)

    pub two_denied : (rule : Rule) → in_one_volume one two ≡ Err rule → Some rule ≡ verdict t exports caller args
    two_denied rule is = denied_by (h ∷ k ∷ []) rule e (both (Err rule) is)

    pub two_named : (s : Subject × Subject) → in_one_volume one two ≡ Ok s → first (rules_of s.0 s.1 args) ≡ verdict t exports caller args
    two_named s is = judged_by (h ∷ k ∷ []) s.0 s.1 e (both (Ok s) is) (ap ok_of (sym is) ∙ pair_named t exports caller h k one two one_is two_is)
