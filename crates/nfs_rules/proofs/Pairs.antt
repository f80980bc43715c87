-- What two handles report of a call.
use Rattle.std.proofs.Common.{◌≡◌, ℕ, false, not, List, [], ◌∷◌, ◌++◌, Option, Some, None, option_map, refl, sym, ap, subst, ◌∙◌}
use Rattle.std.specs.Prelude.{Result, Ok, Err, nat_eq, if◌then◌else◌}
use Rattle.nfs_attrs.specs.declared.fattr.Fattr.{Fattr}
use Rattle.nfs_exports.specs.declared.options.Options.{Options}
use Rattle.nfs_exports.specs.declared.export_table.Export.{Export}
use Rattle.nfs_inodes.proofs.Lists.{by_test, same_some, not_both, if_true, if_false}
use Rattle.nfs_inodes.specs.Tree.{Tree, on_some}
use Rattle.nfs_rules.proofs.Firsts.{first_after_passed, first_of_failed}
use Rattle.nfs_rules.specs.Judging.{Judges}
use Rattle.nfs_rules.specs.Subjects.{Caller, Subject, named, granted, subject_with, subject_at}
use Rattle.nfs_rules.specs.Tests.{Test, first}
use Rattle.nfs_rules.specs.Verdicts.{handle_rules, handles_rules, cross_volume, subjects_at, in_one_volume}
use Rattle.nfs_rules.specs.Views.{ok_of}
use Rattle.nfs_rules.specs.declared.rule.Rule.{Rule}
use Rattle.nfs_rules.specs.declared.rule.Rule.TheVariants as rule

-- what a handle names is the subject's file
named_in : (t : Tree) (exports : List (List Export)) (caller : Caller) (n : Option Fattr) (s : Subject) → on_some n None (λ f. option_map (subject_with t caller.cred f) (granted exports caller.addr f)) ≡ Some s → n ≡ Some s.file
named_in t exports caller None s e = absurd (not_both refl e)
named_in t exports caller (Some f) s e = with_options (granted exports caller.addr f) e
  where
    with_options : (o : Option Options) → option_map (subject_with t caller.cred f) o ≡ Some s → Some f ≡ Some s.file
    with_options None e = absurd (not_both refl e)
    with_options (Some options) e = ap (λ (u : Subject). Some u.file) (same_some e)

pub named_of : (t : Tree) (exports : List (List Export)) (caller : Caller) (handle : List ℕ) (s : Subject) → subject_at t exports caller handle ≡ Some s → named t handle ≡ Some s.file
named_of t exports caller handle s e = named_in t exports caller (named t handle) s e

module _ (t : Tree) (exports : List (List Export)) (caller : Caller) (h k : List ℕ) where
  crossing : (s u : Subject) → subject_at t exports caller h ≡ Some s → subject_at t exports caller k ≡ Some u → (cross_volume t h k).1 ≡ not (nat_eq s.file.fsid u.file.fsid)
  crossing s u one two = ap (λ n. on_some n false (λ f. on_some (named t k) false (λ g. not (nat_eq f.fsid g.fsid)))) (named_of t exports caller h s one)
      ∙ ap (λ n. on_some n false (λ (g : Fattr). not (nat_eq s.file.fsid g.fsid))) (named_of t exports caller k u two)

  after_one : (rest : List Test) (s : Subject) → first (handle_rules t exports caller h) ≡ None → first (handle_rules t exports caller h ++ rest) ≡ first rest
  after_one rest s passed = first_after_passed (handle_rules t exports caller h) rest passed

  -- the rules of both handles, by what each was reported alone
  pub pair_judged : (one two : Result Subject Rule) → Judges one (handle_rules t exports caller h) → ok_of one ≡ subject_at t exports caller h → Judges two (handle_rules t exports caller k) → ok_of two ≡ subject_at t exports caller k
      → Judges (in_one_volume one two) (handles_rules t exports caller (h ∷ k ∷ []))
  pair_judged (Err r) two failed none judged reported = first_of_failed (handle_rules t exports caller h) (handle_rules t exports caller k ++ cross_volume t h k ∷ []) r failed
  pair_judged (Ok s) (Err r) passed some failed none = after_one (handle_rules t exports caller k ++ cross_volume t h k ∷ []) s passed ∙ first_of_failed (handle_rules t exports caller k) (cross_volume t h k ∷ []) r failed
  pair_judged (Ok s) (Ok u) passed some passed_too some_too =
      let last : first (handles_rules t exports caller (h ∷ k ∷ [])) ≡ first (cross_volume t h k ∷ []) = after_one (handle_rules t exports caller k ++ cross_volume t h k ∷ []) s passed ∙ first_after_passed (handle_rules t exports caller k) (cross_volume t h k ∷ []) passed_too in
      let crossed = crossing s u (sym some) (sym some_too) in
      by_test (nat_eq s.file.fsid u.file.fsid)
      (λ y. subst (λ r. Judges r (handles_rules t exports caller (h ∷ k ∷ []))) (sym (if_true (Ok (s, u)) (Err rule.CrossVolume) y))
      (last ∙ if_false (Some rule.CrossVolume) None (crossed ∙ ap not y)))
      (λ n. subst (λ r. Judges r (handles_rules t exports caller (h ∷ k ∷ []))) (sym (if_false (Ok (s, u)) (Err rule.CrossVolume) n))
      (last ∙ if_true (Some rule.CrossVolume) None (crossed ∙ ap not n)))

  -- and what they name
  pub pair_named : (one two : Result Subject Rule) → ok_of one ≡ subject_at t exports caller h → ok_of two ≡ subject_at t exports caller k → ok_of (in_one_volume one two) ≡ subjects_at t exports caller (h ∷ k ∷ [])
  pair_named (Err r) two none reported = ap (λ o. on_some o None (λ s. on_some (subject_at t exports caller k) None (λ u. if nat_eq s.file.fsid u.file.fsid then Some (s, u) else None))) none
  pair_named (Ok s) (Err r) some none = ap (λ o. on_some o None (λ u. if nat_eq s.file.fsid u.file.fsid then Some (s, u) else None)) none
      ∙ ap (λ o. on_some o None (λ s. on_some (subject_at t exports caller k) None (λ u. if nat_eq s.file.fsid u.file.fsid then Some (s, u) else None))) some
  pair_named (Ok s) (Ok u) some some_too =
      let here : (if nat_eq s.file.fsid u.file.fsid then Some (s, u) else None) ≡ subjects_at t exports caller (h ∷ k ∷ []) =
      ap (λ o. on_some o None (λ (v : Subject). if nat_eq s.file.fsid v.file.fsid then Some (s, v) else None)) some_too
      ∙ ap (λ o. on_some o None (λ (w : Subject). on_some (subject_at t exports caller k) None (λ u. if nat_eq w.file.fsid u.file.fsid then Some (w, u) else None))) some in
      by_test (nat_eq s.file.fsid u.file.fsid)
      (λ y. ap ok_of (if_true (Ok (s, u)) (Err rule.CrossVolume) y) ∙ sym (if_true (Some (s, u)) None y) ∙ here)
      (λ n. ap ok_of (if_false (Ok (s, u)) (Err rule.CrossVolume) n) ∙ sym (if_false (Some (s, u)) None n) ∙ here)
