-- What the rules of two handles, and those after them, report of a call.
use Rattle.std.proofs.Common.{◌≡◌, ℕ, List, [], ◌∷◌, ◌++◌, Option, Some, None, option_map, refl, sym, ap, subst, ◌∙◌}
use Rattle.std.specs.Prelude.{Result, Ok, Err, IsErr, IsErrAnd, nat_eq}
use Rattle.std.proofs.lemmas.Bool.{eqb-true, eq-eqb}
use Rattle.nfs_args.specs.declared.args.NfsArgs.{NfsArgs}
use Rattle.nfs_attrs.specs.declared.fattr.Fattr.{Fattr}
use Rattle.nfs_inodes.proofs.Lists.{by_test, if_true, if_false}
use Rattle.nfs_inodes.specs.Law.{Law}
use Rattle.nfs_inodes.specs.Reading.{attributes_at}
use Rattle.nfs_inodes.specs.Tree.{Tree}
use Rattle.nfs_procs.proofs.Judged.{rules_after, subject_tree}
use Rattle.nfs_procs.specs.Denials.{IsNamed, AreNamed, AreUnnamed, IsDeniedPair, DecidesPair}
use Rattle.nfs_procs.specs.Performing.{IsGranted}
use Rattle.nfs_procs.specs.Scenes.{scene, verdict_in}
use Rattle.nfs_procs.specs.declared.call_context.CallContext.{CallContext}
use Rattle.nfs_procs.specs.declared.denial.PairDenial.{PairDenial}
use Rattle.nfs_rules.proofs.Firsts.{first_after_passed, first_of_failed}
use Rattle.nfs_rules.proofs.Pairs.{pair_judged, pair_named}
use Rattle.nfs_rules.specs.Judging.{Judges}
use Rattle.nfs_rules.specs.Subjects.{Subject, subject_at}
use Rattle.nfs_rules.specs.Table.{rules_of}
use Rattle.nfs_rules.specs.Tests.{first}
use Rattle.nfs_rules.specs.Verdicts.{handle_rules, handles_rules, handles_in, subjects_at, in_one_volume}
use Rattle.nfs_rules.specs.Views.{caller_of, ok_of}
use Rattle.nfs_rules.specs.declared.rule.Rule.{Rule}
use Rattle.nfs_rules.specs.declared.rule.Rule.TheVariants.{CrossVolume}

-- a pair that is named
abbrev the_ok : {X : Type 0} → X → Result X Rule
the_ok x = Ok x

err_not_ok : {X : Type 0} {e : Rule} {x : X} → Err e ≡ the_ok x → ⊥
err_not_ok is = cc

same_ok : {X : Type 0} {x y : X} → the_ok x ≡ Ok y → x ≡ y
same_ok is = cc

-- what each of two handles names, in one volume
pub record ArePair (r q : Result Subject Rule) (s u : Subject) : Type 0 where
  pub one : r ≡ Ok s
  pub two : q ≡ Ok u
  pub volume : s.file.fsid ≡ u.file.fsid

pub are_pair : (r q : Result Subject Rule) (s u : Subject) → in_one_volume r q ≡ Ok (s, u) → ArePair r q s u
are_pair (Err e) q s u is = absurd (err_not_ok is)
are_pair (Ok a) (Err e) s u is = absurd (err_not_ok is)
are_pair (Ok a) (Ok b) s u is = by_test (nat_eq a.file.fsid b.file.fsid)
    (λ y. let same : (a, b) ≡ (s, u) = same_ok (sym (if_true (Ok (a, b)) (Err CrossVolume) y) ∙ is) in
    record {
      one = ap (λ p. Ok p.0) same;
      two = ap (λ p. Ok p.1) same;
      volume = sym (ap (λ p. p.0.file.fsid) same) ∙ eqb-true a.file.fsid b.file.fsid y ∙ ap (λ p. p.1.file.fsid) same;
    })
    (λ n. absurd (err_not_ok (sym (if_false (Ok (a, b)) (Err CrossVolume) n) ∙ is)))

-- of one of them, whose bytes are also known by another name
pub pair_part : (t : Tree) (call : CallContext) (h b : List ℕ) → b ≡ h → (r : Result Subject Rule) (s : Subject) → r ≡ Ok s
    → Judges r (handle_rules t call.table.now (caller_of call.caller) b) → ok_of r ≡ subject_at t call.table.now (caller_of call.caller) b
    → Law s.tree → attributes_at s.tree s.file.fileid ≡ Some s.file → IsNamed t call h s
pair_part t call h b same r s is judged named law file = subst (λ h. IsNamed t call h s) same (record {
  kept = subst (λ r. Judges r (handle_rules t call.table.now (caller_of call.caller) b)) is judged;
  subject = subject_is;
  tree = subject_tree t call.table.now (caller_of call.caller) b s subject_is;
  law = law;
  file = file;
})
  where
    subject_is : subject_at t call.table.now (caller_of call.caller) b ≡ Some s
    subject_is = sym named ∙ ap ok_of is

-- where they are not a pair
pub pair_unnamed : (t : Tree) (call : CallContext) (h k b d : List ℕ) → b ≡ h → d ≡ k → (r q : Result Subject Rule) (rule : Rule) (one two : Option Fattr) → in_one_volume r q ≡ Err rule
    → Judges r (handle_rules t call.table.now (caller_of call.caller) b) → ok_of r ≡ subject_at t call.table.now (caller_of call.caller) b
    → Judges q (handle_rules t call.table.now (caller_of call.caller) d) → ok_of q ≡ subject_at t call.table.now (caller_of call.caller) d
    → one ≡ option_map (λ s. s.file) (ok_of r) → two ≡ option_map (λ s. s.file) (ok_of q) → AreUnnamed t call h k (record { rule = rule; uid = None; one = one; two = two })
pair_unnamed t call h k b d same same_too r q rule one two is judged named judged_too named_too shown shown_too =
    subst (λ h. AreUnnamed t call h k (record { rule = rule; uid = None; one = one; two = two })) same
    (subst (λ k. AreUnnamed t call b k (record { rule = rule; uid = None; one = one; two = two })) same_too (record {
      failed = subst (λ e. Judges e (handles_rules t call.table.now (caller_of call.caller) (b ∷ d ∷ []))) is (pair_judged t call.table.now (caller_of call.caller) b d r q judged named judged_too named_too);
      none = sym (pair_named t call.table.now (caller_of call.caller) b d r q named named_too) ∙ ap ok_of is;
      uid = refl;
      one_shown = shown ∙ ap (option_map (λ s. s.file)) named;
      two_shown = shown_too ∙ ap (option_map (λ s. s.file)) named_too;
    }))

-- Of a call with two handles.
module _ (t : Tree) (call : CallContext) (args : NfsArgs) (h k : List ℕ) (two : handles_in args ≡ h ∷ k ∷ []) where
  verdict_two : verdict_in (scene t call args) ≡ first (handles_rules t call.table.now (caller_of call.caller) (h ∷ k ∷ [])
      ++ rules_after args (subjects_at t call.table.now (caller_of call.caller) (h ∷ k ∷ [])))
  verdict_two = ap (λ hs. first (handles_rules t call.table.now (caller_of call.caller) hs ++ rules_after args (subjects_at t call.table.now (caller_of call.caller) hs))) two

  pub pair_denied_by_handles : (denial : PairDenial) → AreUnnamed t call h k denial → IsDeniedPair (scene t call args) h k denial
  pair_denied_by_handles denial is = record {
    verdict = verdict_two ∙ first_of_failed (handles_rules t call.table.now (caller_of call.caller) (h ∷ k ∷ []))
        (rules_after args (subjects_at t call.table.now (caller_of call.caller) (h ∷ k ∷ []))) denial.rule is.failed;
    uid = is.uid ∙ ap (option_map (λ s. s.0.ids.uid)) (sym (ap (subjects_at t call.table.now (caller_of call.caller)) two ∙ is.none));
    one_shown = is.one_shown;
    two_shown = is.two_shown;
  }

  -- and so it is where the denial is passed on
  pub pair_denied_through : {P : Type 0} (Plans : P → Subject → Subject → Type 0) (result : Result P PairDenial) (denial : PairDenial) → IsErr result × IsErrAnd result (λ e. e ≡ denial)
      → AreUnnamed t call h k denial → DecidesPair (scene t call args) h k Plans result
  pair_denied_through Plans (Ok plan) denial passed is = absurd passed.1
  pair_denied_through Plans (Err e) denial passed is = pair_denied_by_handles e (subst (AreUnnamed t call h k) (sym passed.1) is)

  module _ (s u : Subject) (named : AreNamed t call h k s u) where
    in_volume : in_one_volume (Ok s) (Ok u) ≡ Ok (s, u)
    in_volume = if_true (Ok (s, u)) (Err CrossVolume) (eq-eqb s.file.fsid u.file.fsid named.volume)

    kept_two : first (handles_rules t call.table.now (caller_of call.caller) (h ∷ k ∷ [])) ≡ None
    kept_two = subst (λ r. Judges r (handles_rules t call.table.now (caller_of call.caller) (h ∷ k ∷ []))) in_volume
        (pair_judged t call.table.now (caller_of call.caller) h k (Ok s) (Ok u) named.first_is.kept (sym named.first_is.subject) named.second_is.kept (sym named.second_is.subject))

    subjects_two : subjects_at t call.table.now (caller_of call.caller) (h ∷ k ∷ []) ≡ Some (s, u)
    subjects_two = sym (pair_named t call.table.now (caller_of call.caller) h k (Ok s) (Ok u) (sym named.first_is.subject) (sym named.second_is.subject)) ∙ ap ok_of in_volume

    verdict_after : verdict_in (scene t call args) ≡ first (rules_of s u args)
    verdict_after = verdict_two ∙ ap (λ o. first (handles_rules t call.table.now (caller_of call.caller) (h ∷ k ∷ []) ++ rules_after args o)) subjects_two
        ∙ first_after_passed (handles_rules t call.table.now (caller_of call.caller) (h ∷ k ∷ [])) (rules_of s u args) kept_two

    pub pair_denied_by_rule : (rule : Rule) (denial : PairDenial) → first (rules_of s u args) ≡ Some rule
        → denial ≡ record { rule = rule; uid = Some s.ids.uid; one = Some s.file; two = Some u.file } → IsDeniedPair (scene t call args) h k denial
    pair_denied_by_rule rule denial failed is = subst (IsDeniedPair (scene t call args) h k) (sym is) (record {
      verdict = verdict_after ∙ failed;
      uid = sym (ap (option_map (λ s. s.0.ids.uid)) (ap (subjects_at t call.table.now (caller_of call.caller)) two ∙ subjects_two));
      one_shown = sym (ap (option_map (λ s. s.file)) named.first_is.subject);
      two_shown = sym (ap (option_map (λ s. s.file)) named.second_is.subject);
    })

    pub pair_granted : first (rules_of s u args) ≡ None → IsGranted (scene t call args) s u
    pair_granted kept = record { subjects = ap (subjects_at t call.table.now (caller_of call.caller)) two ∙ subjects_two; verdict = verdict_after ∙ kept }
