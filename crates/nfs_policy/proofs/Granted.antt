-- What is known of what the handles of a granted call name.
use Rattle.std.proofs.Common.{◌≡◌, ℕ, ◌-◌, Bool, true, false, List, [], ◌∷◌, ◌++◌, Option, Some, None, option_map, refl, sym, ap, subst, ◌∙◌}
use Rattle.std.specs.Prelude.{nat_eq, if◌then◌else◌}
use Rattle.std.proofs.lemmas.Bool.{eqb-true}
use Rattle.nfs_attrs.specs.declared.fattr.Fattr.{Fattr}
use Rattle.nfs_exports.specs.Ids.{squash}
use Rattle.nfs_exports.specs.declared.options.Options.{Options}
use Rattle.nfs_exports.specs.declared.export_table.Export.{Export}
use Rattle.nfs_handles.specs.Handles.{reading}
use Rattle.nfs_handles.specs.declared.reading.Reading.{Reading}
use Rattle.nfs_handles.specs.declared.reading.Reading.TheVariants.{Live, Stale, Bad}
use Rattle.nfs_inodes.proofs.Lists.{by_test, if_true, if_false, same_some, not_both}
use Rattle.nfs_inodes.proofs.Views.{mapped}
use Rattle.nfs_inodes.specs.Reading.{attributes_of, attributes_at, numbered_files}
use Rattle.nfs_inodes.specs.Tree.{Tree, File, at, on_some, nlink}
use Rattle.nfs_procs.specs.Performing.{IsGranted}
use Rattle.nfs_procs.specs.Scenes.{Scene}
use Rattle.nfs_rules.specs.Subjects.{Caller, Subject, named, live_at, granted, subject_with, subject_at}
use Rattle.nfs_rules.specs.Table.{rules_of}
use Rattle.nfs_rules.specs.Tests.{Test, first}
use Rattle.nfs_rules.specs.Verdicts.{handles_rules, handles_in, subjects_at}
use Rattle.nfs_policy.specs.Policy.{options_at}

pub record IsSubject (t : Tree) (exports : List (List Export)) (caller : Caller) (s : Subject) : Type 0 where
  pub tree : s.tree ≡ t
  pub seen : attributes_at s.tree s.file.fileid ≡ Some s.file
  pub options : options_at exports caller (s.file.fsid - 1) ≡ Some s.options
  pub ids : s.ids ≡ squash s.options caller.cred

pub record AreSubjects (c : Scene) (one two : Subject) : Type 0 where
  pub first : IsSubject c.tree c.exports c.caller one
  pub second : IsSubject c.tree c.exports c.caller two
  pub volume : one.file.fsid ≡ two.file.fsid

module _ (t : Tree) (exports : List (List Export)) (caller : Caller) where
  itself : (n : ℕ) (f : Fattr) → attributes_at t n ≡ Some f → attributes_at t f.fileid ≡ Some f
  itself n f e =
      let m = mapped (λ (h : File). attributes_of n h (nlink t.files n h)) (at n t.files) f e in
      ap (attributes_at t) (ap (λ (g : Fattr). g.fileid) (sym m.2)) ∙ e

  of_reading : (r : Reading) (f : Fattr) → live_at t r ≡ Some f → attributes_at t f.fileid ≡ Some f
  of_reading (Live n) f e = itself n.0 f e
  of_reading Stale f e = absurd (not_both refl e)
  of_reading Bad f e = absurd (not_both refl e)

  of_options : (f : Fattr) (o : Option Options) (s : Subject) → granted exports caller.addr f ≡ o → attributes_at t f.fileid ≡ Some f → option_map (subject_with t caller.cred f) o ≡ Some s → IsSubject t exports caller s
  of_options f None s is seen e = absurd (not_both refl e)
  of_options f (Some options) s is seen e = subst (IsSubject t exports caller) (same_some e) (record { tree = refl; seen = seen; options = is; ids = refl })

  of_named : (o : Option Fattr) (s : Subject) → ((f : Fattr) → o ≡ Some f → attributes_at t f.fileid ≡ Some f) → on_some o None (λ f. option_map (subject_with t caller.cred f) (granted exports caller.addr f)) ≡ Some s → IsSubject t exports caller s
  of_named None s seen e = absurd (not_both refl e)
  of_named (Some f) s seen e = of_options f (granted exports caller.addr f) s refl (seen f refl) e

  is_subject : (handle : List ℕ) (s : Subject) → subject_at t exports caller handle ≡ Some s → IsSubject t exports caller s
  is_subject handle s e = of_named (named t handle) s (λ f. of_reading (reading (numbered_files t) handle) f) e

-- the last tests are passed where all are
last_passed : (ts us : List Test) → first (ts ++ us) ≡ None → first us ≡ None
last_passed [] us e = e
last_passed (t ∷ ts) us e = by_test t.1
    (λ y. absurd (not_both e (if_true (Some t.0) (first (ts ++ us)) y)))
    (λ n. last_passed ts us (sym (if_false (Some t.0) (first (ts ++ us)) n) ∙ e))

module _ (c : Scene) (one two : Subject) where
  abbrev both : Option (Subject × Subject)
  both = Some (one, two)

  abbrev when_same : Bool → Subject → Subject → Option (Subject × Subject)
  when_same b s u = if b then Some (s, u) else None

  of_one : (o : Option Subject) → ((s : Subject) → o ≡ Some s → IsSubject c.tree c.exports c.caller s) → option_map (λ (s : Subject). (s, s)) o ≡ both → AreSubjects c one two
  of_one None is e = absurd (not_both refl e)
  of_one (Some s) is e =
      let a : s ≡ one = ap (λ (p : Subject × Subject). p.0) (same_some e) in
      let b : s ≡ two = ap (λ (p : Subject × Subject). p.1) (same_some e) in
      record { first = subst (IsSubject c.tree c.exports c.caller) a (is s refl); second = subst (IsSubject c.tree c.exports c.caller) b (is s refl); volume = ap (λ (u : Subject). u.file.fsid) (sym a ∙ b) }

  of_same : (s u : Subject) (b : Bool) → nat_eq s.file.fsid u.file.fsid ≡ b → IsSubject c.tree c.exports c.caller s → IsSubject c.tree c.exports c.caller u → when_same b s u ≡ both → AreSubjects c one two
  of_same s u true same is is_too e =
      let a : s ≡ one = ap (λ (p : Subject × Subject). p.0) (same_some e) in
      let b : u ≡ two = ap (λ (p : Subject × Subject). p.1) (same_some e) in
      record { first = subst (IsSubject c.tree c.exports c.caller) a is; second = subst (IsSubject c.tree c.exports c.caller) b is_too; volume = ap (λ (u : Subject). u.file.fsid) (sym a) ∙ eqb-true s.file.fsid u.file.fsid same ∙ ap (λ (u : Subject). u.file.fsid) b }
  of_same s u false same is is_too e = absurd (not_both refl e)

  of_two : (o q : Option Subject) → ((s : Subject) → o ≡ Some s → IsSubject c.tree c.exports c.caller s) → ((s : Subject) → q ≡ Some s → IsSubject c.tree c.exports c.caller s)
      → on_some o None (λ s. on_some q None (λ u. when_same (nat_eq s.file.fsid u.file.fsid) s u)) ≡ both → AreSubjects c one two
  of_two None q is is_too e = absurd (not_both refl e)
  of_two (Some s) None is is_too e = absurd (not_both refl e)
  of_two (Some s) (Some u) is is_too e = of_same s u (nat_eq s.file.fsid u.file.fsid) refl (is s refl) (is_too u refl) e

  of_handles : (handles : List (List ℕ)) → subjects_at c.tree c.exports c.caller handles ≡ both → AreSubjects c one two
  of_handles [] e = absurd (not_both refl e)
  of_handles (h ∷ []) e = of_one (subject_at c.tree c.exports c.caller h) (is_subject c.tree c.exports c.caller h) e
  of_handles (h ∷ k ∷ others) e = of_two (subject_at c.tree c.exports c.caller h) (subject_at c.tree c.exports c.caller k) (is_subject c.tree c.exports c.caller h) (is_subject c.tree c.exports c.caller k) e

  pub are_subjects : IsGranted c one two → AreSubjects c one two
  are_subjects g = of_handles (handles_in c.args) g.subjects

  pub rules_kept : IsGranted c one two → first (rules_of one two c.args) ≡ None
  rules_kept g = last_passed (handles_rules c.tree c.exports c.caller (handles_in c.args)) (rules_of one two c.args)
      (subst (λ o. first (handles_rules c.tree c.exports c.caller (handles_in c.args) ++ on_some o [] (λ s. rules_of s.0 s.1 c.args)) ≡ None) g.subjects g.verdict)
