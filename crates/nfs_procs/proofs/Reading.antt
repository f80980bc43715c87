-- Calls that leave the tree as it is.
use Rattle.std.proofs.Common.{◌≡◌, ◌≤◌, ℕ, List, length, [], ◌∷◌, Option, Some, None, refl, sym, ap, subst, arith, ◌∙◌}
use Rattle.std.specs.Prelude.{Result, Err}
use Rattle.nfs_args.specs.Sizes.{max_path}
use Rattle.nfs_args.specs.declared.answer.NfsAnswer.{NfsAnswer}
use Rattle.nfs_args.specs.declared.args.NfsArgs.{NfsArgs}
use Rattle.nfs_args.specs.declared.failed.Failed.{Failed}
use Rattle.nfs_attrs.specs.declared.fattr.Fattr.{Fattr}
use Rattle.nfs_attrs.specs.declared.moment.Moment.{Moment}
use Rattle.nfs_attrs.specs.declared.wcc.Wcc.{Wcc}
use Rattle.nfs_inodes.proofs.Lists.{same_some, not_both}
use Rattle.nfs_inodes.specs.Law.{Law}
use Rattle.nfs_handles.proofs.Tags.{some_next_tag}
use Rattle.nfs_inodes.specs.Reading.{path_at, path_of, numbered_files}
use Rattle.nfs_inodes.specs.Tree.{Tree, File, Kind, Regular, Directory, Link, at, on_some, path_in}
use Rattle.nfs_procs.proofs.Judged.{denied_by_handle, granted_by_rules}
use Rattle.nfs_procs.specs.Denials.{IsNamed, IsUnnamed, IsDenied, IsDeniedPair}
use Rattle.nfs_procs.specs.Doing.{Doing, no_change, unchanged}
use Rattle.nfs_procs.specs.Performing.{AppendsAnswer, IsGranted, HasEffect, Performs}
use Rattle.nfs_procs.specs.Scenes.{Scene, scene, seen_in}
use Rattle.nfs_procs.specs.declared.call_context.CallContext.{CallContext}
use Rattle.nfs_procs.specs.declared.denial.Denial.{Denial}
use Rattle.nfs_procs.specs.declared.denial.PairDenial.{PairDenial}
use Rattle.nfs_procs.specs.declared.done.Done.{Done}
use Rattle.nfs_procs.specs.declared.done.Done.TheVariants.{Denied}
use Rattle.nfs_rules.specs.Rules.{status_of}
use Rattle.nfs_rules.specs.Subjects.{Subject}
use Rattle.nfs_rules.specs.Table.{rules_of}
use Rattle.nfs_rules.specs.Tests.{first}
use Rattle.nfs_rules.specs.Verdicts.{handles_in}
use Rattle.nfs_rules.specs.declared.rule.Rule.{Rule}
use Rattle.nfs_xdr.specs.Written.{Written}

-- where it is granted, what was written is of its subject
pub reads : (c : Scene) (doing : Doing) (s : Subject) (x y : Written) → doing.effect ≡ unchanged → IsGranted c s s → s.tree ≡ c.tree → AppendsAnswer (doing.granted s s c.tree) x y → HasEffect c doing c.tree x y
reads c doing s x y same granted tree written = record {
  one = s;
  two = s;
  granted = granted;
  tag = (some_next_tag (numbered_files c.tree)).0;
  tag_is = (some_next_tag (numbered_files c.tree)).1;
  new_is = sym tree ∙ ap (λ (e : Subject → Subject → Moment → ℕ → Tree). e s s c.now (some_next_tag (numbered_files c.tree)).0) (sym same);
  written = written;
}

-- a denied call, with the attributes of the file of its handle, or with the file before and after
abbrev pub with_attributes : {A : Type 0} → (Result A (Failed (Option Fattr)) → NfsAnswer) → Rule → Option Fattr → NfsAnswer
with_attributes made rule shown = made (Err (record { status = status_of rule; shown = shown }))

abbrev pub with_change : {A : Type 0} → (Result A (Failed Wcc) → NfsAnswer) → Rule → Option Fattr → NfsAnswer
with_change made rule shown = made (Err (record { status = status_of rule; shown = no_change shown }))

-- where it is denied, what was written shows the file of its handle
pub denies : (c : Scene) (doing : Doing) (h : List ℕ) (denial : Denial) (done : Done) (answer : Option Fattr → NfsAnswer) (x y : Written) → IsDenied c h denial
    → doing.denied (status_of denial.rule) (seen_in c) ≡ answer (seen_in c h) → AppendsAnswer (answer denial.shown) x y → done ≡ Denied denial.rule denial.uid → Performs c doing done c.tree x y
denies c doing h denial done answer x y denied reports written is = subst (λ d. Performs c doing d c.tree x y) (sym is) (record {
  verdict = denied.verdict;
  uid_is = denied.uid;
  new_is = refl;
  written = subst (λ a. AppendsAnswer a x y) (sym reports) (subst (λ f. AppendsAnswer (answer f) x y) denied.shown written);
})

-- of two handles, of each
pub denies_pair : (c : Scene) (doing : Doing) (h k : List ℕ) (denial : PairDenial) (done : Done) (answer : Option Fattr → Option Fattr → NfsAnswer) (x y : Written) → IsDeniedPair c h k denial
    → doing.denied (status_of denial.rule) (seen_in c) ≡ answer (seen_in c h) (seen_in c k) → AppendsAnswer (answer denial.one denial.two) x y → done ≡ Denied denial.rule denial.uid → Performs c doing done c.tree x y
denies_pair c doing h k denial done answer x y denied reports written is = subst (λ d. Performs c doing d c.tree x y) (sym is) (record {
  verdict = denied.verdict;
  uid_is = denied.uid;
  new_is = refl;
  written = subst (λ a. AppendsAnswer a x y) (sym reports) (subst (λ f. AppendsAnswer (answer f (seen_in c k)) x y) denied.one_shown (subst (λ g. AppendsAnswer (answer denial.one g) x y) denied.two_shown written));
})

-- Of a call with one handle and no rules after its own.
module _ (t : Tree) (call : CallContext) (args : NfsArgs) (doing : Doing) (h : List ℕ) (one : handles_in args ≡ h ∷ []) where
  pub reads_freely : (s : Subject) (x y : Written) → doing.effect ≡ unchanged → rules_of s s args ≡ [] → IsNamed t call h s
      → AppendsAnswer (doing.granted s s t) x y → HasEffect (scene t call args) doing t x y
  reads_freely s x y unchanging none names written = reads (scene t call args) doing s x y unchanging
      (granted_by_rules t call args h one s names (ap first none)) names.tree written

  pub denies_handle : (denial : Denial) (done : Done) (answer : Option Fattr → NfsAnswer) (x y : Written) → IsUnnamed t call h denial
      → doing.denied (status_of denial.rule) (seen_in (scene t call args)) ≡ answer (seen_in (scene t call args) h) → AppendsAnswer (answer denial.shown) x y
      → done ≡ Denied denial.rule denial.uid → Performs (scene t call args) doing done t x y
  denies_handle denial done answer x y unnamed reports written made = denies (scene t call args) doing h denial done answer x y (denied_by_handle t call args h one denial unnamed) reports written made

-- ---- the path of a link

kind_path : (k : Kind) (p : List ℕ) → path_of k ≡ Some p → path_in k ≡ p
kind_path (Regular bytes) p e = absurd (not_both refl e)
kind_path (Directory parent next_cookie entries) p e = absurd (not_both refl e)
kind_path (Link path) p e = same_some e

path_bound_in : (t : Tree) (n : ℕ) (p : List ℕ) (o : Option File) → Law t → at n t.files ≡ o → on_some o None (λ f. path_of f.kind) ≡ Some p → length p ≤ max_path
path_bound_in t n p None law there e = absurd (not_both refl e)
path_bound_in t n p (Some f) law there e = subst (λ path. length path ≤ max_path) (kind_path f.kind p e)
    (let path = (law.sound n f there).path in let cap = law.limits.link_path in let few : length (path_in f.kind) ≤ max_path = omega (arith, path, cap) in few)

pub path_bound : (t : Tree) (n : ℕ) (p : List ℕ) → Law t → path_at t n ≡ Some p → length p ≤ max_path
path_bound t n p law e = path_bound_in t n p (at n t.files) law refl e
