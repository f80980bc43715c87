-- The law after an entry less.
use Rattle.std.proofs.Common.{inl, inr, ◌≡◌, ◌⊎◌, ℕ, suc, ◌+◌, ◌≤◌, Bool, true, false, List, [], ◌∷◌, sum_by, Some, refl, sym, ap, subst, ◌∙◌, arith}
use Rattle.std.specs.Prelude.{not, Contains, slice_get, nat_eq}
use Rattle.std.proofs.lemmas.Slice.Eq.{bytes_eq-Decides}
use Rattle.std.proofs.lemmas.List.Sums.{sum_by-cons}
use Rattle.nfs_inodes.specs.Limits.{AreLimits}
use Rattle.nfs_inodes.specs.declared.limits.Limits.{Limits}
use Rattle.nfs_inodes.specs.Tree.{Tree, File, Entry, at, one_when, entries_in, parent_in, names_of, files_of}
use Rattle.nfs_inodes.specs.Law.{Law, LawBut, AreVolumes, AreApart, AreRising, Lives, parent_of}
use Rattle.nfs_inodes.specs.Changes.{entries_without}
use Rattle.nfs_inodes.specs.Reading.{numbered_files, has_name, entry_named}
use Rattle.nfs_handles.specs.NumberedFiles.{IsNumbered}
use Rattle.nfs_inodes.proofs.Lists.{by_test, if_true, if_false, true_and_false, same_some, not_both, none_from, in_head, in_tail, head_or_tail}
use Rattle.nfs_inodes.proofs.law.Alike.{Placed, climb_alike, not_root}
use Rattle.nfs_inodes.proofs.law.WithEntry.{one_other, FitsAfter}
use Rattle.nfs_inodes.proofs.law.WithNewFile.{live_some}

-- ---- the entries of other names

not_true : {b : Bool} → b ≡ true → not b ≡ false
not_true e = ap not e

not_false : {b : Bool} → b ≡ false → not b ≡ true
not_false e = ap not e

pub left_was : (name : List ℕ) (es : List Entry) (e : Entry) → Contains (entries_without name es) e → Contains es e
left_was name [] e c = c
left_was name (x ∷ xs) e c = by_test (has_name name x)
    (λ y. in_tail x e xs (left_was name xs e (subst (λ l. Contains l e) (if_false (x ∷ entries_without name xs) (entries_without name xs) (not_true y)) c)))
    (λ n. elim (head_or_tail x e (entries_without name xs) (subst (λ l. Contains l e) (if_true (x ∷ entries_without name xs) (entries_without name xs) (not_false n)) c)) [
      | inl s ↦ subst (Contains (x ∷ xs)) s (in_head x xs)
      | inr l ↦ in_tail x e xs (left_was name xs e l)
    ])

pub left_or_named : (name : List ℕ) (es : List Entry) (e : Entry) → Contains es e → Contains (entries_without name es) e ⊎ (has_name name e ≡ true)
left_or_named name [] e c = inl c
left_or_named name (x ∷ xs) e c = elim (head_or_tail x e xs c) [
  | inl s ↦ by_test (has_name name x)
      (λ y. inr (ap (has_name name) (sym s) ∙ y))
      (λ n. inl (subst (λ l. Contains l e) (sym (if_true (x ∷ entries_without name xs) (entries_without name xs) (not_false n))) (subst (Contains (x ∷ entries_without name xs)) s (in_head x (entries_without name xs)))))
  | inr l ↦ elim (left_or_named name xs e l) [
    | inl stays ↦ inl (by_test (has_name name x)
        (λ y. subst (λ l. Contains l e) (sym (if_false (x ∷ entries_without name xs) (entries_without name xs) (not_true y))) stays)
        (λ n. subst (λ l. Contains l e) (sym (if_true (x ∷ entries_without name xs) (entries_without name xs) (not_false n))) (in_tail x e (entries_without name xs) stays)))
    | inr named ↦ inr named
  ]
]

pub apart_after : (x : Entry) (xs : List Entry) → AreApart (x ∷ xs) → AreApart xs
apart_after x xs apart j k d less within = apart (suc j) (suc k) d (omega (arith, less)) (omega (arith, within))

-- no entry after another has its name
pub none_after : (name : List ℕ) (x : Entry) (xs : List Entry) → AreApart (x ∷ xs) → has_name name x ≡ true → (e : Entry) → Contains xs e → has_name name e ≡ false
none_after name x xs apart is e c = by_test (has_name name e)
    (λ y. let less = c.1 in absurd (apart 0 (suc c.0) e (omega arith) (omega (arith, less)) ((bytes_eq-Decides x.name name).0 is ∙ sym ((bytes_eq-Decides e.name name).0 y) ∙ ap (λ (e : Entry). e.name) (sym c.2))))
    (λ n. n)

pub none_skipped : (name : List ℕ) (es : List Entry) → ((e : Entry) → Contains es e → has_name name e ≡ false) → entries_without name es ≡ es
none_skipped name [] h = refl
none_skipped name (x ∷ xs) h = if_true (x ∷ entries_without name xs) (entries_without name xs) (not_false (h x (in_head x xs)))
    ∙ ap (λ l. x ∷ l) (none_skipped name xs (λ e c. h e (in_tail x e xs c)))

-- an entry of a name is the one that is found
pub found_is : (name : List ℕ) (es : List Entry) (e0 e : Entry) → AreApart es → entry_named name es ≡ Some e0 → Contains es e → has_name name e ≡ true → e0 ≡ e
found_is name [] e0 e apart found c y = absurd (not_both refl found)
found_is name (x ∷ xs) e0 e apart found c y = by_test (has_name name x)
    (λ t. elim (head_or_tail x e xs c) [
      | inl s ↦ sym (same_some (sym (if_true (Some x) (entry_named name xs) t) ∙ found)) ∙ s
      | inr l ↦ absurd (true_and_false y (none_after name x xs apart t e l))
    ])
    (λ f. elim (head_or_tail x e xs c) [
      | inl s ↦ absurd (true_and_false (ap (has_name name) s ∙ y) f)
      | inr l ↦ found_is name xs e0 e (apart_after x xs apart) (sym (if_false (Some x) (entry_named name xs) f) ∙ found) l y
    ])

pub sum_less : (w : Entry → ℕ) (name : List ℕ) (es : List Entry) (e0 : Entry) → AreApart es → entry_named name es ≡ Some e0 → sum_by w (entries_without name es) + w e0 ≡ sum_by w es
sum_less w name [] e0 apart found = absurd (not_both refl found)
sum_less w name (x ∷ xs) e0 apart found =
    let all = sum_by-cons w x xs in
    by_test (has_name name x)
    (λ y. let is : w x ≡ w e0 = ap w (same_some (sym (if_true (Some x) (entry_named name xs) y) ∙ found)) in
    let rest : sum_by w (entries_without name (x ∷ xs)) ≡ sum_by w xs = ap (sum_by w) (if_false (x ∷ entries_without name xs) (entries_without name xs) (not_true y) ∙ none_skipped name xs (none_after name x xs apart y)) in
    omega (arith, all, is, rest))
    (λ n. let less = sum_less w name xs e0 (apart_after x xs apart) (sym (if_false (Some x) (entry_named name xs) n) ∙ found) in
    let rest : sum_by w (entries_without name (x ∷ xs)) ≡ w x + sum_by w (entries_without name xs) = ap (sum_by w) (if_true (x ∷ entries_without name xs) (entries_without name xs) (not_false n)) ∙ sum_by-cons w x (entries_without name xs) in
    omega (arith, all, less, rest))

-- ---- the law

-- the new tree has one entry less
pub record HasLess (lost : Entry) (old new : Tree) : Type 0 where
  pub numbers : IsNumbered (numbered_files old) → IsNumbered (numbered_files new)
  pub rising : AreRising 0 new.files new.next
  pub volumes : new.volumes ≡ old.volumes
  pub limits : new.limits ≡ old.limits
  pub back : (m : ℕ) (h : File) → Lives new m h → (f : File) × Lives old m f × Placed f h × ((e : Entry) → Contains (entries_in h.kind) e → Contains (entries_in f.kind) e)
  pub forth : (m : ℕ) (f : File) → Lives old m f → (h : File) × Lives new m h × Placed f h × ((e : Entry) → Contains (entries_in f.kind) e → Contains (entries_in h.kind) e ⊎ (lost ≡ e))
  pub parents : (m : ℕ) → parent_of new.files m ≡ parent_of old.files m
  pub names : (m : ℕ) → names_of m new.files + one_when (nat_eq lost.number m) ≡ names_of m old.files
  pub count : (index : ℕ) → files_of index new.files ≡ files_of index old.files

pub law_less : (lost : Entry) (old new : Tree) → Law old → HasLess lost old new → FitsAfter new → LawBut lost.number new
law_less lost old new law less fits = record {
  numbers = less.numbers law.numbers;
  rising = less.rising;
  sound = fits.sound;
  placed = λ m h e. let b = less.back m h e in let l = law.placed m b.0 b.1 in
      (l.0, subst (λ vs. slice_get vs h.volume ≡ Some l.0) (sym less.volumes) (subst (λ k. slice_get old.volumes k ≡ Some l.0) (sym b.2.volume) l.1));
  entries = λ a h e at_a in_h. let b = less.back a h at_a in
      let l = law.entries a b.0 e b.1 (b.3 e in_h) in
      let g = less.forth e.number l.0 l.1 in
      (g.0, g.1, g.2.volume ∙ l.2 ∙ sym b.2.volume);
  absent = λ m e.
      let was = law.absent m (none_from (at m old.files) (λ f g. not_both e (less.forth m f g).1)) in
      let reported = less.names m in
      omega (arith, was, reported);
  roots = λ index v e. let l = law.roots index v (subst (λ vs. slice_get vs index ≡ Some v) less.volumes e) in
      let h = less.forth v.root l.0 l.1.0 in
      let reported = less.names v.root in
      let none = l.4 in
      (h.0, (h.1, h.2.directory ∙ l.1.1), h.2.parent ∙ l.2, h.2.volume ∙ l.3, omega (arith, reported, none));
  once = λ m h other dir free. let b = less.back m h dir.0 in
      let l = law.once m b.0 (live_some old m b.0 law b.1) (b.1, sym b.2.directory ∙ dir.1) (not_root old new m less.volumes free) in
      let none = one_other m lost other in
      let reported = less.names m in
      omega (arith, l, none, reported);
  parents = λ a h e g at_a in_h dir. let b = less.back a h at_a in let o = less.back e.number g dir.0 in
      o.2.parent ∙ law.parents a b.0 e o.0 b.1 (b.3 e in_h) (o.1, sym o.2.directory ∙ dir.1);
  stands = λ m h other dir free. let b = less.back m h dir.0 in
      let l = law.stands m b.0 (live_some old m b.0 law b.1) (b.1, sym b.2.directory ∙ dir.1) (not_root old new m less.volumes free) in
      let p = less.forth (parent_in b.0.kind) l.0 l.1 in (
        p.0,
        ap (λ k. at k new.files) b.2.parent ∙ p.1,
        l.2,
        elim (p.3 l.2 l.3) [
          | inl stays ↦ stays
          | inr is ↦ absurd (other (sym l.4 ∙ ap (λ (e : Entry). e.number) (sym is)))
        ],
        l.4,
      );
  homes = λ m h dir. let b = less.back m h dir.0 in
      let l = law.homes m b.0 (b.1, sym b.2.directory ∙ dir.1) in
      let p = less.forth (parent_in b.0.kind) l.0 l.1.0 in
      (p.0, (ap (λ k. at k new.files) b.2.parent ∙ p.1, p.2.directory ∙ l.1.1), p.2.volume ∙ l.2 ∙ sym b.2.volume);
  reached = λ m h dir. let b = less.back m h dir.0 in
      let l = law.reached m b.0 (b.1, sym b.2.directory ∙ dir.1) in
      (l.0, l.1, subst (λ vs. slice_get vs h.volume ≡ Some l.1) (sym less.volumes) (subst (λ k. slice_get old.volumes k ≡ Some l.1) (sym b.2.volume) l.2), climb_alike old.files new.files less.parents l.0 m ∙ l.3);
  named = λ m h other at_m dir. let b = less.back m h at_m in
      let reported = less.names m in
      let l = law.named m b.0 (live_some old m b.0 law b.1) b.1 (sym b.2.directory ∙ dir) in
      let none = one_other m lost other in
      omega (arith, l, none, reported);
  links = fits.links;
  limits = subst AreLimits (sym less.limits) law.limits;
  volumes = subst (λ (l : Limits). AreVolumes l new.volumes) (sym less.limits) (subst (AreVolumes old.limits) (sym less.volumes) law.volumes);
  bytes = fits.bytes;
  count = λ index v e. subst (λ k. k ≤ v.max_files) (sym (less.count index)) (law.count index v (subst (λ vs. slice_get vs index ≡ Some v) less.volumes e));
}
