-- The law after a rename.
use Rattle.std.proofs.Common.{inr, ◌≡◌, ◌≢◌, ℕ, ◌<◌, Bool, true, false, List, [], ◌∷◌, Option, Some, None, refl, sym, ap, subst, ◌∙◌, arith, if◌then◌else◌}
use Rattle.std.specs.Prelude.{All, not, nat_eq}
use Rattle.std.proofs.lemmas.Bool.{eq-eqb}
use Rattle.std.proofs.lemmas.Slice.Eq.{bytes_eq-Decides}
use Rattle.std.proofs.lemmas.List.Elements.{All-nil, All-cons, All-weaker, filter_passes}
use Rattle.nfs_attrs.specs.declared.moment.Moment.{Moment}
use Rattle.nfs_inodes.specs.declared.limits.Limits.{Limits}
use Rattle.nfs_inodes.specs.Tree.{Tree, File, Entry, at, on_some, one_when, entries_in, is_directory, nlink}
use Rattle.nfs_inodes.specs.Law.{Law, LivesAsDirectory, climb}
use Rattle.nfs_inodes.specs.Changes.{with_file, entries_without, left, released, after_unlink, carried, after_rename}
use Rattle.nfs_inodes.specs.Conditions.{MayUnlink, MayCarry, MayReplace, MayRename, NamesOther}
use Rattle.nfs_inodes.specs.Reading.{has_name, entry_named, entry_at}
use Rattle.nfs_inodes.proofs.Lists.{by_test, by_number, if_true, if_false, true_and_false, same_some, not_both, find_contains}
use Rattle.nfs_inodes.proofs.Maps.{at_with_same, at_with_other, apart_number}
use Rattle.nfs_inodes.proofs.law.Alike.{climb_alike, parent_changed}
use Rattle.nfs_inodes.proofs.law.Operations.{apart_kinds}
use Rattle.nfs_inodes.proofs.law.EntryLess.{found_is}
use Rattle.nfs_inodes.proofs.law.WithoutEntry.{left_placed, left_entries, left_cookie, names_apart, nlink_less_there, law_without_entry}
use Rattle.nfs_inodes.proofs.law.WithoutFile.{LeavesOthers, others_released}
use Rattle.nfs_inodes.proofs.law.Unlinks.{entry_is, empty_elsewhere, unlinked_is, other_file, may_be_released, law_after_unlink}
use Rattle.nfs_inodes.proofs.law.Carried.{law_carried}

-- ---- names among entries

not_same_name : (name : List ℕ) (e : Entry) → has_name name e ≡ false → e.name ≢ name
not_same_name name e f s = true_and_false ((bytes_eq-Decides e.name name).1 s) f

-- where no entry is found none has the name
pub none_named : (name : List ℕ) (es : List Entry) → entry_named name es ≡ None → All (λ e. e.name ≢ name) es
none_named name [] e = All-nil (λ (e : Entry). e.name ≢ name)
none_named name (x ∷ xs) e = by_test (has_name name x)
    (λ y. absurd (not_both e (if_true (Some x) (entry_named name xs) y)))
    (λ n. All-cons (λ (e : Entry). e.name ≢ name) x xs (not_same_name name x n) (none_named name xs (sym (if_false (Some x) (entry_named name xs) n) ∙ e)))

-- the entries of other names have other names
pub none_left : (name : List ℕ) (es : List Entry) → All (λ e. e.name ≢ name) (entries_without name es)
none_left name es = All-weaker (λ (e : Entry). not (has_name name e) ≡ true) (λ (e : Entry). e.name ≢ name) (λ e y. not_same_name name e (turned (has_name name e) y)) (entries_without name es) (filter_passes (λ e. not (has_name name e)) es)
  where
    turned : (b : Bool) → not b ≡ true → b ≡ false
    turned true y = cc
    turned false y = refl

-- an entry of another name is still found
pub found_still : (name gone : List ℕ) (es : List Entry) (e : Entry) → entry_named name es ≡ Some e → has_name gone e ≡ false → entry_named name (entries_without gone es) ≡ Some e
found_still name gone [] e found other = found
found_still name gone (x ∷ xs) e found other = by_test (has_name name x)
    (λ y. let is : x ≡ e = same_some (sym (if_true (Some x) (entry_named name xs) y) ∙ found) in
    ap (entry_named name) (if_true (x ∷ entries_without gone xs) (entries_without gone xs) (ap not (ap (has_name gone) is ∙ other)))
    ∙ if_true (Some x) (entry_named name (entries_without gone xs)) y ∙ ap Some is)
    (λ n. let rest = found_still name gone xs e (sym (if_false (Some x) (entry_named name xs) n) ∙ found) other in
    by_test (has_name gone x)
    (λ g. ap (entry_named name) (if_false (x ∷ entries_without gone xs) (entries_without gone xs) (ap not g)) ∙ rest)
    (λ k. ap (entry_named name) (if_true (x ∷ entries_without gone xs) (entries_without gone xs) (ap not k))
    ∙ if_false (Some x) (entry_named name (entries_without gone xs)) n ∙ rest))

-- ---- what a rename is

module _ (t : Tree) (from : ℕ) (name : List ℕ) (to : ℕ) (new_name : List ℕ) (now : Moment) (may : MayRename t from name to new_name) where
  abbrev pub number : ℕ
  number = may.entry.number

  -- the entry may be carried in a tree that is as it was but for the new name
  abbrev pub Ready : Tree → Type 0
  Ready u = (c : MayCarry u from name to new_name) × (c.entry ≡ may.entry) × (c.file ≡ may.file)

  found_from : entry_at t from name ≡ Some may.entry
  found_from = entry_is t from name may.source may.at_source.0 ∙ may.found

  found_to : entry_at t to new_name ≡ entry_named new_name (entries_in may.target.kind)
  found_to = entry_is t to new_name may.target may.at_target.0

  abbrev onto : Option Entry → Tree
  onto o = on_some o (carried t from name number to new_name now) (λ old. if nat_eq number old.number then t else carried (after_unlink t to new_name now) from name number to new_name now)

  renamed_onto : (o : Option Entry) → entry_named new_name (entries_in may.target.kind) ≡ o → after_rename t from name to new_name now ≡ onto o
  renamed_onto o is = ap (λ p. on_some p t (λ e.
      on_some (entry_at t to new_name)
      (carried t from name e.number to new_name now)
      (λ old. if nat_eq e.number old.number then t else carried (after_unlink t to new_name now) from name e.number to new_name now))) found_from
      ∙ ap onto (found_to ∙ is)

  pub renamed_new : entry_named new_name (entries_in may.target.kind) ≡ None → after_rename t from name to new_name now ≡ carried t from name number to new_name now
  renamed_new none = renamed_onto None none

  pub renamed_same : (old : Entry) → entry_named new_name (entries_in may.target.kind) ≡ Some old → old.number ≡ number → after_rename t from name to new_name now ≡ t
  renamed_same old is s = renamed_onto (Some old) is ∙ if_true _ _ (eq-eqb number old.number (sym s))

  pub renamed_over : (old : Entry) → entry_named new_name (entries_in may.target.kind) ≡ Some old → old.number ≢ number → after_rename t from name to new_name now ≡ carried (after_unlink t to new_name now) from name number to new_name now
  renamed_over old is o = renamed_onto (Some old) is ∙ if_false _ _ (apart_number number old.number (λ s. o (sym s)))

  -- ---- to a name that no entry has

  pub ready_new : entry_named new_name (entries_in may.target.kind) ≡ None → Ready t
  ready_new none =
      let names_other : NamesOther t to new_name number = λ old is. absurd (not_both none (sym found_to ∙ is)) in (
        record {
          source = may.source;
          at_source = may.at_source;
          entry = may.entry;
          found = may.found;
          file = may.file;
          at_file = may.at_file;
          target = may.target;
          at_target = may.at_target;
          volume = may.volume;
          is_name = may.is_name;
          fresh = none_named new_name (entries_in may.target.kind) none;
          cookie = may.cookie names_other;
          off = may.off names_other;
          links = may.links none;
        },
        refl,
        refl,
      )

  -- ---- to the name of another file

  module _ (law : Law t) (old : Entry) (found_old : entry_named new_name (entries_in may.target.kind) ≡ Some old) (other : old.number ≢ number) where
    names_other : NamesOther t to new_name number
    names_other e is s = other (ap (λ (k : Entry). k.number) (same_some (sym found_old ∙ sym found_to ∙ is)) ∙ s)

    pub replaced : MayReplace t old.number may.file
    replaced = may.replaced old found_old other

    abbrev pub may_unlink : MayUnlink t to new_name
    may_unlink = record { dir = may.target; at_dir = may.at_target; entry = old; found = found_old; file = replaced.replaced; at_file = replaced.at_replaced; empty = replaced.empty }

    -- the target without the name, in the tree without it, and once its file is released
    abbrev dir_now : File
    dir_now = left may.target new_name now

    abbrev without : Tree
    without = with_file t to dir_now

    abbrev after : Tree
    after = released without old.number now

    rest : LeavesOthers old.number without after
    rest = others_released without old.number now (law_without_entry t to now new_name may.target old law may.at_target found_old) (may_be_released t to new_name now may_unlink law)

    not_target : to ≢ number
    not_target = by_test (is_directory may.file.kind)
        (λ y. may.off names_other y 0)
        (λ z. apart_kinds t number to may.file may.target may.at_file z may.at_target)

    -- what the old name named isn't the directory of either name
    not_from : from ≢ old.number
    not_from s = empty_elsewhere t from old.number name may.source replaced.replaced may.entry may.at_source.0 may.found replaced.at_replaced replaced.empty (sym s)

    not_to : to ≢ old.number
    not_to s = other_file t to new_name now may_unlink (sym s)

    target_then : LivesAsDirectory without to dir_now
    target_then = (at_with_same to may.target dir_now t.files may.at_target.0, (left_placed may.target new_name now).directory ∙ may.at_target.1)

    climb_then : (steps : ℕ) → climb steps after.files to ≡ climb steps t.files to
    climb_then steps = rest.climbs steps to dir_now not_to target_then ∙ climb_alike t.files without.files (parent_changed t to may.target dir_now may.at_target.0 (left_placed may.target new_name now).parent) steps to

    links_then : is_directory may.file.kind ≡ true → nlink after.files to dir_now < t.limits.links
    links_then y =
        let apart = names_apart may.target (law.sound to may.target may.at_target.0) in
        let reported = nlink_less_there t to now new_name may.target old law.rising may.at_target.0 apart found_old replaced.replaced may.at_target.1 replaced.at_replaced in
        let one = ap one_when (replaced.alike ∙ y) in
        let was = law.links to may.target may.at_target.0 in
        let same = rest.links to dir_now not_to target_then.0 in
        omega (arith, reported, one, was, same)

    source_then : (g : File) × LivesAsDirectory after from g × (entry_named name (entries_in g.kind) ≡ Some may.entry)
    source_then = by_number from to
        (λ s. let same : may.source ≡ may.target = same_some (sym may.at_source.0 ∙ ap (λ k. at k t.files) s ∙ may.at_target.0) in
        let found : entry_named name (entries_in may.target.kind) ≡ Some may.entry = ap (λ (k : File). entry_named name (entries_in k.kind)) (sym same) ∙ may.found in
        let unnamed : has_name new_name may.entry ≡ false = by_test (has_name new_name may.entry)
        (λ y. absurd (other (ap (λ (k : Entry). k.number) (found_is new_name (entries_in may.target.kind) old may.entry (names_apart may.target (law.sound to may.target may.at_target.0)) found_old (find_contains (has_name name) (entries_in may.target.kind) may.entry found) y))))
        (λ n. n) in (
          dir_now,
          (ap (λ k. at k after.files) s ∙ rest.lives to dir_now not_to target_then.0, target_then.1),
          ap (entry_named name) (left_entries may.target.kind new_name) ∙ found_still name new_name (entries_in may.target.kind) may.entry found unnamed,
        ))
        (λ o. (may.source, (rest.lives from may.source not_from (at_with_other to from dir_now t.files o ∙ may.at_source.0), may.at_source.1), may.found))

    ready_then : Ready after
    ready_then = (
      record {
        source = source_then.0;
        at_source = source_then.1;
        entry = may.entry;
        found = source_then.2;
        file = may.file;
        at_file = rest.lives number may.file (λ s. other (sym s)) (at_with_other to number dir_now t.files (λ s. not_target (sym s)) ∙ may.at_file);
        target = dir_now;
        at_target = (rest.lives to dir_now not_to target_then.0, target_then.1);
        volume = may.volume ∙ sym (left_placed may.target new_name now).volume;
        is_name = may.is_name;
        fresh = subst (All (λ (e : Entry). e.name ≢ new_name)) (sym (left_entries may.target.kind new_name)) (none_left new_name (entries_in may.target.kind));
        cookie = let low = may.cookie names_other in let same = left_cookie may.target.kind new_name in omega (arith, low, same);
        off = λ y steps s. may.off names_other y steps (sym (climb_then steps) ∙ s);
        links = λ y. inr (subst (λ (l : Limits). nlink after.files to dir_now < l.links) (sym rest.limits) (links_then y));
      },
      refl,
      refl,
    )

    pub ready_over : Ready (after_unlink t to new_name now)
    ready_over = subst Ready (sym (unlinked_is t to new_name now may_unlink)) ready_then

  law_ready : (u : Tree) → Law u → Ready u → Law (carried u from name number to new_name now)
  law_ready u law ready = subst (λ (e : Entry). Law (carried u from name e.number to new_name now)) ready.1 (law_carried u from name to new_name now law ready.0)

  law_onto : Law t → (o : Option Entry) → entry_named new_name (entries_in may.target.kind) ≡ o → Law (after_rename t from name to new_name now)
  law_onto law None is = subst Law (sym (renamed_new is)) (law_ready t law (ready_new is))
  law_onto law (Some old) is = by_number old.number number
      (λ s. subst Law (sym (renamed_same old is s)) law)
      (λ o. subst Law (sym (renamed_over old is o))
      (law_ready (after_unlink t to new_name now) (law_after_unlink t to new_name now (may_unlink law old is o) law) (ready_over law old is o)))

pub law_after_rename : (t : Tree) (from : ℕ) (name : List ℕ) (to : ℕ) (new_name : List ℕ) (now : Moment) → MayRename t from name to new_name → Law t → Law (after_rename t from name to new_name now)
law_after_rename t from name to new_name now may law = law_onto t from name to new_name now may law (entry_named new_name (entries_in may.target.kind)) refl
