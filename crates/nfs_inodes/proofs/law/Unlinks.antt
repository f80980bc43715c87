-- The law after the removal of an entry.
use Rattle.std.proofs.Common.{◌≡◌, ◌≢◌, ℕ, List, [], Some, None, refl, sym, ap, subst, ◌∙◌, arith}
use Rattle.std.specs.Prelude.{Contains}
use Rattle.nfs_attrs.specs.declared.moment.Moment.{Moment}
use Rattle.nfs_inodes.specs.Tree.{Tree, File, Entry, at, on_some, entries_in, names_of}
use Rattle.nfs_inodes.specs.Law.{Law, IsRoot, Lives}
use Rattle.nfs_inodes.specs.Changes.{with_file, left, without_entry, released, after_unlink}
use Rattle.nfs_inodes.specs.Conditions.{MayUnlink}
use Rattle.nfs_inodes.specs.Reading.{has_name, entry_named, entry_at}
use Rattle.nfs_inodes.proofs.Lists.{find_contains, not_both, same_some}
use Rattle.nfs_inodes.proofs.Maps.{at_with_other}
use Rattle.nfs_inodes.proofs.law.WithEntry.{one_same}
use Rattle.nfs_inodes.proofs.law.WithNewFile.{live_some}
use Rattle.nfs_inodes.proofs.law.WithoutEntry.{one_less, names_apart, left_is, law_without_entry}
use Rattle.nfs_inodes.proofs.law.WithoutFile.{MayBeReleased, named_by, law_released}

pub entry_is : (t : Tree) (d : ℕ) (name : List ℕ) (f : File) → Lives t d f → entry_at t d name ≡ entry_named name (entries_in f.kind)
entry_is t d name f at_d = ap (λ o. on_some o None (λ f. entry_named name (entries_in f.kind))) at_d

-- no entry names a root
pub not_a_root : (t : Tree) (d : ℕ) (f : File) (e : Entry) → Law t → Lives t d f → Contains (entries_in f.kind) e → IsRoot t.volumes e.number → ⊥
not_a_root t d f e law at_d in_f r =
    let none = (law.roots r.0 r.1 r.2).4 in
    let some = named_by t d f e at_d in_f in
    let same : names_of r.1.root t.files ≡ names_of e.number t.files = ap (λ k. names_of k t.files) r.3 in
    omega (arith, none, some, same)

-- a file without entries is none that has one
pub empty_elsewhere : (t : Tree) (d n : ℕ) (name : List ℕ) (f file : File) (e : Entry) → Lives t d f → entry_named name (entries_in f.kind) ≡ Some e → Lives t n file → entries_in file.kind ≡ [] → n ≢ d
empty_elsewhere t d n name f file e at_d found at_file empty s =
    let same : f ≡ file = same_some (sym at_d ∙ ap (λ k. at k t.files) (sym s) ∙ at_file) in
    not_both refl (sym (ap (entry_named name) (ap (λ (k : File). entries_in k.kind) same ∙ empty)) ∙ found)

module _ (t : Tree) (d : ℕ) (name : List ℕ) (now : Moment) (may : MayUnlink t d name) where
  abbrev pub without : Tree
  without = with_file t d (left may.dir name now)

  pub found_there : Contains (entries_in may.dir.kind) may.entry
  found_there = find_contains (has_name name) (entries_in may.dir.kind) may.entry may.found

  pub unlinked_is : after_unlink t d name now ≡ released without may.entry.number now
  unlinked_is = ap (λ o. on_some o t (λ e. released (without_entry t d name now) e.number now)) (entry_is t d name may.dir may.at_dir.0 ∙ may.found)
      ∙ ap (λ u. released u may.entry.number now) (left_is t d now name may.dir may.at_dir.0)

  pub other_file : may.entry.number ≢ d
  other_file = empty_elsewhere t d may.entry.number name may.dir may.file may.entry may.at_dir.0 may.found may.at_file may.empty

  pub may_be_released : Law t → MayBeReleased without may.entry.number
  may_be_released law =
      let free = not_a_root t d may.dir may.entry law may.at_dir.0 found_there in
      record {
        file = may.file;
        at_file = at_with_other d may.entry.number (left may.dir name now) t.files other_file ∙ may.at_file;
        empty = may.empty;
        unnamed = λ y.
            let once = law.once may.entry.number may.file (live_some t may.entry.number may.file law may.at_file) (may.at_file, y) free in
            let reported = (one_less t d now name may.dir may.entry law.rising may.at_dir.0 (names_apart may.dir (law.sound d may.dir may.at_dir.0)) may.found).names may.entry.number in
            let one = one_same may.entry.number may.entry refl in
            omega (arith, once, reported, one);
        free = free;
      }

pub law_after_unlink : (t : Tree) (d : ℕ) (name : List ℕ) (now : Moment) → MayUnlink t d name → Law t → Law (after_unlink t d name now)
law_after_unlink t d name now may law = subst Law (sym (unlinked_is t d name now may))
    (law_released (without t d name now may) may.entry.number now (law_without_entry t d now name may.dir may.entry law may.at_dir may.found) (may_be_released t d name now may law))
