-- The law after a file has lost an entry in one directory and gained one in another or the same.
use Rattle.std.proofs.Common.{inl, inr, ◌≡◌, ◌≢◌, ℕ, ◌+◌, ◌<◌, true, List, refl, sym, ap, subst, ◌∙◌, arith}
use Rattle.std.specs.Prelude.{Contains, All, not}
use Rattle.std.proofs.lemmas.List.Elements.{All-filter}
use Rattle.nfs_attrs.specs.declared.moment.Moment.{Moment}
use Rattle.nfs_inodes.specs.Tree.{Tree, File, Entry, at, on_some, one_when, entries_in, is_directory, parent_in, next_cookie_in, names_of, subdirectories, nlink}
use Rattle.nfs_inodes.specs.Law.{Law, LawBut, IsRoot, AreApart, Lives, LivesAsDirectory, parent_of}
use Rattle.nfs_inodes.specs.Changes.{with_file, left, moved_to, moved, with_entry, carried}
use Rattle.nfs_inodes.specs.Conditions.{MayCarry}
use Rattle.nfs_inodes.specs.Reading.{has_name}
use Rattle.nfs_inodes.proofs.Lists.{by_test, by_number, if_true, if_false, same_some, find_contains}
use Rattle.nfs_inodes.proofs.Maps.{at_with_same, at_with_other}
use Rattle.nfs_inodes.proofs.law.Alike.{climb_alike, parent_changed}
use Rattle.nfs_inodes.proofs.law.Ancestors.{climb_stuck}
use Rattle.nfs_inodes.proofs.law.WithEntry.{MayGain, one_same, law_with_entry}
use Rattle.nfs_inodes.proofs.law.WithNewFile.{live_some}
use Rattle.nfs_inodes.proofs.law.Operations.{apart_kinds}
use Rattle.nfs_inodes.proofs.law.WithoutEntry.{left_placed, left_entries, left_cookie, left_is, names_apart, one_less, nlink_less_there, nlink_less_elsewhere, law_without_entry}
use Rattle.nfs_inodes.proofs.law.Unlinks.{not_a_root}
use Rattle.nfs_inodes.proofs.law.Moved.{MayMove, moved_parent, moved_is, has_moved, names_moved, nlink_moved, law_moved}

-- no entry names its own directory
pub not_itself : (t : Tree) (d : ℕ) (f : File) (e : Entry) → Law t → LivesAsDirectory t d f → Contains (entries_in f.kind) e → e.number ≢ d
not_itself t d f e law at_d in_f s =
    let up : parent_in f.kind ≡ d = law.parents d f e f at_d.0 in_f (ap (λ k. at k t.files) s ∙ at_d.0, at_d.1) in
    let is_up : parent_of t.files d ≡ d = ap (λ o. on_some o 0 (λ k. parent_in k.kind)) at_d.0 ∙ up in
    let r = law.reached d f at_d in
    not_a_root t d f e law at_d.0 in_f (f.volume, r.1, r.2, sym r.3 ∙ climb_stuck t.files r.0 d is_up ∙ sym s)

-- directory to, once directory from has lost the entry
pub record TargetNow (t u : Tree) (to : ℕ) (new_name : List ℕ) (target file : File) : Type 0 where
  pub dir : File
  pub at_dir : LivesAsDirectory u to dir
  pub volume : dir.volume ≡ target.volume
  pub fresh : All (λ e. e.name ≢ new_name) (entries_in dir.kind)
  pub cookie : next_cookie_in dir.kind ≡ next_cookie_in target.kind
  pub links : is_directory file.kind ≡ true → nlink u.files to dir < u.limits.links

module _ (t : Tree) (from : ℕ) (name : List ℕ) (to : ℕ) (new_name : List ℕ) (now : Moment) (law : Law t) (may : MayCarry t from name to new_name) where
  abbrev pub number : ℕ
  number = may.entry.number

  -- the tree without the old entry, and with the file in the new directory
  abbrev pub first : Tree
  first = with_file t from (left may.source name now)

  abbrev pub second : Tree
  second = with_file first number (moved_to may.file to now)

  in_source : Contains (entries_in may.source.kind) may.entry
  in_source = find_contains (has_name name) (entries_in may.source.kind) may.entry may.found

  pub not_source : number ≢ from
  not_source = not_itself t from may.source may.entry law may.at_source in_source

  pub not_target : to ≢ number
  not_target = by_test (is_directory may.file.kind)
      (λ y. may.off y 0)
      (λ z. apart_kinds t number to may.file may.target may.at_file z may.at_target)

  free : IsRoot t.volumes number → ⊥
  free = not_a_root t from may.source may.entry law may.at_source.0 in_source

  apart : AreApart (entries_in may.source.kind)
  apart = names_apart may.source (law.sound from may.source may.at_source.0)

  pub carried_is : carried t from name number to new_name now ≡ with_entry second to new_name number now
  carried_is = ap (λ u. with_entry (moved u number to now) to new_name number now) (left_is t from now name may.source may.at_source.0)
      ∙ ap (λ u. with_entry u to new_name number now) (moved_is first number to now may.file at_first)
    where
      at_first : Lives first number may.file
      at_first = at_with_other from number (left may.source name now) t.files not_source ∙ may.at_file

  pub target_now : TargetNow t first to new_name may.target may.file
  target_now = by_number to from
      (λ s. let same : may.source ≡ may.target = same_some (sym may.at_source.0 ∙ ap (λ k. at k t.files) (sym s) ∙ may.at_target.0) in
      let g : File = left may.source name now in
      let placed = left_placed may.source name now in
      record {
        dir = g;
        at_dir = (ap (λ k. at k first.files) s ∙ at_with_same from may.source g t.files may.at_source.0, placed.directory ∙ may.at_source.1);
        volume = placed.volume ∙ ap (λ (k : File). k.volume) same;
        fresh = subst (All (λ (e : Entry). e.name ≢ new_name)) (sym (left_entries may.source.kind name))
            (All-filter (λ e. not (has_name name e)) (λ (e : Entry). e.name ≢ new_name) (entries_in may.source.kind) (subst (λ (k : File). All (λ e. e.name ≢ new_name) (entries_in k.kind)) (sym same) may.fresh));
        cookie = left_cookie may.source.kind name ∙ ap (λ (k : File). next_cookie_in k.kind) same;
        links = λ y.
            let reported = nlink_less_there t from now name may.source may.entry law.rising may.at_source.0 apart may.found may.file may.at_source.1 may.at_file in
            let one = ap one_when y in
            let was = law.links from may.source may.at_source.0 in
            let here : nlink first.files to g ≡ nlink first.files from g = ap (λ k. nlink first.files k g) s in
            omega (arith, reported, one, was, here);
      })
      (λ o. record {
        dir = may.target;
        at_dir = (at_with_other from to (left may.source name now) t.files o ∙ may.at_target.0, may.at_target.1);
        volume = refl;
        fresh = may.fresh;
        cookie = refl;
        links = λ y.
            let same = (nlink_less_elsewhere t from now name may.source may.entry law.rising may.at_source.0 apart may.found to may.target).0 may.at_target.1 in
            elim (may.links y) [
              | inl s ↦ absurd (o s)
              | inr few ↦ omega (arith, same, few)
            ];
      })

  pub law_first : LawBut number first
  law_first = law_without_entry t from now name may.source may.entry law may.at_source may.found

  names_first : names_of number first.files + 1 ≡ names_of number t.files
  names_first =
      let reported = (one_less t from now name may.source may.entry law.rising may.at_source.0 apart may.found).names number in
      let one = one_same number may.entry refl in
      omega (arith, reported, one)

  unnamed : is_directory may.file.kind ≡ true → names_of number first.files ≡ 0
  unnamed y =
      let once = law.once number may.file (live_some t number may.file law may.at_file) (may.at_file, y) free in
      let reported = names_first in
      omega (arith, once, reported)

  pub may_move : MayMove first number to may.file
  may_move = record {
    at_file = at_with_other from number (left may.source name now) t.files not_source ∙ may.at_file;
    target = target_now.dir;
    at_target = target_now.at_dir;
    volume = may.volume ∙ sym target_now.volume;
    unnamed = unnamed;
    free = free;
    off = λ y steps s. may.off y steps (sym (climb_alike t.files first.files (parent_changed t from may.source (left may.source name now) may.at_source.0 (left_placed may.source name now).parent) steps to) ∙ s);
  }

  pub law_second : LawBut number second
  law_second = law_moved first number to now may.file law_first may_move

  pub may_gain : MayGain number second to new_name number
  may_gain =
      let g : File = moved_to may.file to now in
      let like = has_moved may.file to now in
      record {
        dir = target_now.dir;
        at_dir = (at_with_other number to g first.files not_target ∙ target_now.at_dir.0, target_now.at_dir.1);
        is_name = may.is_name;
        fresh = target_now.fresh;
        file = g;
        at_file = at_with_same number may.file g first.files may_move.at_file;
        volume = like.volume ∙ may.volume ∙ sym target_now.volume;
        free = free;
        once = λ y. let is_dir = sym like.directory ∙ y in (
          moved_parent may.file.kind to is_dir,
          names_moved first number to now may.file may_move.at_file number ∙ unnamed is_dir,
          let few = target_now.links is_dir in
              let are : nlink second.files to target_now.dir ≡ 2 + subdirectories second.files (entries_in target_now.dir.kind) = if_true _ _ target_now.at_dir.1 in
              let same = nlink_moved first number to now may.file may_move.at_file to target_now.dir target_now.dir (record { tag = refl; volume = refl; directory = refl; entries = refl; bytes = refl }) in
              omega (arith, few, are, same),
        );
        links = λ z.
            let is_file = sym like.directory ∙ z in
            let named : nlink t.files number may.file ≡ names_of number t.files = if_false _ _ is_file in
            let was = law.links number may.file may.at_file in
            let reported = names_first in
            let same = names_moved first number to now may.file may_move.at_file number in
            omega (arith, named, was, reported, same);
        only = λ m some other. other;
      }

  pub law_carried : Law (carried t from name number to new_name now)
  law_carried = subst Law (sym carried_is) (law_with_entry number second to number now new_name law_second may_gain)
