-- The tags of the files that a description makes: the first has tag 0, the next 1, and so on.
use Rattle.std.proofs.Common.{inl, inr, ◌≡◌, ◌⊎◌, ◌≢◌, ℕ, ◌+◌, ◌-◌, ◌^◌, ◌<◌, ◌≤◌, zero, suc, min, List, [], Option, Some, None, option_map, refl, sym, ap, subst, ◌∙◌, arith}
use Rattle.std.specs.Prelude.{Err, Ok, Result, length}
use Rattle.std.proofs.lemmas.Bool.{cases_lt}
use Rattle.nfs_attrs.specs.declared.moment.Moment.{Moment}
use Rattle.nfs_handles.proofs.Tags.{one_is_next}
use Rattle.nfs_handles.specs.NumberedFiles as numbered
use Rattle.nfs_handles.specs.NumberedFiles.{TaggedFile}
use Rattle.nfs_handles.specs.Tags.{IsNextTag, OneIsNext}
use Rattle.nfs_inodes.proofs.Lists.{by_number, not_both, same_some}
use Rattle.nfs_inodes.proofs.Maps.{at_push_other, at_push_same, at_shows, at_with_other, at_with_same}
use Rattle.nfs_inodes.specs.Changes.{after_add_volume, after_set, entered, new_file, touched, volume_index, with_entry, with_file, with_given, with_named_file, with_new_file}
use Rattle.nfs_inodes.specs.Reading.{numbered_files}
use Rattle.nfs_inodes.specs.declared.given_attributes.GivenAttributes.{GivenAttributes}
use Rattle.nfs_inodes.specs.declared.new_file.NewFile.{NewFile}
use Rattle.nfs_inodes.specs.Tree.{Directory, File, Link, Regular, Tree, at, on_some}
use Rattle.nfs_load.specs.Effects.{AddsName, MakesDir, MakesFile, MakesLink, SetsTimes, TimesSet, attributes, link_attributes, start, timed_file, times_given}
use Rattle.nfs_load.specs.Statements.{FileLine, LinkLine, TimesLine}
use Rattle.nfs_load.specs.declared.cause.Cause.{Cause}
use Rattle.nfs_load.specs.declared.statement.DirLine.{DirLine}
use Rattle.nfs_load.specs.declared.statement.HardLine.{HardLine}

abbrev pub tag_there : Tree → ℕ → Option ℕ
tag_there t n = option_map (λ (f : File). f.tag) (at n t.files)

-- the tag of file n, where none before it has gone
abbrev pub nth_tag : ℕ → ℕ
nth_tag n = min (n - 1) 4294967295

-- All numbers that were given are those of files, each with the tag of its place.
pub record AreFilled (t : Tree) : Type 0 where
  pub some : 1 ≤ t.next
  pub none : tag_there t 0 ≡ None
  pub given : (n : ℕ) → 1 ≤ n → n < t.next → tag_there t n ≡ Some (nth_tag n)
  pub above : (n : ℕ) → t.next ≤ n → tag_there t n ≡ None

-- ---- the next tag

abbrev tagged : File → TaggedFile File
tagged f = record { tag = f.tag; value = f }

pub tag_at_is : (t : Tree) (n : ℕ) → numbered.tag_at (numbered_files t) n ≡ tag_there t n
tag_at_is t n = ap (option_map (λ (f : TaggedFile File). f.tag)) (at_shows tagged n t.files) ∙ of (at n t.files)
  where
    of : (o : Option File) → option_map (λ (f : TaggedFile File). f.tag) (option_map tagged o) ≡ option_map (λ (f : File). f.tag) o
    of None = refl
    of (Some f) = refl

next_is_nth : (t : Tree) → AreFilled t → IsNextTag (numbered_files t) (nth_tag t.next)
next_is_nth t filled = record {
  fits = omega arith;
  below = λ lesser low. (lesser + 1, tag_at_is t (lesser + 1) ∙ filled.given (lesser + 1) (omega arith) (omega (arith, low)) ∙ ap Some (omega (arith, low)));
  free = λ other n has. none_has other n (sym (tag_at_is t n) ∙ has);
}
  where
    none_has : nth_tag t.next ≢ 2 ^ 32 - 1 → (n : ℕ) → tag_there t n ≢ Some (nth_tag t.next)
    none_has other zero has = not_both filled.none has
    none_has other (suc m) has = of (cases_lt (suc m) t.next) has
      where
        of : (suc m < t.next) ⊎ (t.next ≤ suc m) → tag_there t (suc m) ≢ Some (nth_tag t.next)
        of (inr above) has = not_both (filled.above (suc m) above) has
        of (inl low) has = let same : nth_tag (suc m) ≡ nth_tag t.next = same_some (sym (filled.given (suc m) (omega arith) low) ∙ has) in
            let some = filled.some in omega (arith, same, low, other, some)

next_tag_is : (t : Tree) (tag : ℕ) → AreFilled t → IsNextTag (numbered_files t) tag → tag ≡ nth_tag t.next
next_tag_is t tag filled is = let only : OneIsNext File = one_is_next in only.one (numbered_files t) tag (nth_tag t.next) is (next_is_nth t filled)

-- ---- what changes keep

pub filled_alike : (t u : Tree) → u.next ≡ t.next → ((n : ℕ) → tag_there u n ≡ tag_there t n) → AreFilled t → AreFilled u
filled_alike t u next same filled = record {
  some = let some = filled.some in omega (arith, some, next);
  none = same 0 ∙ filled.none;
  given = λ n low less. same n ∙ filled.given n low (omega (arith, less, next));
  above = λ n le. same n ∙ filled.above n (omega (arith, le, next));
}

filled_with : (t : Tree) (n : ℕ) (f g : File) → at n t.files ≡ Some f → g.tag ≡ f.tag → AreFilled t → AreFilled (with_file t n g)
filled_with t n f g there tag filled = filled_alike t (with_file t n g) refl same filled
  where
    same : (m : ℕ) → tag_there (with_file t n g) m ≡ tag_there t m
    same m = by_number m n
        (λ is. subst (λ k. tag_there (with_file t n g) k ≡ tag_there t k) (sym is)
        (ap (option_map (λ (f : File). f.tag)) (at_with_same n f g t.files there) ∙ ap Some tag ∙ sym (ap (option_map (λ (f : File). f.tag)) there)))
        (λ other. ap (option_map (λ (f : File). f.tag)) (at_with_other n m g t.files other))

filled_entered : (t : Tree) (d n : ℕ) (name : List ℕ) (now : Moment) → AreFilled t → AreFilled (with_entry t d name n now)
filled_entered t d n name now filled = of (at d t.files) refl
  where
    of : (o : Option File) → at d t.files ≡ o → AreFilled (on_some o t (λ f. with_file t d (entered f name n now)))
    of None is = filled
    of (Some f) is = filled_with t d f (entered f name n now) is refl filled

filled_touched : (t : Tree) (n : ℕ) (now : Moment) → AreFilled t → AreFilled (touched t n now)
filled_touched t n now filled = of (at n t.files) refl
  where
    of : (o : Option File) → at n t.files ≡ o → AreFilled (on_some o t (λ f. with_file t n (record f { ctime = now })))
    of None is = filled
    of (Some f) is = filled_with t n f (record f { ctime = now }) is refl filled

filled_set : (t : Tree) (n : ℕ) (given : GivenAttributes) (now : Moment) → AreFilled t → AreFilled (after_set t n given now)
filled_set t n given now filled = of (at n t.files) refl
  where
    of : (o : Option File) → at n t.files ≡ o → AreFilled (on_some o t (λ f. with_file t n (with_given f given now)))
    of None is = filled
    of (Some f) is = filled_with t n f (with_given f given now) is refl filled

filled_new : (t : Tree) (f : File) → f.tag ≡ nth_tag t.next → AreFilled t → AreFilled (with_new_file t f)
filled_new t f tag filled = record {
  some = omega arith;
  none = other 0 (λ e. let some = filled.some in omega (arith, some, e)) ∙ filled.none;
  given = λ n low less. by_number n t.next
      (λ is. subst (λ k. tag_there (with_new_file t f) k ≡ Some (nth_tag k)) (sym is) (ap (option_map (λ (f : File). f.tag)) (at_push_same t.next f t.files vacant) ∙ ap Some tag))
      (λ apart. other n apart ∙ filled.given n low (omega (arith, less, apart)));
  above = λ n le. other n (λ e. omega (arith, le, e)) ∙ filled.above n (omega (arith, le));
}
  where
    other : (n : ℕ) → n ≢ t.next → tag_there (with_new_file t f) n ≡ tag_there t n
    other n apart = ap (option_map (λ (f : File). f.tag)) (at_push_other t.next n f t.files apart)

    vacant : at t.next t.files ≡ None
    vacant = of (at t.next t.files) (filled.above t.next (omega arith))
      where
        of : (o : Option File) → option_map (λ (f : File). f.tag) o ≡ None → o ≡ None
        of None e = refl
        of (Some f) e = cc

filled_named : (t : Tree) (d : ℕ) (name : List ℕ) (f : File) (now : Moment) → f.tag ≡ nth_tag t.next → AreFilled t → AreFilled (with_named_file t d name f now)
filled_named t d name f now tag filled = filled_entered (with_new_file t f) d t.next name now (filled_new t f tag filled)

-- ---- what lines keep

pub volume_fills : (old new : Tree) (path : List ℕ) (max_bytes max_files tag : ℕ) (given : NewFile) → IsNextTag (numbered_files old) tag
    → new ≡ after_add_volume old path max_bytes max_files given tag start → AreFilled old → AreFilled new
volume_fills old new path max_bytes max_files tag given tag_is is filled =
    let root : File = new_file (length old.volumes) (Directory old.next 3 []) given None tag start in
    subst AreFilled (sym is) (filled_alike (with_new_file old root) (after_add_volume old path max_bytes max_files given tag start) refl (λ n. refl)
    (filled_new old root (next_tag_is old tag filled tag_is) filled))

pub dir_fills : (old new : Tree) (root : ℕ) (line : DirLine) → MakesDir old root line (Ok tt) new → AreFilled old → AreFilled new
dir_fills old new root line does filled =
    let end = does.0 in
    let made = does.3 in
    subst AreFilled (sym made.new_is)
    (filled_named old end.dir end.name (new_file (volume_index old end.dir) (Directory end.dir 3 []) (attributes line.given) None made.tag start) start (next_tag_is old made.tag filled made.tag_is) filled)

pub file_fills : (old new : Tree) (root : ℕ) (line : FileLine) → MakesFile old root line (Ok tt) new → AreFilled old → AreFilled new
file_fills old new root line does filled =
    let end = does.0 in
    let made = does.3 in
    subst AreFilled (sym made.new_is)
    (filled_named old end.dir end.name (new_file (volume_index old end.dir) (Regular line.content) (attributes line.given) None made.tag start) start (next_tag_is old made.tag filled made.tag_is) filled)

pub link_fills : (old new : Tree) (root : ℕ) (line : LinkLine) → MakesLink old root line (Ok tt) new → AreFilled old → AreFilled new
link_fills old new root line does filled =
    let end = does.0 in
    let made = does.3 in
    subst AreFilled (sym made.new_is)
    (filled_named old end.dir end.name (new_file (volume_index old end.dir) (Link line.target) (link_attributes line.uid line.gid) None made.tag start) start (next_tag_is old made.tag filled made.tag_is) filled)

pub hard_fills : (old new : Tree) (root : ℕ) (line : HardLine) → AddsName old root line (Ok tt) new → AreFilled old → AreFilled new
hard_fills old new root line does filled =
    let it = does.0 in
    subst AreFilled (sym does.3) (filled_entered (touched old it.1 start) it.0.dir it.1 it.0.name start (filled_touched old it.1 start filled))

pub times_fill : (old new : Tree) (root : ℕ) (line : TimesLine) → SetsTimes old root line (Ok tt) new → AreFilled old → AreFilled new
times_fill old new root line does filled = of (timed_file old root line) does
  where
    of : (found : Result ℕ Cause) → TimesSet old found line (Ok tt) new → AreFilled new
    of (Ok n) done = subst AreFilled (sym done.1) (filled_set old n (times_given line) line.ctime filled)
    of (Err cause) done = cc
