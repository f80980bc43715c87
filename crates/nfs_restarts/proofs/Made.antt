-- What the lines of a description make, one after another.
use Rattle.std.proofs.Common.{◌≡◌, ◌⊎◌, ℕ, ◌+◌, ◌<◌, zero, suc, Bool, true, false, List, [], ◌∷◌, ◌++◌, length, Option, Some, None, Result, Ok, Err, inl, inr, refl, sym, ap, subst, ◌∙◌, arith}
use Rattle.std.specs.Prelude.{if◌then◌else◌}
use Rattle.nfs_attrs.specs.declared.moment.Moment.{Moment}
use Rattle.nfs_inodes.specs.Changes.{with_file, with_limits, with_new_file, with_named_file, with_entry, entered, touched, new_file, volume_index, after_link, after_set, with_given}
use Rattle.nfs_inodes.specs.Limits.{default_limits}
use Rattle.nfs_inodes.specs.declared.given_attributes.GivenAttributes.{GivenAttributes}
use Rattle.nfs_inodes.specs.declared.limits.Limits.{Limits}
use Rattle.nfs_inodes.specs.Tree.{Tree, File, Regular, Directory, Link, at, on_some}
use Rattle.nfs_load.specs.declared.cause.Cause.{Cause}
use Rattle.nfs_load.specs.declared.cause.Cause.TheVariants.{BadByte, FieldCount}
use Rattle.nfs_load.specs.declared.line.Keyword.{Keyword}
use Rattle.nfs_load.specs.declared.line.Keyword.TheVariants as keyword
use Rattle.nfs_load.specs.declared.loaded.Loaded.{Loaded}
use Rattle.nfs_load.specs.declared.name_form.NameForm.{NameForm}
use Rattle.nfs_load.specs.declared.name_form.NameForm.TheVariants.{Plain}
use Rattle.nfs_load.specs.declared.statement.DirLine.{DirLine}
use Rattle.nfs_load.specs.declared.statement.HardLine.{HardLine}
use Rattle.nfs_load.specs.Descriptions.{Asked, Begins, ExportDone, GoesOn, InRoot, LimitsSet, LineDone, NamesSet, Then, Through, VolumeTaken, begun, early_limits, early_names, last_root}
use Rattle.nfs_load.specs.Effects.{AddsName, MakesDir, MakesFile, MakesLink, SetsTimes, TimesSet, attributes, link_attributes, start, timed_file, times_given}
use Rattle.nfs_load.specs.Fields.{by, key_in, ◌>>=◌}
use Rattle.nfs_load.specs.Lines.{counted, is_comment, is_text, keyword_named, shape_of, takes}
use Rattle.nfs_load.specs.Statements.{FileLine, LinkLine, Read, TimesLine, VolumeLine, dir_in, export_in, file_in, hard_in, link_in, times_in, volume_in}
use Rattle.nfs_text.specs.Words.{words}
use Rattle.nfs_restarts.proofs.Tags.{AreFilled, dir_fills, file_fills, filled_alike, hard_fills, link_fills, times_fill, volume_fills}
use Rattle.nfs_lives.specs.Paths.{PathRow, row_by, row_if, row_in, row_of, rows_of, onto, makes_file}

-- ---- the next number

next_entered : (t : Tree) (d n : ℕ) (name : List ℕ) (now : Moment) → (with_entry t d name n now).next ≡ t.next
next_entered t d n name now = of (at d t.files)
  where
    of : (o : Option File) → (on_some o t (λ f. with_file t d (entered f name n now))).next ≡ t.next
    of None = refl
    of (Some f) = refl

next_touched : (t : Tree) (n : ℕ) (now : Moment) → (touched t n now).next ≡ t.next
next_touched t n now = of (at n t.files)
  where
    of : (o : Option File) → (on_some o t (λ f. with_file t n (record f { ctime = now }))).next ≡ t.next
    of None = refl
    of (Some f) = refl

next_named : (t : Tree) (d : ℕ) (name : List ℕ) (f : File) (now : Moment) → (with_named_file t d name f now).next ≡ t.next + 1
next_named t d name f now = next_entered (with_new_file t f) d t.next name now

next_linked : (t : Tree) (n d : ℕ) (name : List ℕ) (now : Moment) → (after_link t n d name now).next ≡ t.next
next_linked t n d name now = next_entered (touched t n now) d n name now ∙ next_touched t n now

next_set : (t : Tree) (n : ℕ) (given : GivenAttributes) (now : Moment) → (after_set t n given now).next ≡ t.next
next_set t n given now = of (at n t.files)
  where
    of : (o : Option File) → (on_some o t (λ f. with_file t n (with_given f given now))).next ≡ t.next
    of None = refl
    of (Some f) = refl

abbrev next_of : Tree → ℕ
next_of t = t.next

dir_steps : (old new : Tree) (root : ℕ) (line : DirLine) → MakesDir old root line (Ok tt) new → new.next ≡ old.next + 1
dir_steps old new root line does =
    let end = does.0 in
    let made = does.3 in
    ap next_of made.new_is ∙ next_named old end.dir end.name (new_file (volume_index old end.dir) (Directory end.dir 3 []) (attributes line.given) None made.tag start) start

file_steps : (old new : Tree) (root : ℕ) (line : FileLine) → MakesFile old root line (Ok tt) new → new.next ≡ old.next + 1
file_steps old new root line does =
    let end = does.0 in
    let made = does.3 in
    ap next_of made.new_is ∙ next_named old end.dir end.name (new_file (volume_index old end.dir) (Regular line.content) (attributes line.given) None made.tag start) start

link_steps : (old new : Tree) (root : ℕ) (line : LinkLine) → MakesLink old root line (Ok tt) new → new.next ≡ old.next + 1
link_steps old new root line does =
    let end = does.0 in
    let made = does.3 in
    ap next_of made.new_is ∙ next_named old end.dir end.name (new_file (volume_index old end.dir) (Link line.target) (link_attributes line.uid line.gid) None made.tag start) start

hard_steps : (old new : Tree) (root : ℕ) (line : HardLine) → AddsName old root line (Ok tt) new → new.next ≡ old.next
hard_steps old new root line does =
    let it = does.0 in
    ap next_of does.3 ∙ next_linked old it.1 it.0.dir it.0.name start

times_step : (old new : Tree) (root : ℕ) (line : TimesLine) → SetsTimes old root line (Ok tt) new → new.next ≡ old.next
times_step old new root line does = of (timed_file old root line) does
  where
    of : (found : Result ℕ Cause) → TimesSet old found line (Ok tt) new → new.next ≡ old.next
    of (Ok n) done = ap next_of done.1 ∙ next_set old n (times_given line) line.ctime
    of (Err cause) done = cc

-- ---- one line

-- a line that is done in the last volume
in_volume : {A : Type 0} (Done : ℕ → A → Type 0) (Goal : Type 0) (root : Result ℕ Cause) (read : Read A)
    → ((n : ℕ) (line : A) → Done n line → Goal) → InRoot root (Ok tt) (λ n. Then read (Ok tt) (Done n)) → Goal
in_volume Done Goal (Ok n) (Ok line) goes done = goes n line.0 done
in_volume Done Goal (Ok n) (Err cause) goes done = cc
in_volume Done Goal (Err cause) read goes done = cc

module _ (old new : Loaded) where
  -- the next number is this one, and where all numbers are those of files, with the tags of their places, they still are
  abbrev GoesTo : ℕ → Type 0
  GoesTo next = (new.tree.next ≡ next) × (AreFilled old.tree → AreFilled new.tree)

  same_tree : new.tree ≡ old.tree → GoesTo old.tree.next
  same_tree same = (ap next_of same, λ filled. subst AreFilled (sym same) filled)

  volume_taken : (read : Read VolumeLine) → Then read (Ok tt) (λ line. VolumeTaken old line (Ok tt) new) → GoesTo (old.tree.next + 1)
  volume_taken (Ok line) done =
      let made = done.0.3 in
      (ap next_of made.new_is, volume_fills old.tree new.tree done.0.0 line.0.max_bytes line.0.max_files made.tag (attributes line.0.given) made.tag_is made.new_is)
  volume_taken (Err cause) done = cc

  limits_set : (read : Result Limits Cause) → LimitsSet old read (Ok tt) new → GoesTo old.tree.next
  limits_set (Ok limits) done = (ap (λ (l : Loaded). l.tree.next) done.1, λ filled. subst (λ (l : Loaded). AreFilled l.tree) (sym done.1) (filled_alike old.tree (with_limits old.tree limits) refl (λ n. refl) filled))
  limits_set (Err cause) done = cc

  names_set : (read : Read NameForm) → NamesSet old read (Ok tt) new → GoesTo old.tree.next
  names_set (Ok form) done = same_tree (ap (λ (l : Loaded). l.tree) done.1)
  names_set (Err cause) done = cc

  -- the number that follows a row
  abbrev next_after : Option PathRow → ℕ → ℕ
  next_after None n = n
  next_after (Some row) n = if makes_file row.keyword then n + 1 else n

  goes_on : (keyword : Keyword) (fields : List (List ℕ)) → takes keyword (length fields) ≡ true → GoesOn old keyword fields (Ok tt) new
      → GoesTo (next_after (row_by keyword fields) old.tree.next)
  goes_on keyword.Server fields few done = cc
  goes_on keyword.Limits fields few done = limits_set (early_limits old.tree fields) done
  goes_on keyword.Names fields few done = names_set (early_names old fields) done
  goes_on keyword.Volume [] few done = cc
  goes_on keyword.Volume (path ∷ rest) few done = volume_taken (volume_in old.tree.limits.files (path ∷ rest)) done
  goes_on keyword.Export fields few done =
      in_volume (λ n line. ExportDone old line (Ok tt) new) (GoesTo old.tree.next) (last_root old.tree) (export_in fields)
      (λ n line it. same_tree (ap (λ (l : Loaded). l.tree) it.1)) done
  goes_on keyword.Dir [] few done = cc
  goes_on keyword.Dir (path ∷ rest) few done =
      in_volume (λ n line. MakesDir old.tree n line (Ok tt) new.tree × (new.table ≡ old.table) × (new.names ≡ old.names)) (GoesTo (old.tree.next + 1)) (last_root old.tree) (dir_in old.names (path ∷ rest))
      (λ n line it. (dir_steps old.tree new.tree n line it.0, dir_fills old.tree new.tree n line it.0)) done
  goes_on keyword.File [] few done = cc
  goes_on keyword.File (path ∷ rest) few (inl done) =
      in_volume (λ n line. MakesFile old.tree n line (Ok tt) new.tree × (new.table ≡ old.table) × (new.names ≡ old.names)) (GoesTo (old.tree.next + 1)) (last_root old.tree) (file_in old.names old.tree.limits.file_size (path ∷ rest))
      (λ n line it. (file_steps old.tree new.tree n line it.0, file_fills old.tree new.tree n line it.0)) done
  goes_on keyword.File (path ∷ rest) few (inr (refused, found, wants)) = cc
  goes_on keyword.Link [] few done = cc
  goes_on keyword.Link (path ∷ rest) few done =
      in_volume (λ n line. MakesLink old.tree n line (Ok tt) new.tree × (new.table ≡ old.table) × (new.names ≡ old.names)) (GoesTo (old.tree.next + 1)) (last_root old.tree) (link_in old.names old.tree.limits.link_path (path ∷ rest))
      (λ n line it. (link_steps old.tree new.tree n line it.0, link_fills old.tree new.tree n line it.0)) done
  goes_on keyword.Hard [] few done = cc
  goes_on keyword.Hard (path ∷ []) few done = cc
  goes_on keyword.Hard (path ∷ target ∷ rest) few done =
      in_volume (λ n line. AddsName old.tree n line (Ok tt) new.tree × (new.table ≡ old.table) × (new.names ≡ old.names)) (GoesTo old.tree.next) (last_root old.tree) (hard_in old.names (path ∷ target ∷ rest))
      (λ n line it. (hard_steps old.tree new.tree n line it.0, hard_fills old.tree new.tree n line it.0)) done
  goes_on keyword.Times fields few done =
      in_volume (λ n line. SetsTimes old.tree n line (Ok tt) new.tree × (new.table ≡ old.table) × (new.names ≡ old.names)) (GoesTo old.tree.next) (last_root old.tree) (times_in old.names fields)
      (λ n line it. (times_step old.tree new.tree n line it.0, times_fill old.tree new.tree n line it.0)) done

-- what a line in order does: where nothing was described, nothing is, or a tree is begun
abbrev Begun : Option Loaded → Type 0
Begun new = (loaded : Loaded) × (new ≡ Some loaded) × (loaded.tree.next ≡ 1) × AreFilled loaded.tree

abbrev Steps : Option Loaded → Option PathRow → Option Loaded → Type 0
Steps None row new = (row ≡ None) × ((new ≡ None) ⊎ Begun new)
Steps (Some old) row new = (loaded : Loaded) × (new ≡ Some loaded) × GoesTo old loaded (next_after old loaded row old.tree.next)

begins : (k : Keyword) (fields : List (List ℕ)) (new : Option Loaded) → Begins (begun k fields) (Ok tt) new → Steps None (row_by k fields) new
begins keyword.Server fields new done = (refl, inr (of (by key_in fields) done))
  where
    of : (read : Result (List ℕ × List (List ℕ)) Cause)
        → Begins (read >>= λ key. Ok (record { tree = record { files = []; next = 1; key = key.0; volumes = []; limits = default_limits }; table = []; names = Plain })) (Ok tt) new → Begun new
    of (Ok key) done = (record { tree = record { files = []; next = 1; key = key.0; volumes = []; limits = default_limits }; table = []; names = Plain }, done.1, refl, record { some = omega arith; none = refl; given = λ n low less. absurd (omega (arith, low, less)); above = λ n le. refl })
    of (Err cause) done = cc
begins keyword.Limits fields new done = cc
begins keyword.Names fields new done = cc
begins keyword.Volume fields new done = cc
begins keyword.Export fields new done = cc
begins keyword.Dir fields new done = cc
begins keyword.File fields new done = cc
begins keyword.Link fields new done = cc
begins keyword.Hard fields new done = cc
begins keyword.Times fields new done = cc

module _ (new : Option Loaded) where
  faulty : (old : Option Loaded) (cause : Cause) (row : Option PathRow) → Asked old (Err cause) (Ok tt) new → Steps old row new
  faulty old cause row done = cc

  nothing : (old : Option Loaded) → Asked old (Ok None) (Ok tt) new → Steps old None new
  nothing None done = (refl, inl done.1)
  nothing (Some old) done = (old, done.1, (refl, λ filled. filled))

  counted_steps : (old : Option Loaded) (k : Option Keyword) (fields : List (List ℕ)) → Asked old (counted k fields) (Ok tt) new → Steps old (row_if k fields) new
  counted_steps old None fields done = cc
  counted_steps old (Some k) fields done = of (takes k (length fields)) refl old done
    where
      of : (b : Bool) → takes k (length fields) ≡ b → (old : Option Loaded)
          → Asked old (if b then Ok (Some (record { keyword = k; fields = fields })) else Err FieldCount) (Ok tt) new → Steps old (row_by k fields) new
      of true few None done = begins k fields new done
      of true few (Some old) done = (done.0, done.1, goes_on old done.0 k fields few done.2)
      of false few old done = cc

  shape_steps : (old : Option Loaded) (line : List ℕ) (ws : List (List ℕ)) → Asked old (shape_of line ws) (Ok tt) new → Steps old (row_in ws) new
  shape_steps old line [] done = nothing old done
  shape_steps old line (word ∷ fields) done = of (is_text line) done
    where
      of : (b : Bool) → Asked old (if b then counted (keyword_named word) fields else Err BadByte) (Ok tt) new → Steps old (row_if (keyword_named word) fields) new
      of true done = counted_steps old (keyword_named word) fields done
      of false done = cc

  line_steps : (old : Option Loaded) (line : List ℕ) → LineDone old line (Ok tt) new → Steps old (row_of line) new
  line_steps old line done = of (is_comment line) done
    where
      of : (b : Bool) → Asked old (if b then Ok None else shape_of line (words line)) (Ok tt) new → Steps old (if b then None else row_in (words line)) new
      of true done = nothing old done
      of false done = shape_steps old line (words line) done

-- ---- all lines

-- the rows that make files
abbrev when : Bool → PathRow → List PathRow → List PathRow
when true row rows = row ∷ rows
when false row rows = rows

abbrev pub making : List PathRow → List PathRow
making [] = []
making (row ∷ rows) = when (makes_file row.keyword) row (making rows)

abbrev pub row_at : List PathRow → ℕ → Option PathRow
row_at [] i = None
row_at (row ∷ rows) zero = Some row
row_at (row ∷ rows) (suc i) = row_at rows i

-- file n is made by a line with this row, after what was described before
pub record MadeIn (before : Option Loaded) (lines : List (List ℕ)) (n : ℕ) (row : PathRow) : Type 0 where
  pub first : List (List ℕ)
  pub line : List ℕ
  pub after : List (List ℕ)
  pub lines_are : lines ≡ first ++ line ∷ after
  pub old : Loaded
  pub in_order : Through before first (Some old)
  pub new : Loaded
  pub done : LineDone (Some old) line (Ok tt) (Some new)
  pub numbered : n ≡ old.tree.next
  pub row_is : row_of line ≡ Some row
  pub makes : makes_file row.keyword ≡ true

-- the file of each row, by its place among those that make one
abbrev pub EachMade : Option Loaded → List (List ℕ) → ℕ → List PathRow → Type 0
EachMade before lines from rows = (i : ℕ) → i < length rows → (row : PathRow) × (row_at rows i ≡ Some row) × MadeIn before lines (from + i) row

abbrev pub AllMade : Option Loaded → List (List ℕ) → ℕ → List PathRow → Loaded → Type 0
AllMade before lines from rows new = (new.tree.next ≡ from + length rows) × EachMade before lines from rows

module _ (before between : Option Loaded) (line : List ℕ) (done : LineDone before line (Ok tt) between) (after : List (List ℕ)) where
  more : (n m : ℕ) (row : PathRow) → m ≡ n → MadeIn between after n row → MadeIn before (line ∷ after) m row
  more n m row same it = record {
    first = line ∷ it.first;
    line = it.line;
    after = it.after;
    lines_are = ap (λ ls. line ∷ ls) it.lines_are;
    old = it.old;
    in_order = (between, done, it.in_order);
    new = it.new;
    done = it.done;
    numbered = same ∙ it.numbered;
    row_is = it.row_is;
    makes = it.makes;
  }

  -- a line that makes no file
  passed : (from : ℕ) (rows : List PathRow) (new : Loaded) → AllMade between after from rows new → AllMade before (line ∷ after) from rows new
  passed from rows new all = (all.0, λ i l. let it = all.1 i l in (it.0, it.1, more (from + i) (from + i) it.0 refl it.2))

module _ (line : List ℕ) (after : List (List ℕ)) (old mid new : Loaded) (done : LineDone (Some old) line (Ok tt) (Some mid)) where
  -- a line that makes a file
  one_more : (row : PathRow) → row_of line ≡ Some row → makes_file row.keyword ≡ true → mid.tree.next ≡ old.tree.next + 1 → (rows : List PathRow)
      → AllMade (Some mid) after mid.tree.next rows new → AllMade (Some old) (line ∷ after) old.tree.next (row ∷ rows) new
  one_more row is makes next rows all = (omega (arith, next, all.0), each)
    where
      each : EachMade (Some old) (line ∷ after) old.tree.next (row ∷ rows)
      each zero l = (
        row,
        refl,
        record {
          first = [];
          line = line;
          after = after;
          lines_are = refl;
          old = old;
          in_order = refl;
          new = mid;
          done = done;
          numbered = omega arith;
          row_is = is;
          makes = makes;
        },
      )
      each (suc i) l =
          let it = all.1 i (omega (arith, l)) in
          (it.0, it.1, more (Some old) (Some mid) line done after (mid.tree.next + i) (old.tree.next + suc i) it.0 (omega (arith, next)) it.2)

  line_made : mid.tree.next ≡ next_after old mid (row_of line) old.tree.next → (rows : List PathRow) → AllMade (Some mid) after mid.tree.next (making rows) new
      → AllMade (Some old) (line ∷ after) old.tree.next (making (onto (row_of line) rows)) new
  line_made next rows all = of (row_of line) refl next
    where
      same : mid.tree.next ≡ old.tree.next → AllMade (Some old) (line ∷ after) old.tree.next (making rows) new
      same e = subst (λ from. AllMade (Some old) (line ∷ after) from (making rows) new) e (passed (Some old) (Some mid) line done after mid.tree.next (making rows) new all)

      makes : (row : PathRow) → row_of line ≡ Some row → (b : Bool) → makes_file row.keyword ≡ b → mid.tree.next ≡ (if b then old.tree.next + 1 else old.tree.next)
          → AllMade (Some old) (line ∷ after) old.tree.next (when b row (making rows)) new
      makes row is true b next = one_more row is b next (making rows) all
      makes row is false b next = same next

      of : (o : Option PathRow) → row_of line ≡ o → mid.tree.next ≡ next_after old mid o old.tree.next → AllMade (Some old) (line ∷ after) old.tree.next (making (onto o rows)) new
      of None is next = same next
      of (Some row) is next = makes row is (makes_file row.keyword) refl next

from_loaded : (lines : List (List ℕ)) (old new : Loaded) → Through (Some old) lines (Some new) → AllMade (Some old) lines old.tree.next (making (rows_of lines)) new
from_loaded [] old new through = (next, λ i l. absurd (omega (arith, l)))
  where
    one : old ≡ new
    one = cc

    next : new.tree.next ≡ old.tree.next + 0
    next = let e : old.tree.next ≡ new.tree.next = ap (λ (l : Loaded). l.tree.next) one in omega (arith, e)
from_loaded (line ∷ after) old new through =
    let steps = line_steps through.0 (Some old) line through.1 in
    let mid : Loaded = steps.0 in
    let done : LineDone (Some old) line (Ok tt) (Some mid) = subst (λ it. LineDone (Some old) line (Ok tt) it) steps.1 through.1 in
    let rest : Through (Some mid) after (Some new) = subst (λ it. Through it after (Some new)) steps.1 through.2 in
    line_made line after old mid new done steps.2.0 (rows_of after) (from_loaded after mid new rest)

-- the files of a description are those of its rows, from number 1 on
pub all_made : (lines : List (List ℕ)) (new : Loaded) → Through None lines (Some new) → AllMade None lines 1 (making (rows_of lines)) new
all_made [] new through = cc
all_made (line ∷ after) new (between, done, rest) =
    let steps = line_steps between None line done in
    subst (λ o. AllMade None (line ∷ after) 1 (making (onto o (rows_of after))) new) (sym steps.0)
    (passed None between line done after 1 (making (rows_of after)) new (of (λ through. all_made after new through) steps.1))
  where
    of : (Through None after (Some new) → AllMade None after 1 (making (rows_of after)) new)
        → (between ≡ None) ⊎ Begun between → AllMade between after 1 (making (rows_of after)) new
    of before (inl none) = subst (λ it. AllMade it after 1 (making (rows_of after)) new) (sym none) (before (subst (λ it. Through it after (Some new)) none rest))
    of before (inr begun) =
        let all = from_loaded after begun.0 new (subst (λ it. Through it after (Some new)) begun.1 rest) in
        subst (λ it. AllMade it after 1 (making (rows_of after)) new) (sym begun.1)
        (subst (λ from. AllMade (Some begun.0) after from (making (rows_of after)) new) begun.2 all)

-- ---- their tags

filled_from : (lines : List (List ℕ)) (old new : Loaded) → AreFilled old.tree → Through (Some old) lines (Some new) → AreFilled new.tree
filled_from [] old new filled through = subst AreFilled (let one : old ≡ new = cc in ap (λ (l : Loaded). l.tree) one) filled
filled_from (line ∷ after) old new filled (between, done, rest) =
    let steps = line_steps between (Some old) line done in
    filled_from after steps.0 new (steps.2.1 filled) (subst (λ it. Through it after (Some new)) steps.1 rest)

-- all numbers that a description gives are those of files, each with the tag of its place
pub all_filled : (lines : List (List ℕ)) (new : Loaded) → Through None lines (Some new) → AreFilled new.tree
all_filled [] new through = cc
all_filled (line ∷ after) new (between, done, rest) = of (λ through. all_filled after new through) (line_steps between None line done).1
  where
    of : (Through None after (Some new) → AreFilled new.tree) → (between ≡ None) ⊎ Begun between → AreFilled new.tree
    of before (inl none) = before (subst (λ it. Through it after (Some new)) none rest)
    of before (inr begun) = filled_from after begun.0 new begun.3 (subst (λ it. Through it after (Some new)) begun.1 rest)
