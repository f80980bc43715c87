-- The text of what a description names, read back.
use Rattle.std.proofs.Common.{◌≡◌, ℕ, Bool, true, false, ◌&&◌, cond, List, [], ◌∷◌, ◌++◌, length, take, drop, Option, Some, None, refl, sym, ap, subst, ◌∙◌, ◌==◌, nat_le, append-nil, arith}
use Rattle.std.specs.Prelude.{if◌then◌else◌, codes, Ok, Err}
use Rattle.std.specs.List.{filter, list_all, onto_first}
use Rattle.std.proofs.Math.Seq.{drop-append_seam, take-append_seam}
use Rattle.std.proofs.lemmas.List.{length-append}
use Rattle.std.proofs.lemmas.Bool.Decides.{nat_tests}
use Rattle.nfs_load.specs.Descriptions.{Asked, LineDone, Through}
use Rattle.nfs_load.specs.Lines.{counted, is_comment, is_printable, is_text, keyword_named, shape_of}
use Rattle.nfs_load.specs.declared.cause.Cause.TheVariants.{BadByte}
use Rattle.nfs_load.specs.declared.line.Keyword.{Keyword}
use Rattle.nfs_load.specs.declared.line.Keyword.TheVariants as keyword
use Rattle.nfs_load.specs.declared.loaded.Loaded.{Loaded}
use Rattle.nfs_text.specs.Lines.{lines}
use Rattle.nfs_text.specs.Chunks.{chunks}
use Rattle.nfs_text.specs.Words.{is_word, words}
use Rattle.nfs_lives.specs.Paths.{PathRow, old_text, onto, paths_text, row_by, row_if, row_in, row_of, rows_of, word_of}
use Rattle.nfs_lives.specs.Tellings.{TextsReadBack, TextsReport}

-- ---- bytes that stand in words

-- printed, and no space
abbrev is_shown : ℕ → Bool
is_shown byte = nat_le 33 byte && nat_le byte 126

both : (a b : Bool) → (a && b) ≡ true → (a ≡ true) × (b ≡ true)
both true b e = (refl, e)
both false b e = cc

and_true : (a b : Bool) → a ≡ true → b ≡ true → (a && b) ≡ true
and_true true b one two = two
and_true false b one two = one

no_space : (x : ℕ) → is_shown x ≡ true → (x == 32) ≡ false
no_space x shown = grind (arith, nat_tests)

printed : (x : ℕ) → is_shown x ≡ true → is_printable x ≡ true
printed x shown = grind (arith, nat_tests)

no_end : (x : ℕ) → is_printable x ≡ true → (x == 10) ≡ false
no_end x shown = grind (arith, nat_tests)

shown : (x : ℕ) → is_printable x ≡ true → (x == 32) ≡ false → is_shown x ≡ true
shown x printed other = grind (arith, nat_tests)

-- ---- the words of a line of text

abbrev AllShown : List (List ℕ) → Type 0
AllShown [] = Unit {0}
AllShown (w ∷ ws) = (list_all is_shown w ≡ true) × AllShown ws

abbrev IsSaid : List ℕ → Type 0
IsSaid w = (is_word w ≡ true) × (list_all is_shown w ≡ true)

abbrev AllSaid : List (List ℕ) → Type 0
AllSaid [] = Unit {0}
AllSaid (w ∷ ws) = IsSaid w × AllSaid ws

onto_shown : (x : ℕ) (ps : List (List ℕ)) → is_shown x ≡ true → AllShown ps → AllShown (onto_first x ps)
onto_shown x [] s all = (and_true (is_shown x) true s refl, tt)
onto_shown x (p ∷ ps) s all = (and_true (is_shown x) (list_all is_shown p) s all.0, all.1)

chunks_shown : (xs : List ℕ) → is_text xs ≡ true → AllShown (chunks 32 xs)
chunks_shown [] e = (refl, tt)
chunks_shown (x ∷ xs) e = let p = both (is_printable x) (is_text xs) e in of (x == 32) refl p.0 (chunks_shown xs p.1)
  where
    of : (b : Bool) → (x == 32) ≡ b → is_printable x ≡ true → AllShown (chunks 32 xs) → AllShown (cond b ([] ∷ chunks 32 xs) (onto_first x (chunks 32 xs)))
    of true is p all = (refl, all)
    of false is p all = onto_shown x (chunks 32 xs) (shown x p is) all

said_of : (ps : List (List ℕ)) → AllShown ps → AllSaid (filter is_word ps)
said_of [] all = tt
said_of (p ∷ ps) all = of (is_word p) refl (said_of ps all.1)
  where
    of : (b : Bool) → is_word p ≡ b → AllSaid (filter is_word ps) → AllSaid (cond b (p ∷ filter is_word ps) (filter is_word ps))
    of true is said = ((is, all.0), said)
    of false is said = said

words_said : (line : List ℕ) → is_text line ≡ true → AllSaid (words line)
words_said line e = said_of (chunks 32 line) (chunks_shown line e)

-- ---- words that are joined by spaces

split_word : (w rest : List ℕ) → list_all is_shown w ≡ true → chunks 32 (w ++ 32 ∷ rest) ≡ w ∷ chunks 32 rest
split_word [] rest e = refl
split_word (x ∷ w) rest e = let p = both (is_shown x) (list_all is_shown w) e in
    ap (λ b. cond b ([] ∷ chunks 32 (w ++ 32 ∷ rest)) (onto_first x (chunks 32 (w ++ 32 ∷ rest)))) (no_space x p.0)
    ∙ ap (onto_first x) (split_word w rest p.1)

last_word : (w : List ℕ) → list_all is_shown w ≡ true → chunks 32 w ≡ w ∷ []
last_word [] e = refl
last_word (x ∷ w) e = let p = both (is_shown x) (list_all is_shown w) e in
    ap (λ b. cond b ([] ∷ chunks 32 w) (onto_first x (chunks 32 w))) (no_space x p.0) ∙ ap (onto_first x) (last_word w p.1)

keep : (b : Bool) (w : List ℕ) (vs : List (List ℕ)) → b ≡ true → cond b (w ∷ vs) vs ≡ w ∷ vs
keep true w vs e = refl
keep false w vs e = cc

one_word : (w : List ℕ) → IsSaid w → words w ≡ w ∷ []
one_word w said = ap (filter is_word) (last_word w said.1) ∙ keep (is_word w) w [] said.0

more_words : (w rest : List ℕ) → IsSaid w → words (w ++ 32 ∷ rest) ≡ w ∷ words rest
more_words w rest said = ap (filter is_word) (split_word w rest said.1) ∙ keep (is_word w) w (words rest) said.0

text_of : (w rest : List ℕ) → list_all is_shown w ≡ true → is_text rest ≡ true → is_text (w ++ rest) ≡ true
text_of [] rest e last = last
text_of (x ∷ w) rest e last = let p = both (is_shown x) (list_all is_shown w) e in
    and_true (is_printable x) (is_text (w ++ rest)) (printed x p.0) (text_of w rest p.1 last)

-- ---- lines

line_ends : (front after : List ℕ) → is_text front ≡ true → lines ((front ++ 10 ∷ []) ++ after) ≡ front ∷ lines after
line_ends [] after e = refl
line_ends (x ∷ front) after e = let p = both (is_printable x) (is_text front) e in
    ap (λ b. cond b ([] ∷ lines ((front ++ 10 ∷ []) ++ after)) (onto_first x (lines ((front ++ 10 ∷ []) ++ after)))) (no_end x p.0)
    ∙ ap (onto_first x) (line_ends front after p.1)

-- ---- rows

abbrev front : PathRow → List ℕ
front row = word_of row.keyword ++ codes " " ++ row.path ++ old_text row.old

-- a row whose text is a line with that row
record IsReported (row : PathRow) : Type 0 where
  printed : is_text (front row) ≡ true
  reported : row_of (front row) ≡ Some row

abbrev AllReported : List PathRow → Type 0
AllReported [] = Unit {0}
AllReported (row ∷ rows) = IsReported row × AllReported rows

abbrev row_with : Keyword → List ℕ → PathRow
row_with k path = record { keyword = k; path = path; old = None }

-- a keyword and a path
module _ (path : List ℕ) (said : IsSaid path) where
  path_words : (word : List ℕ) → IsSaid word → words (word ++ 32 ∷ (path ++ [])) ≡ word ∷ path ∷ []
  path_words word it =
      more_words word (path ++ []) it ∙ ap (λ ws. word ∷ ws) (ap words (append-nil path) ∙ one_word path said)

  path_printed : (word : List ℕ) → IsSaid word → is_text (word ++ 32 ∷ (path ++ [])) ≡ true
  path_printed word it = text_of word (32 ∷ (path ++ [])) it.1 (text_of path [] said.1 refl)

  volume_reported : IsReported (row_with keyword.Volume path)
  volume_reported = record { printed = path_printed (codes "volume") (refl, refl); reported = ap row_in (path_words (codes "volume") (refl, refl)) }

  dir_reported : IsReported (row_with keyword.Dir path)
  dir_reported = record { printed = path_printed (codes "dir") (refl, refl); reported = ap row_in (path_words (codes "dir") (refl, refl)) }

  file_reported : IsReported (row_with keyword.File path)
  file_reported = record { printed = path_printed (codes "file") (refl, refl); reported = ap row_in (path_words (codes "file") (refl, refl)) }

  link_reported : IsReported (row_with keyword.Link path)
  link_reported = record { printed = path_printed (codes "link") (refl, refl); reported = ap row_in (path_words (codes "link") (refl, refl)) }

  hard_reported : (old : List ℕ) → IsSaid old → IsReported (record { keyword = keyword.Hard; path = path; old = Some old })
  hard_reported old it = record {
    printed = text_of (codes "hard") (32 ∷ (path ++ 32 ∷ old)) refl (text_of path (32 ∷ old) said.1 old_printed);
    reported = ap row_in (more_words (codes "hard") (path ++ 32 ∷ old) (refl, refl) ∙ ap (λ ws. codes "hard" ∷ ws) (more_words path old said ∙ ap (λ ws. path ∷ ws) (one_word old it)));
  }
    where
      old_printed : is_text (32 ∷ old) ≡ true
      old_printed = subst (λ text. is_text (32 ∷ text) ≡ true) (append-nil old) (text_of old [] it.1 refl)

reported_as : (row other : PathRow) → Some other ≡ Some row → IsReported other → IsReported row
reported_as row other e it = subst IsReported same it
  where
    same : other ≡ row
    same = cc

keyword_reported : (k : Keyword) (fields : List (List ℕ)) (row : PathRow) → AllSaid fields → row_by k fields ≡ Some row → IsReported row
keyword_reported keyword.Server fields row said e = cc
keyword_reported keyword.Limits fields row said e = cc
keyword_reported keyword.Names fields row said e = cc
keyword_reported keyword.Volume [] row said e = cc
keyword_reported keyword.Volume (path ∷ rest) row said e = reported_as row (row_with keyword.Volume path) e (volume_reported path said.0)
keyword_reported keyword.Export fields row said e = cc
keyword_reported keyword.Dir [] row said e = cc
keyword_reported keyword.Dir (path ∷ rest) row said e = reported_as row (row_with keyword.Dir path) e (dir_reported path said.0)
keyword_reported keyword.File [] row said e = cc
keyword_reported keyword.File (path ∷ rest) row said e = reported_as row (row_with keyword.File path) e (file_reported path said.0)
keyword_reported keyword.Link [] row said e = cc
keyword_reported keyword.Link (path ∷ rest) row said e = reported_as row (row_with keyword.Link path) e (link_reported path said.0)
keyword_reported keyword.Hard [] row said e = cc
keyword_reported keyword.Hard (path ∷ []) row said e = cc
keyword_reported keyword.Hard (path ∷ old ∷ rest) row said e =
    reported_as row (record { keyword = keyword.Hard; path = path; old = Some old }) e (hard_reported path said.0 old said.1.0)
keyword_reported keyword.Times fields row said e = cc

words_reported : (ws : List (List ℕ)) (row : PathRow) → AllSaid ws → row_in ws ≡ Some row → IsReported row
words_reported [] row said e = cc
words_reported (word ∷ fields) row said e = of (keyword_named word) e
  where
    of : (k : Option Keyword) → row_if k fields ≡ Some row → IsReported row
    of None e = cc
    of (Some k) e = keyword_reported k fields row said.1 e

line_reported : (line : List ℕ) (row : PathRow) → is_text line ≡ true → row_of line ≡ Some row → IsReported row
line_reported line row text e = of (is_comment line) e
  where
    of : (b : Bool) → (if b then None else row_in (words line)) ≡ Some row → IsReported row
    of true e = cc
    of false e = words_reported (words line) row (words_said line text) e

-- a line in order that names something has bytes of text alone
line_printed : (old : Option Loaded) (line : List ℕ) (new : Option Loaded) (row : PathRow) → LineDone old line (Ok tt) new → row_of line ≡ Some row → is_text line ≡ true
line_printed old line new row done e = of (is_comment line) done e
  where
    with_words : (ws : List (List ℕ)) → Asked old (shape_of line ws) (Ok tt) new → row_in ws ≡ Some row → is_text line ≡ true
    with_words [] done e = cc
    with_words (word ∷ fields) done e = by (is_text line) refl done
      where
        by : (b : Bool) → is_text line ≡ b → Asked old (if b then counted (keyword_named word) fields else Err BadByte) (Ok tt) new → is_text line ≡ true
        by true is done = is
        by false is done = cc

    of : (b : Bool) → Asked old (if b then Ok None else shape_of line (words line)) (Ok tt) new → (if b then None else row_in (words line)) ≡ Some row → is_text line ≡ true
    of true done e = cc
    of false done e = with_words (words line) done e

all_reported : (ls : List (List ℕ)) (old new : Option Loaded) → Through old ls new → AllReported (rows_of ls)
all_reported [] old new through = tt
all_reported (line ∷ rest) old new through = of (row_of line) refl (all_reported rest through.0 new through.2)
  where
    of : (o : Option PathRow) → row_of line ≡ o → AllReported (rows_of rest) → AllReported (onto o (rows_of rest))
    of None e all = all
    of (Some row) e all = (line_reported line row (line_printed old line through.0 row through.1 e) e, all)

read_back : (rows : List PathRow) → AllReported rows → rows_of (lines (paths_text rows)) ≡ rows
read_back [] all = refl
read_back (row ∷ rows) all =
    ap rows_of (line_ends (front row) (paths_text rows) all.0.printed)
    ∙ ap (λ o. onto o (rows_of (lines (paths_text rows)))) all.0.reported
    ∙ ap (λ rs. row ∷ rs) (read_back rows all.1)

pub texts_read_back : TextsReadBack
texts_read_back ls loaded through = read_back (rows_of ls) (all_reported ls None (Some loaded) through)

-- ---- the text and the key after it

parts : (xs ys a b : List ℕ) → length a ≡ length b → xs ++ a ≡ ys ++ b → (xs ≡ ys) × (a ≡ b)
parts xs ys a b same e =
    let long : length xs ≡ length ys = omega (arith, length-append xs a, length-append ys b, ap length e, same) in (
      sym (take-append_seam xs a) ∙ ap (λ t. take (length xs) t) e ∙ ap (λ n. take n (ys ++ b)) long ∙ take-append_seam ys b,
      sym (drop-append_seam xs a) ∙ ap (λ t. drop (length xs) t) e ∙ ap (λ n. drop n (ys ++ b)) long ∙ drop-append_seam ys b,
    )

pub texts_report : TextsReport
texts_report ls others loaded other through through' same e =
    let p = parts (paths_text (rows_of ls)) (paths_text (rows_of others)) loaded.tree.key other.tree.key same e in
    (sym (texts_read_back ls loaded through) ∙ ap (λ text. rows_of (lines text)) p.0 ∙ texts_read_back others other through', p.1)
