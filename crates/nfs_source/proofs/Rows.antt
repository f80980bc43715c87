-- What the line of a file names stands before its content.
use Rattle.std.proofs.Common.{◌≡◌, ℕ, zero, suc, Bool, true, false, ◌&&◌, List, [], ◌∷◌, ◌++◌, Option, Some, None, Result, Ok, refl, sym, ap, subst, ◌∙◌, arith}
use Rattle.std.specs.Prelude.{if◌then◌else◌}
use Rattle.std.proofs.lemmas.Bool.{false≢true}
use Rattle.hex.specs.Hex.{IsBytes, encode_lower}
use Rattle.nfs_text.specs.Words.{words}
use Rattle.nfs_load.specs.declared.cause.Cause.{Cause}
use Rattle.nfs_load.specs.Lines.{Line, are_before_content, begins_file, is_comment, is_text, shape_of}
use Rattle.nfs_load.proofs.FileLines.{keyword_is, shape_is, words_joined}
use Rattle.nfs_lives.specs.declared.path_digest.PathDigest.{PathDigest}
use Rattle.nfs_lives.specs.Paths.{onto, paths_text, row_in, row_of, rows_of}
use Rattle.nfs_lives.specs.Rows.{HasTaken}
use Rattle.nfs_lives.proofs.Fed.{text_more}
use Rattle.nfs_source.specs.declared.open_line.Case.TheVariants.{Lower}
use Rattle.nfs_source.proofs.OpenLines.{encodes}

words_begin : (begin : List ℕ) → begins_file begin ≡ true → are_before_content (words begin) ≡ true
words_begin begin begins = second (is_text begin) (are_before_content (words begin)) begins
  where
    second : (a b : Bool) → (a && b) ≡ true → b ≡ true
    second true b e = e
    second false b e = absurd (false≢true e)

-- ---- no comment

asks : (comment : Bool) (rest : Result (Option Line) Cause) (line : Line) → (if comment then Ok None else rest) ≡ Ok (Some line) → comment ≡ false
asks true rest line e = cc
asks false rest line e = refl

-- as where the content is one byte
is_byte : IsBytes (0 ∷ [])
is_byte zero = omega arith
is_byte (suc i) = omega arith

begins_no_comment : (begin : List ℕ) → begins_file begin ≡ true → (all : List (List ℕ)) → words begin ≡ all → is_comment (begin ++ 32 ∷ encode_lower (0 ∷ [])) ≡ false
begins_no_comment begin begins [] e = absurd (false≢true (ap are_before_content (sym e) ∙ words_begin begin begins))
begins_no_comment begin begins (word ∷ fields) e =
    let first = keyword_is word fields (ap are_before_content (sym e) ∙ words_begin begin begins) in
    let line = begin ++ 32 ∷ encode_lower (0 ∷ []) in
    asks (is_comment line) (shape_of line (words line)) _ (shape_is begin (encode_lower (0 ∷ [])) (0 ∷ []) fields begins (e ∙ ap (λ w. w ∷ fields) first.0) (encodes (0 ∷ []) Lower is_byte (λ none. cc)))

no_comment : (begin more : List ℕ) → begins_file begin ≡ true → is_comment (begin ++ more) ≡ false
no_comment [] more begins = absurd (false≢true begins)
no_comment (byte ∷ begin) more begins = begins_no_comment (byte ∷ begin) begins (words (byte ∷ begin)) refl

-- ---- its row

first_path : (all more : List (List ℕ)) → are_before_content all ≡ true → row_in (all ++ more) ≡ row_in all
first_path [] more e = absurd (false≢true e)
first_path (word ∷ []) more e = absurd (omega (arith, (keyword_is word [] e).1))
first_path (word ∷ path ∷ rest) more e = subst (λ w. row_in ((w ∷ path ∷ rest) ++ more) ≡ row_in (w ∷ path ∷ rest)) (sym (keyword_is word (path ∷ rest) e).0) refl

same_row : (begin digits : List ℕ) → begins_file begin ≡ true → row_of begin ≡ row_of (begin ++ 32 ∷ digits)
same_row begin digits begins =
    ap (λ c. if c then None else row_in (words begin)) (alone begin begins)
    ∙ sym (first_path (words begin) (words digits) (words_begin begin begins))
    ∙ ap row_in (sym (words_joined begin digits))
    ∙ sym (ap (λ c. if c then None else row_in (words (begin ++ 32 ∷ digits))) (no_comment begin (32 ∷ digits) begins))
  where
    alone : (begin : List ℕ) → begins_file begin ≡ true → is_comment begin ≡ false
    alone [] begins = refl
    alone (byte ∷ begin) begins = no_comment (byte ∷ begin) [] begins

same_text : (done : List (List ℕ)) (begin digits : List ℕ) → begins_file begin ≡ true → paths_text (rows_of (done ++ begin ∷ [])) ≡ paths_text (rows_of (done ++ (begin ++ 32 ∷ digits) ∷ []))
same_text done begin digits begins =
    text_more done begin ∙ ap (λ row. paths_text (rows_of done) ++ paths_text (onto row [])) (same_row begin digits begins) ∙ sym (text_more done (begin ++ 32 ∷ digits))

-- a digest of what stands before the content is one of the line
pub taken_file : (it : PathDigest) (done : List (List ℕ)) (begin digits : List ℕ) → begins_file begin ≡ true → HasTaken it (done ++ begin ∷ []) → HasTaken it (done ++ (begin ++ 32 ∷ digits) ∷ [])
taken_file it done begin digits begins has = rw (← same_text done begin digits begins) has
