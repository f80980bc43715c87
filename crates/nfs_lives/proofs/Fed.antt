-- What a digest was fed, chunk by chunk.
use Rattle.std.proofs.Common.{◌≡◌, ℕ, List, [], ◌∷◌, ◌++◌, Option, Some, None, refl, sym, ap, subst, ◌∙◌, append_assoc, append-nil}
use Rattle.sha2.specs.Hashers.{Holds256}
use Rattle.sha2.specs.declared.Sha256.{Sha256}
use Rattle.nfs_lives.specs.Paths.{PathRow, row_of, rows_of, onto, path_text, paths_text}
use Rattle.nfs_lives.specs.Rows.{Feeds}

pub fed : (a b c : Sha256) (x y : List ℕ) → Feeds a x b → Feeds b y c → Feeds a (x ++ y) c
fed a b c x y first then = λ before h. subst (Holds256 c) (append_assoc before x y) (then (before ++ x) (first before h))

pub fed_none : (a : Sha256) → Feeds a [] a
fed_none a = λ before h. subst (Holds256 a) (sym (append-nil before)) h

-- one line more
pub text_more : (lines : List (List ℕ)) (line : List ℕ) → paths_text (rows_of (lines ++ line ∷ [])) ≡ paths_text (rows_of lines) ++ paths_text (onto (row_of line) [])
text_more [] line = refl
text_more (first ∷ rest) line = of (row_of first) (text_more rest line)
  where
    of : (o : Option PathRow) → paths_text (rows_of (rest ++ line ∷ [])) ≡ paths_text (rows_of rest) ++ paths_text (onto (row_of line) [])
        → paths_text (onto o (rows_of (rest ++ line ∷ []))) ≡ paths_text (onto o (rows_of rest)) ++ paths_text (onto (row_of line) [])
    of None e = e
    of (Some row) e = ap (λ text. path_text row ++ text) e ∙ sym (append_assoc (path_text row) (paths_text (rows_of rest)) (paths_text (onto (row_of line) [])))

pub taken : (new : Sha256) (lines : List (List ℕ)) (line : List ℕ) (o : Option PathRow) → row_of line ≡ o
    → Holds256 new (paths_text (rows_of lines) ++ paths_text (onto o [])) → Holds256 new (paths_text (rows_of (lines ++ line ∷ [])))
taken new lines line o is h = subst (Holds256 new) (sym (text_more lines line ∙ ap (λ o. paths_text (rows_of lines) ++ paths_text (onto o [])) is)) h

pub taken_row : (old new : Sha256) (lines : List (List ℕ)) (line : List ℕ) (row : PathRow) → row_of line ≡ Some row
    → Feeds old (path_text row) new → Holds256 old (paths_text (rows_of lines)) → Holds256 new (paths_text (rows_of (lines ++ line ∷ [])))
taken_row old new lines line row is feeds h =
    taken new lines line (Some row) is (subst (λ text. Holds256 new (paths_text (rows_of lines) ++ text)) (sym (append-nil (path_text row))) (feeds (paths_text (rows_of lines)) h))

pub taken_none : (it : Sha256) (lines : List (List ℕ)) (line : List ℕ) → row_of line ≡ None → Holds256 it (paths_text (rows_of lines)) → Holds256 it (paths_text (rows_of (lines ++ line ∷ [])))
taken_none it lines line is h = taken it lines line None is (subst (Holds256 it) (sym (append-nil (paths_text (rows_of lines)))) h)
