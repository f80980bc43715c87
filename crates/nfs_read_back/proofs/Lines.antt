-- A line of words asks for what its keyword says.
use Rattle.std.proofs.Common.{◌≡◌, ℕ, true, false, List, [], ◌∷◌, ◌++◌, length, Some, Ok, None, ap, ◌∙◌}
use Rattle.std.specs.Prelude.{Err, if◌then◌else◌}
use Rattle.nfs_text.specs.Lines.{lines}
use Rattle.nfs_text.specs.Words.{words}
use Rattle.nfs_load.specs.Lines.{counted, is_comment, is_text, keyword_named, shape, shape_of, takes}
use Rattle.nfs_load.specs.declared.cause.Cause.TheVariants.{BadByte, FieldCount}
use Rattle.nfs_load.specs.declared.line.Keyword.{Keyword}
use Rattle.nfs_read_back.specs.ReadBack.{IsReadAs}
use Rattle.nfs_read_back.proofs.Words.{AreSaid, joined, joined_printed, line_ends, words_of}

shape_read : (front word : List ℕ) (fields : List (List ℕ)) (keyword : Keyword) → is_comment front ≡ false → words front ≡ word ∷ fields → is_text front ≡ true
    → keyword_named word ≡ Some keyword → takes keyword (length fields) ≡ true → shape front ≡ Ok (Some (record { keyword = keyword; fields = fields }))
shape_read front word fields keyword comment words_are text named count =
    ap (λ b. if b then Ok None else shape_of front (words front)) comment
    ∙ ap (shape_of front) words_are
    ∙ ap (λ b. if b then counted (keyword_named word) fields else Err BadByte) text
    ∙ ap (λ o. counted o fields) named
    ∙ ap (λ b. if b then Ok (Some (record { keyword = keyword; fields = fields })) else Err FieldCount) count

pub read_as : (line word : List ℕ) (fields : List (List ℕ)) (keyword : Keyword) → line ≡ joined word fields ++ 10 ∷ [] → AreSaid word fields → is_comment (joined word fields) ≡ false
    → keyword_named word ≡ Some keyword → takes keyword (length fields) ≡ true → IsReadAs line keyword fields
read_as line word fields keyword is said comment named count = record {
  front = joined word fields;
  alone = λ after. ap (λ l. lines (l ++ after)) is ∙ line_ends (joined word fields) after (joined_printed word fields said);
  asks = shape_read (joined word fields) word fields keyword comment (words_of word fields said) (joined_printed word fields said) named count;
}
