-- What the lines of a description name, in their order, and the key that is drawn from it.
use Rattle.std.specs.Prelude.{ℕ, Bool, true, false, List, [], ◌∷◌, ◌++◌, take, Option, Some, None, if◌then◌else◌, codes}
use Rattle.sha2.specs.Sha256.{sha256}
use Rattle.nfs_text.specs.Words.{words}
use Rattle.nfs_load.specs.Lines.{is_comment, keyword_named}
use Rattle.nfs_load.specs.declared.line.Keyword.{Keyword}
use Rattle.nfs_load.specs.declared.line.Keyword.TheVariants.{Server, Limits, Names, Volume, Export, Dir, File, Link, Hard, Times}

-- what a line names: a path, and, where the file at it has another name, that path too, both as they are written
pub record PathRow : Type 0 where
  pub keyword : Keyword
  pub path : List ℕ
  pub old : Option (List ℕ)

-- ---- the row of a line

abbrev pub one_path : Keyword → List (List ℕ) → Option PathRow
one_path keyword [] = None
one_path keyword (path ∷ rest) = Some (record { keyword = keyword; path = path; old = None })

abbrev pub two_paths : Keyword → List (List ℕ) → Option PathRow
two_paths keyword [] = None
two_paths keyword (path ∷ []) = None
two_paths keyword (path ∷ old ∷ rest) = Some (record { keyword = keyword; path = path; old = Some old })

-- by the keyword, and the words after it
abbrev pub row_by : Keyword → List (List ℕ) → Option PathRow
row_by Server fields = None
row_by Limits fields = None
row_by Names fields = None
row_by Volume fields = one_path Volume fields
row_by Export fields = None
row_by Dir fields = one_path Dir fields
row_by File fields = one_path File fields
row_by Link fields = one_path Link fields
row_by Hard fields = two_paths Hard fields
row_by Times fields = None

abbrev pub row_if : Option Keyword → List (List ℕ) → Option PathRow
row_if None fields = None
row_if (Some keyword) fields = row_by keyword fields

abbrev pub row_in : List (List ℕ) → Option PathRow
row_in [] = None
row_in (word ∷ fields) = row_if (keyword_named word) fields

-- A line whose first byte is `#`, and one that begins with no keyword, name nothing.
abbrev pub row_of : List ℕ → Option PathRow
row_of line = if is_comment line then None else row_in (words line)

-- ---- the rows of all lines

abbrev pub onto : Option PathRow → List PathRow → List PathRow
onto None rows = rows
onto (Some row) rows = row ∷ rows

abbrev pub rows_of : List (List ℕ) → List PathRow
rows_of [] = []
rows_of (line ∷ rest) = onto (row_of line) (rows_of rest)

-- a line with this keyword makes a file, with the next number
abbrev pub makes_file : Keyword → Bool
makes_file Server = false
makes_file Limits = false
makes_file Names = false
makes_file Volume = true
makes_file Export = false
makes_file Dir = true
makes_file File = true
makes_file Link = true
makes_file Hard = false
makes_file Times = false

-- ---- the key

abbrev pub word_of : Keyword → List ℕ
word_of Server = codes "server"
word_of Limits = codes "limits"
word_of Names = codes "names"
word_of Volume = codes "volume"
word_of Export = codes "export"
word_of Dir = codes "dir"
word_of File = codes "file"
word_of Link = codes "link"
word_of Hard = codes "hard"
word_of Times = codes "times"

abbrev pub old_text : Option (List ℕ) → List ℕ
old_text None = []
old_text (Some old) = codes " " ++ old

-- the keyword and the paths, separated by a space each, and LF
abbrev pub path_text : PathRow → List ℕ
path_text row = word_of row.keyword ++ codes " " ++ row.path ++ old_text row.old ++ codes "\n"

abbrev pub paths_text : List PathRow → List ℕ
paths_text [] = []
paths_text (row ∷ rows) = path_text row ++ paths_text rows

-- what is named, and the server's key in 8 bytes
abbrev pub identity_text : List ℕ → List PathRow → List ℕ
identity_text key rows = paths_text rows ++ key

-- the key of the server's handles: the first 8 bytes of the digest
abbrev pub life_key : List ℕ → List PathRow → List ℕ
life_key key rows = take 8 (sha256 (identity_text key rows))
