-- The lines of a description, as far as each alone says what it asks for.
use Rattle.std.specs.Prelude.{ℕ, Bool, false, ◌&&◌, ◌||◌, List, [], ◌∷◌, length, Option, Some, None, option_map, Result, Ok, Err}
use Rattle.std.specs.Prelude.{if◌then◌else◌, nat_eq, nat_le, bytes_eq, codes}
use Rattle.std.specs.List.{list_all}
use Rattle.nfs_text.specs.Words.{words, words_left}
use Rattle.nfs_load.specs.declared.cause.Cause.{Cause}
use Rattle.nfs_load.specs.declared.cause.Cause.TheVariants.{BadByte, UnknownWord, FieldCount}
use Rattle.nfs_load.specs.declared.line.Keyword.{Keyword}
use Rattle.nfs_load.specs.declared.line.Keyword.TheVariants.{Server, Limits, Names, Volume, Export, Dir, File, Link, Hard, Times}
use Rattle.nfs_load.specs.declared.line.Line as kept

-- the byte `#`
abbrev pub is_comment : List ℕ → Bool
is_comment [] = false
is_comment (byte ∷ rest) = nat_eq byte 35

-- bytes of ASCII that are printed, and spaces
abbrev pub is_printable : ℕ → Bool
is_printable byte = nat_le 32 byte && nat_le byte 126

abbrev pub is_text : List ℕ → Bool
is_text line = list_all is_printable line

abbrev pub keyword_named : List ℕ → Option Keyword
keyword_named word =
    if bytes_eq word (codes "server") then Some Server
    else (if bytes_eq word (codes "limits") then Some Limits
    else (if bytes_eq word (codes "names") then Some Names
    else (if bytes_eq word (codes "volume") then Some Volume
    else (if bytes_eq word (codes "export") then Some Export
    else (if bytes_eq word (codes "dir") then Some Dir
    else (if bytes_eq word (codes "file") then Some File
    else (if bytes_eq word (codes "link") then Some Link
    else (if bytes_eq word (codes "hard") then Some Hard
    else (if bytes_eq word (codes "times") then Some Times
    else None)))))))))

-- whether a keyword takes so many fields
abbrev pub takes : Keyword → ℕ → Bool
takes Server count = nat_eq count 1
takes Limits count = nat_le 1 count && nat_le count 4
takes Names count = nat_eq count 1
takes Volume count = nat_eq count 6
takes Export count = nat_eq count 1 || nat_eq count 2
takes Dir count = nat_eq count 4
takes File count = nat_eq count 5
takes Link count = nat_eq count 4
takes Hard count = nat_eq count 2
takes Times count = nat_eq count 4

-- a line that asks for something: its keyword, and the words after it
pub record Line : Type 0 where
  pub keyword : Keyword
  pub fields : List (List ℕ)

abbrev pub counted : Option Keyword → List (List ℕ) → Result (Option Line) Cause
counted None fields = Err UnknownWord
counted (Some keyword) fields = if takes keyword (length fields) then Ok (Some (record { keyword = keyword; fields = fields })) else Err FieldCount

abbrev pub shape_of : List ℕ → List (List ℕ) → Result (Option Line) Cause
shape_of line [] = Ok None
shape_of line (word ∷ fields) = if is_text line then counted (keyword_named word) fields else Err BadByte

-- A line whose first byte is `#`, and one without words, asks for nothing. Else the first cause, or what it asks for.
abbrev pub shape : List ℕ → Result (Option Line) Cause
shape line = if is_comment line then Ok None else shape_of line (words line)

-- the words of a file's line before its content: the keyword, and four fields
abbrev pub are_before_content : List (List ℕ) → Bool
are_before_content [] = false
are_before_content (word ∷ fields) = bytes_eq word (codes "file") && nat_eq (length fields) 4

-- a text of these words
abbrev pub begins_file : List ℕ → Bool
begins_file begin = is_text begin && are_before_content (words begin)

-- a line that was read, without where it lies in memory
abbrev pub line_of : kept.Line → Line
line_of line = record { keyword = line.keyword; fields = words_left line.fields }

abbrev pub asked : Result (Option kept.Line) Cause → Result (Option Line) Cause
asked (Ok line) = Ok (option_map line_of line)
asked (Err cause) = Err cause
