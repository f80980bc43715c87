-- How a text is read, chunk by chunk.
use Rattle.std.specs.Prelude.{◌≤◌, ℕ, List, length, Option}
use Rattle.nfs_describe.specs.Texts.{most_text_bytes}
use Rattle.nfs_source.specs.declared.source.TextFile.{TextFile}
use Rattle.nfs_source.specs.declared.source.TextFile.TheVariants.{Standard, Named}
use Rattle.nfs_xdr.specs.Known.{Shrinks, IsAtEnd}

-- what is left of standard input, or of a file
abbrev pub left_of : {I F : Type 0} → (I → Option (List ℕ)) → (F → Option (List ℕ)) → TextFile I F → Option (List ℕ)
left_of input file (Standard it) = input it
left_of input file (Named it) = file it

-- A text that a reader gave of what it had left, where that is known.
pub record IsRead (old : Option (List ℕ)) (text : List ℕ) (new : Option (List ℕ)) : Type 0 where
  pub short : length text ≤ most_text_bytes
  pub comes : Shrinks old text new

-- It is all that was left: nothing is left now.
abbrev pub IsRest : Option (List ℕ) → List ℕ → Option (List ℕ) → Type 0
IsRest old text new = IsRead old text new × IsAtEnd new
