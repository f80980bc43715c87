-- What is to be done with a journal.
use Rattle.std.specs.Prelude.{ℕ, List, Option, Some, None, codes, bytes_eq, option_map, if◌then◌else◌}
use Rattle.clap.specs.declared.parser.matches.ArgMatches.{ArgMatches}
use Rattle.nfs_command_line.specs.Given.{text_given, text_of}
use Rattle.nfs_command_line.specs.declared.journal.JournalWork.{JournalWork}
use Rattle.nfs_command_line.specs.declared.journal.JournalWork.TheVariants as work

-- the journal in a file is looked at, or cut before its first damage, or the tree to which it leads from a description is described anew
pub data Asked : Type 0 where
  Check : List ℕ → Asked
  Cut : List ℕ → Asked
  Compact : List ℕ → List ℕ → List ℕ → Asked

-- what work was asked for
abbrev pub work_asked : JournalWork → Asked
work_asked (work.Check journal) = Check journal.now
work_asked (work.Cut journal) = Cut journal.now
work_asked (work.Compact tree journal new) = Compact tree.now journal.now new.now

-- the first file, where no second follows
abbrev pub alone : List ℕ → Option (List ℕ) → Option (List ℕ)
alone first None = Some first
alone first (Some second) = None

abbrev pub lone_file : ArgMatches → Option (List ℕ)
lone_file words = alone (text_of words (codes "first")) (text_given words (codes "second"))

-- three files, where they are all there
abbrev pub compact_of : List ℕ → Option (List ℕ) → Option (List ℕ) → Option Asked
compact_of tree None new = None
compact_of tree (Some journal) None = None
compact_of tree (Some journal) (Some new) = Some (Compact tree journal new)

-- what the words ask for, if they ask for any of it with as many files as it takes
abbrev pub asked_of : ArgMatches → Option Asked
asked_of words =
    if bytes_eq (text_of words (codes "word")) (codes "check") then option_map Check (lone_file words)
    else (if bytes_eq (text_of words (codes "word")) (codes "cut") then option_map Cut (lone_file words)
    else (if bytes_eq (text_of words (codes "word")) (codes "compact")
    then compact_of (text_of words (codes "first")) (text_given words (codes "second")) (text_given words (codes "third"))
    else None))
