-- The words that name trees, each with its own options.
use Rattle.std.specs.Prelude.{◌≡◌, ℕ, List, length, map, slice_get, Option, option_map, codes}
use Rattle.std.specs.Borrow.{Bor}
use Rattle.clap.specs.declared.parser.matches.ArgMatches.{ArgMatches}
use Rattle.nfs_command_line.specs.Given.{places_given, span_at, text_of, texts_given}
use Rattle.nfs_command_line.specs.declared.sharing.TreeWords.{TreeWords}
use Rattle.nfs_command_line.specs.declared.span.Span.TheVariants.{Whole}
use Rattle.nfs_command_line.specs.declared.trees.Trees.{Trees}

-- The only one of its command, for which all options are.
pub record IsAlone (words : Bor ArgMatches) (result : TreeWords) : Type 0 where
  pub words_are : result.words ≡ words
  pub name : result.name.now ≡ text_of words.now (codes "tree")
  pub span : result.span ≡ Whole

-- All that these words of a command name.
pub record AreNamed (words : Bor ArgMatches) (id : List ℕ) (result : Trees) : Type 0 where
  pub words_are : result.words ≡ words
  pub names : map (λ name. name.now) result.names.now ≡ texts_given words.now id
  pub places : result.places.now ≡ places_given words.now id
  pub at : result.at ≡ 0

-- the one with this name at a place in the list
abbrev pub tree_of : Trees → ℕ → Bor (List ℕ) → TreeWords
tree_of trees n name = record { words = trees.words; name = name; span = span_at (length trees.names.now) trees.places.now n }

-- the next one
abbrev pub next_of : Trees → Option TreeWords
next_of trees = option_map (tree_of trees trees.at) (slice_get trees.names.now trees.at)
