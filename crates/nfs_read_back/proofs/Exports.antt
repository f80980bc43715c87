-- The line of an export, and what it says.
use Rattle.std.proofs.Common.{◌≡◌, ℕ, List, [], ◌∷◌, Ok, refl, ap, ◌∙◌}
use Rattle.std.specs.Prelude.{Result, codes}
use Rattle.nfs_exports.specs.declared.options.Options.{Options}
use Rattle.nfs_exports.specs.declared.pattern.Pattern.{Pattern}
use Rattle.nfs_load.specs.Fields.{◌>>=◌, after, found_pattern, options_at, options_in, options_or_cause, pattern_in}
use Rattle.nfs_load.specs.Statements.{export_in}
use Rattle.nfs_load.specs.declared.cause.Cause.{Cause}
use Rattle.nfs_load.specs.declared.line.Keyword.TheVariants as keyword
use Rattle.nfs_describe.specs.Lines.{export_line, options_text, pattern_text}
use Rattle.nfs_read_back.specs.ReadBack as law
use Rattle.nfs_read_back.proofs.ExportOptions.{options_read, options_said}
use Rattle.nfs_read_back.proofs.Lines.{read_as}
use Rattle.nfs_read_back.proofs.Patterns.{pattern_read, pattern_said}
use Rattle.nfs_read_back.proofs.Statements.{hard_words, space}

export_read : (p o : List ℕ) (pattern : Pattern) (options : Options) → pattern_in p ≡ Ok pattern → options_in o ≡ Ok options → export_in (p ∷ o ∷ []) ≡ Ok (record { pattern = pattern; options = options }, [])
export_read p o pattern options is says =
    ap (λ (r : Result Pattern Cause). after (o ∷ []) r >>= (λ (pattern : Pattern × List (List ℕ)). options_at pattern.1 >>= (λ (options : Options × List (List ℕ)). Ok (record { pattern = pattern.0; options = options.0 }, options.1)))) is
    ∙ ap (λ (r : Result Options Cause). after [] r >>= (λ (options : Options × List (List ℕ)). Ok (record { pattern = pattern; options = options.0 }, options.1))) says

pub exports : law.ExportsAreReadBack
exports e is = (
  pattern_text e.pattern ∷ options_text e.options ∷ [],
  read_as (export_line e) (codes "export") (pattern_text e.pattern ∷ options_text e.options ∷ []) keyword.Export
      (hard_words (codes "export ") (codes " ") (pattern_text e.pattern) (options_text e.options) (10 ∷ []) space)
      (refl, (pattern_said e.pattern is.0 is.1, options_said e.options is.2 is.3)) refl refl refl,
  export_read (pattern_text e.pattern) (options_text e.options) e.pattern e.options
      (ap found_pattern (pattern_read e.pattern is.0 is.1)) (ap options_or_cause (options_read e.options is.2 is.3)),
)
