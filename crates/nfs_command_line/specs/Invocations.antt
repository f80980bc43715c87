-- Which command the words ask for.
use Rattle.std.specs.Prelude.{◌≡◌, ℕ, List, Option, Some, None, codes, bytes_eq, option_map, option_and_then, if◌then◌else◌}
use Rattle.clap.specs.Words.{found_of, rows_of, subcommand_name_of, subcommand_rows_of}
use Rattle.std.specs.Borrow.{Bor}
use Rattle.clap.specs.declared.parser.matches.ArgMatches.{ArgMatches}
use Rattle.nfs_command_line.specs.declared.invocation.Invocation.{Invocation}
use Rattle.nfs_command_line.specs.declared.invocation.Invocation.TheVariants.{Check, Why, Exports, Replay, Serve, Control, Journal, Describe, Extract, SelfCall}

-- the command of a name, with the words of its arguments
abbrev pub invocation_of : List ℕ → Bor ArgMatches → Option Invocation
invocation_of name words =
    if bytes_eq name (codes "check") then Some (Check (record { words = words }))
    else (if bytes_eq name (codes "why") then Some (Why (record { words = words }))
    else (if bytes_eq name (codes "exports") then Some (Exports (record { words = words }))
    else (if bytes_eq name (codes "replay") then Some (Replay (record { words = words }))
    else (if bytes_eq name (codes "serve") then Some (Serve (record { words = words }))
    else (if bytes_eq name (codes "control") then Some (Control (record { words = words }))
    else (if bytes_eq name (codes "journal") then Some (Journal (record { words = words }))
    else (if bytes_eq name (codes "describe") then Some (Describe (record { words = words }))
    else (if bytes_eq name (codes "extract") then Some (Extract (record { words = words }))
    else (if bytes_eq name (codes "self") then Some (SelfCall (record { words = words }))
    else None)))))))))

-- what the words ask for: the command of the subcommand that they name, with its own words
pub record Asks (matches : ArgMatches) (result : Option Invocation) : Type 0 where
  pub subcommand : Option (Bor (List ℕ) × Bor ArgMatches)
  pub name : option_map (λ p. p.0.now) subcommand ≡ subcommand_name_of matches
  pub words : option_map (λ p. rows_of (found_of p.1.now)) subcommand ≡ option_map (λ p. p.1) (subcommand_rows_of matches)
  pub invocation : result ≡ option_and_then (λ p. invocation_of p.0.now p.1) subcommand
