-- Judgements of calls.
use Rattle.std.specs.Prelude.{◌≡◌, ◌⊎◌, ℕ, List, Option, Some, None, map}
use Rattle.nfs_args.specs.declared.args.NfsArgs.{NfsArgs}
use Rattle.nfs_exports.specs.declared.export_table.Export.{Export}
use Rattle.nfs_inodes.specs.Tree.{Tree}
use Rattle.nfs_rules.specs.Subjects.{Caller, Subject, subject_at}
use Rattle.nfs_rules.specs.Table.{rules_of}
use Rattle.nfs_rules.specs.Tests.{first}
use Rattle.nfs_rules.specs.Verdicts.{handles_in, handles_rules}
use Rattle.nfs_rules.specs.declared.rule.Rule.{Rule}
use Rattle.nfs_why.specs.declared.judgement.Judgement.{Judgement}
use Rattle.nfs_why.specs.declared.judgement.Judgement.TheVariants.{Unreached, Judged}

-- of a call with two handles, or one that is given twice: the first rule of its handles that fails; or where none does, the rules of
-- its procedure for the files of these handles, by their names and in the order of the table, and the first of them that fails
abbrev pub IsJudged : Tree → List (List Export) → Caller → List ℕ → List ℕ → NfsArgs → Judgement → Type 0
IsJudged t exports caller one two args (Unreached rule) = first (handles_rules t exports caller (handles_in args)) ≡ Some rule
IsJudged t exports caller one two args (Judged rules failure) = (s : Subject) × ((u : Subject)
    × ((first (handles_rules t exports caller (handles_in args)) ≡ None)
    × ((subject_at t exports caller one ≡ Some s) × ((subject_at t exports caller two ≡ Some u)
    × ((rules.now ≡ map (λ test. test.0) (rules_of s u args)) × (failure ≡ first (rules_of s u args)))))))

-- the call's own handles pass, and one of the given ones names no file that the caller may see
abbrev pub IsUnjudged : Tree → List (List Export) → Caller → List ℕ → List ℕ → NfsArgs → Type 0
IsUnjudged t exports caller one two args = (first (handles_rules t exports caller (handles_in args)) ≡ None)
    × ((subject_at t exports caller one ≡ None) ⊎ (subject_at t exports caller two ≡ None))

-- the first rule that fails, whether of the handles or of the procedure
abbrev pub failure_of : Judgement → Option Rule
failure_of (Unreached rule) = Some rule
failure_of (Judged rules failure) = failure
