-- What the code of a rule, and that of some in a row, answers.
use Rattle.std.specs.Prelude.{◌≡◌, true, false, List, Some, None, Result, Ok, Err}
use Rattle.nfs_rules.specs.Tests.{Test, first}
use Rattle.nfs_rules.specs.declared.rule.Rule.{Rule}

-- the rule of a test that is failed
abbrev pub Reports : {X : Type 0} → Result X Rule → Test → Type 0
Reports (Ok x) test = test.1 ≡ false
Reports (Err rule) test = (test.1 ≡ true) × (rule ≡ test.0)

-- the first rule that is failed
abbrev pub Judges : {X : Type 0} → Result X Rule → List Test → Type 0
Judges (Ok x) tests = first tests ≡ None
Judges (Err rule) tests = first tests ≡ Some rule
