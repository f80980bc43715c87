use Rattle.std.proofs.Common.{◌≡◌, get_or, sym, ◌∙◌, arith}
use Rattle.std.specs.Char.{is_ascii_digit, digit_value}
use Rattle.std.proofs.lemmas.Bool.{and_left, and_right}
use Rattle.std.proofs.lemmas.Bool.Decides.{nat_tests}
use Rattle.std.proofs.lemmas.Int.Digits.{digits_value_more}
use Rattle.nfs_text.proofs.Digits.{list_all_more, list_all_fails, no_number, too_large}
use Rattle.nfs_text.proofs.number.decimal.Goals as goal

pub returns-then-not-is_ascii_digit-clause-read : goal.returns-then-not-is_ascii_digit-clause-read
returns-then-not-is_ascii_digit-clause-read c =
    let fails = list_all_fails is_ascii_digit c.args.text.now c.loop-byte.byte-index 0 c.loop-byte-test.true (sym c.if-not-is_ascii_digit.ensures.value) in
    no_number c.args.max c.args.text.now (and_right _ _ (and_left _ _ fails))

pub returns-in_err-checked_mul-clause-read : goal.returns-in_err-checked_mul-clause-read
returns-in_err-checked_mul-clause-read c =
    c.from_residual.ensures ∙ no_number c.args.max c.args.text.now (too_large _ _ _ c.loop-byte-test.true (omega (arith, c.ranges.max.fits, c.in_err-checked_mul.ensures, c.loop-byte.invariant.0)))

pub returns-in_err-number-clause-read : goal.returns-in_err-number-clause-read
returns-in_err-number-clause-read c =
    let digit : digit_value (get_or c.args.text.now c.loop-byte.byte-index 0) ≡ c.from.result = grind (arith, nat_tests) in
    c.from_residual-in_err-number.ensures ∙ no_number c.args.max c.args.text.now (too_large _ _ _ c.loop-byte-test.true (omega (arith, c.ranges.max.fits, c.in_err-number.ensures, c.in_ok-checked_mul.ensures.1, c.loop-byte.invariant.0)))

pub loop-byte-preserved : goal.loop-byte-preserved
loop-byte-preserved c =
    let digit : digit_value (get_or c.args.text.now c.loop-byte.byte-index 0) ≡ c.from.result = grind (arith, nat_tests) in (
      omega (arith, digits_value_more 10 c.args.text.now _ c.loop-byte-test.true, c.in_ok-number.ensures.1, c.in_ok-checked_mul.ensures.1, c.loop-byte.invariant.0),
      list_all_more is_ascii_digit _ _ 0 c.loop-byte-test.true c.loop-byte.invariant.1 (sym c.if-not-is_ascii_digit.ensures.value),
      omega (arith, c.in_ok-number.ensures.0, c.in_ok-number.ensures.1),
    )
