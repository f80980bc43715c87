use Rattle.std.proofs.Common.{◌≡◌, ◌≤◌, ◌^◌, get_or, arith}
use Rattle.std.specs.Char.{digit_value}
use Rattle.std.proofs.lemmas.Bool.Decides.{nat_tests}
use Rattle.std.proofs.lemmas.Int.Digits.{digits_value_more}
use Rattle.nfs_text.proofs.Digits.{list_all_more}
use Rattle.nfs_load.specs.Fields.{is_octal_digit}
use Rattle.nfs_load.proofs.Numbers.{few_digits, digit_more}
use Rattle.nfs_load.proofs.field.read_mode.Goals as goal

pub overflow_mul-mode : goal.overflow_mul-mode
overflow_mul-mode c =
    let few : 8 ^ c.loop-byte.byte-index ≤ 512 = few_digits c.loop-byte.byte-index (omega (arith, c.loop-byte-test.true, c.if-field-gt-MAX_MODE_DIGITS.false)) in
    omega (arith, few, c.loop-byte.invariant.2)

pub overflow_add-mode : goal.overflow_add-mode
overflow_add-mode c =
    let few : 8 ^ c.loop-byte.byte-index ≤ 512 = few_digits c.loop-byte.byte-index (omega (arith, c.loop-byte-test.true, c.if-field-gt-MAX_MODE_DIGITS.false)) in
    omega (arith, few, c.loop-byte.invariant.2, c.from.ensures, c.if-byte-gt55.false)

pub loop-byte-preserved : goal.loop-byte-preserved
loop-byte-preserved c =
    let digit : digit_value (get_or c.args.field.now c.loop-byte.byte-index 0) ≡ c.from.result = grind (arith, nat_tests) in (
      omega (arith, digits_value_more 8 c.args.field.now _ c.loop-byte-test.true, c.loop-byte.invariant.0),
      list_all_more is_octal_digit _ _ 0 c.loop-byte-test.true c.loop-byte.invariant.1 (grind (arith, nat_tests)),
      digit_more c.loop-byte.mode c.from.result c.loop-byte.byte-index c.loop-byte.invariant.2 (omega (arith, c.from.ensures, c.if-byte-gt55.false)),
    )
