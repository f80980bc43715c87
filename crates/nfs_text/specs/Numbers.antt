-- Numbers in decimal digits.
use Rattle.std.specs.Prelude.{ℕ, Bool, List, Option, Some, None, ◌&&◌, length, nat_lt, nat_le, if◌then◌else◌}
use Rattle.std.specs.List.{list_all}
use Rattle.std.specs.Char.{is_ascii_digit}
use Rattle.std.specs.Str.Parse.{digits_value}

-- one or more digits, whose value is at most max; leading zeros count as digits
abbrev pub is_decimal : ℕ → List ℕ → Bool
is_decimal max text = nat_lt 0 (length text) && (list_all is_ascii_digit text && nat_le (digits_value 10 text) max)

abbrev pub decimal_of : ℕ → List ℕ → Option ℕ
decimal_of max text = if is_decimal max text then Some (digits_value 10 text) else None
