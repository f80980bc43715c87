-- Times as fields: seconds since 1970, and what is beyond them.
use Rattle.std.specs.Prelude.{ℕ, ◌*◌, ◌-◌, ◌^◌, ◌<◌, ◌&&◌, List, length, Option, Some, None, Result, Ok, Err, if◌then◌else◌, nat_le, nat_lt}
use Rattle.nfs_attrs.specs.declared.moment.Moment.{Moment}
use Rattle.nfs_text.specs.Chunks.{cut}
use Rattle.nfs_load.specs.Fields.{◌>>=◌, number_in}
use Rattle.nfs_load.specs.declared.cause.Cause.{Cause}
use Rattle.nfs_load.specs.declared.cause.Cause.TheVariants.{BadNumber}

abbrev pub seconds_in : List ℕ → Result ℕ Cause
seconds_in = number_in 0 4294967295

-- a number of such units
abbrev pub units_in : ℕ → ℕ → List ℕ → Result ℕ Cause
units_in max unit text = number_in 0 max text >>= (λ (n : ℕ). Ok (n * unit))

-- one to nine digits after a point: nanoseconds, where the ninth of them counts single ones
abbrev pub fraction_in : List ℕ → Result ℕ Cause
fraction_in text =
    if nat_lt 0 (length text) && nat_le (length text) 9
    then units_in (10 ^ length text - 1) (10 ^ (9 - length text)) text
    else Err BadNumber

-- the seconds and the nanoseconds
abbrev pub moment_of : Result ℕ Cause → Result ℕ Cause → Result Moment Cause
moment_of whole beyond = do
  seconds ← whole
  nanos ← beyond
  Ok (record { seconds = seconds; nanos = nanos })

-- what stands before a plus, and any number of nanoseconds after it
abbrev pub after_plus : List ℕ → Option (List ℕ) → Result Moment Cause
after_plus whole None = moment_of (seconds_in whole) (Ok 0)
after_plus whole (Some nanos) = moment_of (seconds_in whole) (number_in 0 4294967295 nanos)

-- what stands before a point, and a fraction after it
abbrev pub after_point : List ℕ → Option (List ℕ) → Result Moment Cause
after_point whole None = after_plus (cut 43 whole).0 (cut 43 whole).1
after_point whole (Some fraction) = moment_of (seconds_in whole) (fraction_in fraction)

-- SECONDS, SECONDS.FRACTION or SECONDS+NANOSECONDS
abbrev pub moment_in : List ℕ → Result Moment Cause
moment_in field = after_point (cut 46 field).0 (cut 46 field).1

-- two numbers of 32 bits (RFC 1813, section 2.6, nfstime3)
abbrev pub IsTime : Moment → Type 0
IsTime m = (m.seconds < 2 ^ 32) × (m.nanos < 2 ^ 32)
