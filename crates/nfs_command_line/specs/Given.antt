-- What the words of a command give its arguments, each by its id.
use Rattle.std.specs.Prelude.{◌≡◌, ℕ, ◌+◌, Bool, true, false, List, [], length, take, drop, count_by, slice_get, nat_lt, if◌then◌else◌, Option, Some, None, Result, codes, option_map, unwrap_or}
use Rattle.clap.specs.Words.{first_value, found_of, matched_of, one_text, raw_values, ReadsOne}
use Rattle.clap.specs.declared.parser.matches.ArgMatches.{ArgMatches}
use Rattle.nfs_command_line.specs.declared.span.Span.{Span}
use Rattle.nfs_command_line.specs.declared.span.Span.TheVariants.{Whole, Between}

-- the text of an argument, if it is given
abbrev pub text_given : ArgMatches → List ℕ → Option (List ℕ)
text_given words id = first_value (found_of words) id

-- the text of an argument that has to be there
abbrev pub text_of : ArgMatches → List ℕ → List ℕ
text_of words id = unwrap_or (text_given words id) []

-- the texts of an argument that may be repeated
abbrev pub texts_given : ArgMatches → List ℕ → List (List ℕ)
texts_given words id = unwrap_or (option_map raw_values (matched_of (found_of words) id)) []

-- whether a flag is set, as the library reads it
pub record IsFlag (words : ArgMatches) (id : List ℕ) (result : Bool) : Type 0 where
  pub none : one_text (found_of words) id ≡ None → result ≡ false
  pub set : one_text (found_of words) id ≡ Some (codes "true") → result ≡ true
  pub unset : one_text (found_of words) id ≡ Some (codes "false") → result ≡ false

-- the number of a text, if there is one, as a text of its type reads
pub record IsRead {T E : Type 0} (reads : List ℕ → Result T E → Type 0) (shown : Option (List ℕ)) (result : Option T) : Type 0 where
  pub none : shown ≡ None → result ≡ None
  pub given : (text : List ℕ) → shown ≡ Some text → ReadsOne reads text result

-- the number of an argument, if one is given
abbrev pub IsNumber : {T E : Type 0} → (List ℕ → Result T E → Type 0) → ArgMatches → List ℕ → Option T → Type 0
IsNumber reads words id result = IsRead reads (one_text (found_of words) id) result

-- the number of an argument, and without one this number
abbrev pub IsNumberOr : {E : Type 0} → ℕ → (List ℕ → Result ℕ E → Type 0) → ArgMatches → List ℕ → ℕ → Type 0
IsNumberOr default reads words id result = (number : Option ℕ) × IsNumber reads words id number × (result ≡ unwrap_or number default)

-- ---- the options of one of several directories

-- the places of the values of an argument among the words, from 1, in their order
abbrev pub places_given : ArgMatches → List ℕ → List ℕ
places_given words id = unwrap_or (option_map (λ matched. matched.indices.items) (matched_of (found_of words) id)) []

-- how many of these places are before a place
abbrev pub count_before : ℕ → List ℕ → ℕ
count_before place places = count_by (λ other. nat_lt other place) places

-- the items from one place of a list up to another
abbrev pub slice_of : {T : Type 0} → ℕ → ℕ → List T → List T
slice_of start end items = drop start (take end items)

-- how many of the items at these places are before a place, where there is one
abbrev pub end_of : {T : Type 0} → Option ℕ → List ℕ → List T → ℕ
end_of None places items = length items
end_of (Some to) places items = count_before to places

-- the texts of an option that stand in a span, where their places are in their order
abbrev pub texts_in : Span → ArgMatches → List ℕ → List (List ℕ)
texts_in Whole words id = texts_given words id
texts_in (Between from to) words id =
    slice_of (count_before from (places_given words id)) (end_of to (places_given words id) (texts_given words id)) (texts_given words id)

-- the first of them
abbrev pub text_in : Span → ArgMatches → List ℕ → Option (List ℕ)
text_in Whole words id = text_given words id
text_in (Between from to) words id = slice_get (texts_in (Between from to) words id) 0

-- the same of a number
abbrev pub number_in : Span → ArgMatches → List ℕ → Option (List ℕ)
number_in Whole words id = one_text (found_of words) id
number_in (Between from to) words id = text_in (Between from to) words id

-- What stands from the place of a directory on is for it, up to that of the next one. What is alone has all.
abbrev pub span_at : ℕ → List ℕ → ℕ → Span
span_at count places n = if nat_lt count 2 then Whole else Between (unwrap_or (slice_get places n) 0) (slice_get places (n + 1))
