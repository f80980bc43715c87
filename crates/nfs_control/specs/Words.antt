-- What a line asks a service for.
use Rattle.std.specs.Prelude.{ℕ, List, take, drop, Option, Some, None, option_map, Result, Ok, Err, bytes_eq, nat_lt, codes, if◌then◌else◌}
use Rattle.nfs_text.specs.Numbers.{decimal_of}
use Rattle.nfs_control.specs.declared.words.Word.{Word}
use Rattle.nfs_control.specs.declared.words.Word.TheVariants as word
use Rattle.nfs_control.specs.declared.words.WordFault.{WordFault}

-- how it stands, its clients, its mounts, so many of the calls that it denied, its metrics, that its exports are read again, a copy of its tree in a file, or where it saves it, or its end, with a copy in a file or without
pub data Asked : Type 0 where
  Status : Asked
  Clients : Asked
  Mounts : Asked
  Denied : ℕ → Asked
  Metrics : Asked
  Reload : Asked
  Save : Option (List ℕ) → Asked
  Stop : Option (List ℕ) → Asked

-- what a word that was read asks for, if one was
abbrev pub asked_by : Result Word WordFault → Option Asked
asked_by (Ok word.Status) = Some Status
asked_by (Ok word.Clients) = Some Clients
asked_by (Ok word.Mounts) = Some Mounts
asked_by (Ok (word.Denied most)) = Some (Denied most)
asked_by (Ok word.Metrics) = Some Metrics
asked_by (Ok word.Reload) = Some Reload
asked_by (Ok (word.Save name)) = Some (Save (option_map (λ n. n.now) name))
asked_by (Ok (word.Stop name)) = Some (Stop (option_map (λ n. n.now) name))
asked_by (Err fault) = None

-- a number of denied calls from 1 to 1,024
abbrev pub some_denied : Option ℕ → Option Asked
some_denied None = None
some_denied (Some most) = if nat_lt 0 most then Some (Denied most) else None

abbrev pub denied_of : List ℕ → Option Asked
denied_of number = some_denied (decimal_of 1024 number)

-- a number follows `denied` and a space
abbrev pub numbered_of : List ℕ → Option Asked
numbered_of line = if bytes_eq (take 7 line) (codes "denied ") then denied_of (drop 7 line) else None

-- after `stop` and a space, the name of a file is all that follows `--save` and a space
abbrev pub stop_of : List ℕ → Option Asked
stop_of rest = if bytes_eq (take 7 rest) (codes "--save ") then Some (Stop (Some (drop 7 rest))) else None

-- the name of a file is all that follows `save` and a space
abbrev pub further_of : List ℕ → Option Asked
further_of line =
    if bytes_eq (take 5 line) (codes "save ") then Some (Save (Some (drop 5 line)))
    else (if bytes_eq (take 5 line) (codes "stop ") then stop_of (drop 5 line)
    else numbered_of line)

-- what a line asks for
abbrev pub word_of : List ℕ → Option Asked
word_of line =
    if bytes_eq line (codes "status") then Some Status
    else (if bytes_eq line (codes "clients") then Some Clients
    else (if bytes_eq line (codes "mounts") then Some Mounts
    else (if bytes_eq line (codes "denied") then Some (Denied 20)
    else (if bytes_eq line (codes "metrics") then Some Metrics
    else (if bytes_eq line (codes "reload") then Some Reload
    else (if bytes_eq line (codes "save") then Some (Save None)
    else (if bytes_eq line (codes "stop") then Some (Stop None)
    else further_of line)))))))
