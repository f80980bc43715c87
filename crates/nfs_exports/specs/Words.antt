-- What one word of a text of options says (exports(5), "General Options" and "User ID Mapping").
use Rattle.std.specs.Prelude.{ℕ, Bool, true, false, List, [], ◌∷◌, Option, Some, None, Result, Ok, Err, if◌then◌else◌, bytes_eq, codes}
use Rattle.std.specs.Option.{ok_or}
use Rattle.std.specs.List.{list_any}
use Rattle.nfs_text.specs.Numbers.{decimal_of}
use Rattle.nfs_text.specs.Chunks.{cut}
use Rattle.nfs_exports.specs.declared.options.OptionsFault.{OptionsFault}
use Rattle.nfs_exports.specs.declared.options.OptionsFault.TheVariants.{UnknownOption, UnsupportedOption, BadNumber}
use Rattle.nfs_exports.specs.declared.setting.Setting.{Setting}
use Rattle.nfs_exports.specs.declared.setting.Setting.TheVariants.{ReadOnly, RootSquash, AllSquash, AnonUid, AnonGid, Nothing}

infixl 20 ◌>>=◌
abbrev pub ◌>>=◌ : {A B : Type 0} → Result A OptionsFault → (A → Result B OptionsFault) → Result B OptionsFault
(Ok x) >>= f = f x
(Err fault) >>= f = Err fault

-- what is not served here, with `=` or without
abbrev pub unsupported : List (List ℕ)
unsupported = codes "secure" ∷ codes "subtree_check" ∷ codes "no_wdelay" ∷ codes "nohide" ∷ codes "crossmnt" ∷ codes "mountpoint"
    ∷ codes "mp" ∷ codes "fsid" ∷ []

abbrev pub is_unsupported : List ℕ → Bool
is_unsupported name = list_any (λ word. bytes_eq word name) unsupported

-- what has no effect here
abbrev pub without_effect : List (List ℕ)
without_effect = codes "sync" ∷ codes "async" ∷ codes "insecure" ∷ codes "no_subtree_check" ∷ codes "wdelay" ∷ codes "hide" ∷ []

abbrev pub is_without_effect : List ℕ → Bool
is_without_effect name = list_any (λ word. bytes_eq word name) without_effect

-- what is said by a word alone; `sec` wants a kind of security
abbrev pub flag_of : List ℕ → Result Setting OptionsFault
flag_of name =
    if bytes_eq name (codes "ro") then Ok (ReadOnly true)
    else (if bytes_eq name (codes "rw") then Ok (ReadOnly false)
    else (if bytes_eq name (codes "root_squash") then Ok (RootSquash true)
    else (if bytes_eq name (codes "no_root_squash") then Ok (RootSquash false)
    else (if bytes_eq name (codes "all_squash") then Ok (AllSquash true)
    else (if bytes_eq name (codes "no_all_squash") then Ok (AllSquash false)
    else (if bytes_eq name (codes "sec") then Err UnsupportedOption
    else (if is_without_effect name then Ok Nothing
    else Err UnknownOption)))))))

-- an id is digits to 4294967295
abbrev pub id_of : List ℕ → Result ℕ OptionsFault
id_of text = ok_or (decimal_of 4294967295 text) BadNumber

-- what is said with a value; the one kind of security is `sys`
abbrev pub value_of : List ℕ → List ℕ → Result Setting OptionsFault
value_of name value =
    if bytes_eq name (codes "anonuid") then (do
      id ← id_of value
      Ok (AnonUid id))
    else (if bytes_eq name (codes "anongid") then (do
      id ← id_of value
      Ok (AnonGid id))
    else (if bytes_eq name (codes "sec") then (if bytes_eq value (codes "sys") then Ok Nothing else Err UnsupportedOption)
    else Err UnknownOption))

-- a name, and a value after `=` where there is one
abbrev pub parts_of : List ℕ × Option (List ℕ) → Result Setting OptionsFault
parts_of (name, None) = if is_unsupported name then Err UnsupportedOption else flag_of name
parts_of (name, Some value) = if is_unsupported name then Err UnsupportedOption else value_of name value

abbrev pub setting_of : List ℕ → Result Setting OptionsFault
setting_of word = parts_of (cut 61 word)
