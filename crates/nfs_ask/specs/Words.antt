-- What the words of an `ask` say.
use Rattle.std.specs.Prelude.{◌≡◌, ℕ, ◌+◌, ◌-◌, ◌*◌, Bool, true, false, ◌&&◌, List, [], ◌∷◌, ◌++◌, length, Option, Some, None, Result, Ok, Err}
use Rattle.std.specs.Prelude.{if◌then◌else◌, nat_le, nat_lt, bytes_eq, codes, option_map}
use Rattle.nfs_xdr.specs.Reading.{◌>>=◌}
use Rattle.nfs_text.specs.Numbers.{decimal_of}
use Rattle.nfs_text.specs.Chunks.{cut, chunks}
use Rattle.nfs_rpc.specs.AuthSys.{Credential}
use Rattle.nfs_inodes.specs.Tree.{on_some}
use Rattle.nfs_ask.specs.declared.fault.AskFault.{AskFault}
use Rattle.nfs_ask.specs.declared.fault.AskFault.TheVariants as fault
use Rattle.nfs_ask.specs.declared.fault.Wanted.{Wanted}
use Rattle.nfs_ask.specs.declared.fault.Wanted.TheVariants as wanted

-- ---- numbers

-- a word of 32 bits, and one of 64
abbrev pub number_of : List ℕ → Option ℕ
number_of word = decimal_of 4294967295 word

abbrev pub long_number_of : List ℕ → Option ℕ
long_number_of word = decimal_of 18446744073709551615 word

-- a number with one more octal digit, of at most 32 bits
abbrev pub octal_more : ℕ → ℕ → Option ℕ
octal_more n byte = if nat_le 48 byte && (nat_le byte 55 && nat_lt (n * 8 + (byte - 48)) 4294967296) then Some (n * 8 + (byte - 48)) else None

-- with more digits
abbrev pub octal_after : ℕ → List ℕ → Option ℕ
octal_after n [] = Some n
octal_after n (byte ∷ bytes) = on_some (octal_more n byte) None (λ m. octal_after m bytes)

-- one or more octal digits
abbrev pub octal_of : List ℕ → Option ℕ
octal_of [] = None
octal_of (byte ∷ bytes) = octal_after 0 (byte ∷ bytes)

-- ---- users

-- more groups, at most 16
abbrev pub gids_after : List ℕ → List (List ℕ) → Option (List ℕ)
gids_after gids [] = Some gids
gids_after gids (word ∷ words) = on_some (number_of word) None (λ gid. if nat_lt (length gids) 16 then gids_after (gids ++ gid ∷ []) words else None)

abbrev pub gids_of : Option (List ℕ) → Option (List ℕ)
gids_of None = Some []
gids_of (Some text) = gids_after [] (chunks 44 text)

abbrev pub groups_of : ℕ → Option (List ℕ) → Option Credential
groups_of uid None = Some (record { uid = uid; gid = uid; gids = [] })
groups_of uid (Some text) = on_some (number_of (cut 44 text).0) None (λ gid. on_some (gids_of (cut 44 text).1) None (λ gids.
    Some (record { uid = uid; gid = gid; gids = gids })))

-- UID[:GID[,GID..]]
abbrev pub user_of : List ℕ → Option Credential
user_of word = on_some (number_of (cut 58 word).0) None (λ uid. groups_of uid (cut 58 word).1)

-- ---- words that are taken from the front

-- what they say, and the words after them; or what is wanted in the place of the first that is wrong
abbrev pub Taken : Type 0 → Type 0
Taken A = Result (A × List (List ℕ)) Wanted

abbrev pub word_at : Wanted → List (List ℕ) → Taken (List ℕ)
word_at wanted [] = Err wanted
word_at wanted (word ∷ words) = Ok (word, words)

abbrev pub if_any : {A : Type 0} → Wanted → Option A → List (List ℕ) → Taken A
if_any wanted None words = Err wanted
if_any wanted (Some value) words = Ok (value, words)

abbrev pub value_at : {A : Type 0} → Wanted → (List ℕ → Option A) → List (List ℕ) → Taken A
value_at wanted value_of words = do
  word ← word_at wanted words
  if_any wanted (value_of word.0) word.1

abbrev pub number_at : List (List ℕ) → Taken ℕ
number_at words = value_at wanted.Word number_of words

abbrev pub long_number_at : List (List ℕ) → Taken ℕ
long_number_at words = value_at wanted.LongWord long_number_of words

abbrev pub mode_at : List (List ℕ) → Taken ℕ
mode_at words = value_at wanted.Mode octal_of words

-- what stands after `xid=` in a word that begins so
abbrev pub after_xid : List ℕ → Option (List ℕ)
after_xid word = if bytes_eq (cut 61 word).0 (codes "xid") then (cut 61 word).1 else None

-- the number of a call, where the first word begins so; any other word is left
abbrev pub xid_by : Option (List ℕ) → List (List ℕ) → List (List ℕ) → Taken (Option ℕ)
xid_by None all others = Ok (None, all)
xid_by (Some digits) all others = if_any wanted.Xid (option_map Some (number_of digits)) others

abbrev pub xid_at : List (List ℕ) → Taken (Option ℕ)
xid_at [] = Ok (None, [])
xid_at (word ∷ words) = xid_by (after_xid word) (word ∷ words) words

abbrev pub is_nothing : List (List ℕ) → Bool
is_nothing [] = true
is_nothing (word ∷ words) = false

-- nothing, where no word is left
abbrev pub end_at : List (List ℕ) → Taken (Unit {0})
end_at [] = Ok (tt, [])
end_at (word ∷ words) = Err wanted.Nothing

-- another value, where no word is left
abbrev pub or_else : {A : Type 0} → A → (List (List ℕ) → Taken A) → List (List ℕ) → Taken A
or_else other read [] = Ok (other, [])
or_else other read (word ∷ words) = read (word ∷ words)

-- What a reader of words answered is what they say; the place of a fault is left open.
abbrev pub Takes : {X A : Type 0} → (X → A) → List (List ℕ) → Result X AskFault → Taken A → Type 0
Takes view new (Ok x) read = read ≡ Ok (view x, new)
Takes view new (Err (fault.Word place wanted)) read = read ≡ Err wanted
Takes view new (Err fault.Memory) read = ⊥

abbrev pub IsFault : Wanted → AskFault → Type 0
IsFault wanted (fault.Word place other) = other ≡ wanted
IsFault wanted fault.Memory = ⊥
