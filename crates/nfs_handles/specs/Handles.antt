-- File handles (RFC 1813, section 2.6, nfs_fh3): which bytes name a file, and what bytes read as.
use Rattle.std.specs.Prelude.{◌≡◌, ℕ, Bool, not, ◌&&◌, ◌||◌, List, [], ◌∷◌, ◌++◌, length, take, drop, Option, Some, None, option_map}
use Rattle.std.specs.Prelude.{if◌then◌else◌, nat_eq, nat_le, bytes_eq}
use Rattle.std.specs.Int.{w32, w64, to_be_bytes, from_be_bytes}
use Rattle.nfs_handles.specs.NumberedFiles.{TaggedFile, NumberedFiles, at, value_at}
use Rattle.nfs_handles.specs.declared.number.Number.{Number}
use Rattle.nfs_handles.specs.declared.reading.Reading.{Reading}
use Rattle.nfs_handles.specs.declared.reading.Reading.TheVariants.{Live, Stale, Bad}
use Rattle.nfs_handles.specs.declared.reading.NoFile.{NoFile}
use Rattle.nfs_handles.specs.declared.reading.NoFile.TheVariants as no_file

-- the bytes `NFS3`
abbrev pub magic : List ℕ
magic = 0x4e ∷ 0x46 ∷ 0x53 ∷ 0x33 ∷ []

-- `NFS3`, the server's key in 8 bytes, the file's tag in 4 and its number in 8
abbrev pub handle_text : List ℕ → ℕ → ℕ → List ℕ
handle_text key tag n = magic ++ key ++ to_be_bytes w32 tag ++ to_be_bytes w64 n

abbrev pub handle_at : {T : Type 0} → NumberedFiles T → ℕ → Option (List ℕ)
handle_at t n = option_map (λ file. handle_text t.key file.tag n) (at t n)

-- the parts of a handle
abbrev pub magic_in : List ℕ → List ℕ
magic_in bytes = take 4 bytes

abbrev pub key_in : List ℕ → List ℕ
key_in bytes = take 8 (drop 4 bytes)

abbrev pub tag_in : List ℕ → ℕ
tag_in bytes = from_be_bytes w32 (take 4 (drop 12 bytes))

abbrev pub number_in : List ℕ → ℕ
number_in bytes = from_be_bytes w64 (take 8 (drop 16 bytes))

abbrev pub is_shaped : List ℕ → Bool
is_shaped bytes = nat_eq (length bytes) 24 && bytes_eq (magic_in bytes) magic

-- a number with no hint
abbrev pub number : ℕ → Number
number n = record { 0 = n; 1 = record { 0 = 0 } }

-- the file that lives at n, where it has this tag; else its handle has outlived it
abbrev pub live_with : {T : Type 0} → ℕ → ℕ → Option (TaggedFile T) → Reading
live_with tag n None = Stale
live_with tag n (Some file) = if nat_eq tag file.tag then Live (number n) else Stale

-- The first of these that applies: bytes that are no handle are bad; a handle of another server is stale; a
-- number that was not given is bad; a file that lives; and else the file is gone.
abbrev pub reading : {T : Type 0} → NumberedFiles T → List ℕ → Reading
reading t bytes =
    if not (is_shaped bytes) then Bad
    else (if not (bytes_eq (key_in bytes) t.key) then Stale
    else (if nat_eq (number_in bytes) 0 || nat_le t.next (number_in bytes) then Bad
    else live_with (tag_in bytes) (number_in bytes) (at t (number_in bytes))))

-- what a handle reads as that names no file
abbrev pub reading_without : NoFile → Reading
reading_without no_file.Stale = Stale
reading_without no_file.Bad = Bad

-- bytes read as file n, which has this value
abbrev pub Names : {T : Type 0} → NumberedFiles T → List ℕ → Number → T → Type 0
Names t bytes n v = (reading t bytes ≡ Live (number n.0)) × (value_at t n.0 ≡ Some v)

-- a file with this tag lives at n, and has this value
abbrev pub LivesWith : {T : Type 0} → NumberedFiles T → ℕ → ℕ → T → Type 0
LivesWith t tag n v = (live_with tag n (at t n) ≡ Live (number n)) × (value_at t n ≡ Some v)
