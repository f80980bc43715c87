-- Pages of a directory: which entries READDIR and READDIRPLUS answer (RFC 1813, sections 3.3.16 and 3.3.17), and how.
use Rattle.std.specs.Prelude.{◌≡◌, ℕ, zero, suc, ◌+◌, Bool, not, ◌&&◌, ◌||◌, true, false, List, ◌++◌, map, length, sum_by, take, min}
use Rattle.std.specs.Prelude.{nat_eq, nat_le, Option, None, Result, Ok, Err, if◌then◌else◌}
use Rattle.nfs_xdr.specs.Encoding.{padding}
use Rattle.nfs_xdr.specs.Written.{Written, Appends}
use Rattle.nfs_attrs.specs.declared.fattr.Fattr.{Fattr}
use Rattle.nfs_handles.specs.Handles.{handle_at}
use Rattle.nfs_inodes.specs.Tree.{Tree, Entry}
use Rattle.nfs_inodes.specs.Reading.{listing_at, entries_beyond, attributes_at, numbered_files}
use Rattle.nfs_args.specs.Chains.{AreEncoded, links_text}
use Rattle.nfs_args.specs.Sizes.{max_page}
use Rattle.nfs_args.specs.Pages.{IsEntry, IsEntryPlus, entry_text, entry_plus_text, page_end_text}
use Rattle.nfs_args.specs.declared.entry.Entry as reported
use Rattle.nfs_args.specs.declared.entry_plus.EntryPlus as reported_plus
use Rattle.nfs_dirs.specs.declared.answer.WrittenPage.{WrittenPage}
use Rattle.nfs_dirs.specs.declared.answer.TooSmall.{TooSmall}

-- ---- sizes

-- the bytes of a page beside its entries: the directory's attributes, a verifier, and two words after the entries
abbrev pub page_head_bytes : ℕ
page_head_bytes = 104

-- of those, what stands in front of the entries
abbrev pub page_front_bytes : ℕ
page_front_bytes = 96

-- an entry's word, its number, its name with its length and its padding, and its cookie
abbrev pub entry_bytes : Entry → ℕ
entry_bytes e = 24 + length e.name + padding (length e.name)

-- READDIRPLUS: beside that its attributes and its handle, or that there are none
abbrev pub plus_bytes : Bool → ℕ
plus_bytes searchable = if searchable then 120 else 8

-- ---- what fits

-- READDIR: the page with these entries has at most so many bytes
abbrev pub fits : ℕ → List Entry → Bool
fits count es = nat_le (page_head_bytes + sum_by entry_bytes es) (min count max_page)

-- READDIRPLUS: so too, and of two or more entries all numbers, names and cookies have at most so many
abbrev pub fits_plus : ℕ → ℕ → Bool → List Entry → Bool
fits_plus dircount maxcount searchable es =
    nat_le (page_head_bytes + sum_by (λ e. entry_bytes e + plus_bytes searchable) es) (min maxcount max_page)
    && (nat_le (length es) 1 || nat_le (sum_by entry_bytes es) dircount)

-- the greatest number up to n that passes, or 0
abbrev pub most : (ℕ → Bool) → ℕ → ℕ
most p zero = 0
most p (suc n) = if p (suc n) then suc n else most p n

-- how many the longest prefix that passes has
abbrev pub count_of : (List Entry → Bool) → List Entry → ℕ
count_of passes left = most (λ n. passes (take n left)) (length left)

-- the longest prefix that passes
abbrev pub chosen : (List Entry → Bool) → List Entry → List Entry
chosen passes left = take (count_of passes left) left

-- that is all
abbrev pub is_end : (List Entry → Bool) → List Entry → Bool
is_end passes left = nat_eq (count_of passes left) (length left)

-- not even the first passes, or no entry at all
abbrev pub is_too_small : (List Entry → Bool) → List Entry → Bool
is_too_small passes left = not (passes (take 1 left))

-- ---- pages

-- what is left of a directory after a cookie: `.`, `..` and its entries, those with greater cookies
abbrev pub left_after : Tree → ℕ → ℕ → List Entry
left_after t d cookie = entries_beyond cookie (listing_at t d)

-- entry3
abbrev pub entry_reported : Entry → reported.Entry
entry_reported e = record { fileid = e.number; name = e.name; cookie = e.cookie }

-- entryplus3 with what the file is
abbrev pub entry_plus_with : Entry → Option Fattr → Option (List ℕ) → reported_plus.EntryPlus
entry_plus_with e attributes handle = record { fileid = e.number; name = e.name; cookie = e.cookie; attributes = attributes; file = handle }

-- what the file is, where the caller may search the directory
abbrev pub entry_plus_reported : Tree → Bool → Entry → reported_plus.EntryPlus
entry_plus_reported t searchable e = entry_plus_with e
    (if searchable then attributes_at t e.number else None)
    (if searchable then handle_at (numbered_files t) e.number else None)

-- A page of what is left is appended: the longest prefix that passes, each entry of it as it is encoded, and
-- whether that is all. Or nothing is, where not even the first entry passes.
abbrev pub AnswersPage : (List Entry → Bool) → (List Entry → List ℕ) → (List Entry → Type 0) → List Entry → Result WrittenPage TooSmall
    → Written → Written → Type 0
AnswersPage passes text Encoded left (Ok page) old new =
    (is_too_small passes left ≡ false) × (page ≡ record { given = count_of passes left; eof = is_end passes left })
    × Appends (text (chosen passes left) ++ page_end_text (is_end passes left)) old new × Encoded (chosen passes left)
AnswersPage passes text Encoded left (Err refusal) old new = (is_too_small passes left ≡ true) × (new ≡ old)

-- the chains of READDIR and READDIRPLUS, without their ends
abbrev pub entries_text : List Entry → List ℕ
entries_text es = links_text entry_text (map entry_reported es)

abbrev pub entries_plus_text : Tree → Bool → List Entry → List ℕ
entries_plus_text t searchable es = links_text entry_plus_text (map (entry_plus_reported t searchable) es)

-- their texts are encodings
abbrev pub EntriesEncoded : List Entry → Type 0
EntriesEncoded es = AreEncoded IsEntry entry_text (map entry_reported es)

abbrev pub EntriesPlusEncoded : Tree → Bool → List Entry → Type 0
EntriesPlusEncoded t searchable es = AreEncoded IsEntryPlus entry_plus_text (map (entry_plus_reported t searchable) es)
