-- Which bytes encode entries of a directory (RFC 1813, sections 3.3.16 and 3.3.17), and what is written.
use Rattle.std.specs.Prelude.{ℕ, Bool, List, ◌++◌, Option}
use Rattle.std.specs.Int.{w32, w64, to_be_bytes}
use Rattle.nfs_xdr.specs.Encoding.{IsNumber, IsBoolean, IsOptional, ◌⨾◌, opaque_text, optional_text}
use Rattle.nfs_attrs.specs.declared.fattr.Fattr.{Fattr}
use Rattle.nfs_attrs.specs.Encoding.{IsPostOpAttr, post_op_attr_text}
use Rattle.nfs_args.specs.Encoding.{IsHandle, IsString}
use Rattle.nfs_args.specs.Chains.{IsChain, links_text, Each, AreEncoded}
use Rattle.nfs_args.specs.Results.{boolean_text, StringFits, HandleFits}
use Rattle.nfs_args.specs.declared.entry.Entry.{Entry}
use Rattle.nfs_args.specs.declared.entry_plus.EntryPlus.{EntryPlus}
use Rattle.nfs_args.specs.declared.dir_page.DirPage.{DirPage}

-- entry3
abbrev pub IsEntry : Entry → List ℕ → Type 0
IsEntry e = IsNumber w64 e.fileid ⨾ IsString e.name ⨾ IsNumber w64 e.cookie

abbrev pub entry_text : Entry → List ℕ
entry_text e = to_be_bytes w64 e.fileid ++ (opaque_text e.name ++ to_be_bytes w64 e.cookie)

abbrev pub EntryFits : Entry → Type 0
EntryFits e = StringFits e.name

-- entryplus3
abbrev pub IsEntryPlus : EntryPlus → List ℕ → Type 0
IsEntryPlus e = IsNumber w64 e.fileid ⨾ IsString e.name ⨾ IsNumber w64 e.cookie ⨾ IsPostOpAttr e.attributes ⨾ IsOptional IsHandle e.file

abbrev pub entry_plus_text : EntryPlus → List ℕ
entry_plus_text e = to_be_bytes w64 e.fileid
    ++ (opaque_text e.name ++ (to_be_bytes w64 e.cookie ++ (post_op_attr_text e.attributes ++ optional_text opaque_text e.file)))

-- what an entry says of its file
abbrev pub IsEntryFile : Option Fattr → Option (List ℕ) → List ℕ → Type 0
IsEntryFile attributes handle = IsPostOpAttr attributes ⨾ IsOptional IsHandle handle

abbrev pub entry_file_text : Option Fattr → Option (List ℕ) → List ℕ
entry_file_text attributes handle = post_op_attr_text attributes ++ optional_text opaque_text handle

abbrev pub EntryPlusFits : EntryPlus → Type 0
EntryPlusFits e = StringFits e.name × HandleFits e.file

-- ---- READDIR3resok and READDIRPLUS3resok, which differ in their entries

abbrev pub IsPageOf : {A : Type 0} → (A → List ℕ → Type 0) → DirPage (List A) → List ℕ → Type 0
IsPageOf Encodes p = IsPostOpAttr p.attributes ⨾ IsNumber w64 p.verifier ⨾ IsChain Encodes p.entries ⨾ IsBoolean p.eof

abbrev pub page_head_text : Option Fattr → ℕ → List ℕ
page_head_text attributes verifier = post_op_attr_text attributes ++ to_be_bytes w64 verifier

abbrev pub page_end_text : Bool → List ℕ
page_end_text eof = to_be_bytes w32 0 ++ boolean_text eof

abbrev pub page_of_text : {A : Type 0} → (A → List ℕ) → DirPage (List A) → List ℕ
page_of_text text p = page_head_text p.attributes p.verifier ++ (links_text text p.entries ++ page_end_text p.eof)

-- the head, then any entries, each of them encoded, and then an end are a page
abbrev pub BeginsPage : {A : Type 0} → (A → List ℕ → Type 0) → (A → List ℕ) → Option Fattr → ℕ → Type 0
BeginsPage {A} Encodes text attributes verifier =
    (entries : List A) (eof : Bool) → AreEncoded Encodes text entries
    → IsPageOf Encodes (record {
      attributes = attributes;
      verifier = verifier;
      entries = entries;
      eof = eof;
    }) (page_head_text attributes verifier ++ (links_text text entries ++ page_end_text eof))

abbrev pub IsPage : DirPage (List Entry) → List ℕ → Type 0
IsPage = IsPageOf IsEntry

abbrev pub page_text : DirPage (List Entry) → List ℕ
page_text = page_of_text entry_text

abbrev pub PageFits : DirPage (List Entry) → Type 0
PageFits p = Each EntryFits p.entries

abbrev pub IsPagePlus : DirPage (List EntryPlus) → List ℕ → Type 0
IsPagePlus = IsPageOf IsEntryPlus

abbrev pub page_plus_text : DirPage (List EntryPlus) → List ℕ
page_plus_text = page_of_text entry_plus_text

abbrev pub PagePlusFits : DirPage (List EntryPlus) → Type 0
PagePlusFits p = Each EntryPlusFits p.entries
