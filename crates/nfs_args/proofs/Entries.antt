-- The chunks in which an entry of a directory is written.
use Rattle.std.proofs.Common.{◌≡◌, ℕ, List, [], ◌∷◌, ◌++◌, length, sym, ap, subst, ◌∙◌, append_assoc, append-nil, arith}
use Rattle.std.proofs.lemmas.Grind.{flat_map-append}
use Rattle.std.specs.Int.{w32, w64, to_be_bytes}
use Rattle.nfs_xdr.specs.Encoding.{IsNumber, IsOptional, ◌⨾◌, fixed_text, numbers_text, opaque_text, optional_text}
use Rattle.nfs_xdr.specs.Written.{Written, Appends}
use Rattle.nfs_xdr.proofs.Items.{opaque_written}
use Rattle.nfs_xdr.proofs.Writing.{appends_then, followed}
use Rattle.nfs_attrs.specs.Encoding.{IsPostOpAttr, post_op_attr_text}
use Rattle.nfs_args.specs.Encoding.{IsHandle}
use Rattle.nfs_args.specs.declared.entry.Entry.{Entry}
use Rattle.nfs_args.specs.declared.entry_plus.EntryPlus.{EntryPlus}
use Rattle.nfs_args.specs.Chains.{chained_text}
use Rattle.nfs_args.specs.Pages.{IsEntry, EntryFits, entry_text, IsEntryPlus, EntryPlusFits, entry_plus_text}

-- that there is an entry, its number, and the length of its name, in one chunk
entry_head : (high low fileid len : ℕ) → numbers_text (high ∷ low ∷ []) ≡ to_be_bytes w64 fileid → numbers_text (1 ∷ high ∷ low ∷ len ∷ []) ≡ to_be_bytes w32 1 ++ (to_be_bytes w64 fileid ++ to_be_bytes w32 len)
entry_head high low fileid len halves = ap (λ t. to_be_bytes w32 1 ++ t)
    (flat_map-append (to_be_bytes w32) (high ∷ low ∷ []) (len ∷ []) ∙ ap (λ t. t ++ numbers_text (len ∷ [])) halves ∙ ap (λ t. to_be_bytes w64 fileid ++ t) (append-nil (to_be_bytes w32 len)))

chunks_joined : (one file len name cookie : List ℕ) → (one ++ (file ++ len)) ++ (name ++ cookie) ≡ one ++ (file ++ ((len ++ name) ++ cookie))
chunks_joined one file len name cookie = append_assoc one (file ++ len) (name ++ cookie) ∙ ap (λ t. one ++ t) (append_assoc file len (name ++ cookie) ∙ ap (λ t. file ++ t) (sym (append_assoc len name cookie)))

-- an entry, in its chunks
pub entry_parts : (e : Entry) (name : List ℕ) (high low : ℕ) (a b c d : Written) → name ≡ e.name → numbers_text (high ∷ low ∷ []) ≡ to_be_bytes w64 e.fileid
    → Appends (numbers_text (1 ∷ high ∷ low ∷ length name ∷ [])) a b → Appends (fixed_text name) b c → Appends (to_be_bytes w64 e.cookie) c d
    → Appends (chained_text entry_text e) a d
entry_parts e name high low a b c d same halves head fixed cookie =
    let whole = appends_then (numbers_text (1 ∷ high ∷ low ∷ length name ∷ [])) (fixed_text name ++ to_be_bytes w64 e.cookie) a b d head (appends_then (fixed_text name) (to_be_bytes w64 e.cookie) b c d fixed cookie) in
    subst (λ n. Appends (to_be_bytes w32 1 ++ (to_be_bytes w64 e.fileid ++ (opaque_text n ++ to_be_bytes w64 e.cookie))) a d) same
    (subst (λ t. Appends t a d) (ap (λ t. t ++ (fixed_text name ++ to_be_bytes w64 e.cookie)) (entry_head high low e.fileid (length name) halves)
    ∙ chunks_joined (to_be_bytes w32 1) (to_be_bytes w64 e.fileid) (to_be_bytes w32 (length name)) (fixed_text name) (to_be_bytes w64 e.cookie)) whole)

pub entry_written : (e : Entry) → EntryFits e → IsNumber w64 e.fileid (to_be_bytes w64 e.fileid) → IsNumber w64 e.cookie (to_be_bytes w64 e.cookie) → IsEntry e (entry_text e)
entry_written e fits fileid cookie = followed _ _ _ _ fileid (followed _ _ _ _ (opaque_written 4294967295 e.name fits (omega (arith, fits))) cookie)

joined_then : (one file name cookie rest : List ℕ) → (one ++ (file ++ (name ++ cookie))) ++ rest ≡ one ++ (file ++ (name ++ (cookie ++ rest)))
joined_then one file name cookie rest =
    append_assoc one (file ++ (name ++ cookie)) rest
    ∙ ap (λ t. one ++ t) (append_assoc file (name ++ cookie) rest ∙ ap (λ t. file ++ t) (append_assoc name cookie rest))

-- an entry, and after it what its file is
pub entry_plus_parts : (e : EntryPlus) (head : Entry) (a b c : Written) → head.fileid ≡ e.fileid → head.name ≡ e.name → head.cookie ≡ e.cookie
    → Appends (chained_text entry_text head) a b → Appends (post_op_attr_text e.attributes ++ optional_text opaque_text e.file) b c
    → Appends (chained_text entry_plus_text e) a c
entry_plus_parts e head a b c fileid name cookie front file =
    let same : head ≡ record { fileid = e.fileid; name = e.name; cookie = e.cookie } = λ i. record { fileid = fileid i; name = name i; cookie = cookie i } in
    subst (λ t. Appends t a c) (joined_then (to_be_bytes w32 1) (to_be_bytes w64 e.fileid) (opaque_text e.name) (to_be_bytes w64 e.cookie) (post_op_attr_text e.attributes ++ optional_text opaque_text e.file))
    (appends_then _ _ _ _ _ (subst (λ h. Appends (chained_text entry_text h) a b) same front) file)

pub entry_plus_written : (e : EntryPlus) → EntryPlusFits e → IsNumber w64 e.fileid (to_be_bytes w64 e.fileid) → IsNumber w64 e.cookie (to_be_bytes w64 e.cookie)
    → (IsPostOpAttr e.attributes ⨾ IsOptional IsHandle e.file) (post_op_attr_text e.attributes ++ optional_text opaque_text e.file) → IsEntryPlus e (entry_plus_text e)
entry_plus_written e fits fileid cookie file =
    followed _ _ _ _ fileid
    (followed _ _ _ _ (opaque_written 4294967295 e.name fits.0 (omega (arith, fits.0)))
    (followed _ _ _ _ cookie file))
