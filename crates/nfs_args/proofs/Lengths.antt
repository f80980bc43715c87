-- No result is longer than the longest.
use Rattle.std.proofs.Common.{◌≡◌, ℕ, ◌+◌, ◌≤◌, List, ◌++◌, [], ◌∷◌, ◌*◌, ◌/◌, length, Option, Some, None, Result, Ok, Err, refl, arith}
use Rattle.std.specs.Int.{w32, w64, to_be_bytes}
use Rattle.std.proofs.lemmas.List.{length-append, length-take-le}
use Rattle.nfs_xdr.specs.Encoding.{fixed_text, opaque_text, optional_text, pad_text, padding}
use Rattle.nfs_attrs.specs.declared.fattr.Fattr.{Fattr}
use Rattle.nfs_attrs.specs.declared.pre_attr.PreAttr.{PreAttr}
use Rattle.nfs_attrs.specs.declared.wcc.Wcc.{Wcc}
use Rattle.nfs_attrs.specs.Encoding.{moment_text, fattr_text, post_op_attr_text, pre_op_attr_text, wcc_text}
use Rattle.nfs_args.specs.declared.answer.NfsAnswer.{NfsAnswer}
use Rattle.nfs_args.specs.declared.answer.NfsAnswer.TheVariants as answer
use Rattle.nfs_args.specs.declared.failed.Failed.{Failed}
use Rattle.nfs_args.specs.declared.found.Found.{Found}
use Rattle.nfs_args.specs.declared.link_path.LinkPath.{LinkPath}
use Rattle.nfs_args.specs.declared.read_data.ReadData.{ReadData}
use Rattle.nfs_args.specs.declared.made.Made.{Made}
use Rattle.nfs_args.specs.declared.renamed.Renamed.{Renamed}
use Rattle.nfs_args.specs.declared.linked.Linked.{Linked}
use Rattle.nfs_args.specs.Encoding.{stability_number}
use Rattle.nfs_args.specs.Results.{boolean_text, empty_text, result_text, ResultFits, AlwaysFits, HandleFits, found_text, FoundFits, rights_text, link_path_text, LinkPathFits, read_head_text, read_data_text, ReadDataFits, written_text, committed_text, made_text, MadeFits, renamed_text, linked_text, space_text, room_text, transfer_text, server_limits_text, path_limits_text}
use Rattle.nfs_args.specs.Pages.{page_text, PageFits, page_plus_text, PagePlusFits}
use Rattle.nfs_args.specs.Answers.{answered, nfs_text, NfsFits}
use Rattle.nfs_args.specs.Sizes.{largest_of, max_data, max_path, max_page, IfAnswered, IsWithin}

-- ---- parts

both : (a b : List ℕ) (m n : ℕ) → length a ≤ m → length b ≤ n → length (a ++ b) ≤ m + n
both a b m n first second = omega (arith, length-append a b, first, second)

attributes_within : (o : Option Fattr) → length (post_op_attr_text o) ≤ 88
attributes_within None = omega arith
attributes_within (Some a) = omega arith

pre_attributes_within : (o : Option PreAttr) → length (pre_op_attr_text o) ≤ 28
pre_attributes_within None = omega arith
pre_attributes_within (Some a) = omega arith

pub change_within : (w : Wcc) → length (wcc_text w) ≤ 116
change_within w = both (pre_op_attr_text w.before) (post_op_attr_text w.after) 28 88 (pre_attributes_within w.before) (attributes_within w.after)

pad_length : (n : ℕ) → length (pad_text n) ≡ padding n
pad_length n = length-take-le (padding n) (0 ∷ 0 ∷ 0 ∷ []) (omega arith)

padded : (n k : ℕ) → n ≤ 4 * k → n + padding n ≤ 4 * k
padded n k within = omega (arith, within)

-- data within a multiple of four
fixed_within : (item : List ℕ) (k : ℕ) → length item ≤ 4 * k → length (fixed_text item) ≤ 4 * k
fixed_within item k within =
    omega (arith, length-append item (pad_text (length item)), pad_length (length item), padded (length item) k within)

opaque_within : (item : List ℕ) (k : ℕ) → length item ≤ 4 * k → length (opaque_text item) ≤ 4 + 4 * k
opaque_within item k within = omega (arith, fixed_within item k within)

post_op_handle_within : (o : Option (List ℕ)) → HandleFits o → length (optional_text opaque_text o) ≤ 72
post_op_handle_within None fits = omega arith
post_op_handle_within (Some handle) fits = omega (arith, opaque_within handle 16 fits)

-- ---- arms

found_within : (a : Found) → FoundFits a → length (found_text a) ≤ 244
found_within a fits =
    both (opaque_text a.file ++ post_op_attr_text a.attributes) (post_op_attr_text a.dir) 156 88
    (both (opaque_text a.file) (post_op_attr_text a.attributes) 68 88 (opaque_within a.file 16 fits) (attributes_within a.attributes)) (attributes_within a.dir)

link_path_within : (a : LinkPath) → length a.path ≤ max_path → length (link_path_text a) ≤ 92 + max_path
link_path_within a within = both (post_op_attr_text a.attributes) (opaque_text a.path) 88 (4 + max_path) (attributes_within a.attributes) (opaque_within a.path (max_path / 4) within)

pub made_within : (a : Made) → MadeFits a → length (made_text a) ≤ 276
made_within a fits =
    both (optional_text opaque_text a.file ++ post_op_attr_text a.attributes) (wcc_text a.dir) 160 116
    (both (optional_text opaque_text a.file) (post_op_attr_text a.attributes) 72 88 (post_op_handle_within a.file fits) (attributes_within a.attributes)) (change_within a.dir)

-- attributes or a change, and then a text of this length
after_attributes : (o : Option Fattr) (rest : List ℕ) (n : ℕ) → length rest ≡ n → length (post_op_attr_text o ++ rest) ≤ 88 + n
after_attributes o rest n size = omega (arith, length-append (post_op_attr_text o) rest, attributes_within o, size)

pub after_change : (w : Wcc) (rest : List ℕ) (n : ℕ) → length rest ≡ n → length (wcc_text w ++ rest) ≤ 116 + n
after_change w rest n size = omega (arith, length-append (wcc_text w) rest, change_within w, size)

read_data_within : (a : ReadData) → length a.content ≤ max_data → length (read_data_text a) ≤ 100 + max_data
read_data_within a within =
    both (read_head_text a.attributes (length a.content) a.eof) (fixed_text a.content) 100 max_data
    (after_attributes a.attributes (to_be_bytes w32 (length a.content) ++ boolean_text a.eof ++ to_be_bytes w32 (length a.content)) 12 refl) (fixed_within a.content (max_data / 4) within)

pub renamed_within : (a : Renamed) → length (renamed_text a) ≤ 232
renamed_within a = both (wcc_text a.from) (wcc_text a.to) 116 116 (change_within a.from) (change_within a.to)

pub linked_within : (a : Linked) → length (linked_text a) ≤ 204
linked_within a = both (post_op_attr_text a.attributes) (wcc_text a.dir) 88 116 (attributes_within a.attributes) (change_within a.dir)

-- ---- results

-- a status, and an arm within a bound
result_within : {A B : Type 0} (text : A → List ℕ) (shown : B → List ℕ) (Fits Within : A → Type 0) (m : ℕ) (r : Result A (Failed B)) → ((a : A) → Fits a → Within a → length (text a) ≤ m) → ((b : B) → length (shown b) ≤ m) → ResultFits Fits r → IfAnswered Within r → length (result_text text shown r) ≤ 4 + m
result_within text shown Fits Within m (Ok a) answered failed fits within = omega (arith, answered a fits within)
result_within text shown Fits Within m (Err f) answered failed fits within = omega (arith, failed f.shown)

-- the same for answers that are always within it
result_bounded : {A B : Type 0} (text : A → List ℕ) (shown : B → List ℕ) (Fits : A → Type 0) (m : ℕ) (r : Result A (Failed B)) → ((a : A) → Fits a → length (text a) ≤ m) → ((b : B) → length (shown b) ≤ m) → ResultFits Fits r → length (result_text text shown r) ≤ 4 + m
result_bounded text shown Fits m (Ok a) answered failed fits = omega (arith, answered a fits)
result_bounded text shown Fits m (Err f) answered failed fits = omega (arith, failed f.shown)

pub answers_within : (a : NfsAnswer) → NfsFits a → IsWithin a → length (nfs_text a) ≤ largest_of (answered a)
answers_within (answer.Getattr r) fits within = result_bounded fattr_text empty_text AlwaysFits 84 r (λ a fits. omega arith) (λ b. omega arith) fits
answers_within (answer.Setattr r) fits within = result_bounded wcc_text wcc_text AlwaysFits 116 r (λ a fits. change_within a) (λ b. omega (arith, change_within b)) fits
answers_within (answer.Lookup r) fits within = result_bounded found_text post_op_attr_text FoundFits 244 r (λ a fits. found_within a fits) (λ b. omega (arith, attributes_within b)) fits
answers_within (answer.Access r) fits within = result_bounded rights_text post_op_attr_text AlwaysFits 92 r (λ a fits. after_attributes a.attributes (to_be_bytes w32 a.rights) 4 refl) (λ b. omega (arith, attributes_within b)) fits
answers_within (answer.Readlink r) fits within = result_within link_path_text post_op_attr_text LinkPathFits (λ (a : LinkPath). length a.path ≤ max_path) (92 + max_path) r (λ a fits within. link_path_within a within) (λ b. omega (arith, attributes_within b)) fits within
answers_within (answer.Read r) fits within = result_within read_data_text post_op_attr_text ReadDataFits (λ (a : ReadData). length a.content ≤ max_data) (100 + max_data) r (λ a fits within. read_data_within a within) (λ b. omega (arith, attributes_within b)) fits within
answers_within (answer.Write r) fits within = result_bounded written_text wcc_text AlwaysFits 132 r (λ a fits. after_change a.file (to_be_bytes w32 a.count ++ to_be_bytes w32 (stability_number a.committed) ++ to_be_bytes w64 a.verifier) 16 refl) (λ b. omega (arith, change_within b)) fits
answers_within (answer.Create r) fits within = result_bounded made_text wcc_text MadeFits 276 r (λ a fits. made_within a fits) (λ b. omega (arith, change_within b)) fits
answers_within (answer.Mkdir r) fits within = result_bounded made_text wcc_text MadeFits 276 r (λ a fits. made_within a fits) (λ b. omega (arith, change_within b)) fits
answers_within (answer.Symlink r) fits within = result_bounded made_text wcc_text MadeFits 276 r (λ a fits. made_within a fits) (λ b. omega (arith, change_within b)) fits
answers_within (answer.Mknod r) fits within = result_bounded made_text wcc_text MadeFits 276 r (λ a fits. made_within a fits) (λ b. omega (arith, change_within b)) fits
answers_within (answer.Remove r) fits within = result_bounded wcc_text wcc_text AlwaysFits 116 r (λ a fits. change_within a) (λ b. omega (arith, change_within b)) fits
answers_within (answer.Rmdir r) fits within = result_bounded wcc_text wcc_text AlwaysFits 116 r (λ a fits. change_within a) (λ b. omega (arith, change_within b)) fits
answers_within (answer.Rename r) fits within = result_bounded renamed_text renamed_text AlwaysFits 232 r (λ a fits. renamed_within a) (λ b. renamed_within b) fits
answers_within (answer.Link r) fits within = result_bounded linked_text linked_text AlwaysFits 204 r (λ a fits. linked_within a) (λ b. linked_within b) fits
answers_within (answer.Readdir r) fits within = result_within page_text post_op_attr_text PageFits (λ p. length (page_text p) ≤ max_page) max_page r (λ a fits within. within) (λ b. omega (arith, attributes_within b)) fits within
answers_within (answer.Readdirplus r) fits within = result_within page_plus_text post_op_attr_text PagePlusFits (λ p. length (page_plus_text p) ≤ max_page) max_page r (λ a fits within. within) (λ b. omega (arith, attributes_within b)) fits within
answers_within (answer.Fsstat r) fits within = result_bounded room_text post_op_attr_text AlwaysFits 140 r (λ a fits. after_attributes a.attributes (space_text a.bytes ++ space_text a.files ++ to_be_bytes w32 a.invarsec) 52 refl) (λ b. omega (arith, attributes_within b)) fits
answers_within (answer.Fsinfo r) fits within = result_bounded server_limits_text post_op_attr_text AlwaysFits 136 r (λ a fits. after_attributes a.attributes (transfer_text a.read ++ transfer_text a.write ++ to_be_bytes w32 a.readdir ++ to_be_bytes w64 a.max_file_size ++ moment_text a.time_delta ++ to_be_bytes w32 a.properties) 48 refl) (λ b. omega (arith, attributes_within b)) fits
answers_within (answer.Pathconf r) fits within = result_bounded path_limits_text post_op_attr_text AlwaysFits 112 r (λ a fits. after_attributes a.attributes (to_be_bytes w32 a.linkmax ++ to_be_bytes w32 a.name_max ++ boolean_text a.no_trunc ++ boolean_text a.chown_restricted ++ boolean_text a.case_insensitive ++ boolean_text a.case_preserving) 24 refl) (λ b. omega (arith, attributes_within b)) fits
answers_within (answer.Commit r) fits within = result_bounded committed_text wcc_text AlwaysFits 124 r (λ a fits. after_change a.file (to_be_bytes w64 a.verifier) 8 refl) (λ b. omega (arith, change_within b)) fits
