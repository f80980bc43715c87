-- Bytes of a file that are written run after run, after what says how many they are.
use Rattle.std.proofs.Common.{◌≡◌, ℕ, ◌+◌, ◌-◌, ◌≤◌, min, Bool, true, false, List, [], ◌++◌, length, take, drop, Option, Some, None, refl, sym, ap, subst, ◌∙◌, arith, length-drop}
use Rattle.std.specs.Prelude.{Ok, nat_le, option_map}
use Rattle.std.specs.Int.{w32, to_be_bytes}
use Rattle.std.proofs.Math.Seq.{take-add, drop-drop, take-length}
use Rattle.std.proofs.lemmas.List.{take-append-le, take_all, length-take-le}
use Rattle.std.proofs.lemmas.Bool.{le-leb, leb-true, leb-false}
use Rattle.std.proofs.Math.Dec.{leb}
use Rattle.nfs_args.specs.Results.{BeginsReadData, IsReadData, read_head_text, read_data_text}
use Rattle.nfs_args.specs.declared.answer.NfsAnswer.TheVariants as answer
use Rattle.nfs_attrs.specs.Encoding.{IsPostOpAttr}
use Rattle.nfs_attrs.specs.declared.fattr.Fattr.{Fattr}
use Rattle.nfs_inodes.proofs.Lists.{by_test, same_some}
use Rattle.nfs_inodes.specs.Reading.{IsFirstChunk, attributes_of, attributes_at, bytes_at, type_of, size_of, is_regular_type}
use Rattle.nfs_inodes.specs.Tree.{Tree, File, Kind, Regular, Directory, Link, at, on_some, bytes_in, nlink}
use Rattle.nfs_procs.proofs.Encoded.{granted_encoded}
use Rattle.nfs_procs.specs.Performing.{AppendsAnswer}
use Rattle.nfs_procs.specs.Readers.{data_of, max_transfer}
use Rattle.nfs_xdr.proofs.Writing.{appends_then}
use Rattle.nfs_xdr.specs.Encoding.{pad_text}
use Rattle.nfs_xdr.specs.Written.{Written, Appends}

-- the front of a run of the bytes that are left are the next bytes
next_bytes : (bytes run : List ℕ) (offset done some : ℕ) → IsFirstChunk run (drop (offset + done) bytes) → some ≤ length run → take (done + some) (drop offset bytes) ≡ take done (drop offset bytes) ++ take some run
next_bytes bytes run offset done some is within =
    let left : drop done (drop offset bytes) ≡ run ++ is.rest = drop-drop done offset bytes ∙ is.bytes_are in
    take-add done some (drop offset bytes) ∙ ap (λ l. take done (drop offset bytes) ++ take some l) left ∙ ap (λ l. take done (drop offset bytes) ++ l) (take-append-le some run is.rest within)

pub run_goes : (bytes run : List ℕ) (offset done some : ℕ) (a b c : Written) → IsFirstChunk run (drop (offset + done) bytes) → some ≤ length run → Appends (take done (drop offset bytes)) a b → Appends (take some run) b c → Appends (take (done + some) (drop offset bytes)) a c
run_goes bytes run offset done some a b c is within first second = subst (λ text. Appends text a c) (sym (next_bytes bytes run offset done some is within)) (appends_then _ _ a b c first second)

-- ---- the result of READ

bools_agree : (a b : Bool) → (a ≡ true → b ≡ true) → (b ≡ true → a ≡ true) → a ≡ b
bools_agree true b f g = sym (f refl)
bools_agree false true f g = g refl
bools_agree false false f g = refl

take_least : (k : ℕ) (xs : List ℕ) → take (min (length xs) k) xs ≡ take k xs
take_least k xs = by_test (leb (length xs) k)
    (λ t. let l = leb-true (length xs) k t in let e : min (length xs) k ≡ length xs = omega (arith, l) in ap (λ n. take n xs) e ∙ take-length xs ∙ sym (take_all k xs l))
    (λ t. let l = leb-false (length xs) k t in let e : min (length xs) k ≡ k = omega (arith, l) in ap (λ n. take n xs) e)

same_end : (size offset n : ℕ) → nat_le (size - offset) n ≡ nat_le size (offset + n)
same_end size offset n = bools_agree _ _
    (λ t. let l = leb-true (size - offset) n t in le-leb size (offset + n) (omega (arith, l)))
    (λ t. let l = leb-true size (offset + n) t in le-leb (size - offset) n (omega (arith, l)))

pub parts_written : (f : Fattr) (offset n : ℕ) (eof : Bool) (bytes : List ℕ) (a b c d e : Written) → n ≡ length bytes → eof ≡ nat_le f.size (offset + length bytes)
    → Appends (to_be_bytes w32 0) a b → Appends (read_head_text (Some f) n eof) b c → Appends bytes c d → Appends (pad_text n) d e → BeginsReadData (Some f) n eof → AppendsAnswer (answer.Read (Ok (data_of f offset bytes))) a e
parts_written f offset n eof bytes a b c d e same end status head content pad begins =
    let head' = subst (λ k. Appends (read_head_text (Some f) k (nat_le f.size (offset + length bytes))) b c) same (subst (λ k. Appends (read_head_text (Some f) n k) b c) end head) in
    let pad' = subst (λ k. Appends (pad_text k) d e) same pad in
    let begins' : BeginsReadData (Some f) (length bytes) (nat_le f.size (offset + length bytes)) =
    subst (λ k. BeginsReadData (Some f) k (nat_le f.size (offset + length bytes))) same (subst (λ k. BeginsReadData (Some f) n k) end begins) in
    record {
      text = appends_then _ _ a b e status (appends_then _ _ b c e head' (appends_then _ _ c d e content pad'));
      encoded = granted_encoded answer.Read IsReadData IsPostOpAttr read_data_text (data_of f offset bytes) (begins' bytes refl);
    }

pub read_written : (f : Fattr) (offset count left len : ℕ) (all : List ℕ) (a b c d e : Written) → f.size ≡ length all → left ≡ f.size - offset → len ≡ min left (min count max_transfer)
    → Appends (to_be_bytes w32 0) a b → Appends (read_head_text (Some f) len (nat_le left len)) b c → Appends (take len (drop offset all)) c d → Appends (pad_text len) d e
    → BeginsReadData (Some f) len (nat_le left len) → AppendsAnswer (answer.Read (Ok (data_of f offset (take (min count max_transfer) (drop offset all))))) a e
read_written f offset count left len all a b c d e size is least status head content pad begins =
    let there : left ≡ length (drop offset all) = is ∙ ap (λ n. n - offset) size ∙ sym (length-drop offset all) in
    let n : len ≡ min (length (drop offset all)) (min count max_transfer) = least ∙ ap (λ n. min n (min count max_transfer)) there in
    let whole : take len (drop offset all) ≡ take (min count max_transfer) (drop offset all) = ap (λ n. take n (drop offset all)) n ∙ take_least (min count max_transfer) (drop offset all) in
    let within : len ≤ length (drop offset all) = omega (arith, n) in
    let long : len ≡ length (take len (drop offset all)) = sym (length-take-le len (drop offset all) within) in
    let end : nat_le left len ≡ nat_le f.size (offset + length (take len (drop offset all))) = ap (λ n. nat_le n len) is ∙ same_end f.size offset len ∙ ap (λ n. nat_le f.size (offset + n)) long in
    subst (λ bytes. AppendsAnswer (answer.Read (Ok (data_of f offset bytes))) a e) whole
    (parts_written f offset len (nat_le left len) (take len (drop offset all)) a b c d e long end status head content pad begins)

-- ---- the size of a regular file

size_of_kind : (k : Kind) → is_regular_type (type_of k) ≡ true → size_of k ≡ length (bytes_in k)
size_of_kind (Regular bytes) r = refl
size_of_kind (Directory parent next_cookie entries) r = cc
size_of_kind (Link path) r = cc

size_in : (o : Option File) (n : ℕ) (links : File → ℕ) (f : Fattr) → option_map (λ file. attributes_of n file (links file)) o ≡ Some f → is_regular_type f.file_type ≡ true → f.size ≡ length (on_some o [] (λ file. bytes_in file.kind))
size_in None n links f e r = cc
size_in (Some file) n links f e r =
    let same : attributes_of n file (links file) ≡ f = same_some e in
    sym (ap (λ (g : Fattr). g.size) same) ∙ size_of_kind file.kind (ap (λ (g : Fattr). is_regular_type g.file_type) same ∙ r)

pub size_is : (t : Tree) (n : ℕ) (f : Fattr) → attributes_at t n ≡ Some f → is_regular_type f.file_type ≡ true → f.size ≡ length (bytes_at t n)
size_is t n f e r = size_in (at n t.files) n (λ file. nlink t.files n file) f e r
