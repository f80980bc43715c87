-- The head of a journal, from its bytes.
use Rattle.std.proofs.Common.{◌≡◌, ◌≢◌, ℕ, ◌+◌, ◌^◌, ◌<◌, ◌≤◌, List, ◌++◌, min, take, drop, length, refl, sym, ap, ◌∙◌, append_assoc, drop-drop, length-take-le, true, arith}
use Rattle.std.proofs.Math.Nat.{min_comm}
use Rattle.std.proofs.Math.Seq.{drop-append_seam, take-append_seam}
use Rattle.std.proofs.lemmas.List.{append_cancel_left, length-append, take-append-drop, take-append-le, take_all, take_min}
use Rattle.std.proofs.lemmas.Nat.{from_be_bytes-to_be_bytes_4, from_be_bytes-to_be_bytes_8}
use Rattle.std.specs.Int.{w32, w64, from_be_bytes, to_be_bytes}
use Rattle.nfs_checksum.specs.Checksums.{crc32c}
use Rattle.nfs_rpc.specs.Records.{header}
use Rattle.nfs_server.specs.Entries.{checked}
use Rattle.nfs_journal.specs.Heads.{HasVersion, HeadsAreReadOnce, IsBegun, IsHead, IsNoHead, fields_text, front, head_content, head_record, head_text, title, version}
use Rattle.nfs_journal.specs.declared.head.Head.{Head}

-- ---- lengths

four_parts : (a b c d : List ℕ) → length a ≡ 8 → length b ≡ 8 → length c ≡ 4 → length d ≡ 32 → length (a ++ b ++ c ++ d) ≡ 52
four_parts a b c d p q r s = omega (arith, length-append (a ++ b ++ c) d, length-append (a ++ b) c, length-append a b, p, q, r, s)

fields_length : (head : Head) → IsHead head → length (fields_text head) ≡ 52
fields_length head is = four_parts head.key (to_be_bytes w64 head.next) (to_be_bytes w32 head.cache) head.digest is.key refl refl is.digest

three_parts : (t v f : List ℕ) → length t ≡ 14 → length v ≡ 4 → length f ≡ 52 → length (t ++ v ++ f) ≡ 70
three_parts t v f p q r = omega (arith, length-append (t ++ v) f, length-append t v, p, q, r)

content_length : (head : Head) → IsHead head → length (head_content head) ≡ 70
content_length head is = three_parts title (to_be_bytes w32 version) (fields_text head) refl refl (fields_length head is)

checked_length : (bytes : List ℕ) → length bytes ≡ 70 → length (checked bytes) ≡ 74
checked_length bytes e = length-append bytes (to_be_bytes w32 (crc32c bytes)) ∙ ap (λ n. n + 4) e

text_length : (head : Head) → IsHead head → length (head_text head) ≡ 74
text_length head is = checked_length (head_content head) (content_length head is)

-- ---- parts

brackets : (a b c d : List ℕ) → a ++ b ++ c ++ d ≡ a ++ (b ++ (c ++ d))
brackets a b c d = simp append_assoc

-- two lists after as many of each
append_once : (a b x y : List ℕ) → length a ≡ length x → a ++ b ≡ x ++ y → (a ≡ x) × (b ≡ y)
append_once a b x y len e =
    let same : a ≡ x = sym (take-append_seam a b) ∙ ap (take (length a)) e ∙ ap (λ n. take n (x ++ y)) len ∙ take-append_seam x y in
    (same, append_cancel_left x b y (ap (λ t. t ++ b) (sym same) ∙ e))

-- the checksum after as many bytes
sum_once : (a content checksum : List ℕ) → length a ≡ length content → checked a ≡ content ++ checksum → checksum ≡ to_be_bytes w32 (crc32c content)
sum_once a content checksum len e =
    let once = append_once a (to_be_bytes w32 (crc32c a)) content checksum len e in
    sym once.1 ∙ ap (λ l. to_be_bytes w32 (crc32c l)) once.0

content_of : (t v f content checksum rest : List ℕ) → length (t ++ v) ≡ 18 → length content ≡ 70 → content ++ checksum ≡ t ++ (v ++ rest) → f ≡ drop 18 content → content ≡ t ++ v ++ f
content_of t v f content checksum rest eighteen seventy e fields =
    let front : take 18 content ≡ t ++ v =
    sym (take-append-le 18 content checksum (omega (arith, seventy))) ∙ ap (take 18) (e ∙ sym (append_assoc t v rest)) ∙ ap (λ n. take n ((t ++ v) ++ rest)) (sym eighteen) ∙ take-append_seam (t ++ v) rest in
    sym (take-append-drop 18 content) ∙ ap (λ l. l ++ drop 18 content) front ∙ ap (λ l. (t ++ v) ++ l) (sym fields)

-- the fields one after another
pub joined : (k n c d key next cache digest fields after rest : List ℕ) → k ≡ key → n ≡ next → c ≡ cache → d ≡ digest → fields ≡ key ++ after → after ≡ next ++ rest → rest ≡ cache ++ digest
    → k ++ n ++ c ++ d ≡ fields
joined k n c d key next cache digest fields after rest p q r s one two three =
    ap (λ l. l ++ n ++ c ++ d) p ∙ ap (λ l. key ++ l ++ c ++ d) q ∙ ap (λ l. key ++ next ++ l ++ d) r ∙ ap (λ l. key ++ next ++ cache ++ l) s
    ∙ brackets key next cache digest ∙ ap (λ l. key ++ (next ++ l)) (sym three) ∙ ap (λ l. key ++ l) (sym two) ∙ sym one

-- the first of both, as many as there are of either
pub both_first : (bytes : List ℕ) (n : ℕ) → n ≡ min (length bytes) 22 → (take n bytes ≡ take 22 bytes) × (take n front ≡ take (length bytes) front)
both_first bytes n e =
    (ap (λ k. take k bytes) (e ∙ min_comm (length bytes) 22) ∙ take_min 22 bytes, ap (λ k. take k front) e ∙ take_min (length bytes) front)

module _ (bytes : List ℕ) where
  -- ---- the title and the version

  module _ (t n mark rest : List ℕ) (fourteen : length t ≡ 14) (four : length n ≡ 4) where
    titled : length mark ≡ 4 → bytes ≡ mark ++ (t ++ (n ++ rest)) → take 14 (drop 4 bytes) ≡ t
    titled mark_4 e =
        ap (λ k. take 14 (drop k bytes)) (sym mark_4) ∙ ap (λ l. take 14 (drop (length mark) l)) e
        ∙ ap (take 14) (drop-append_seam mark (t ++ (n ++ rest))) ∙ ap (λ k. take k (t ++ (n ++ rest))) (sym fourteen) ∙ take-append_seam t (n ++ rest)

  pub other_title : take 14 (drop 4 bytes) ≢ title → (n : ℕ) → n < 2 ^ 32 → HasVersion n bytes → ⊥
  other_title other n less has = other (titled title (to_be_bytes w32 n) has.mark has.rest refl refl has.four has.bytes_are)

  cut : (t n : List ℕ) → take 14 (drop 4 bytes) ≡ t → take 4 (drop 18 bytes) ≡ n → bytes ≡ take 4 bytes ++ (t ++ (n ++ drop 22 bytes))
  cut t n a b =
      sym (take-append-drop 4 bytes) ∙ ap (λ l. take 4 bytes ++ l)
      (sym (take-append-drop 14 (drop 4 bytes)) ∙ ap (λ l. take 14 (drop 4 bytes) ++ l) (drop-drop 14 4 bytes) ∙ ap (λ l. l ++ drop 18 bytes) a
      ∙ ap (λ l. t ++ l) (sym (take-append-drop 4 (drop 18 bytes)) ∙ ap (λ l. take 4 (drop 18 bytes) ++ l) (drop-drop 4 18 bytes) ∙ ap (λ l. l ++ drop 22 bytes) b))

  pub has_version : (n : ℕ) → 22 ≤ length bytes → take 14 (drop 4 bytes) ≡ title → take 4 (drop 18 bytes) ≡ to_be_bytes w32 n → HasVersion n bytes
  has_version n long a b = record { mark = take 4 bytes; four = length-take-le 4 bytes (omega (arith, long)); rest = drop 22 bytes; bytes_are = cut title (to_be_bytes w32 n) a b }

  -- ---- a head of this version

  pub begins_with_front : 78 ≤ length bytes → IsBegun bytes → bytes ≡ front ++ drop 22 bytes
  begins_with_front long begun =
      sym (take-append-drop 22 bytes) ∙ ap (λ l. l ++ drop 22 bytes) (begun ∙ take_all (length bytes) front (omega (arith, long)))

  front_parts : (rest : List ℕ) → front ++ rest ≡ header true 74 ++ (title ++ (to_be_bytes w32 version ++ rest))
  front_parts rest = brackets (header true 74) title (to_be_bytes w32 version) rest
    where
      brackets : (m t v r : List ℕ) → (m ++ t ++ v) ++ r ≡ m ++ (t ++ (v ++ r))
      brackets m t v r = simp append_assoc

  pub of_version : 78 ≤ length bytes → IsBegun bytes → HasVersion version bytes
  of_version long begun = record { mark = header true 74; four = refl; rest = drop 22 bytes; bytes_are = begins_with_front long begun ∙ front_parts (drop 22 bytes) }

  module _ (content checksum : List ℕ) (seventy : length content ≡ 70) (parts : drop 4 bytes ≡ content ++ checksum) where
    -- what a head has that has these bytes
    same_text : (head : Head) → head_record head ≡ bytes → checked (head_content head) ≡ content ++ checksum
    same_text head e = sym (drop-append_seam (header true (length (head_text head))) (head_text head)) ∙ ap (drop 4) e ∙ parts

    pub other_sum : checksum ≢ to_be_bytes w32 (crc32c content) → IsNoHead bytes
    other_sum differs head is e = differs (sum_once (head_content head) content checksum (content_length head is ∙ sym seventy) (same_text head e))

    pub record_found : 78 ≤ length bytes → IsBegun bytes → checksum ≡ to_be_bytes w32 (crc32c content) → (head : Head) → IsHead head → fields_text head ≡ drop 18 content → head_record head ≡ bytes
    record_found long begun sum head is fields =
        let rest = drop 22 bytes in
        let mark : header true 74 ≡ take 4 bytes = sym (ap (take 4) (begins_with_front long begun ∙ front_parts rest) ∙ take-append_seam (header true 74) (title ++ (to_be_bytes w32 version ++ rest))) in
        let after : drop 4 bytes ≡ title ++ (to_be_bytes w32 version ++ rest) =
        ap (drop 4) (begins_with_front long begun ∙ front_parts rest) ∙ drop-append_seam (header true 74) (title ++ (to_be_bytes w32 version ++ rest)) in
        let content_is : content ≡ head_content head = content_of title (to_be_bytes w32 version) (fields_text head) content checksum rest refl seventy (sym parts ∙ after) fields in
        ap (λ n. header true n ++ head_text head) (text_length head is)
        ∙ ap (λ l. header true 74 ++ checked l) (sym content_is) ∙ ap (λ l. header true 74 ++ (content ++ l)) (sym sum) ∙ ap (λ l. header true 74 ++ l) (sym parts)
        ∙ ap (λ l. l ++ drop 4 bytes) mark ∙ take-append-drop 4 bytes

-- ---- a record is that of one head

same_number : (m n : ℕ) → m < 2 ^ 32 → n < 2 ^ 32 → to_be_bytes w32 m ≡ to_be_bytes w32 n → m ≡ n
same_number m n p q e = sym (from_be_bytes-to_be_bytes_4 m p) ∙ ap (from_be_bytes w32) e ∙ from_be_bytes-to_be_bytes_4 n q

same_long_number : (m n : ℕ) → m < 2 ^ 64 → n < 2 ^ 64 → to_be_bytes w64 m ≡ to_be_bytes w64 n → m ≡ n
same_long_number m n p q e = sym (from_be_bytes-to_be_bytes_8 m p) ∙ ap (from_be_bytes w64) e ∙ from_be_bytes-to_be_bytes_8 n q

same_head : (a b : Head) → a.key ≡ b.key → a.next ≡ b.next → a.cache ≡ b.cache → a.digest ≡ b.digest → a ≡ b
same_head a b k n c d = λ i. record { key = k i; next = n i; cache = c i; digest = d i }

fields_once : (a b : Head) → IsHead a → IsHead b → fields_text a ≡ fields_text b → a ≡ b
fields_once a b p q e =
    let an = to_be_bytes w64 a.next in
    let bn = to_be_bytes w64 b.next in
    let ac = to_be_bytes w32 a.cache in
    let bc = to_be_bytes w32 b.cache in
    let one = append_once a.key (an ++ (ac ++ a.digest)) b.key (bn ++ (bc ++ b.digest)) (p.key ∙ sym q.key) (sym (brackets a.key an ac a.digest) ∙ e ∙ brackets b.key bn bc b.digest) in
    let two = append_once an (ac ++ a.digest) bn (bc ++ b.digest) refl one.1 in
    let three = append_once ac a.digest bc b.digest refl two.1 in
    same_head a b one.0 (same_long_number a.next b.next p.next q.next two.0) (same_number a.cache b.cache p.cache q.cache three.0) three.1

pub heads_once : HeadsAreReadOnce
heads_once a b p q e =
    let text = append_once (header true (length (head_text a))) (head_text a) (header true (length (head_text b))) (head_text b) refl e in
    let content = append_once (head_content a) (to_be_bytes w32 (crc32c (head_content a))) (head_content b) (to_be_bytes w32 (crc32c (head_content b))) (content_length a p ∙ sym (content_length b q)) text.1 in
    fields_once a b p q (append_cancel_left (title ++ to_be_bytes w32 version) (fields_text a) (fields_text b) content.0)
