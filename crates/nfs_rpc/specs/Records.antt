-- The records of a stream of bytes (RFC 5531, section 11).
use Rattle.std.specs.Prelude.{◌≡◌, ℕ, ◌+◌, ◌^◌, ◌<◌, ◌≤◌, Bool, true, false, List, [], ◌∷◌, ◌++◌, length, if◌then◌else◌}
use Rattle.std.specs.List.{flat_map, AllByRecursion}
use Rattle.std.specs.Int.{w32, to_be_bytes}
use Rattle.nfs_xdr.specs.Encoding.{Begins, BeginsNone}

-- the number in the header of a fragment of n bytes: the highest bit says that it is the last of its record
abbrev pub mark : Bool → ℕ → ℕ
mark last n = if last then 2 ^ 31 + n else n

abbrev pub header : Bool → ℕ → List ℕ
header last n = to_be_bytes w32 (mark last n)

-- a fragment as it stands on the stream
abbrev pub fragment : Bool → List ℕ → List ℕ
fragment last content = header last (length content) ++ content

-- what a fragment may hold, nothing too
abbrev pub IsPart : List ℕ → Type 0
IsPart content = length content < 2 ^ 31

-- fragments of which none is the last of its record, and what they hold
abbrev pub unended : List (List ℕ) → List ℕ
unended parts = flat_map (fragment false) parts

abbrev pub joined : List (List ℕ) → List ℕ
joined parts = flat_map (λ part. part) parts

-- the text is this record: fragments of which the last alone is marked as the last
pub record IsRecord (content text : List ℕ) : Type 0 where
  pub parts : List (List ℕ)
  pub are_parts : AllByRecursion IsPart parts
  pub final : List ℕ
  pub final_is : IsPart final
  pub content_is : content ≡ joined parts ++ final
  pub text_is : text ≡ unended parts ++ fragment true final

-- the bytes are these records, one after another, and then this rest
abbrev pub AreRecords : List ℕ → List (List ℕ) → List ℕ → Type 0
AreRecords bytes [] rest = rest ≡ bytes
AreRecords bytes (content ∷ records) rest = (after : List ℕ) × Begins IsRecord content bytes after × AreRecords after records rest

-- the stream is these whole records, and then a rest that holds no whole record
pub record IsStream (bytes : List ℕ) (records : List (List ℕ)) (rest : List ℕ) : Type 0 where
  pub whole : AreRecords bytes records rest
  pub unfinished : BeginsNone IsRecord rest

-- at the front stand fragments of a record, none its last, and a header that brings the record's length above the limit
pub record ReachesTooLong (limit : ℕ) (bytes : List ℕ) : Type 0 where
  pub parts : List (List ℕ)
  pub are_parts : AllByRecursion IsPart parts
  pub last : Bool
  pub n : ℕ
  pub below : n < 2 ^ 31
  pub too_long : limit < length (joined parts) + n
  pub after : List ℕ
  pub bytes_are : bytes ≡ unended parts ++ (header last n ++ after)

-- the same, and a header that the limit admits
pub record ReachesWithin (limit : ℕ) (bytes : List ℕ) : Type 0 where
  pub parts : List (List ℕ)
  pub are_parts : AllByRecursion IsPart parts
  pub last : Bool
  pub n : ℕ
  pub below : n < 2 ^ 31
  pub some : 0 < n
  pub within : length (joined parts) + n ≤ limit
  pub after : List ℕ
  pub bytes_are : bytes ≡ unended parts ++ (header last n ++ after)

-- the text is fragments of a record, none its last, and then this tail; content is what they hold, and then got
pub record Follows (text content tail got : List ℕ) : Type 0 where
  pub parts : List (List ℕ)
  pub are_parts : AllByRecursion IsPart parts
  pub content_is : content ≡ joined parts ++ got
  pub text_is : text ≡ unended parts ++ tail

-- where bytes are read as records in two ways, these are one
abbrev pub StreamsAreReadOnce : Type 0
StreamsAreReadOnce = (bytes : List ℕ) (records others : List (List ℕ)) (rest left : List ℕ) → IsStream bytes records rest
    → IsStream bytes others left → (records ≡ others) × (rest ≡ left)

-- more bytes at the end leave the records that were read
abbrev pub RecordsGrow : Type 0
RecordsGrow = (bytes : List ℕ) (records : List (List ℕ)) (rest more : List ℕ) → AreRecords bytes records rest
    → AreRecords (bytes ++ more) records (rest ++ more)

-- where the rest is one whole record, it is the next
abbrev pub RecordsClose : Type 0
RecordsClose = (bytes : List ℕ) (records : List (List ℕ)) (content rest : List ℕ) → AreRecords bytes records rest → IsRecord content rest
    → AreRecords bytes (records ++ content ∷ []) []
