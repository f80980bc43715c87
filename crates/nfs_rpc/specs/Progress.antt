-- How far a reader of records is, and which bytes since the last whole record lead there.
use Rattle.std.specs.Prelude.{◌≡◌, ℕ, ◌+◌, ◌^◌, ◌<◌, ◌≤◌, List, [], ◌∷◌, ◌++◌, length, take}
use Rattle.nfs_rpc.specs.declared.framer.Stage.{Stage}
use Rattle.nfs_rpc.specs.declared.framer.Stage.TheVariants.{Header, Body, Ready, Failed}
use Rattle.nfs_xdr.specs.Encoding.{BeginsNone}
use Rattle.nfs_rpc.specs.Records.{header, IsRecord, AreRecords, ReachesTooLong, ReachesWithin, Follows}

-- a reader of records of at most limit bytes: its stage, and what it has of the record's content
pub record Progress : Type 0 where
  pub limit : ℕ
  pub stage : Stage
  pub content : List ℕ

-- these bytes, since the last whole record, lead to this stage with this content
abbrev pub Leads : ℕ → Stage → List ℕ → List ℕ → Type 0
-- whole fragments, none of them the last, and some bytes of a header
Leads limit (Header bytes have) content text = (have < 4) × (length content ≤ limit) × Follows text content (take have bytes) []
-- the same, and a header within the limit, and some of its fragment's bytes
Leads limit (Body last left) content text = (length content + left ≤ limit) × (got : List ℕ) × (0 < left) × (length got + left < 2 ^ 31)
    × Follows text content (header last (length got + left) ++ got) got
-- one whole record
Leads limit Ready content text = (length content ≤ limit) × IsRecord content text
-- after a fault nothing is said
Leads limit Failed content text = Unit {0}

-- the bytes since the last whole record, and what is known of them
abbrev pub Unfinished : List ℕ → Progress → Type 0
Unfinished text p = Leads p.limit p.stage p.content text

-- whatever stood before, with these bytes it goes on to the new
abbrev pub Moves : Progress → List ℕ → Progress → Type 0
Moves old bytes new = (text : List ℕ) → Unfinished text old → Unfinished (text ++ bytes) new

-- whatever stood before, with these bytes a record becomes too long
abbrev pub BringsTooLong : Progress → List ℕ → Type 0
BringsTooLong old bytes = (text : List ℕ) → Unfinished text old → ReachesTooLong old.limit (text ++ bytes)

-- whatever stood before, with these bytes a header is reached that the limit admits
abbrev pub AsksForRoom : Progress → List ℕ → Type 0
AsksForRoom old bytes = (text : List ℕ) → Unfinished text old → ReachesWithin old.limit (text ++ bytes)

-- a reader that was given these bytes since the stream began has given these records
pub record HasRead (bytes : List ℕ) (records : List (List ℕ)) (p : Progress) : Type 0 where
  pub rest : List ℕ
  pub whole : AreRecords bytes records rest
  pub unfinished : Unfinished rest p

-- each call of a reader keeps this: more bytes, the next record, and what it says while no record is whole
pub record ReadersKeep : Type 0 where
  pub feeds : (bytes taken : List ℕ) (records : List (List ℕ)) (old new : Progress) → HasRead bytes records old → Moves old taken new
      → HasRead (bytes ++ taken) records new
  pub nexts : (bytes : List ℕ) (records : List (List ℕ)) (old new : Progress) → HasRead bytes records old → old.stage ≡ Ready
      → Unfinished [] new → HasRead bytes (records ++ old.content ∷ []) new

-- no header that brings a record above the limit was reached
abbrev pub IsWithin : ℕ → List ℕ → Type 0
IsWithin limit text = ReachesTooLong limit text → ⊥

-- what the bytes since the last whole record are, by the stage: no whole record, or one and no more
abbrev pub StageReports : Stage → ℕ → List ℕ → List ℕ → Type 0
StageReports (Header bytes have) limit content text = BeginsNone IsRecord text × IsWithin limit text
StageReports (Body last left) limit content text = BeginsNone IsRecord text × IsWithin limit text
StageReports Ready limit content text = IsRecord content text × (length content ≤ limit) × IsWithin limit text
StageReports Failed limit content text = Unit {0}

abbrev pub UnfinishedReports : Type 0
UnfinishedReports = (text : List ℕ) (p : Progress) → Unfinished text p → StageReports p.stage p.limit p.content text
