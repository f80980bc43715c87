-- What was asked of the network, one question after another.
use Rattle.std.proofs.Common.{◌≡◌, ℕ, ◌+◌, ◌-◌, ◌<◌, List, [], ◌∷◌, ◌++◌, length, Option, Some, inl, inr, refl, arith}
use Rattle.nfs_loop.specs.Reports.{Report, nothing_ready, IsReported}
use Rattle.nfs_loop.specs.Stages.{AsksAll, IsAsked}

-- so much was reported, and so much may be reported yet
abbrev pub AsksSome : ℕ → ℕ → Option (List Report) → Option (List Report) → Type 0
AsksSome most left reported reported_now = (before : List Report) → reported ≡ Some before → (news : List Report) × (reported_now ≡ Some (news ++ before)) × (length news + left ≡ most)

pub asks_none : (most : ℕ) (reported : Option (List Report)) → AsksSome most most reported reported
asks_none most reported before e = ([], e, omega arith)

one_more : (t : Report) (news : List Report) (left most : ℕ) → length news + left ≡ most → 0 < left → length (t ∷ news) + (left - 1) ≡ most
one_more t news left most e some = omega (arith, e, some)

pub asks_on : (most left : ℕ) (t : Report) (reported reported_now reported_then : Option (List Report)) → AsksSome most left reported reported_now → IsReported reported_now t reported_then → 0 < left → AsksSome most (left - 1) reported reported_then
asks_on most left t reported reported_now reported_then a report some before e = let m = a before e in (t ∷ m.0, report (m.0 ++ before) m.1, one_more t m.0 left most m.2 some)

pub asks_ends : (most left : ℕ) (reported reported_now reported_then : Option (List Report)) → AsksSome most left reported reported_now → IsReported reported_now nothing_ready reported_then → AsksAll most reported reported_then
asks_ends most left reported reported_now reported_then a report before e = let m = a before e in (nothing_ready ∷ m.0, report (m.0 ++ before) m.1, inl refl)

all_asked : (most left : ℕ) (news : List Report) → length news + left ≡ most → left ≡ 0 → IsAsked most news
all_asked most left [] e none = omega (arith, e, none)
all_asked most left (t ∷ news) e none = inr (omega (arith, e, none))

pub asks_done : (most left : ℕ) (reported reported_now : Option (List Report)) → AsksSome most left reported reported_now → left ≡ 0 → AsksAll most reported reported_now
asks_done most left reported reported_now a none before e = let m = a before e in (m.0, m.1, all_asked most left m.0 m.2 none)
