use Rattle.std.proofs.Common.{◌≡◌, ℕ, ◌<◌, length, take, get_or}
use Rattle.std.specs.Int.{w64, to_be_bytes}
use Rattle.std.specs.List.{flat_map}
use Rattle.nfs_xdr.specs.Encoding.{IsNumber, hypers_text}
use Rattle.nfs_xdr.proofs.output.Output.hypers.Given as goal

abbrev pub invariant-loop-i : goal.invariant-loop-i
invariant-loop-i g l =
    (l.self ≡ l.fn.self) × (length l.words ≡ length l.ns) × (flat_map (λ word. word) (take l.i l.words) ≡ hypers_text (take l.i l.ns))
    × ((j : ℕ) → j < l.i → IsNumber w64 (get_or l.ns j 0) (to_be_bytes w64 (get_or l.ns j 0)))
