-- A path's way, volume by volume.
use Rattle.std.proofs.Common.{◌≡◌, ℕ, zero, suc, ◌+◌, ◌<◌, List, [], ◌∷◌, length, drop, Option, refl, ◌∙◌, arith, slice_get, add-one}
use Rattle.nfs_inodes.specs.Tree.{Volume}
use Rattle.nfs_client.specs.Places.{Way, nearer, volume_way, way_from}

way_step : (vs : List Volume) (i : ℕ) (found : Option Way) (path : List ℕ) → i < length vs
    → way_from found (drop i vs) path ≡ way_from (nearer found (volume_way (slice_get vs i) path)) (drop (suc i) vs) path
way_step [] i found path inside = absurd (omega arith)
way_step (v ∷ vs) zero found path inside = refl
way_step (v ∷ vs) (suc i) found path inside = way_step vs i found path (omega arith)

-- the way that was found, after one more volume
pub way_more : (vs : List Volume) (i len : ℕ) (found here next : Option Way) (path : List ℕ) → len ≡ length vs → i < len
    → here ≡ volume_way (slice_get vs i) path → next ≡ nearer found here → way_from found (drop i vs) path ≡ way_from next (drop (i + 1) vs) path
way_more vs i len found here next path counted inside is_here is_next =
    way_step vs i found path (omega (arith, counted, inside)) ∙ rw (is_next, is_here, add-one i) refl
