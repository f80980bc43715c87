use Rattle.std.proofs.Common.{false, ◌==◌, ◌≡◌, ◌∙◌, List, ℕ, [], ◌∷◌, length, refl, ap}
use Rattle.nfs_content.specs.Bytes.{put_bytes, written}
use Rattle.nfs_content.specs.Tables.{pages_of}
use Rattle.nfs_content.proofs.Shown.{put_shown, same_shown, same_paged}
use Rattle.nfs_content.proofs.pages.PagesContent.put_at.Goals as goal

-- some bytes are put
put_some : (old : List ℕ) (offset : ℕ) (new : List ℕ) → false ≡ (length new == 0) → put_bytes old offset new ≡ written old offset new
put_some old offset [] e = cc
put_some old offset (b ∷ bs) e = refl

pub returns-clause-ok : goal.returns-clause-ok
returns-clause-ok c =
    let old = pages_of c.self.inside.table in
    let held = pages_of c.hold.new.table in
    let there = same_paged old held c.in_ok-hold.ensures.same c.self.inside.len c.self.invariant in
    put_shown held (pages_of c.put.new.table) c.self.inside.len there c.args.offset c.args.new.now c.max-self-inside.result c.max-self-inside.ensures c.put.ensures.writes
    ∙ ap (λ (xs : List ℕ). put_bytes xs c.args.offset c.args.new.now) (same_shown old held c.in_ok-hold.ensures.same c.self.inside.len ∙ c.self.view_is)
    ∙ put_some c.args.self.now c.args.offset c.args.new.now c.if-is_empty.ensures
