use Rattle.std.proofs.Common.{List, [], ℕ, drop, take, length, min, sym, subst, ◌-◌, ◌+◌, ◌%◌, ◌/◌, ◌<◌, ◌≤◌, ◌≡◌, arith}
use Rattle.nfs_content.specs.Bytes.{IsFirstChunk}
use Rattle.nfs_content.specs.Paged.{shown}
use Rattle.nfs_content.specs.Tables.{pages_of}
use Rattle.nfs_content.proofs.Shown.{shown_len, no_chunk, kept_chunk, hole_chunk}
use Rattle.nfs_content.proofs.pages.PagesContent.run_at.Goals as goal

pub returns-then-offset-self : goal.returns-then-offset-self
returns-then-offset-self c =
    let ps = pages_of c.self.inside.table in
    let len = shown_len ps c.self.inside.len in
    let history = c.if-offset-self.true in
    subst (λ (xs : List ℕ). IsFirstChunk [] (drop c.args.offset xs)) c.self.view_is (no_chunk (shown ps c.self.inside.len) c.args.offset (omega (arith, len, history)))

pub returns-then-first-page : goal.returns-then-first-page
returns-then-first-page c =
    let ps = pages_of c.self.inside.table in
    let p = c.page_at-page.result.now in
    let is : p ≡ ps (c.args.offset / 4096) = c.page_at-page.ensures in
    subst (λ (xs : List ℕ). IsFirstChunk (take (c.min.result - c.args.offset % 4096) (drop (c.args.offset % 4096) p)) (drop c.args.offset xs)) c.self.view_is
    (subst (λ (q : List ℕ). IsFirstChunk (take (c.min.result - c.args.offset % 4096) (drop (c.args.offset % 4096) q)) (drop c.args.offset (shown ps c.self.inside.len))) (sym is)
    (kept_chunk ps c.self.inside.len c.args.offset c.self.invariant (let to = c.if-offset-self.false in omega (arith, to)) c.min-most.result c.min.result c.min-most.ensures
    (subst (λ (q : List ℕ). c.min.result ≡ min (length q) (c.args.offset % 4096 + c.min-most.result)) is c.min.ensures)
    (subst (λ (q : List ℕ). c.args.offset % 4096 < length q) is c.if-first-page.true)))

pub returns-else-first-page : goal.returns-else-first-page
returns-else-first-page c =
    let ps = pages_of c.self.inside.table in
    let is : c.page_at-page.result.now ≡ ps (c.args.offset / 4096) = c.page_at-page.ensures in
    subst (λ (xs : List ℕ). IsFirstChunk c.unwritten.result.now (drop c.args.offset xs)) c.self.view_is
    (subst (λ (run : List ℕ). IsFirstChunk run (drop c.args.offset (shown ps c.self.inside.len))) (sym c.unwritten.ensures)
    (hole_chunk ps c.self.inside.len c.args.offset c.self.invariant (let to = c.if-offset-self.false in omega (arith, to)) c.min-most.result c.min-most.ensures
    (subst (λ (q : List ℕ). length q ≤ c.args.offset % 4096) is c.if-first-page.false)))
