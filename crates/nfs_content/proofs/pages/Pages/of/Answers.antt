use Rattle.std.proofs.Common.{◌≡◌, ◌≤◌, ◌∷◌, [], List, ℕ, length, refl, ap, ◌∙◌, arith}
use Rattle.nfs_content.specs.Paged.{items_at, shown}
use Rattle.nfs_content.proofs.Lists.{one_items}
use Rattle.nfs_content.proofs.Shown.{one_shown}
use Rattle.nfs_content.proofs.pages.Pages.of.Goals as goal

pub returns : goal.returns
returns c =
    let page = c.shrink_to_fit.new.self in
    let same = c.shrink_to_fit.ensures.items in
    let len : c.len-len.result ≡ length page.items = c.len-len.ensures ∙ page.ok.0 in
    let small : length page.items ≤ 4096 = (let n = c.if-len-gt-PAGE_BYTES.false in let m = c.len.ensures in let o = c.args.bytes.ok.0 in let e = ap (λ (p : List ℕ). length p) same in omega (arith, n, m, o, e)) in
    ap (shown (items_at (page ∷ []))) len ∙ one_shown (items_at (page ∷ [])) page.items refl (one_items page) small ∙ same
