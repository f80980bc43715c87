use Rattle.std.proofs.Common.{◌≡◌, ◌++◌, drop, sym, ap, subst, ◌∙◌, arith}
use Rattle.std.specs.Result.{is_ok}
use Rattle.std.proofs.lemmas.List.{take_rest}
use Rattle.nfs_content.specs.Paged.{Puts}
use Rattle.nfs_content.proofs.Putting.{where_so, puts_whole}
use Rattle.nfs_content.proofs.page.put_into.Goals as goal

pub returns-clause-puts : goal.returns-clause-puts
returns-clause-puts c =
    let mid = c.overwrite.new.page.items in
    let bytes = c.args.bytes.now in
    let over = c.min-over.result in
    let items : c.extend_from_slice.new.self.items ≡ mid ++ drop over bytes = where_so _ mid _ (is_ok c.extend_from_slice.result) (ap (λ r. is_ok r) c.unwrap.ensures) c.extend_from_slice.ensures.items ∙ ap (λ rest. mid ++ rest) (take_rest bytes over) in
    let old_len = c.args.page.now.ok.0 in
    let reached_len = c.reach.new.page.ok.0 in
    let mid_len = c.overwrite.new.page.ok.0 in
    let reach = c.reach.ensures.len in
    let len = c.len.ensures in
    let over_is = c.min-over.ensures in
    let long = c.overwrite.ensures.len in
    subst (λ now. Puts c.args.page.now.items c.args.at bytes now) (sym items)
    (puts_whole c.args.page.now.items c.reach.new.page.items mid c.args.at over bytes c.reach.ensures.same
    (omega (arith, old_len, reached_len, reach)) (omega (arith, len, over_is, reached_len)) c.overwrite.ensures.puts (omega (arith, long, reached_len, mid_len)))
