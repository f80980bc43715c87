use Rattle.std.proofs.Common.{◌≡◌, ◌+◌, ◌-◌, ◌^◌, ◌<◌, get_or, [], drop, length, ap, sym, ◌∙◌, rules, arith}
use Rattle.std.specs.Prelude.{min}
use Rattle.nfs_disk.specs.Surveys.{once, regular_bytes, seen_with}
use Rattle.nfs_disk.proofs.Lasting.{first_name, further_name, more_bytes, more_files, next_of}
use Rattle.nfs_disk.proofs.survey.Survey.extent.Goals as goal
use Rattle.nfs_disk.proofs.survey.Survey.extent.Goals.{then-branch, else-branch}

pub loop-found-preserved : goal.loop-found-preserved
loop-found-preserved c =
    let found = c.args.self.now.found.items in
    let i = c.loop-found.found-index in
    let one = c.found-item.result in
    let so = c.loop-found.invariant in
    let step = c.in_ok-is_first.ensures so.0 so.1 in
    let inside : i < length found = search rules in
    let is : one ≡ get_or found i one = search rules in
    let next = next_of found i one inside is in
    elim c.if-branch.branch [
      | then-branch w ↦
          let e = first_name so.0 (drop i found) (drop (i + 1) found) one (sym w.if-branch.true ∙ step.0) next in (
            seen_with so.0 one,
            step.1,
            omega (arith, w.bytes-is, w.saturating_add-bytes.type_inv),
            omega (arith, w.files-is, w.saturating_add-files.type_inv),
            more_bytes (once so.0 (drop i found)) (once (seen_with so.0 one) (drop (i + 1) found)) one (regular_bytes (once [] found)) c.loop-found.bytes w.size_of.result c.if-branch.bytes so.4 e w.size_of.ensures
                (w.bytes-is ∙ w.saturating_add-bytes.ensures),
            more_files (once so.0 (drop i found)) (once (seen_with so.0 one) (drop (i + 1) found)) one (length (once [] found)) c.loop-found.files c.if-branch.files so.5 e
                (w.files-is ∙ w.saturating_add-files.ensures),
          )
      | else-branch w ↦
          let e = further_name so.0 (drop i found) (drop (i + 1) found) one (sym w.if-branch.false ∙ step.0) next in (
            seen_with so.0 one,
            step.1,
            omega (arith, w.bytes-is, so.2),
            omega (arith, w.files-is, so.3),
            ap (λ n. min (n + regular_bytes (once (seen_with so.0 one) (drop (i + 1) found))) (2 ^ 64 - 1)) w.bytes-is ∙ ap (λ l. min (c.loop-found.bytes + regular_bytes l) (2 ^ 64 - 1)) (sym e) ∙ so.4,
            ap (λ n. min (n + length (once (seen_with so.0 one) (drop (i + 1) found))) (2 ^ 64 - 1)) w.files-is ∙ ap (λ l. min (c.loop-found.files + length l) (2 ^ 64 - 1)) (sym e) ∙ so.5,
          )
    ]
