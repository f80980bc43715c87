use Rattle.std.proofs.Common.{ℕ, ◌/◌, List, Ok, ap, arith, bytes_eq, length, sym, ◌∙◌}
use Rattle.std.proofs.lemmas.Bool.{ltb-true, ltb-false}
use Rattle.hex.proofs.HexLemmas.{decode_of-ok}
use Rattle.nfs_load.proofs.Contents.{content_of_digits, none_of_many_digits, without_room}
use Rattle.nfs_load.proofs.field.read_content.Goals as goal

pub returns-then-has_too_many_digits : goal.returns-then-has_too_many_digits
returns-then-has_too_many_digits c =
    none_of_many_digits c.args.tree.now.limits.file_size c.args.field.now (sym (c.eq.ensures ∙ ap (bytes_eq c.args.field.now) c.as_slice.ensures) ∙ c.if-eq.false)
    (ltb-true _ _ (sym c.has_too_many_digits.ensures ∙ c.if-has_too_many_digits.true))

pub without_memory-requires-clause-few : goal.without_memory-requires-clause-few
without_memory-requires-clause-few c = ltb-false _ _ (sym c.has_too_many_digits.ensures ∙ c.if-has_too_many_digits.false)

pub of-requires : goal.of-requires
of-requires c =
    let twice = (decode_of-ok c.args.field.now c.in-Ok.content.items c.in-Ok.ensures.ok).2 in
    let few = ltb-false c.args.tree.now.limits.file_size (length c.args.field.now / 2) (sym c.has_too_many_digits.ensures ∙ c.if-has_too_many_digits.false) in
    omega (arith, twice, few, c.law.ensures.limits.file_size)

pub returns-in_err-of-in-Ok : goal.returns-in_err-of-in-Ok
returns-in_err-of-in-Ok c =
    let digits = sym (c.eq.ensures ∙ ap (bytes_eq c.args.field.now) c.as_slice.ensures) ∙ c.if-eq.false in
    let few = ltb-false _ _ (sym c.has_too_many_digits.ensures ∙ c.if-has_too_many_digits.false) in
    without_room (λ (pages : List ℕ). pages) _ c.from_residual.result _ c.from_residual.ensures
    (digits, c.in-Ok.content.items, content_of_digits c.args.tree.now.limits.file_size c.args.field.now c.in-Ok.content.items digits few c.in-Ok.ensures.ok)

pub returns-in_ok-of-in-Ok : goal.returns-in_ok-of-in-Ok
returns-in_ok-of-in-Ok c =
    content_of_digits c.args.tree.now.limits.file_size c.args.field.now c.in-Ok.content.items (sym (c.eq.ensures ∙ ap (bytes_eq c.args.field.now) c.as_slice.ensures) ∙ c.if-eq.false)
    (ltb-false _ _ (sym c.has_too_many_digits.ensures ∙ c.if-has_too_many_digits.false)) c.in-Ok.ensures.ok ∙ ap Ok (sym c.in_ok-of-in-Ok.ensures)
