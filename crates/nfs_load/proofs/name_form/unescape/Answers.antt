use Rattle.std.proofs.Common.{true, ◌∷◌, [], length, option_map, sym, ap, ◌∙◌, arith}
use Rattle.std.proofs.lemmas.List.{length-append}
use Rattle.nfs_load.specs.Names.{unescaped}
use Rattle.nfs_load.proofs.Names.{less_after}
use Rattle.nfs_load.proofs.Unescaping.{after, at_err, at_ok, begins, ended, full, goes_on, none_of, nowhere, some_of}
use Rattle.nfs_load.proofs.name_form.unescape.Goals as goal

pub loop-rest-init : goal.loop-rest-init
loop-rest-init g c = record { so_far = ap (λ it. after it (unescaped c.args.text.now)) c.new-bytes.ensures ∙ begins c.args.text.now; few = omega (arith, ap length c.new-bytes.ensures) }

pub returns-in_err-byte : goal.returns-in_err-byte
returns-in_err-byte g c =
    ap (option_map (λ bytes. bytes.items)) c.from_residual.ensures
    ∙ sym (nowhere g.row.N c.loop-rest.bytes.items c.loop-rest.rest.now (unescaped c.args.text.now) (some_of c.loop-rest.rest.now (sym c.is_empty.ensures ∙ c.loop-rest-test.true)) (sym c.in_err-byte.ensures) c.loop-rest.invariant.so_far)

pub returns-in_err-ok : goal.returns-in_err-ok
returns-in_err-ok g c =
    ap (option_map (λ bytes. bytes.items)) c.from_residual-in_err-ok.ensures
    ∙ sym (full g.row.N c.loop-rest.bytes.items c.loop-rest.rest.now c.in_ok-byte.after.now c.in_ok-byte.byte (unescaped c.args.text.now) c.in_ok-byte.ensures c.loop-rest.invariant.so_far
    (at_err c.try_push.result c.in_err-ok.ensures.variant c.try_push.ensures.full))

pub loop-rest-smaller : goal.loop-rest-smaller
loop-rest-smaller g c = less_after c.loop-rest.rest.now c.in_ok-byte.byte c.in_ok-byte.after.now (sym c.in_ok-byte.ensures)

pub loop-rest-preserved : goal.loop-rest-preserved
loop-rest-preserved g c =
    let items = at_ok c.try_push.result c.in_ok-ok.ensures.variant c.try_push.ensures.ok in
    let room = c.try_push.ensures.variant.0 (sym {a = true} c.in_ok-ok.ensures.variant) in
    record {
      so_far = ap (λ it. after it (unescaped c.in_ok-byte.after.now)) items
          ∙ goes_on c.loop-rest.bytes.items c.loop-rest.rest.now c.in_ok-byte.after.now c.in_ok-byte.byte (unescaped c.args.text.now) c.in_ok-byte.ensures c.loop-rest.invariant.so_far;
      few = omega (arith, ap length items, length-append c.loop-rest.bytes.items (c.in_ok-byte.byte ∷ []), room);
    }

pub returns : goal.returns
returns g c = ended g.row.N c.loop-rest.bytes.items c.loop-rest.rest.now (unescaped c.args.text.now) (none_of c.loop-rest.rest.now (sym c.is_empty.ensures ∙ c.loop-rest-test.false)) c.loop-rest.invariant.so_far c.loop-rest.invariant.few
