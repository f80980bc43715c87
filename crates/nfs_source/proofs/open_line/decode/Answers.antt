use Rattle.std.proofs.Common.{rules, ◌≡◌, ◌≢◌, inl, inr, refl, Err, subst, sym, ◌∙◌, ap}
use Rattle.hex.specs.Hex.{decode_of}
use Rattle.hex.proofs.HexLemmas.{decode_of-ok}
use Rattle.nfs_source.specs.OpenLines.{IsNoCode, encode_in}
use Rattle.nfs_source.proofs.OpenLines.{in_any, no_code, other_code}
use Rattle.nfs_source.proofs.open_line.decode.Goals as goal

pub returns-in-Err : goal.returns-in-Err
returns-in-Err c =
    let e : decode_of c.args.digits.now ≡ Err c.in-Err.field-0 = search rules in
    no_code c.args.digits.now c.in-Err.field-0 e

pub returns-then-branch : goal.returns-then-branch
returns-then-branch c =
    let encoded : encode_in c.args.case c.as_slice.result.now ≡ c.args.digits.now = search rules in
    ((ap (encode_in c.args.case) (sym c.as_slice.ensures.value) ∙ encoded, (decode_of-ok c.args.digits.now c.in-Ok.bytes.items c.in-Ok.ensures.ok).3), inl refl)

pub returns-then-branch-2 : goal.returns-then-branch-2
returns-then-branch-2 c =
    let differs : encode_in c.args.case c.as_slice.result.now ≢ c.args.digits.now = search rules in
    let encoded : encode_in c.other-other.result c.as_slice-2.result.now ≡ c.args.digits.now = search rules in (
      (ap (encode_in c.other-other.result) (sym c.as_slice-2.ensures.value) ∙ encoded, (decode_of-ok c.args.digits.now c.in-Ok.bytes.items c.in-Ok.ensures.ok).3),
      inr (other_code c.args.digits.now c.in-Ok.bytes.items c.args.case c.in-Ok.ensures.ok (λ same. differs (ap (encode_in c.args.case) c.as_slice.ensures.value ∙ same))),
    )

pub returns : goal.returns
returns c =
    let one : encode_in c.args.case c.as_slice.result.now ≢ c.args.digits.now = search rules in
    let two : encode_in c.other-other.result c.as_slice-2.result.now ≢ c.args.digits.now = search rules in
    in_any (λ any. IsNoCode any c.args.digits.now) c.args.case
    (other_code c.args.digits.now c.in-Ok.bytes.items c.args.case c.in-Ok.ensures.ok (λ same. one (ap (encode_in c.args.case) c.as_slice.ensures.value ∙ same)))
    (subst (λ case. IsNoCode case c.args.digits.now) c.other-other.ensures
    (other_code c.args.digits.now c.in-Ok.bytes.items c.other-other.result c.in-Ok.ensures.ok (λ same. two (ap (encode_in c.other-other.result) c.as_slice-2.ensures.value ∙ same))))
