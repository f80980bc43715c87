use Rattle.std.proofs.Common.{rules, ◌≡◌, ◌++◌, length, subst, sym, ap, ◌∙◌, arith}
use Rattle.hex.specs.Hex.{IsBytes}
use Rattle.nfs_load.specs.Lines.{begins_file}
use Rattle.nfs_source.specs.OpenLines.{encode_in}
use Rattle.nfs_source.proofs.OpenLines.{begun, page_says, some_bytes}
use Rattle.nfs_source.proofs.open_line.DecodedLine.begin.Goals as goal

pub of-requires : goal.of-requires
of-requires c =
    let encoded : encode_in c.in-Some-2.case c.in-Some-2.content.items ≡ c.split_at.result.0.now = search rules in
    let long : length c.split_at.result.0.now ≡ 8192 = search rules in
    omega (arith, page_says c.split_at.result.0.now c.in-Some-2.content.items c.in-Some-2.case encoded long)

pub returns : goal.returns
returns c =
    let case = c.in-Some-2.case in
    let encoded : encode_in case c.in-Some-2.content.items ≡ c.split_at.result.0.now = search rules in
    let bytes : IsBytes c.in-Some-2.content.items = search rules in
    let long : length c.split_at.result.0.now ≡ 8192 = search rules in
    let words : c.in_ok-words.words.items ≡ c.in-Some.words.now = search rules in
    let rest : c.in_ok-to_vec.field-0.items ≡ c.split_at.result.1.now = search rules in
    let content : c.in_ok-content-2.content ≡ c.in-Some-2.content.items = search rules in
    let cut : c.in-Some.digits.now ≡ c.split_at.result.0.now ++ c.split_at.result.1.now = search rules in (
      begun c.args.line.now c.in-Some.words.now c.in-Some.digits.now c.split_at.result.0.now c.split_at.result.1.now c.in-Some-2.content.items c.in_ok-words.words.items c.in_ok-content-2.content
          c.in_ok-to_vec.field-0.items case c.in-Some.ensures.0 cut encoded words content rest,
      record {
        words = ap begins_file words ∙ c.in-Some.ensures.1;
        bytes = subst IsBytes (sym content) bytes;
        some = some_bytes c.in_ok-content-2.content (ap length content ∙ page_says c.split_at.result.0.now c.in-Some-2.content.items case encoded long);
      },
    )
