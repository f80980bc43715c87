use Rattle.std.proofs.Common.{refl, inr, rules, ◌≡◌, length, arith}
use Rattle.hex.specs.Hex.{IsBytes}
use Rattle.nfs_content.specs.Bytes.{written}
use Rattle.nfs_source.specs.OpenLines.{encode_in}
use Rattle.nfs_source.proofs.OpenLines.{bytes_grow, some_grow, text_grows, too_many}
use Rattle.nfs_source.proofs.open_line.DecodedLine.push.Goals as goal

pub put_at-requires : goal.put_at-requires
put_at-requires c = omega (arith, c.len.ensures, c.if-saturating_add-gt-MAX_CONTENT_BYTES.false, c.saturating_add.ensures, c.as_slice.ensures.len)

pub returns-clause-taken : goal.returns-clause-taken
returns-clause-taken c =
    let it = c.args.self.now in
    let encoded : encode_in c.in-Some.case c.in-Some.bytes.items ≡ c.args.digits.now = search rules in
    let is : c.put_at.new.self ≡ written it.content (length it.content) c.in-Some.bytes.items = search rules in
    let alike : encode_in c.in-Some.case it.content ≡ encode_in it.case it.content = search rules in
    text_grows it.words.items it.content c.in-Some.bytes.items c.args.digits.now c.put_at.new.self c.in-Some.case it.case is encoded alike

pub returns-clause-decoded : goal.returns-clause-decoded
returns-clause-decoded c =
    let it = c.args.self.now in
    let bytes : IsBytes c.in-Some.bytes.items = search rules in
    let is : c.put_at.new.self ≡ written it.content (length it.content) c.in-Some.bytes.items = search rules in
    record {
      words = c.requires.words;
      bytes = bytes_grow it.content c.in-Some.bytes.items c.put_at.new.self is c.requires.bytes bytes;
      some = some_grow it.content c.in-Some.bytes.items c.put_at.new.self is c.requires.some;
    }

pub returns-then-saturating_add-gt-MAX_CONTENT_BYTES-clause-taken :
    goal.returns-then-saturating_add-gt-MAX_CONTENT_BYTES-clause-taken
returns-then-saturating_add-gt-MAX_CONTENT_BYTES-clause-taken c =
    let it = c.args.self.now in
    let encoded : encode_in c.in-Some.case c.in-Some.bytes.items ≡ c.args.digits.now = search rules in (
      refl,
      inr (too_many c.args.digits.now c.in-Some.bytes.items (length it.content) c.in-Some.case encoded
          (omega (arith, c.len.ensures, c.len-len.ensures, c.if-saturating_add-gt-MAX_CONTENT_BYTES.true, c.saturating_add.ensures))),
    )
