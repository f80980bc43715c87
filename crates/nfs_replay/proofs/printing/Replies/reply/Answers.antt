use Rattle.std.proofs.Common.{List, ℕ, Bor, ap}
use Rattle.std.specs.Option.{option_map}
use Rattle.nfs_replay.proofs.Outcomes.{replied, replied_in_part, replied_in_words}
use Rattle.nfs_replay.proofs.printing.Replies.reply.Goals as goal

pub returns-in_err-words-clause-prints : goal.returns-in_err-words-clause-prints
returns-in_err-words-clause-prints g c =
    replied_in_part (g.W.ByteOut.contents c.args.self.now.out.now) (g.W.ByteOut.contents c.bytes.new.out) (g.W.ByteOut.contents c.words.new.out) c.args.self.now.shown.is_decoded
    (option_map (λ (bytes : Bor (List ℕ)). bytes.now) c.args.reply) c.in-Some.reply.now (ap (option_map (λ (bytes : Bor (List ℕ)). bytes.now)) c.in-Some.is)
    c.from_residual-in_err-words.result c.from_residual-in_err-words.ensures.0 c.if-self.true c.in_ok-bytes.ensures c.in_err-words.ensures

pub returns-in_ok-words-clause-prints : goal.returns-in_ok-words-clause-prints
returns-in_ok-words-clause-prints g c =
    replied_in_words (g.W.ByteOut.contents c.args.self.now.out.now) (g.W.ByteOut.contents c.bytes.new.out) (g.W.ByteOut.contents c.words.new.out) c.args.self.now.shown.is_decoded
    (option_map (λ (bytes : Bor (List ℕ)). bytes.now) c.args.reply) c.in-Some.reply.now (ap (option_map (λ (bytes : Bor (List ℕ)). bytes.now)) c.in-Some.is)
    c.if-self.true c.in_ok-bytes.ensures c.in_ok-words.ensures

pub returns-else-self-clause-prints : goal.returns-else-self-clause-prints
returns-else-self-clause-prints g c =
    replied (g.W.ByteOut.contents c.args.self.now.out.now) (g.W.ByteOut.contents c.bytes.new.out) (g.W.ByteOut.contents c.bytes.new.out) c.args.self.now.shown.is_decoded
    (option_map (λ (bytes : Bor (List ℕ)). bytes.now) c.args.reply) c.in-Some.reply.now (ap (option_map (λ (bytes : Bor (List ℕ)). bytes.now)) c.in-Some.is)
    c.if-self.false c.in_ok-bytes.ensures
