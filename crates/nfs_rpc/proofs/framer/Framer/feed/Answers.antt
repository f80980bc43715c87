use Rattle.std.proofs.Common.{◌∙◌, arith}
use Rattle.std.proofs.lemmas.Bool.{false≢true}
use Rattle.nfs_rpc.proofs.Steps.{moves_within, within_rest}
use Rattle.nfs_rpc.proofs.framer.Framer.feed.Goals as goal

pub loop-used-preserved-in-Ok : goal.loop-used-preserved-in-Ok
loop-used-preserved-in-Ok c = record {
  limit = c.in-Ok.ensures.limit ∙ c.loop-used.invariant.limit;
  within = within_rest c.args.chunk.now c.loop-used.used c.in-Ok.n c.loop-used.invariant.within c.in-Ok.ensures.used.1;
  moves = moves_within c.args.self.now c.loop-used.self c.take_header.new.self c.args.chunk.now c.loop-used.used c.in-Ok.n c.loop-used.invariant.moves c.in-Ok.ensures.moves;
  started = c.loop-used.invariant.started;
  began = c.loop-used.invariant.began;
  alive = λ e. false≢true (c.in-Ok.ensures.alive.1 e);
  took = λ e. omega (arith, c.in-Ok.ensures.used.0);
}

pub loop-used-preserved : goal.loop-used-preserved
loop-used-preserved c = record {
  limit = c.take_body-used.ensures.limit ∙ c.loop-used.invariant.limit;
  within = within_rest c.args.chunk.now c.loop-used.used c.take_body-used.result c.loop-used.invariant.within c.take_body-used.ensures.used.1;
  moves = moves_within c.args.self.now c.loop-used.self c.take_body-used.new.self c.args.chunk.now c.loop-used.used c.take_body-used.result c.loop-used.invariant.moves c.take_body-used.ensures.moves;
  started = c.loop-used.invariant.started;
  began = c.loop-used.invariant.began;
  alive = c.take_body-used.ensures.alive;
  took = λ e. omega (arith, c.take_body-used.ensures.used.0);
}
