use Rattle.std.proofs.Common.{[], refl, subst, sym, ◌∙◌, append-nil, arith, rules}
use Rattle.nfs_rpc.specs.Progress.{Moves, Unfinished}
use Rattle.nfs_server.proofs.Streaming.{all_taken, breaks_on, stream_begins, takes_on}
use Rattle.nfs_server.proofs.stream.take_read.Goals as goal

pub loop-used-init : goal.loop-used-init
loop-used-init g c =
    let moves : Moves c.args.framer.now [] c.args.framer.now = λ text u. subst (λ t. Unfinished t c.args.framer.now) (sym (append-nil text)) u in
    record {
      within = omega arith;
      calls = omega arith;
      rest = omega arith;
      between = c.requires.between;
      limit = refl;
      setup = refl;
      feeds = stream_begins g.C.Moments.reports c.args.addr c.args.server.now c.args.framer.now c.args.framer.now c.args.clock.now _ _ [] c.args.unfinished refl c.requires.between moves;
    }

pub loop-used-preserved : goal.loop-used-preserved
loop-used-preserved g c =
    let inv = c.loop-used.invariant in
    record {
      within = search rules;
      calls = omega (arith, inv.calls, c.in-Ok.ensures.calls);
      rest = omega (arith, inv.rest, c.in-Ok.ensures.rest);
      between = c.in-Ok.ensures.between;
      limit = c.in-Ok.ensures.limit ∙ inv.limit;
      setup = c.in-Ok.ensures.setup ∙ inv.setup;
      feeds = takes_on g.C.Moments.reports c.args.addr c.args.chunk.now c.loop-used.used c.loop-used.taken.calls c.args.unfinished c.loop-used.taken.rest c.args.server.now c.loop-used.server c.args.framer.now c.loop-used.framer c.args.clock.now c.loop-used.clock _ _ _ _ inv.feeds
          c.take_one.new.server c.take_one.new.framer c.take_one.new.clock _ _ c.in-Ok.ensures.limit c.in-Ok.part c.in-Ok.ensures.feeds;
    }

pub returns-in-Err-clause-feeds : goal.returns-in-Err-clause-feeds
returns-in-Err-clause-feeds g c =
    breaks_on g.C.Moments.reports c.args.addr c.args.chunk.now c.loop-used.used c.loop-used.taken.calls c.args.unfinished c.loop-used.taken.rest c.args.server.now c.loop-used.server c.args.framer.now c.loop-used.framer c.args.clock.now c.loop-used.clock _ _ _ _ c.loop-used.invariant.feeds
    c.take_one.new.server c.take_one.new.framer c.take_one.new.clock _ _ c.in-Err.ensures.limit c.in-Err.fault 0 c.in-Err.ensures.feeds

pub returns-clause-feeds : goal.returns-clause-feeds
returns-clause-feeds g c = all_taken g.C.Moments.reports c.args.addr c.args.chunk.now c.loop-used.used c.loop-used.taken.calls c.args.unfinished c.loop-used.taken.rest c.args.server.now c.loop-used.server c.args.framer.now c.loop-used.framer c.args.clock.now c.loop-used.clock _ _ _ _ c.loop-used.invariant.feeds (omega arith)
