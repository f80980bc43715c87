use Rattle.std.proofs.Common.{◌≡◌, ◌<◌, ◌≤◌, [], length, take, refl, subst, sym, ◌∙◌, append-nil, arith}
use Rattle.nfs_rpc.specs.Progress.{Moves, Unfinished}
use Rattle.nfs_server.specs.Streams.{read_bytes}
use Rattle.nfs_server.proofs.Streaming.{read_broken, read_on, stream_begins, taken_len}
use Rattle.nfs_server.proofs.stream.read_stream.Goals as goal

pub loop-turn-init : goal.loop-turn-init
loop-turn-init g c =
    let moves : Moves c.args.framer.now [] c.args.framer.now = λ text u. subst (λ t. Unfinished t c.args.framer.now) (sym (append-nil text)) u in
    record {
      calls = omega arith;
      rest = omega arith;
      between = c.requires.between;
      limit = c.requires.limit;
      setup = refl;
      feeds = ([], refl, refl, stream_begins g.C.Moments.reports c.args.addr c.args.server.now c.args.framer.now c.args.framer.now c.args.clock.now _ _ [] 0 refl c.requires.between moves);
    }

pub returns-in-Err-clause-streams : goal.returns-in-Err-clause-streams
returns-in-Err-clause-streams g c =
    let len : length (take c.in-Ok.n c.read.new.buffer) ≡ c.in-Ok.n = taken_len c.in-Ok.n c.read.new.buffer c.in-Ok.ensures.count in
    let some : 0 < length (take c.in-Ok.n c.read.new.buffer) = omega (arith, len, c.if-n-eq0.false) in
    let few : length (take c.in-Ok.n c.read.new.buffer) ≤ read_bytes = omega (arith, len, c.in-Ok.ensures.count, c.read.auto.buffer) in
    read_broken g.R.ByteIn.gives g.R.ByteIn.breaks g.C.Moments.reports c.args.addr c.args.turns c.loop-turn._turn c.loop-turn.served.calls c.loop-turn.served.rest c.args.server.now c.loop-turn.server c.take_read.new.server c.args.framer.now c.loop-turn.framer c.take_read.new.framer c.args.clock.now c.loop-turn.clock c.take_read.new.clock _ _ _ _ _ _
    c.args.reader.now c.loop-turn.reader c.read.new.self (take c.in-Ok.n c.read.new.buffer) c.loop-turn.invariant.feeds c.in-Ok.ensures.gives some few c.in-Err.ensures.limit
    c.requires.begins (c.in-Err.ensures.limit ∙ c.loop-turn.invariant.limit) c.loop-turn-test.true c.in-Err.fault c.of_session.result c.of_session.ensures 0 c.in-Err.ensures.feeds

pub loop-turn-preserved : goal.loop-turn-preserved
loop-turn-preserved g c =
    let inv = c.loop-turn.invariant in
    let len : length (take c.in-Ok.n c.read.new.buffer) ≡ c.in-Ok.n = taken_len c.in-Ok.n c.read.new.buffer c.in-Ok.ensures.count in
    let some : 0 < length (take c.in-Ok.n c.read.new.buffer) = omega (arith, len, c.if-n-eq0.false) in
    let few : length (take c.in-Ok.n c.read.new.buffer) ≤ read_bytes = omega (arith, len, c.in-Ok.ensures.count, c.read.auto.buffer) in
    record {
      calls = omega (arith, inv.calls, few, c.in-Ok-take_read.ensures.calls);
      rest = omega (arith, inv.rest, few, c.in-Ok-take_read.ensures.rest);
      between = c.in-Ok-take_read.ensures.between;
      limit = c.in-Ok-take_read.ensures.limit ∙ inv.limit;
      setup = c.in-Ok-take_read.ensures.setup ∙ inv.setup;
      feeds = read_on g.R.ByteIn.gives g.R.ByteIn.breaks g.C.Moments.reports c.args.addr c.args.turns c.loop-turn._turn c.loop-turn.served.calls c.loop-turn.served.rest c.args.server.now c.loop-turn.server c.take_read.new.server c.args.framer.now c.loop-turn.framer c.take_read.new.framer c.args.clock.now c.loop-turn.clock c.take_read.new.clock _ _ _ _ _ _
          c.args.reader.now c.loop-turn.reader c.read.new.self (take c.in-Ok.n c.read.new.buffer) inv.feeds c.in-Ok.ensures.gives some few c.in-Ok-take_read.ensures.limit
          c.in-Ok-take_read.taken.calls c.in-Ok-take_read.taken.rest c.in-Ok-take_read.ensures.feeds;
    }
