use Rattle.std.proofs.Common.{[], refl, subst, sym, ◌∙◌, append-nil, arith, rules}
use Rattle.std.proofs.lemmas.Bool.{false≢true}
use Rattle.nfs_rpc.specs.Progress.{Moves, Unfinished}
use Rattle.nfs_server.proofs.ChunkByChunk.{room_none, steps_on, stops_on, ends_here}
use Rattle.nfs_server.proofs.Waiting.{waits_on}
use Rattle.nfs_server.proofs.OneRecord.{feeds_none}
use Rattle.nfs_xdr.proofs.Knowing.{stays_none, stays_then}
use Rattle.nfs_server.proofs.taking.take_chunk.Goals as goal

pub loop-stop-init : goal.loop-stop-init
loop-stop-init g c =
    let moves : Moves c.args.framer.now [] c.args.framer.now = λ text u. subst (λ t. Unfinished t c.args.framer.now) (sym (append-nil text)) u in
    record {
      within = omega arith;
      counted = omega arith;
      between = c.requires;
      limit = refl;
      setup = refl;
      most = refl;
      feeds = feeds_none _ c.args.origin c.args.server.now c.args.framer.now c.args.framer.now _ _ (room_none c.args.room) [] c.requires moves;
      stays = stays_none _ _;
      waits = tt;
    }

pub loop-stop-preserved : goal.loop-stop-preserved
loop-stop-preserved g c =
    let inv = c.loop-stop.invariant in
    record {
      within = search rules;
      counted = omega (arith, inv.counted, c.in-Ok.ensures.counted);
      between = c.in-Ok.ensures.between;
      limit = c.in-Ok.ensures.limit ∙ inv.limit;
      setup = c.in-Ok.ensures.setup ∙ inv.setup;
      most = c.in-Ok.ensures.most ∙ inv.most;
      feeds = steps_on c.args.origin c.args.chunk.now c.args.room c.loop-stop.left c.loop-stop.used c.loop-stop.records c.args.server.now c.loop-stop.server c.args.framer.now c.loop-stop.framer _ _ _ _ inv.feeds
          c.take_record.new.server c.take_record.new.framer _ _ c.in-Ok.ensures.limit (λ e. absurd (false≢true (c.if-not-is_used_up.ensures.1 e))) c.in-Ok.step c.room_after-left.result c.room_after-left.ensures c.in-Ok.ensures.feeds;
      stays = stays_then _ _ _ _ _ _ inv.stays c.in-Ok.ensures.stays;
      waits = waits_on c.in-Ok.step.stop (g.A.AuditOut.full c.take_record.new.audit) c.args.origin c.args.chunk.now c.loop-stop.used c.in-Ok.step.used c.take_record.new.server c.take_record.new.framer c.in-Ok.ensures.waits.0 c.in-Ok.ensures.waits.1;
    }

pub returns-in-Err-clause-stays : goal.returns-in-Err-clause-stays
returns-in-Err-clause-stays g c = stays_then _ _ _ _ _ _ c.loop-stop.invariant.stays c.in-Err.ensures.stays

pub returns-in-Err-clause-feeds : goal.returns-in-Err-clause-feeds
returns-in-Err-clause-feeds g c =
    stops_on c.args.origin c.args.chunk.now c.args.room c.loop-stop.left c.loop-stop.used c.loop-stop.records c.args.server.now c.loop-stop.server c.args.framer.now c.loop-stop.framer _ _ _ _ c.loop-stop.invariant.feeds
    c.take_record.new.server c.take_record.new.framer _ _ c.in-Err.ensures.limit (λ e. absurd (false≢true (c.if-not-is_used_up.ensures.1 e))) c.in-Err.fault c.in-Err.ensures.feeds

pub returns-else-not-is_used_up-clause-feeds : goal.returns-else-not-is_used_up-clause-feeds
returns-else-not-is_used_up-clause-feeds g c = ends_here c.args.origin c.args.chunk.now c.args.room c.loop-stop.left c.loop-stop.used c.loop-stop.records c.args.server.now c.loop-stop.server c.args.framer.now c.loop-stop.framer _ _ _ _ c.loop-stop.invariant.feeds c.loop-stop.stop
    (λ finished more. search rules)

pub returns-after-loop-stop-clause-feeds : goal.returns-after-loop-stop-clause-feeds
returns-after-loop-stop-clause-feeds g c = ends_here c.args.origin c.args.chunk.now c.args.room c.loop-stop.left c.loop-stop.used c.loop-stop.records c.args.server.now c.loop-stop.server c.args.framer.now c.loop-stop.framer _ _ _ _ c.loop-stop.invariant.feeds c.loop-stop.stop
    (λ finished more. search rules)

pub returns-else-used-chunk-clause-feeds : goal.returns-else-used-chunk-clause-feeds
returns-else-used-chunk-clause-feeds g c = ends_here c.args.origin c.args.chunk.now c.args.room c.loop-stop.left c.loop-stop.used c.loop-stop.records c.args.server.now c.loop-stop.server c.args.framer.now c.loop-stop.framer _ _ _ _ c.loop-stop.invariant.feeds c.loop-stop.stop
    (λ finished more. search rules)
