use Rattle.std.proofs.Common.{◌≡◌, ap, Err, rules}
use Rattle.nfs_rpc.specs.declared.framer.Stage.TheVariants.{Ready}
use Rattle.nfs_server.specs.Connections.{IsBetween}
use Rattle.nfs_server.specs.Feeding.{device}
use Rattle.nfs_server.specs.Streams.{bytes_used, calls_of, course, left_after, served_of, StreamFeeds}
use Rattle.nfs_server.proofs.OneRecord.{passed_on}
use Rattle.nfs_server.proofs.Streaming.{stream_broken, stream_frame_fault, stream_goes_on, stream_whole}
use Rattle.nfs_server.proofs.stream.take_one.Goals as goal

pub returns-in_err-fed-clause-feeds : goal.returns-in_err-fed-clause-feeds
returns-in_err-fed-clause-feeds g c =
    passed_on (λ r. StreamFeeds g.C.Moments.reports c.args.addr (bytes_used r c.args.chunk.now) (calls_of (served_of r)) (course c.args.unfinished (left_after (served_of r))) (course c.args.server.now c.args.server.now) (course c.args.framer.now c.feed.new.self) (course c.args.clock.now c.args.clock.now)
    (device (g.A.ByteOut.contents c.args.audit.now) (g.A.ByteOut.contents c.args.audit.now))
    (device (g.W.ByteOut.contents c.args.replies.now) (g.W.ByteOut.contents c.args.replies.now))) _ _ c.from_residual.ensures.1
    (stream_frame_fault g.C.Moments.reports c.args.addr c.args.server.now c.args.framer.now c.feed.new.self c.args.clock.now _ _ c.args.chunk.now (course c.args.unfinished 0) c.in_err-fed.field-0.0 c.in_err-fed.ensures.limit (λ e. c.in_err-fed.ensures.too_long (ap Err e)) (λ e. c.in_err-fed.ensures.memory (ap Err e)) (λ e. c.requires.between.1 (c.in_err-fed.ensures.failed.0 (ap Err e))))

pub returns-then-not-fed-clause-feeds : goal.returns-then-not-fed-clause-feeds
returns-then-not-fed-clause-feeds g c =
    let between : IsBetween c.feed.new.self = search rules in
    stream_goes_on g.C.Moments.reports c.args.addr c.args.server.now c.args.framer.now c.feed.new.self c.args.clock.now _ _ c.args.chunk.now c.in_ok-fed.fed.used c.args.unfinished c.in_ok-fed.ensures.used between c.in_ok-fed.ensures.moves

pub returns-in_err-answer_record-clause-feeds : goal.returns-in_err-answer_record-clause-feeds
returns-in_err-answer_record-clause-feeds g c =
    let ready : c.feed.new.self.stage ≡ Ready = search rules in
    passed_on (λ r. StreamFeeds g.C.Moments.reports c.args.addr (bytes_used r c.args.chunk.now) (calls_of (served_of r)) (course c.args.unfinished (left_after (served_of r))) (course c.args.server.now c.answer_record.new.server) (course c.args.framer.now c.answer_record.new.framer) (course c.args.clock.now c.now.new.self)
    (device (g.A.ByteOut.contents c.args.audit.now) (g.A.ByteOut.contents c.answer_record.new.audit))
    (device (g.W.ByteOut.contents c.args.replies.now) (g.W.ByteOut.contents c.answer_record.new.replies))) _ _ c.from_residual-in_err-answer_record.ensures.1
    (stream_broken g.C.Moments.reports c.args.addr c.now.result c.args.server.now c.answer_record.new.server c.args.framer.now c.feed.new.self c.answer_record.new.framer c.args.clock.now c.now.new.self _ _ ready c.answer_record.ensures.limit c.now.ensures c.args.chunk.now c.in_ok-fed.fed.used (course c.args.unfinished 0) c.in_err-answer_record.field-0.0 c.in_ok-fed.ensures.moves c.in_err-answer_record.ensures.answers)

pub returns-clause-feeds : goal.returns-clause-feeds
returns-clause-feeds g c =
    let ready : c.feed.new.self.stage ≡ Ready = search rules in
    stream_whole g.C.Moments.reports c.args.addr c.now.result c.args.server.now c.answer_record.new.server c.args.framer.now c.feed.new.self c.answer_record.new.framer c.args.clock.now c.now.new.self _ _ ready c.answer_record.ensures.limit c.now.ensures _ _ c.args.unfinished c.in_ok-fed.ensures.moves c.answer_record.ensures.next c.in_ok-answer_record.ensures.answers
