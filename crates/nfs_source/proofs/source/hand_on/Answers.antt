use Rattle.std.proofs.Common.{◌++◌, take, arith}
use Rattle.nfs_describe.proofs.Outputs.{takes_then}
use Rattle.nfs_source.proofs.Sources.{counted, shrinks_then}
use Rattle.nfs_source.proofs.source.hand_on.Goals as goal

pub loop-preserved : goal.loop-preserved
loop-preserved g c =
    let was = c.loop.invariant in
    let came = take c.in-Ok.n c.read_some.new.span in (
      was.0 ++ came,
      counted was.0 c.read_some.new.span c.loop.len c.in-Ok.n c.saturating_add-len.result was.1 c.if-len-gt-MOST_BYTES.false c.in-Ok.ensures.count (omega arith) c.saturating_add-len.ensures,
      shrinks_then (g.I.Read.remaining c.args.file.now) (g.I.Read.remaining c.loop.file) (g.I.Read.remaining c.read_some.new.file) was.0 came was.2 c.in-Ok.ensures.comes,
      takes_then g.S.Sink.has c.args.sink.now c.loop.sink c.take.new.self was.0 came was.3 c.in_default.ensures,
    )
