use Rattle.std.proofs.Common.{◌∙◌, refl, arith}
use Rattle.nfs_content.specs.Tables.{room_of}
use Rattle.nfs_content.proofs.Putting.{held_more}
use Rattle.nfs_content.proofs.chunks.hold.Goals as goal

pub loop-place-init : goal.loop-place-init
loop-place-init c = (λ k. refl, λ i from to below. absurd (omega (arith, from, below)))

pub returns-in_err-make_room-clause-same : goal.returns-in_err-make_room-clause-same
returns-in_err-make_room-clause-same c = λ k. c.make_room.ensures.same k ∙ c.loop-place.invariant.0 k

pub loop-place-preserved : goal.loop-place-preserved
loop-place-preserved c = (
  λ k. c.make_room.ensures.same k ∙ c.loop-place.invariant.0 k,
  held_more c.args.start c.args.end c.loop-place.place c.min-size.result (room_of c.loop-place.table) (room_of c.make_room.new.self) c.loop-place.invariant.1 c.make_room.ensures.room c.in_ok-make_room.ensures.ok c.min-size.ensures,
)

pub returns-clause-same : goal.returns-clause-same
returns-clause-same c = c.loop-place.invariant.0

pub returns-clause-ok : goal.returns-clause-ok
returns-clause-ok c = λ i from to. let all = c.loop-place-test.false in c.loop-place.invariant.1 i from to (omega (arith, to, all))
