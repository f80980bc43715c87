use Rattle.std.proofs.Common.{◌+◌, take, length, vec_len, vec_capacity, ap, ◌∙◌, arith, rules}
use Rattle.nfs_rpc.specs.declared.framer.Stage.TheVariants.{Header}
use Rattle.nfs_rpc.specs.Progress.{Progress}
use Rattle.nfs_rpc.proofs.Steps.{refused_above, part_header_moves, header_moves, header_brings, header_asks, keeps_header}
use Rattle.nfs_rpc.proofs.framer.Framer.take_header.Goals as goal

pub returns-then-have-n-lt4-clause-moves : goal.returns-then-have-n-lt4-clause-moves
returns-then-have-n-lt4-clause-moves c =
    let new : Progress = record { limit = c.self.inside.limit; stage = Header c.fill_header-n.result.0 (c.args.have + c.fill_header-n.result.1); content = c.self.inside.content.items } in
    part_header_moves c.args.self.now new c.args.have c.fill_header-n.result.1 c.args.bytes c.fill_header-n.result.0 (take c.fill_header-n.result.1 c.args.chunk.now) c.requires.stage c.if-have-n-lt4.true c.fill_header-n.ensures.filled
    (record { limit = search rules; stage_is = search rules; content_is = search rules })

pub returns-then-left-self-clause-too_long : goal.returns-then-left-self-clause-too_long
returns-then-left-self-clause-too_long c = λ e.
    let limit = ap (λ (p : Progress). p.limit) c.self.view_is in
    let len = ap (λ (p : Progress). length p.content) c.self.view_is in
    header_brings c.args.self.now c.args.have c.fill_header-n.result.1 c.read_header-last.result.1 c.read_header-last.result.0 c.args.bytes c.fill_header-n.result.0 c.args.chunk.now c.requires.stage c.if-have-n-lt4.false c.fill_header-n.ensures.filled c.read_header-last.ensures.mark c.read_header-last.ensures.below
    (omega (arith, c.self.inside.content.ok.0, limit, len, c.len.ensures, c.if-left-self.true))

pub returns-then-is_err-clause-memory : goal.returns-then-is_err-clause-memory
returns-then-is_err-clause-memory c = λ e.
    let limit = ap (λ (p : Progress). p.limit) c.self.view_is in
    let len = ap (λ (p : Progress). length p.content) c.self.view_is in
    let within = keeps_header c.self.inside.limit (vec_len c.self.inside.content) (vec_capacity c.self.inside.content) c.args.have c.self.inside.stage c.args.bytes (ap (λ (p : Progress). p.stage) c.self.view_is ∙ c.requires.stage) c.self.invariant in
    let full = refused_above c.make_room.result c.make_room.ensures.full (search (rules)) in
    header_asks c.args.self.now c.args.have c.fill_header-n.result.1 c.read_header-last.result.1 c.read_header-last.result.0 c.args.bytes c.fill_header-n.result.0 c.args.chunk.now c.requires.stage c.if-have-n-lt4.false c.fill_header-n.ensures.filled c.read_header-last.ensures.mark c.read_header-last.ensures.below (omega (arith, c.self.inside.content.ok, full))
    (omega (arith, c.self.inside.content.ok.0, limit, len, within, c.len.ensures, c.if-left-self.false))

pub returns-clause-moves : goal.returns-clause-moves
returns-clause-moves c =
    let limit = ap (λ (p : Progress). p.limit) c.self.view_is in
    let len = ap (λ (p : Progress). length p.content) c.self.view_is in
    let within = keeps_header c.self.inside.limit (vec_len c.self.inside.content) (vec_capacity c.self.inside.content) c.args.have c.self.inside.stage c.args.bytes (ap (λ (p : Progress). p.stage) c.self.view_is ∙ c.requires.stage) c.self.invariant in
    header_moves c.args.self.now _ c.args.have c.fill_header-n.result.1 c.read_header-last.result.1 c.read_header-last.result.0 c.args.bytes c.fill_header-n.result.0 (take c.fill_header-n.result.1 c.args.chunk.now) c.requires.stage c.if-have-n-lt4.false c.fill_header-n.ensures.filled c.read_header-last.ensures.mark c.read_header-last.ensures.below
    (omega (arith, c.self.inside.content.ok.0, limit, len, within, c.len.ensures, c.if-left-self.false))
    (record { limit = search rules; stage_is = c.stage_before-self-inside.ensures.stage; content_is = search rules })

pub make_room-requires : goal.make_room-requires
make_room-requires c =
    let within = keeps_header c.self.inside.limit (vec_len c.self.inside.content) (vec_capacity c.self.inside.content) c.args.have c.self.inside.stage c.args.bytes (ap (λ (p : Progress). p.stage) c.self.view_is ∙ c.requires.stage) c.self.invariant in
    omega (arith, within, c.len.ensures, c.if-left-self.false)
