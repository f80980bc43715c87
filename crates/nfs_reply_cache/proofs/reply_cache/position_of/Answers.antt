use Rattle.std.proofs.Common.{◌≡◌, ◌<◌, ◌+◌, suc, length, sym, ap, subst, ◌∙◌, arith}
use Rattle.nfs_reply_cache.specs.declared.cached_reply.CachedReply.{CachedReply}
use Rattle.nfs_reply_cache.specs.Places.{Key, same}
use Rattle.nfs_reply_cache.specs.Shown.{key_of}
use Rattle.nfs_reply_cache.proofs.Shows.{NoneBefore, first_at, none_of_all, one_more}
use Rattle.nfs_reply_cache.proofs.reply_cache.position_of.Goals as goal

pub returns-then-is_for-clause-some : goal.returns-then-is_for-clause-some
returns-then-is_for-clause-some c =
    let key : Key = (c.args.addr, c.args.bytes.now) in
    let within : c.loop-place.place < length c.args.kept.now.items = omega (arith, c.loop-place-test.true, c.len-place-end.ensures, c.requires.len) in
    first_at key c.loop-place.place c.args.kept.now.items c.index.result.now c.loop-place.invariant within
    (ap (λ (k : CachedReply). same key (key_of k)) (sym c.index.ensures) ∙ sym c.is_for.ensures ∙ c.if-is_for.true)

pub loop-place-preserved : goal.loop-place-preserved
loop-place-preserved c =
    let key : Key = (c.args.addr, c.args.bytes.now) in
    let next : suc c.loop-place.place ≡ c.loop-place.place + 1 = omega arith in
    subst (λ n. NoneBefore key n c.args.kept.now.items) next
    (one_more key c.loop-place.place c.args.kept.now.items c.index.result.now c.loop-place.invariant (ap (λ (k : CachedReply). same key (key_of k)) (sym c.index.ensures) ∙ sym c.is_for.ensures ∙ c.if-is_for.false))

pub returns-clause-none : goal.returns-clause-none
returns-clause-none c =
    let key : Key = (c.args.addr, c.args.bytes.now) in
    let all : c.loop-place.place ≡ length c.args.kept.now.items = omega (arith, c.loop-place-test.false, c.loop-place.auto.place-end, c.len-place-end.ensures, c.requires.len) in
    none_of_all key c.args.kept.now.items (subst (λ n. NoneBefore key n c.args.kept.now.items) all c.loop-place.invariant)
