use Rattle.std.proofs.Common.{◌≡◌, is_some, false, true, sym, ap, subst, ◌∙◌}
use Rattle.std.proofs.lemmas.Bool.Decides.{Decides-eqb}
use Rattle.nfs_reply_cache.specs.Places.{Key, Replies, cached_reply}
use Rattle.nfs_reply_cache.specs.Shown.{bucket_of, count_at, in_bucket}
use Rattle.nfs_reply_cache.proofs.Counts.{bucket_bound, none_in}
use Rattle.nfs_reply_cache.proofs.Shows.{shows_found}
use Rattle.nfs_reply_cache.proofs.reply_cache.ReplyCache.holds.Goals as goal

pub returns-then-is_empty : goal.returns-then-is_empty
returns-then-is_empty c =
    let inside = c.self.inside in let keeps = c.self.invariant in let key : Key = (c.args.addr, c.args.bytes.now) in let b = c.bucket_of-bucket.result in
    let empty : count_at inside.buckets b ≡ 0 = (Decides-eqb (count_at inside.buckets b) 0).0 (sym c.is_empty.ensures ∙ c.if-is_empty.true) in
    let zero : in_bucket (bucket_of key) inside.kept.items ≡ 0 =
    subst (λ n. in_bucket n inside.kept.items ≡ 0) c.bucket_of-bucket.ensures (sym (keeps.counted b (bucket_bound b key c.bucket_of-bucket.ensures)) ∙ empty) in
    subst (λ (r : Replies). false ≡ is_some (cached_reply key r.places)) c.self.view_is (ap is_some (sym (none_in key inside.kept.items keeps.bucketed zero)))

pub returns-in-Some : goal.returns-in-Some
returns-in-Some c =
    let key : Key = (c.args.addr, c.args.bytes.now) in let it = shows_found key c.in-Some.field-0 c.self.inside.kept.items c.in-Some.ensures.some in
    subst (λ (r : Replies). true ≡ is_some (cached_reply key r.places)) c.self.view_is (ap is_some (sym it.1))
