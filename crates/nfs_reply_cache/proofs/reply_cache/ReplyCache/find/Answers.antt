use Rattle.std.proofs.Common.{◌≡◌, ◌≤◌, ℕ, List, ◌∷◌, length, is_some, None, Some, true, All, sym, ap, subst, ◌∙◌}
use Rattle.std.proofs.lemmas.Bool.Decides.{Decides-eqb}
use Rattle.nfs_reply_cache.specs.declared.cached_reply.CachedReply.{CachedReply}
use Rattle.nfs_reply_cache.specs.Places.{Key, Replies, cached_reply, place_for, with_reply, without}
use Rattle.nfs_reply_cache.specs.Shown.{AreCounted, IsBucketed, bucket_of, count_at, in_bucket, places_of}
use Rattle.nfs_reply_cache.proofs.Counts.{bucket_bound, bucketed_moved, counted_moved, length_moved, none_in}
use Rattle.nfs_reply_cache.proofs.Lookups.{found_with}
use Rattle.nfs_reply_cache.proofs.Shows.{few_places, first_within, none_some, same_reply, shows_found}
use Rattle.nfs_reply_cache.proofs.reply_cache.ReplyCache.find.Goals as goal
use Rattle.nfs_reply_cache.proofs.reply_cache.ReplyCache.find.Goals.{Then-is_empty}

-- nothing is kept where the bucket is empty
none : (c : Then-is_empty) → cached_reply (c.args.addr, c.args.bytes.now) c.args.self.now.places ≡ None
none c =
    let inside = c.self.inside in let keeps = c.self.invariant in let key : Key = (c.args.addr, c.args.bytes.now) in let b = c.bucket_of-bucket.result in
    let empty : count_at inside.buckets b ≡ 0 = (Decides-eqb (count_at inside.buckets b) 0).0 (sym c.is_empty.ensures ∙ c.if-is_empty.true) in
    let zero : in_bucket (bucket_of key) inside.kept.items ≡ 0 =
    subst (λ n. in_bucket n inside.kept.items ≡ 0) c.bucket_of-bucket.ensures (sym (keeps.counted b (bucket_bound b key c.bucket_of-bucket.ensures)) ∙ empty) in
    subst (λ (r : Replies). cached_reply key r.places ≡ None) c.self.view_is (none_in key inside.kept.items keeps.bucketed zero)

pub returns-then-is_empty-clause-found : goal.returns-then-is_empty-clause-found
returns-then-is_empty-clause-found c = ap is_some (sym (none c))

pub returns-then-is_empty-clause-absent : goal.returns-then-is_empty-clause-absent
returns-then-is_empty-clause-absent c = λ e. none c

pub returns-then-is_empty-clause-front : goal.returns-then-is_empty-clause-front
returns-then-is_empty-clause-front c = λ reply e. absurd (none_some (sym (none c) ∙ e))

pub move_first-requires-clause-within : goal.move_first-requires-clause-within
move_first-requires-clause-within c = first_within (c.args.addr, c.args.bytes.now) c.in-Some.place c.self.inside.kept.items c.in-Some.ensures.some

pub invariant_of-self : goal.invariant_of-self
invariant_of-self c =
    let inside = c.self.inside in let keeps = c.self.invariant in let n = c.in-Some.place in let items = c.move_first.ensures.items in let len = c.move_first.ensures.len in
    record {
      some = keeps.some;
      few = keeps.few;
      len = len ∙ keeps.len ∙ sym (length_moved n inside.kept.items) ∙ ap length (sym items);
      within = subst (λ m. m ≤ inside.most) (sym len) keeps.within;
      room = subst (λ m. inside.most ≤ m) (sym c.move_first.ensures.capacity) keeps.room;
      bucketed = subst (λ (ks : List CachedReply). All IsBucketed ks) (sym items) (bucketed_moved n inside.kept.items keeps.bucketed);
      all = keeps.all;
      counted = subst (λ (ks : List CachedReply). AreCounted inside.buckets ks) (sym items) (counted_moved inside.buckets n inside.kept.items keeps.counted);
    }

pub returns-in-Some-clause-found : goal.returns-in-Some-clause-found
returns-in-Some-clause-found c =
    let key : Key = (c.args.addr, c.args.bytes.now) in let it = shows_found key c.in-Some.place c.self.inside.kept.items c.in-Some.ensures.some in
    subst (λ (r : Replies). true ≡ is_some (cached_reply key r.places)) c.self.view_is (ap is_some (sym it.1))

pub returns-in-Some-clause-front : goal.returns-in-Some-clause-front
returns-in-Some-clause-front c = λ reply e.
    let inside = c.self.inside in let keeps = c.self.invariant in
    let key : Key = (c.args.addr, c.args.bytes.now) in let it = shows_found key c.in-Some.place inside.kept.items c.in-Some.ensures.some in
    let is : cached_reply key (places_of inside.kept.items) ≡ Some reply = ap (λ (r : Replies). cached_reply key r.places) c.self.view_is ∙ e in
    ap places_of c.move_first.ensures.items ∙ it.2
    ∙ ap (λ (r : List ℕ). place_for key r ∷ without key (places_of inside.kept.items)) (same_reply it.0 reply (sym it.1 ∙ is))
    ∙ found_with inside.most key (places_of inside.kept.items) reply (few_places inside.kept.items inside.most (subst (λ n. n ≤ inside.most) keeps.len keeps.within)) is
    ∙ ap (λ (r : Replies). with_reply r.most key (Some reply) r.places) c.self.view_is
