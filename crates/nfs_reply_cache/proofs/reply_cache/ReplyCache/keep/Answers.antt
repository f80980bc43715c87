use Rattle.std.proofs.Common.{◌≡◌, ◌<◌, ◌≤◌, ◌+◌, ◌-◌, ℕ, List, [], ◌∷◌, ◌++◌, None, length, All, Some, slice_set, refl, sym, ap, subst, ◌∙◌, arith}
use Rattle.std.proofs.lemmas.List.{length-set, length_push, take_all}
use Rattle.std.proofs.lemmas.List.Elements.{All-cons}
use Rattle.nfs_reply_cache.specs.declared.cached_reply.CachedReply.{CachedReply}
use Rattle.nfs_reply_cache.specs.Places.{Place, Replies, cached_reply, place_for, with_reply}
use Rattle.nfs_reply_cache.specs.Shown.{AreCounted, IsBucketed, bucket_of, count_at, key_of, place_of, places_of}
use Rattle.nfs_reply_cache.proofs.Counts.{bucket_within, bucketed_front, bucketed_last, counted_last, counted_less, counted_with, one_there, room_for}
use Rattle.nfs_reply_cache.proofs.Lookups.{new_with}
use Rattle.nfs_reply_cache.proofs.Shows.{all_but_last, few_places}
use Rattle.nfs_reply_cache.proofs.reply_cache.ReplyCache.keep.Goals as goal

-- the place has its bucket once it has its reply
still_bucketed : (now was : CachedReply) (reply : List ℕ) → place_of now ≡ place_for (key_of was) reply → now.bucket ≡ was.bucket → IsBucketed was → IsBucketed now
still_bucketed now was reply is bucket bucketed = bucket ∙ bucketed ∙ ap (λ (p : Place). bucket_of p.key) (sym is)

-- ---- where there is room for one more

pub add-requires : goal.add-requires
add-requires c =
    let inside = c.self.inside in let keeps = c.self.invariant in let place = c.answer.new.self in
    let bucketed = still_bucketed place c.args.place c.args.reply.now c.answer.ensures.place c.answer.ensures.bucket c.requires.bucketed in
    room_for inside.buckets inside.kept.items place.bucket inside.most keeps.counted (bucket_within place bucketed) (omega (arith, c.if-len-self.true, c.len.ensures, keeps.len)) keeps.few

pub invariant_of-self : goal.invariant_of-self
invariant_of-self c =
    let inside = c.self.inside in let keeps = c.self.invariant in let place = c.answer.new.self in
    let bucketed = still_bucketed place c.args.place c.args.reply.now c.answer.ensures.place c.answer.ensures.bucket c.requires.bucketed in
    let is = c.push_front_reserved.ensures.items in let len = c.push_front_reserved.ensures.len in
    let lengths : length c.push_front_reserved.new.self.items ≡ length (place ∷ inside.kept.items) = ap length is in
    let within : place.bucket < length inside.buckets = subst (λ n. place.bucket < n) (sym keeps.all) (bucket_within place bucketed) in
    record {
      some = keeps.some;
      few = keeps.few;
      len = omega (arith, lengths, len, keeps.len);
      within = omega (arith, len, c.if-len-self.true, c.len.ensures);
      room = subst (λ n. inside.most ≤ n) (sym c.push_front_reserved.ensures.capacity) keeps.room;
      bucketed = subst (λ (ks : List CachedReply). All IsBucketed ks) (sym is) (All-cons IsBucketed place inside.kept.items bucketed keeps.bucketed);
      all = ap length c.add.ensures ∙ length-set inside.buckets place.bucket (count_at inside.buckets place.bucket + 1) ∙ keeps.all;
      counted = subst (λ (ks : List CachedReply). AreCounted c.add.new.self ks) (sym is)
          (subst (λ (counts : List ℕ). AreCounted counts (place ∷ inside.kept.items)) (sym c.add.ensures)
          (counted_with inside.buckets place inside.kept.items place.bucket refl within keeps.counted));
    }

pub returns-then-len-self-clause-places : goal.returns-then-len-self-clause-places
returns-then-len-self-clause-places c =
    let inside = c.self.inside in let keeps = c.self.invariant in
    let key = key_of c.args.place in let reply = c.args.reply.now in let ps = places_of inside.kept.items in
    let absent : cached_reply key ps ≡ None = ap (λ (r : Replies). cached_reply key r.places) c.self.view_is ∙ c.requires.absent in
    let few : length ps ≤ inside.most - 1 = few_places inside.kept.items (inside.most - 1) (omega (arith, c.if-len-self.true, c.len.ensures, keeps.len)) in
    ap places_of c.push_front_reserved.ensures.items ∙ ap (λ (p : Place). p ∷ ps) c.answer.ensures.place
    ∙ ap (λ (l : List Place). place_for key reply ∷ l) (sym (take_all (inside.most - 1) ps few)) ∙ new_with inside.most key ps reply absent
    ∙ ap (λ (r : Replies). with_reply r.most key (Some reply) r.places) c.self.view_is

-- ---- in the place of the last

pub remove-requires : goal.remove-requires
remove-requires c =
    let inside = c.self.inside in let keeps = c.self.invariant in let last = c.in-Some.last in let rest = c.pop_back.new.self.items in
    let is : inside.kept.items ≡ rest ++ last ∷ [] = c.in-Some.ensures.items in
    one_there inside.buckets last rest (bucket_within last (bucketed_last rest last (subst (λ (ks : List CachedReply). All IsBucketed ks) is keeps.bucketed)))
    (counted_last inside.buckets last rest (subst (λ (ks : List CachedReply). AreCounted inside.buckets ks) is keeps.counted))

-- the others are counted without the last
counted_others : (counts : List ℕ) (all rest : List CachedReply) (last : CachedReply) → all ≡ rest ++ last ∷ [] → length counts ≡ 65536 → All IsBucketed all → AreCounted counts all
    → AreCounted (slice_set counts last.bucket (count_at counts last.bucket - 1)) rest
counted_others counts all rest last is n bucketed counted =
    let within = bucket_within last (bucketed_last rest last (subst (λ (ks : List CachedReply). All IsBucketed ks) is bucketed)) in
    counted_less counts last rest (subst (λ m. last.bucket < m) (sym n) within) (counted_last counts last rest (subst (λ (ks : List CachedReply). AreCounted counts ks) is counted))

pub add-requires-2 : goal.add-requires-2
add-requires-2 c =
    let inside = c.self.inside in let keeps = c.self.invariant in let last = c.in-Some.last in let rest = c.pop_back.new.self.items in let place = c.answer.new.self in
    let bucketed = still_bucketed place c.args.place c.args.reply.now c.answer.ensures.place c.answer.ensures.bucket c.requires.bucketed in
    let is : inside.kept.items ≡ rest ++ last ∷ [] = c.in-Some.ensures.items in
    let lengths = ap length is ∙ length_push rest last in
    subst (λ (counts : List ℕ). count_at counts place.bucket < 65535) (sym c.remove.ensures)
    (room_for (slice_set inside.buckets last.bucket (count_at inside.buckets last.bucket - 1)) rest place.bucket inside.most
    (counted_others inside.buckets inside.kept.items rest last is keeps.all keeps.bucketed keeps.counted) (bucket_within place bucketed) (omega (arith, lengths, keeps.len, keeps.within)) keeps.few)

pub invariant_of-self-2 : goal.invariant_of-self-2
invariant_of-self-2 c =
    let inside = c.self.inside in let keeps = c.self.invariant in let last = c.in-Some.last in let rest = c.pop_back.new.self.items in
    let place = c.answer.new.self in let bucket = place.bucket in
    let bucketed = still_bucketed place c.args.place c.args.reply.now c.answer.ensures.place c.answer.ensures.bucket c.requires.bucketed in
    let is : inside.kept.items ≡ rest ++ last ∷ [] = c.in-Some.ensures.items in
    let lengths = ap length is ∙ length_push rest last in
    let less = slice_set inside.buckets last.bucket (count_at inside.buckets last.bucket - 1) in
    let all : length less ≡ 65536 = length-set inside.buckets last.bucket (count_at inside.buckets last.bucket - 1) ∙ keeps.all in
    let put = c.push_front_reserved-2.ensures.items in let len = c.push_front_reserved-2.ensures.len in
    let now : length c.push_front_reserved-2.new.self.items ≡ length (place ∷ rest) = ap length put in
    let gone = c.in-Some.ensures.cases in
    let within : bucket < length less = subst (λ n. bucket < n) (sym all) (bucket_within place bucketed) in
    let added : c.add-2.new.self ≡ slice_set less bucket (count_at less bucket + 1) = c.add-2.ensures ∙ ap (λ (counts : List ℕ). slice_set counts bucket (count_at counts bucket + 1)) c.remove.ensures in
    record {
      some = keeps.some;
      few = keeps.few;
      len = omega (arith, now, len, gone, lengths, keeps.len);
      within = omega (arith, len, gone, keeps.within);
      room = subst (λ n. inside.most ≤ n) (sym (c.push_front_reserved-2.ensures.capacity ∙ c.in-Some.ensures.capacity)) keeps.room;
      bucketed = subst (λ (ks : List CachedReply). All IsBucketed ks) (sym put)
          (All-cons IsBucketed place rest bucketed (bucketed_front rest last (subst (λ (ks : List CachedReply). All IsBucketed ks) is keeps.bucketed)));
      all = ap length added ∙ length-set less bucket (count_at less bucket + 1) ∙ all;
      counted = subst (λ (ks : List CachedReply). AreCounted c.add-2.new.self ks) (sym put)
          (subst (λ (counts : List ℕ). AreCounted counts (place ∷ rest)) (sym added)
          (counted_with less place rest bucket refl within (counted_others inside.buckets inside.kept.items rest last is keeps.all keeps.bucketed keeps.counted)));
    }

pub returns-clause-places : goal.returns-clause-places
returns-clause-places c =
    let inside = c.self.inside in let keeps = c.self.invariant in let last = c.in-Some.last in let rest = c.pop_back.new.self.items in
    let key = key_of c.args.place in let reply = c.args.reply.now in let ps = places_of inside.kept.items in
    let is : inside.kept.items ≡ rest ++ last ∷ [] = c.in-Some.ensures.items in
    let full : length inside.kept.items ≡ inside.most = omega (arith, c.if-len-self.false, c.len.ensures, keeps.len, keeps.within) in
    let absent : cached_reply key ps ≡ None = ap (λ (r : Replies). cached_reply key r.places) c.self.view_is ∙ c.requires.absent in
    ap places_of c.push_front_reserved-2.ensures.items ∙ ap (λ (p : Place). p ∷ places_of rest) c.answer.ensures.place
    ∙ ap (λ (l : List Place). place_for key reply ∷ l) (sym (all_but_last inside.kept.items rest last inside.most is full)) ∙ new_with inside.most key ps reply absent
    ∙ ap (λ (r : Replies). with_reply r.most key (Some reply) r.places) c.self.view_is
