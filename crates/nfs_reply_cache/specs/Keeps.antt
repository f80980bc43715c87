-- What holds of the cached replies as they are stored.
use Rattle.std.specs.Prelude.{◌≡◌, ◌<◌, ◌≤◌, length, All}
use Rattle.std.specs.VecDeque.{deque_capacity, deque_len}
use Rattle.nfs_reply_cache.specs.declared.reply_cache.ReplyCache.TheInside.{Inside}
use Rattle.nfs_reply_cache.specs.Shown.{AreCounted, IsBucketed}

pub record Keeps (a : Inside) : Type 0 where
  pub some : 0 < a.most
  pub few : a.most < 65536
  pub len : deque_len a.kept ≡ length a.kept.items
  pub within : deque_len a.kept ≤ a.most
  pub room : a.most ≤ deque_capacity a.kept
  pub bucketed : All IsBucketed a.kept.items
  pub all : length a.buckets ≡ 65536
  pub counted : AreCounted a.buckets a.kept.items
