-- The room in which a reply is written, after its mark, and replies that gather in front of it.
use Rattle.std.specs.Prelude.{◌≡◌, ℕ, ◌+◌, ◌*◌, ◌≤◌, List, ◌++◌, Bool, true, nat_lt, length, drop}
use Rattle.nfs_rpc.specs.Records.{fragment, header}
use Rattle.nfs_server.specs.declared.reply_buf.ReplyBuf.TheInside.{Inside}
use Rattle.nfs_xdr.specs.Written.{Written, Appends}

-- the bytes of a mark, and how many there are of the mark, the reply and the room that is left for it
abbrev pub mark_bytes : ℕ
mark_bytes = 4

abbrev pub room_bytes : ℕ
room_bytes = 294912

-- the most bytes of replies that gather
abbrev pub most_gathered : ℕ
most_gathered = 2 * room_bytes

-- what a buffer holds: the framed replies that have gathered, and the reply; and how many bytes may gather
pub record Buffered : Type 0 where
  pub earlier : List ℕ
  pub reply : List ℕ
  pub most : ℕ

-- whether the reply, framed, has no room after those that have gathered
abbrev pub is_full : Buffered → Bool
is_full b = nat_lt b.most (length (b.earlier ++ fragment true b.reply))

-- the reply whose mark stands at a place
abbrev pub reply_at : ℕ → Written → List ℕ
reply_at start out = drop (start + mark_bytes) out.bytes

-- a mark and a reply stand there, with the room that a reply may need
pub record IsReply (start : ℕ) (out : Written) : Type 0 where
  pub mark : start + mark_bytes ≤ length out.bytes
  pub room : start + room_bytes ≤ length out.bytes + out.room
  pub bound : length out.bytes + out.room ≤ most_gathered + room_bytes

-- the mark is that of the reply
pub record IsFramed (a : Inside) : Type 0 where
  pub reply : IsReply a.start a.out
  pub framed : drop a.start a.out.bytes ≡ header true (length (reply_at a.start a.out)) ++ reply_at a.start a.out

-- there is room for a reply after its mark
abbrev pub HasReplyRoom : Written → Type 0
HasReplyRoom out = room_bytes ≤ mark_bytes + out.room

-- what was written after what stood there
abbrev pub after : Written → Written → List ℕ
after old new = drop (length old.bytes) new.bytes

-- what stood there is as it was, and what was written after it took its room
abbrev pub Adds : Written → Written → Type 0
Adds old new = Appends (after old new) old new
