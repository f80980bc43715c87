-- The pages of a content: the first alone, those of the first block in rows, or any in blocks.
use Rattle.std.specs.Prelude.{ℕ, List, [], ◌∷◌}
use Rattle.nfs_content.specs.Paged.{items_at, kept, room, room_at, far, far_room}
use Rattle.nfs_content.specs.declared.page_table.PageTable.{PageTable}
use Rattle.nfs_content.specs.declared.page_table.PageTable.TheVariants.{One, Rows, Blocks}

-- the bytes that are kept of each page
abbrev pub pages_of : PageTable → ℕ → List ℕ
pages_of (One page) = items_at (page ∷ [])
pages_of (Rows rows) = kept rows.items
pages_of (Blocks blocks) = far blocks.items

-- how many bytes each page has room for
abbrev pub room_of : PageTable → ℕ → ℕ
room_of (One page) = room_at (page ∷ [])
room_of (Rows rows) = room rows.items
room_of (Blocks blocks) = far_room blocks.items
