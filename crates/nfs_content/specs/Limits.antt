-- How large contents may be.
use Rattle.std.specs.Prelude.{ℕ}

-- the most bytes of a content
abbrev pub max_content : ℕ
max_content = 1099511627776

-- the bytes of a page
abbrev pub page_bytes : ℕ
page_bytes = 4096

-- the pages of a row
abbrev pub row_pages : ℕ
row_pages = 64

-- the most rows of a block
abbrev pub block_rows : ℕ
block_rows = 4096

-- the pages of a block
abbrev pub block_pages : ℕ
block_pages = 262144
