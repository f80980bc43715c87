-- Pages before their entries are written.
use Rattle.std.specs.Prelude.{◌≡◌, ◌+◌, ◌||◌, ℕ, Bool, true, false, nat_lt, List, [], ◌∷◌, Option, Some, None, Result, Ok, Err}
use Rattle.nfs_inodes.specs.Tree.{Entry, on_some}
use Rattle.nfs_inodes.specs.Views.{entry_seen}
use Rattle.nfs_inodes.specs.declared.directory.EntryView.{EntryView}
use Rattle.nfs_dirs.specs.Pages.{page_head_bytes, entry_bytes}
use Rattle.nfs_dirs.specs.Walk.{left_of}
use Rattle.nfs_dirs.specs.declared.answer.TooSmall.{TooSmall}
use Rattle.nfs_dirs.specs.declared.open_page.OpenPage.{OpenPage}

-- the first entry, if there is one
abbrev pub first_of : List Entry → Option Entry
first_of [] = None
first_of (e ∷ es) = Some e

-- a page of so many bytes has not even those of its head, or not those of its first entry with so many beside it
abbrev pub is_below : ℕ → Option Entry → ℕ → Bool
is_below bound first beside = nat_lt bound page_head_bytes || on_some first false (λ e. nat_lt bound (page_head_bytes + entry_bytes e + beside))

-- what is left to be written
abbrev pub before_rest : Option EntryView → List Entry → List Entry
before_rest None rest = []
before_rest (Some e) rest = entry_seen e ∷ rest

abbrev pub left_in : OpenPage → List Entry
left_in p = before_rest p.first (left_of p.rest)

-- the page of what is left, which has room for the first of it, or there is none
pub record IsOpen (left : List Entry) (bound beside : ℕ) (p : OpenPage) : Type 0 where
  pub left_is : left_in p ≡ left
  pub room_is : p.room + page_head_bytes ≡ bound
  pub large : is_below bound (first_of left) beside ≡ false

abbrev pub Opens : {P : Type 0} → (P → OpenPage) → List Entry → ℕ → ℕ → Result P TooSmall → Type 0
Opens view left bound beside (Ok p) = IsOpen left bound beside (view p)
Opens view left bound beside (Err refusal) = is_below bound (first_of left) beside ≡ true
