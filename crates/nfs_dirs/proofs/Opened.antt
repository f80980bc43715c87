-- Pages with room for their first entry.
use Rattle.std.proofs.Common.{◌≡◌, ℕ, ◌+◌, ◌≤◌, Bool, false, List, ◌∷◌, Some, min, length, ap, subst, ◌∙◌, arith}
use Rattle.std.specs.Prelude.{◌||◌, ◌&&◌, nat_lt, nat_le, sum_by, Ok}
use Rattle.std.proofs.lemmas.Bool.{ltb-false, or_parts}
use Rattle.std.proofs.Math.Nat.{min-eq_left, min-le_right}
use Rattle.nfs_args.specs.Sizes.{max_page}
use Rattle.nfs_xdr.specs.Written.{Written}
use Rattle.nfs_inodes.specs.Tree.{Tree, Entry}
use Rattle.nfs_inodes.specs.Views.{entry_seen}
use Rattle.nfs_inodes.specs.declared.directory.EntryView.{EntryView}
use Rattle.nfs_dirs.specs.Opening.{IsOpen, before_rest, first_of, is_below, left_in}
use Rattle.nfs_dirs.specs.Pages.{page_head_bytes, entry_bytes, plus_bytes, fits, fits_plus, entries_text, entries_plus_text, EntriesEncoded, EntriesPlusEncoded, AnswersPage}
use Rattle.nfs_dirs.specs.Walk.{left_of}
use Rattle.nfs_dirs.specs.declared.answer.WrittenPage.{WrittenPage}
use Rattle.nfs_dirs.specs.declared.open_page.OpenPage.{OpenPage}
use Rattle.nfs_dirs.specs.declared.open_page.OpenPagePlus.{OpenPagePlus}

module _ (p : OpenPage) (e : EntryView) (is : p.first ≡ Some e) where
  pub left_begins : left_in p ≡ entry_seen e ∷ left_of p.rest
  left_begins = ap (λ o. before_rest o (left_of p.rest)) is

  -- the first entry is within the room
  pub first_within : (beside : ℕ) → is_below (p.room + page_head_bytes) (first_of (left_in p)) beside ≡ false → entry_bytes (entry_seen e) + beside ≤ p.room
  first_within beside large =
      let seen = subst (λ o. is_below (p.room + page_head_bytes) (first_of (before_rest o (left_of p.rest))) beside ≡ false) is large in
      let le = ltb-false (p.room + page_head_bytes) (page_head_bytes + entry_bytes (entry_seen e) + beside)
      (or_parts (nat_lt (p.room + page_head_bytes) page_head_bytes) (nat_lt (p.room + page_head_bytes) (page_head_bytes + entry_bytes (entry_seen e) + beside)) seen).1 in
      omega (arith, le)

-- ---- whole pages

-- a bound by which a page was opened
pub whole_bound : (count room : ℕ) → room + page_head_bytes ≡ min count max_page → min (room + page_head_bytes) max_page ≡ min count max_page
whole_bound count room is = let le = min-le_right count max_page in min-eq_left (omega (arith, is, le)) ∙ is

-- what was written of an open page is the page that was asked for
pub page_answered : (count : ℕ) (left : List Entry) (p : OpenPage) → IsOpen left (min count max_page) 0 p → (page : WrittenPage) (old new : Written)
    → AnswersPage (fits (p.room + page_head_bytes)) entries_text EntriesEncoded (left_in p) (Ok page) old new → AnswersPage (fits count) entries_text EntriesEncoded left (Ok page) old new
page_answered count left p opened page old new answer =
    subst (λ es. AnswersPage (fits count) entries_text EntriesEncoded es (Ok page) old new) opened.left_is
    (subst (λ b. AnswersPage (λ es. nat_le (page_head_bytes + sum_by entry_bytes es) b) entries_text EntriesEncoded (left_in p) (Ok page) old new) (whole_bound count p.room opened.room_is) answer)

pub page_plus_answered : (dircount maxcount : ℕ) (t : Tree) (searchable : Bool) (left : List Entry) (p : OpenPagePlus) → IsOpen left (min maxcount max_page) (plus_bytes searchable) p.page → p.searchable ≡ searchable → (page : WrittenPage) (old new : Written)
    → AnswersPage (fits_plus dircount (p.page.room + page_head_bytes) p.searchable) (entries_plus_text t p.searchable) (EntriesPlusEncoded t p.searchable) (left_in p.page) (Ok page) old new
    → AnswersPage (fits_plus dircount maxcount searchable) (entries_plus_text t searchable) (EntriesPlusEncoded t searchable) left (Ok page) old new
page_plus_answered dircount maxcount t searchable left p opened same page old new answer =
    subst (λ es. AnswersPage (fits_plus dircount maxcount searchable) (entries_plus_text t searchable) (EntriesPlusEncoded t searchable) es (Ok page) old new) opened.left_is
    (subst (λ b. AnswersPage (λ es. nat_le (page_head_bytes + sum_by (λ e. entry_bytes e + plus_bytes searchable) es) b && (nat_le (length es) 1 || nat_le (sum_by entry_bytes es) dircount))
    (entries_plus_text t searchable) (EntriesPlusEncoded t searchable) (left_in p.page) (Ok page) old new) (whole_bound maxcount p.page.room opened.room_is)
    (subst (λ s. AnswersPage (fits_plus dircount (p.page.room + page_head_bytes) s) (entries_plus_text t s) (EntriesPlusEncoded t s) (left_in p.page) (Ok page) old new) same answer))
