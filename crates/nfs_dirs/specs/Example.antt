-- Pages of a small tree, as examples.
use Rattle.std.specs.Prelude.{◌≡◌, ℕ, Bool, true, false, List, [], ◌∷◌, map, Option, Some, None, if◌then◌else◌}
use Rattle.nfs_inodes.specs.Tree.{Tree, Entry, Directory}
use Rattle.nfs_inodes.specs.Example.{entry, file, file_1, tree_e}
use Rattle.nfs_dirs.specs.Pages.{fits, fits_plus, chosen, is_end, is_too_small, left_after}

-- the cookies of a page, and whether the directory ends after it
abbrev pub cookies_reported : (List Entry → Bool) → Tree → ℕ → ℕ → Option (List ℕ × Bool)
cookies_reported passes t d cookie = if is_too_small passes (left_after t d cookie) then None
    else Some (map (λ e. e.cookie) (chosen passes (left_after t d cookie)), is_end passes (left_after t d cookie))

-- of the example tree, where directory 2 has lost its entries and got another one, `y`
abbrev pub tree_y : Tree
tree_y = record tree_e { files = (1, file_1) ∷ (2, file 0 (Directory 1 6 (entry 5 (0x79 ∷ []) 9 ∷ [])) 511 1 1) ∷ [] }

-- Names of one or two bytes take 28 bytes an entry, and 148 with attributes and handle.
pub record PagesOfE : Type 0 where
  -- directory 6 has no entries but `.` and `..`
  pub both : cookies_reported (fits 160) tree_e 6 0 ≡ Some (1 ∷ 2 ∷ [], true)
  pub one : cookies_reported (fits 159) tree_e 6 0 ≡ Some (1 ∷ [], false)
  -- directory 2 has two more
  pub three : cookies_reported (fits 188) tree_e 2 0 ≡ Some (1 ∷ 2 ∷ 3 ∷ [], false)
  pub last : cookies_reported (fits 132) tree_e 2 3 ≡ Some (4 ∷ [], true)
  -- after a removal between two pages
  pub after_removal : cookies_reported (fits 132) tree_y 2 3 ≡ Some (5 ∷ [], true)
  pub nothing_left : cookies_reported (fits 104) tree_y 2 5 ≡ Some ([], true)
  pub no_head : cookies_reported (fits 103) tree_y 2 5 ≡ None
  pub head_alone : cookies_reported (fits 104) tree_y 2 0 ≡ None
  pub almost_one : cookies_reported (fits 131) tree_y 2 0 ≡ None
  pub just_one : cookies_reported (fits 132) tree_y 2 0 ≡ Some (1 ∷ [], false)
  -- READDIRPLUS: `dircount` bounds two or more
  pub plus_both : cookies_reported (fits_plus 56 400 true) tree_e 6 0 ≡ Some (1 ∷ 2 ∷ [], true)
  pub plus_dircount : cookies_reported (fits_plus 55 400 true) tree_e 6 0 ≡ Some (1 ∷ [], false)
  pub plus_one : cookies_reported (fits_plus 28 252 true) tree_e 6 0 ≡ Some (1 ∷ [], false)
  pub plus_too_small : cookies_reported (fits_plus 28 251 true) tree_e 6 0 ≡ None
  pub plus_hidden : cookies_reported (fits_plus 56 176 false) tree_e 6 0 ≡ Some (1 ∷ 2 ∷ [], true)
