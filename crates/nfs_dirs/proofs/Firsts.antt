-- The first entry that is left after a cookie.
use Rattle.std.proofs.Common.{◌≡◌, ℕ, Bool, true, false, cond, List, [], ◌∷◌, Option, Some, refl}
use Rattle.std.specs.Prelude.{nat_lt}
use Rattle.std.specs.List.{find, filter}
use Rattle.nfs_inodes.specs.Tree.{Tree, Entry}
use Rattle.nfs_inodes.specs.Reading.{listing_at, entry_after}
use Rattle.nfs_dirs.specs.Opening.{first_of}
use Rattle.nfs_dirs.specs.Pages.{left_after}

first_of_test : (b : Bool) (x : Entry) (es : List Entry) (o : Option Entry) → first_of es ≡ o → first_of (cond b (x ∷ es) es) ≡ cond b (Some x) o
first_of_test true x es o e = refl
first_of_test false x es o e = e

first_of_filter : (p : Entry → Bool) (es : List Entry) → first_of (filter p es) ≡ find p es
first_of_filter p [] = refl
first_of_filter p (x ∷ xs) = first_of_test (p x) x (filter p xs) (find p xs) (first_of_filter p xs)

-- the first entry that is left after a cookie
pub first_after : (t : Tree) (d cookie : ℕ) → first_of (left_after t d cookie) ≡ entry_after t d cookie
first_after t d cookie = first_of_filter (λ e. nat_lt cookie e.cookie) (listing_at t d)
