-- What the words of a line stand for are bytes.
use Rattle.std.proofs.Common.{◌≡◌, ℕ, ◌<◌, Bool, true, false, List, [], ◌∷◌, length, Option, Some, None, Ok, refl, subst, arith}
use Rattle.std.specs.List.{list_all}
use Rattle.std.specs.Prelude.{All, if◌then◌else◌, nat_eq, nat_le}
use Rattle.std.proofs.lemmas.Bool.Decides.{nat_tests}
use Rattle.hex.specs.Hex.{IsBytes}
use Rattle.nfs_inodes.proofs.Lists.{same_some}
use Rattle.nfs_inodes.specs.Tree.{on_some}
use Rattle.nfs_text.specs.Chunks.{chunks}
use Rattle.nfs_load.specs.Fields.{target_in, target_or_cause}
use Rattle.nfs_load.specs.Names.{at_most, held_in, names_in}
use Rattle.nfs_load.specs.Paths.{after_slash, is_short, path_names}
use Rattle.nfs_load.specs.declared.name_form.NameForm.{NameForm}
use Rattle.nfs_load.proofs.Names.{bytes_cons, bytes_none, bytes_rest, chunks_bytes, held_in_bytes, names_in_bytes}
use Rattle.nfs_describe.specs.Lines.{is_shown}
use Rattle.nfs_round_trip.proofs.Runs.{same_ok}
use Rattle.nfs_round_trip.proofs.Truths.{both}

shown_small : (x : ℕ) → is_shown x ≡ true → x < 256
shown_small x e = grind (arith, nat_tests)

pub shown_bytes : (xs : List ℕ) → list_all is_shown xs ≡ true → IsBytes xs
shown_bytes [] e = bytes_none
shown_bytes (x ∷ xs) e = let p = both (is_shown x) (list_all is_shown xs) e in bytes_cons x xs (shown_small x p.0) (shown_bytes xs p.1)

slash_bytes : (field rest : List ℕ) → IsBytes field → after_slash field ≡ Some rest → IsBytes rest
slash_bytes [] rest are e = cc
slash_bytes (byte ∷ field) rest are e = of (nat_eq byte 47) e
  where
    of : (b : Bool) → (if b then Some field else None) ≡ Some rest → IsBytes rest
    of true e = subst IsBytes (same_some e) (bytes_rest byte field are)
    of false e = cc

-- the names of a path
pub path_names_bytes : (form : NameForm) (field : List ℕ) (names : List (List ℕ)) → IsBytes field → path_names form field ≡ Some names → All IsBytes names
path_names_bytes form field names are e = of (is_short form field) e
  where
    slash : (o : Option (List ℕ)) → after_slash field ≡ o → on_some o None (λ rest. names_in form (chunks 47 rest)) ≡ Some names → All IsBytes names
    slash None is e = cc
    slash (Some rest) is e = names_in_bytes form (chunks 47 rest) (chunks_bytes rest (slash_bytes field rest are is)) names e

    of : (b : Bool) → (if b then on_some (after_slash field) None (λ rest. names_in form (chunks 47 rest)) else None) ≡ Some names → All IsBytes names
    of true e = slash (after_slash field) refl e
    of false e = cc

-- what a link holds
pub target_bytes : (form : NameForm) (most : ℕ) (field target : List ℕ) → IsBytes field → target_in form most field ≡ Ok target → IsBytes target
target_bytes form most field target are e = of (held_in form field) refl e
  where
    few : (held : List ℕ) (b : Bool) → target_or_cause (if b then Some held else None) ≡ Ok target → held ≡ target
    few held true e = same_ok (target_or_cause (Some held)) held target refl e
    few held false e = cc

    of : (o : Option (List ℕ)) → held_in form field ≡ o → target_or_cause (at_most most o) ≡ Ok target → IsBytes target
    of None is e = cc
    of (Some held) is e = subst IsBytes (few held (nat_le (length held) most) e) (held_in_bytes form field are held is)
