-- The file whose times a line gives, and its path.
use Rattle.std.proofs.Common.{◌≡◌, ◌≢◌, ℕ, Bool, true, false, List, [], ◌∷◌, Option, Some, None, option_map, Result, Ok, Err, refl, subst}
use Rattle.std.specs.List.{onto_first}
use Rattle.std.specs.Prelude.{◌==◌, if◌then◌else◌, is_some}
use Rattle.nfs_inodes.specs.Reading.{attributes_at, attributes_of}
use Rattle.nfs_inodes.specs.Tree.{Tree, File, at, nlink}
use Rattle.nfs_text.specs.Chunks.{chunks}
use Rattle.nfs_load.specs.Effects.{living_file}
use Rattle.nfs_load.specs.PathEnds.{file_at, file_or_root_at}
use Rattle.nfs_load.specs.declared.cause.Cause.{Cause}
use Rattle.nfs_load.specs.declared.cause.Cause.TheVariants.{NoTarget}

pub file_with_names : (t : Tree) (root : ℕ) (names : List (List ℕ)) → names ≢ [] → file_at t root names ≡ file_or_root_at t root names
file_with_names t root [] some = absurd (some refl)
file_with_names t root (name ∷ names) some = refl

has_file : (t : Tree) (n : ℕ) (o : Option File) → is_some (option_map (λ f. attributes_of n f (nlink t.files n f)) o) ≡ true → (f : File) × (o ≡ Some f)
has_file t n None e = cc
has_file t n (Some f) e = (f, refl)

abbrev when_living : ℕ → Bool → Result ℕ Cause
when_living m b = if b then Ok m else Err NoTarget

pub living_lives : (t : Tree) (found : Option ℕ) (n : ℕ) → living_file t found ≡ Ok n → (f : File) × (at n t.files ≡ Some f)
living_lives t None n e = cc
living_lives t (Some m) n e = of (is_some (attributes_at t m)) refl e
  where
    of : (b : Bool) → is_some (attributes_at t m) ≡ b → when_living m b ≡ Ok n → (f : File) × (at n t.files ≡ Some f)
    of true lives e = let same : m ≡ n = cc in subst (λ k. (f : File) × (at k t.files ≡ Some f)) same (has_file t m (at m t.files) lives)
    of false lives e = cc

-- a text has a chunk
pub some_chunk : (s : ℕ) (xs : List ℕ) → chunks s xs ≢ []
some_chunk s [] e = cc
some_chunk s (x ∷ xs) e = of (x == s) (chunks s xs) e
  where
    of : (b : Bool) (rest : List (List ℕ)) → (if b then [] ∷ rest else onto_first x rest) ≡ [] → ⊥
    of true rest e = cc
    of false [] e = cc
    of false (y ∷ rest) e = cc
