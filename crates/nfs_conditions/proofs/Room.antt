-- What the tests of bytes and sizes report: each is true just where its condition holds.
use Rattle.std.proofs.Common.{◌≡◌, ℕ, ◌+◌, ◌-◌, ◌<◌, ◌≤◌, Bool, true, false, length, Option, Some, None, option_map, refl, sym, ap, subst, ◌∙◌, arith}
use Rattle.std.specs.Prelude.{nat_le, slice_get}
use Rattle.std.specs.Bool.{Decides}
use Rattle.std.proofs.lemmas.Bool.{leb-true, le-leb}
use Rattle.std.proofs.lemmas.Bool.Decides.{Decides-at, Decides-like}
use Rattle.nfs_attrs.specs.declared.fattr.Fattr.{Fattr}
use Rattle.nfs_inodes.specs.Tree.{Tree, File, Volume, on_some, is_regular, bytes_in, bytes_of, files_of}
use Rattle.nfs_inodes.specs.Law.{Law, Lives}
use Rattle.nfs_inodes.specs.Conditions.{MayWrite, MayResize}
use Rattle.nfs_inodes.specs.Reading.{attributes_at}
use Rattle.nfs_inodes.proofs.Lists.{by_number, same_some, not_both}
use Rattle.nfs_inodes.proofs.Readers.{make_totals}
use Rattle.nfs_conditions.specs.Parts.{TakesBytes, HasSpace, has_space}
use Rattle.nfs_inodes.proofs.Tests.{never}
use Rattle.nfs_conditions.proofs.Files.{lives, regular, size, index}

space_reports : (t : Tree) (at bytes : ℕ) → Decides (has_space t at bytes) (HasSpace t at bytes)
space_reports t at bytes = of (slice_get t.volumes at) refl
  where
    of : (o : Option Volume) → slice_get t.volumes at ≡ o
        → Decides (on_some o false (λ v. on_some (option_map (λ (w : Volume). make_totals (bytes_of at t.files) (files_of at t.files)) o) false (λ totals. nat_le (totals.bytes + bytes) v.max_bytes))) (HasSpace t at bytes)
    of None e = never (λ s. not_both e s.at_volume)
    of (Some v) e = (
      λ y. record { volume = v; at_volume = e; fits = leb-true (bytes_of at t.files + bytes) v.max_bytes y },
      λ s. le-leb (bytes_of at t.files + bytes) v.max_bytes (subst (λ (w : Volume). bytes_of at t.files + bytes ≤ w.max_bytes) (same_some (sym s.at_volume ∙ e)) s.fits),
    )

pub space_by : (t : Tree) (at bytes : ℕ) (b : Bool) → b ≡ has_space t at bytes → Decides b (HasSpace t at bytes)
space_by t at bytes b is = Decides-at b (has_space t at bytes) is (space_reports t at bytes)

module _ (t : Tree) (n : ℕ) (a : Fattr) (e : Some a ≡ attributes_at t n) where
  -- so many bytes after the end of a file, which the volume takes
  fits_there : (f : File) (at_f : Lives t n f) → is_regular f.kind ≡ true → (end more limit : ℕ) → more ≡ end - a.size → bytes_of (a.fsid - 1) t.files + more ≤ limit → bytes_of f.volume t.files + (end - length (bytes_in f.kind)) ≤ limit
  fits_there f at_f y end more limit is fits =
      let long = size t n a e f at_f y in
      let total : bytes_of (a.fsid - 1) t.files ≡ bytes_of f.volume t.files = ap (λ p. bytes_of p t.files) (index t n a e f at_f) in
      omega (arith, fits, long, total, is)

  fits_back : (f : File) (at_f : Lives t n f) → is_regular f.kind ≡ true → (end more limit : ℕ) → more ≡ end - a.size → bytes_of f.volume t.files + (end - length (bytes_in f.kind)) ≤ limit → bytes_of (a.fsid - 1) t.files + more ≤ limit
  fits_back f at_f y end more limit is fits =
      let long = size t n a e f at_f y in
      let total : bytes_of (a.fsid - 1) t.files ≡ bytes_of f.volume t.files = ap (λ p. bytes_of p t.files) (index t n a e f at_f) in
      omega (arith, fits, long, total, is)

  -- ---- bytes

  pub writes_there : (offset count more : ℕ) (b : Bool) → TakesBytes t.limits a offset count → 0 < count → more ≡ offset + count - a.size → Decides b (HasSpace t (a.fsid - 1) more) → Decides b (MayWrite t n offset count)
  writes_there offset count more b takes some is space =
      let l = lives t n a e in
      let y : is_regular l.0.kind ≡ true = sym (regular t n a e l.0 l.1) ∙ takes.0 in
      Decides-like b
      (λ (s : HasSpace t (a.fsid - 1) more). record {
        file = l.0;
        at_file = l.1;
        regular = y;
        large = takes.1;
        volume = s.volume;
        at_volume = subst (λ p. slice_get t.volumes p ≡ Some s.volume) (index t n a e l.0 l.1) s.at_volume;
        room = λ _. fits_there l.0 l.1 y (offset + count) more s.volume.max_bytes is s.fits;
      })
      (λ (may : MayWrite t n offset count). record {
        volume = may.volume;
        at_volume = subst (λ p. slice_get t.volumes p ≡ Some may.volume) (sym (index t n a e may.file may.at_file)) may.at_volume;
        fits = fits_back may.file may.at_file may.regular (offset + count) more may.volume.max_bytes is (may.room some);
      })
      space

  pub written_to : (offset count : ℕ) → MayWrite t n offset count → TakesBytes t.limits a offset count
  written_to offset count may = (regular t n a e may.file may.at_file ∙ may.regular, may.large)

  -- no bytes need no room
  pub writes_none : Law t → (offset : ℕ) → TakesBytes t.limits a offset 0 → MayWrite t n offset 0
  writes_none law offset takes =
      let l = lives t n a e in
      let v = law.placed n l.0 l.1 in
      record {
        file = l.0;
        at_file = l.1;
        regular = sym (regular t n a e l.0 l.1) ∙ takes.0;
        large = takes.1;
        volume = v.0;
        at_volume = v.1;
        room = λ more. absurd (omega (arith, more));
      }

  -- ---- a size

  pub resizes_there : (end more : ℕ) (b : Bool) → TakesBytes t.limits a 0 end → more ≡ end - a.size → Decides b (HasSpace t (a.fsid - 1) more) → Decides b (MayResize t n end)
  resizes_there end more b takes is space =
      let l = lives t n a e in
      let y : is_regular l.0.kind ≡ true = sym (regular t n a e l.0 l.1) ∙ takes.0 in
      Decides-like b
      (λ (s : HasSpace t (a.fsid - 1) more). record {
        file = l.0;
        at_file = l.1;
        regular = y;
        large = by_number end 0 (λ zero. omega (arith, zero)) (λ other. let large = takes.1 (omega (arith, other)) in omega (arith, large));
        volume = s.volume;
        at_volume = subst (λ p. slice_get t.volumes p ≡ Some s.volume) (index t n a e l.0 l.1) s.at_volume;
        room = fits_there l.0 l.1 y end more s.volume.max_bytes is s.fits;
      })
      (λ (may : MayResize t n end). record {
        volume = may.volume;
        at_volume = subst (λ p. slice_get t.volumes p ≡ Some may.volume) (sym (index t n a e may.file may.at_file)) may.at_volume;
        fits = fits_back may.file may.at_file may.regular end more may.volume.max_bytes is may.room;
      })
      space

  pub resized_to : (end : ℕ) → MayResize t n end → TakesBytes t.limits a 0 end
  resized_to end may = let large = may.large in (regular t n a e may.file may.at_file ∙ may.regular, λ some. omega (arith, large))
