-- The law after a change of a file's size, and of its attributes.
use Rattle.std.proofs.Common.{inl, inr, ◌≡◌, ℕ, ◌-◌, ◌≤◌, ◌<◌, true, List, length, take, Option, Some, None, refl, sym, ap, subst, arith, length-append}
use Rattle.std.specs.Prelude.{◌%◌}
use Rattle.std.proofs.lemmas.List.{length-take-le, take_all}
use Rattle.std.proofs.lemmas.Bool.{cases_lt}
use Rattle.nfs_attrs.specs.declared.moment.Moment.{Moment}
use Rattle.nfs_inodes.specs.declared.limits.Limits.{Limits}
use Rattle.nfs_inodes.specs.declared.given_attributes.GivenAttributes.{GivenAttributes}
use Rattle.nfs_inodes.specs.Tree.{Tree, File, Kind, Regular, Directory, Link, on_some, is_regular, bytes_in}
use Rattle.nfs_inodes.specs.Law.{Law, IsSound, Lives}
use Rattle.nfs_inodes.specs.Changes.{with_file, zeros, kind_with_bytes, sized, resized_to, after_resize, with_given, after_set}
use Rattle.nfs_inodes.specs.Conditions.{MayResize}
use Rattle.nfs_inodes.proofs.law.Alike.{Alike, law_with_file, room_same}
use Rattle.nfs_inodes.proofs.Bytes.{length_zeros}

-- ---- its size

pub length_sized : (old : List ℕ) (size : ℕ) → length (sized old size) ≡ size
length_sized old size =
    let a = length-append (take size old) (zeros (size - length old)) in
    let z = length_zeros (size - length old) in
    elim (cases_lt (length old) size) [
      | inl g ↦ let t : length (take size old) ≡ length old = ap length (take_all size old (omega (arith, g))) in omega (arith, a, z, t, g)
      | inr l ↦ let t : length (take size old) ≡ size = length-take-le size old l in omega (arith, a, z, t, l)
    ]

pub resized_alike : (f : File) (size : ℕ) (now : Moment) → Alike f (resized_to f size now)
resized_alike f size now = by_kind f.kind
  where
    by_kind : (k : Kind) → Alike (record f { kind = k }) (resized_to (record f { kind = k }) size now)
    by_kind (Regular old) = record { placed = record { tag = refl; volume = refl; directory = refl; parent = refl }; entries = refl }
    by_kind (Directory parent next entries) = record { placed = record { tag = refl; volume = refl; directory = refl; parent = refl }; entries = refl }
    by_kind (Link path) = record { placed = record { tag = refl; volume = refl; directory = refl; parent = refl }; entries = refl }

-- how many bytes a regular file has then
pub length_resized : (k : Kind) (size : ℕ) → is_regular k ≡ true → length (bytes_in (kind_with_bytes k (sized (bytes_in k) size))) ≡ size
length_resized (Regular old) size e = length_sized old size
length_resized (Directory parent next entries) size e = cc
length_resized (Link path) size e = cc

resized_sound : {l : Limits} (f : File) (size : ℕ) (now : Moment) → is_regular f.kind ≡ true → IsSound l f → size ≤ l.file_size → IsSound l (resized_to f size now)
resized_sound {l} f size now r s h = by_kind f.kind r s
  where
    by_kind : (k : Kind) → is_regular k ≡ true → IsSound l (record f { kind = k }) → IsSound l (resized_to (record f { kind = k }) size now)
    by_kind (Regular old) e s = let l = length_sized old size in record { mode = s.mode; bytes = omega (arith, l, h); path = s.path; names = s.names; cookies = s.cookies; next_cookie = s.next_cookie; apart = s.apart }
    by_kind (Directory parent next entries) e s = cc
    by_kind (Link path) e s = cc

pub resized_is : (t : Tree) (n size : ℕ) (now : Moment) (f : File) → Lives t n f → after_resize t n size now ≡ with_file t n (resized_to f size now)
resized_is t n size now f e = ap (λ o. on_some o t (λ f. with_file t n (resized_to f size now))) e

pub law_after_resize : (t : Tree) (n size : ℕ) (now : Moment) → MayResize t n size → Law t → Law (after_resize t n size now)
law_after_resize t n size now may law = subst Law (sym (resized_is t n size now may.file may.at_file))
    (law_with_file 0 t n may.file (resized_to may.file size now) law may.at_file (resized_alike may.file size now) (resized_sound may.file size now may.regular (law.sound n may.file may.at_file) may.large)
    (record {
      volume = may.volume;
      at_volume = may.at_volume;
      room = let l = length_resized may.file.kind size may.regular in let r = may.room in omega (arith, l, r);
    }))

-- ---- its attributes

pub given_alike : (f : File) (given : GivenAttributes) (now : Moment) → Alike f (with_given f given now)
given_alike f given now = record { placed = record { tag = refl; volume = refl; directory = refl; parent = refl }; entries = refl }

given_sound : {l : Limits} (f : File) (given : GivenAttributes) (now : Moment) → IsSound l f → IsSound l (with_given f given now)
given_sound {l} f given now s = record { mode = of_mode given.mode; bytes = s.bytes; path = s.path; names = s.names; cookies = s.cookies; next_cookie = s.next_cookie; apart = s.apart }
  where
    of_mode : (mode : Option ℕ) → on_some mode f.mode (λ m. m % 4096) < 4096
    of_mode None = s.mode
    of_mode (Some m) = omega arith

pub set_is : (t : Tree) (n : ℕ) (given : GivenAttributes) (now : Moment) (f : File) → Lives t n f → after_set t n given now ≡ with_file t n (with_given f given now)
set_is t n given now f e = ap (λ o. on_some o t (λ f. with_file t n (with_given f given now))) e

pub law_after_set : (t : Tree) (n : ℕ) (given : GivenAttributes) (now : Moment) (f : File) → Lives t n f → Law t → Law (after_set t n given now)
law_after_set t n given now f at_n law = subst Law (sym (set_is t n given now f at_n))
    (law_with_file 0 t n f (with_given f given now) law at_n (given_alike f given now) (given_sound f given now (law.sound n f at_n)) (room_same 0 t n f (with_given f given now) law at_n refl))
