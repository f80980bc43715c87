-- Where no rule is failed, a file takes bytes or a size.
use Rattle.std.proofs.Common.{◌≡◌, ℕ, ◌+◌, ◌-◌, ◌<◌, ◌≤◌, Bool, true, false, length, Option, Some, None, refl, sym, ap, subst, ◌∙◌, arith}
use Rattle.std.specs.Prelude.{nat_eq, slice_get, is_some, not, ◌&&◌}
use Rattle.std.proofs.lemmas.Bool.{not-false, ltb-false, eqb-true}
use Rattle.nfs_args.specs.declared.create.Create.{Create}
use Rattle.nfs_args.specs.declared.create.CreateHow.TheVariants.{Unchecked}
use Rattle.nfs_args.specs.declared.setattr.Setattr.{Setattr}
use Rattle.nfs_args.specs.declared.write.Write.{Write}
use Rattle.nfs_attrs.specs.declared.fattr.Fattr.{Fattr}
use Rattle.nfs_attrs.specs.declared.sattr.Sattr.{Sattr}
use Rattle.nfs_inodes.specs.Tree.{File, Volume, is_regular, bytes_in, bytes_of}
use Rattle.nfs_inodes.specs.Law.{Law, Lives}
use Rattle.nfs_inodes.specs.Conditions.{MayWrite, MayResize}
use Rattle.nfs_inodes.specs.Reading.{attributes_at, is_regular_type}
use Rattle.nfs_inodes.proofs.Lists.{by_test, if_false}
use Rattle.nfs_rules.specs.Subjects.{Subject}
use Rattle.nfs_rules.specs.Tests.{first, not_regular, size_type, too_big, end_of, growth, space, found}
use Rattle.nfs_rules.specs.Table.{write_rules, setattr_rules, create_rules}
use Rattle.nfs_rules.proofs.Firsts.{passed_at}
use Rattle.nfs_rules.proofs.SeenFiles.{seen_lives, seen_regular, seen_size, found_seen}
use Rattle.nfs_rules.proofs.Room.{has_space}
use Rattle.nfs_rules.proofs.NewFiles.{create_rules_with}

-- what is to have a size has to be regular
regular_with : (size : Option ℕ) (n : ℕ) (regular : Bool) → size ≡ Some n → (is_some size && not regular) ≡ false → regular ≡ true
regular_with size n regular is e = not-false regular (sym (ap (λ o. is_some o && not regular) is) ∙ e)

module _ (s : Subject) (law : Law s.tree) (seen : attributes_at s.tree s.file.fileid ≡ Some s.file) where
  -- the file itself
  lives_as_regular : is_regular_type s.file.file_type ≡ true → (h : File) × Lives s.tree s.file.fileid h × (is_regular h.kind ≡ true)
  lives_as_regular e = let lives = seen_lives s.tree s.file seen in (lives.0, lives.1, sym (seen_regular s.tree s.file seen lives.0 lives.1) ∙ e)

  -- its volume takes what is beyond its end
  has_growth : (h : File) (at_h : Lives s.tree s.file.fileid h) (v : Volume) → slice_get s.tree.volumes h.volume ≡ Some v → is_regular h.kind ≡ true → (n : ℕ) → (space s (growth s (Some n))).1 ≡ false
      → bytes_of h.volume s.tree.files + (n - length (bytes_in h.kind)) ≤ v.max_bytes
  has_growth h at_h v at_v regular n room =
      let all = has_space s seen h at_h v at_v (n - s.file.size) room in
      let size = seen_size s.tree s.file seen h at_h regular in
      omega (arith, all, size)

  pub may_resize_to : (n : ℕ) → is_regular_type s.file.file_type ≡ true → (too_big s.tree.limits (Some n)).1 ≡ false → (space s (growth s (Some n))).1 ≡ false → MayResize s.tree s.file.fileid n
  may_resize_to n regular large room =
      let lives = lives_as_regular regular in
      let placed = law.placed s.file.fileid lives.0 lives.1 in
      record {
        file = lives.0;
        at_file = lives.1;
        regular = lives.2;
        large = ltb-false s.tree.limits.file_size n large;
        volume = placed.0;
        at_volume = placed.1;
        room = has_growth lives.0 lives.1 placed.0 placed.1 lives.2 n room;
      }

  pub may_write : (a : Write) → first (write_rules s a) ≡ None → MayWrite s.tree s.file.fileid a.offset (length a.content)
  may_write a none =
      let passed = passed_at (write_rules s a) none in
      let count = length a.content in
      let lives = lives_as_regular (not-false _ (passed 1 (not_regular s) refl)) in
      let placed = law.placed s.file.fileid lives.0 lives.1 in
      let ends : 0 < count → end_of a.offset count ≡ Some (a.offset + count) = λ some. if_false None (Some (a.offset + count)) (by_test (nat_eq count 0) (λ y. let zero = eqb-true count 0 y in absurd (omega (arith, zero, some))) (λ n. n)) in
      record {
        file = lives.0;
        at_file = lives.1;
        regular = lives.2;
        large = λ some. ltb-false s.tree.limits.file_size (a.offset + count) (subst (λ o. (too_big s.tree.limits o).1 ≡ false) (ends some) (passed 3 (too_big s.tree.limits (end_of a.offset count)) refl));
        volume = placed.0;
        at_volume = placed.1;
        room = λ some. has_growth lives.0 lives.1 placed.0 placed.1 lives.2 (a.offset + count) (subst (λ o. (space s (growth s o)).1 ≡ false) (ends some) (passed 4 (space s (growth s (end_of a.offset count))) refl));
      }

  -- SETATTR of a size
  pub may_set_size : (a : Setattr) → first (setattr_rules s a) ≡ None → (n : ℕ) → a.attributes.size ≡ Some n → MayResize s.tree s.file.fileid n
  may_set_size a none n is =
      let passed = passed_at (setattr_rules s a) none in
      may_resize_to n
      (regular_with a.attributes.size n (is_regular_type s.file.file_type) is (passed 5 (size_type s a.attributes) refl))
      (subst (λ o. (too_big s.tree.limits o).1 ≡ false) is (passed 9 (too_big s.tree.limits a.attributes.size) refl))
      (subst (λ o. (space s (growth s o)).1 ≡ false) is (passed 10 (space s (growth s a.attributes.size)) refl))

-- CREATE of a file that is there
module _ (s : Subject) (law : Law s.tree) where
  pub may_resize_present : (a : Create) → first (create_rules s a) ≡ None → (f : Fattr) → found s a.place.name ≡ Some f → (attributes : Sattr) → a.how ≡ Unchecked attributes → (n : ℕ) → attributes.size ≡ Some n → MayResize s.tree f.fileid n
  may_resize_present a none f is_found attributes how n is =
      let there : Subject = record s { file = f } in
      let none : first (create_rules_with s a.place.name (Unchecked attributes) (Some f)) ≡ None =
      subst (λ o. first (create_rules_with s a.place.name (Unchecked attributes) o) ≡ None) is_found
      (subst (λ how. first (create_rules_with s a.place.name how (found s a.place.name)) ≡ None) how none) in
      let passed = passed_at (create_rules_with s a.place.name (Unchecked attributes) (Some f)) none in
      may_resize_to there law (found_seen s a.place.name f is_found).1 n
      (not-false _ (passed 5 _ refl))
      (subst (λ o. (too_big s.tree.limits o).1 ≡ false) is (passed 7 (too_big s.tree.limits attributes.size) refl))
      (subst (λ o. (space there (growth there o)).1 ≡ false) is (passed 8 (space there (growth there attributes.size)) refl))
