-- What clients do leaves a tree describable.
use Rattle.std.proofs.Common.{◌≡◌, ℕ, suc, zero, ◌+◌, ◌-◌, ◌<◌, Bool, true, false, List, [], ◌∷◌, ◌++◌, drop, length, nat_eq, take, Option, Some, None}
use Rattle.std.proofs.Common.{refl, sym, ap, subst, ◌∙◌, arith}
use Rattle.std.specs.Prelude.{All, if◌then◌else◌}
use Rattle.hex.specs.Hex.{IsBytes}
use Rattle.nfs_attrs.specs.declared.moment.Moment.{Moment}
use Rattle.nfs_exports.specs.declared.export_table.Export.{Export}
use Rattle.nfs_inodes.specs.Changes.{after_link, after_rename, after_unlink, after_write_at, carried, entered, file_with_bytes, kind_with_bytes}
use Rattle.nfs_inodes.specs.Changes.{kind_with_parent, kind_without_entry, left, moved, moved_to, put_bytes, released, resized_to, sized, touched}
use Rattle.nfs_inodes.specs.Changes.{with_file, with_given, with_named_file, with_new_file, without_entry, without_file, zeros}
use Rattle.nfs_inodes.specs.Law.{AreRising, Law}
use Rattle.nfs_inodes.specs.Reading.{entry_at}
use Rattle.nfs_inodes.specs.Tree.{Tree, File, Kind, Regular, Directory, Link, Entry, Volume, at, bytes_in, names_of, on_some}
use Rattle.nfs_inodes.proofs.law.EntryLess.{left_was}
use Rattle.nfs_inodes.proofs.Maps.{at_next, push_back, rising_push, rising_with, rising_without, with_back, without_back}
use Rattle.nfs_inodes.proofs.law.NewFiles.{law_after_mkdir, law_after_make_file, law_after_make_link}
use Rattle.nfs_inodes.proofs.law.Operations.{law_after_link, law_after_write_at}
use Rattle.nfs_inodes.proofs.law.Renames.{law_after_rename}
use Rattle.nfs_inodes.proofs.law.Settings.{law_after_resize, law_after_set}
use Rattle.nfs_inodes.proofs.law.Unlinks.{law_after_unlink}
use Rattle.nfs_load.specs.Moments.{IsTime}
use Rattle.nfs_round_trip.specs.Changes as law
use Rattle.nfs_round_trip.specs.Changes.{IsGivenSaid, IsNewSaid, Stays}
use Rattle.nfs_round_trip.specs.Copies.{CanBeSaid, HoldsBytes}
use Rattle.nfs_round_trip.specs.RoundTrip.{IsDescribable, IsVolumeSaid}
use Rattle.nfs_round_trip.proofs.Loaded.{FilesSaid, entered_said, given_said, new_said, no_entries, touched_said}

-- ---- bytes

abbrev Bytes : List ℕ → Type 0
Bytes [] = Unit {0}
Bytes (x ∷ xs) = (x < 256) × Bytes xs

each_byte : (xs : List ℕ) → IsBytes xs → Bytes xs
each_byte [] is = tt
each_byte (x ∷ xs) is = (is 0, each_byte xs (λ i. is (suc i)))

all_bytes : (xs : List ℕ) → Bytes xs → IsBytes xs
all_bytes [] each i = omega arith
all_bytes (x ∷ xs) each zero = each.0
all_bytes (x ∷ xs) each (suc i) = all_bytes xs each.1 i

append_bytes : (xs ys : List ℕ) → Bytes xs → Bytes ys → Bytes (xs ++ ys)
append_bytes [] ys one two = two
append_bytes (x ∷ xs) ys one two = (one.0, append_bytes xs ys one.1 two)

take_bytes : (n : ℕ) (xs : List ℕ) → Bytes xs → Bytes (take n xs)
take_bytes zero xs each = tt
take_bytes (suc n) [] each = tt
take_bytes (suc n) (x ∷ xs) each = (each.0, take_bytes n xs each.1)

drop_bytes : (n : ℕ) (xs : List ℕ) → Bytes xs → Bytes (drop n xs)
drop_bytes zero xs each = each
drop_bytes (suc n) [] each = tt
drop_bytes (suc n) (x ∷ xs) each = drop_bytes n xs each.1

zero_bytes : (n : ℕ) → Bytes (zeros n)
zero_bytes zero = tt
zero_bytes (suc n) = (omega arith, zero_bytes n)

put_is_bytes : (old : List ℕ) (offset : ℕ) (new : List ℕ) → IsBytes old → IsBytes new → IsBytes (put_bytes old offset new)
put_is_bytes old offset new one two =
    let was = each_byte old one in
    all_bytes (put_bytes old offset new)
    (append_bytes (take offset old ++ zeros (offset - length old) ++ new) (drop (offset + length new) old)
    (append_bytes (take offset old ++ zeros (offset - length old)) new
    (append_bytes (take offset old) (zeros (offset - length old)) (take_bytes offset old was) (zero_bytes (offset - length old))) (each_byte new two))
    (drop_bytes (offset + length new) old was))

sized_is_bytes : (old : List ℕ) (size : ℕ) → IsBytes old → IsBytes (sized old size)
sized_is_bytes old size one = all_bytes (sized old size)
    (append_bytes (take size old) (zeros (size - length old)) (take_bytes size old (each_byte old one)) (zero_bytes (size - length old)))

no_bytes : IsBytes []
no_bytes i = omega arith

-- ---- one file

left_said : (f : File) (name : List ℕ) (now : Moment) → IsTime now → CanBeSaid f → CanBeSaid (left f name now)
left_said f name now time said = record {
  uid = said.uid;
  gid = said.gid;
  atime = said.atime;
  mtime = time;
  ctime = time;
  holds = fewer f.kind said.holds;
}
  where
    fewer : (k : Kind) → HoldsBytes k → HoldsBytes (kind_without_entry k name)
    fewer (Regular bytes) holds = holds
    fewer (Directory parent next_cookie entries) holds = λ e c. holds e (left_was name entries e c)
    fewer (Link path) holds = holds

moved_said : (f : File) (d : ℕ) (now : Moment) → IsTime now → CanBeSaid f → CanBeSaid (moved_to f d now)
moved_said f d now time said = record {
  uid = said.uid;
  gid = said.gid;
  atime = said.atime;
  mtime = said.mtime;
  ctime = time;
  holds = same f.kind said.holds;
}
  where
    same : (k : Kind) → HoldsBytes k → HoldsBytes (kind_with_parent k d)
    same (Regular bytes) holds = holds
    same (Directory parent next_cookie entries) holds = holds
    same (Link path) holds = holds

old_bytes : (k : Kind) → HoldsBytes k → IsBytes (bytes_in k)
old_bytes (Regular bytes) holds = holds
old_bytes (Directory parent next_cookie entries) holds = no_bytes
old_bytes (Link path) holds = no_bytes

bytes_said : (k : Kind) (bytes : List ℕ) → IsBytes bytes → HoldsBytes k → HoldsBytes (kind_with_bytes k bytes)
bytes_said (Regular old) bytes is holds = is
bytes_said (Directory parent next_cookie entries) bytes is holds = holds
bytes_said (Link path) bytes is holds = holds

written_said : (f : File) (offset : ℕ) (bytes : List ℕ) (now : Moment) → IsTime now → IsBytes bytes → CanBeSaid f → CanBeSaid (file_with_bytes f offset bytes now)
written_said f offset bytes now time is said = record {
  uid = said.uid;
  gid = said.gid;
  atime = said.atime;
  mtime = time;
  ctime = time;
  holds = bytes_said f.kind (put_bytes (bytes_in f.kind) offset bytes) (put_is_bytes (bytes_in f.kind) offset bytes (old_bytes f.kind said.holds) is) said.holds;
}

resized_said : (f : File) (size : ℕ) (now : Moment) → IsTime now → CanBeSaid f → CanBeSaid (resized_to f size now)
resized_said f size now time said = record {
  uid = said.uid;
  gid = said.gid;
  atime = said.atime;
  mtime = time;
  ctime = time;
  holds = bytes_said f.kind (sized (bytes_in f.kind) size) (sized_is_bytes (bytes_in f.kind) size (old_bytes f.kind said.holds)) said.holds;
}

-- ---- the tree

record IsHolding (vs : List Volume) (u : Tree) : Type 0 where
  files : FilesSaid u
  rising : AreRising 0 u.files u.next
  volumes : u.volumes ≡ vs

module _ (vs : List Volume) where
  changed : (u : Tree) (d : ℕ) (g : File → File) → ((h : File) → CanBeSaid h → CanBeSaid (g h)) → IsHolding vs u
      → IsHolding vs (on_some (at d u.files) u (λ f. with_file u d (g f)))
  changed u d g each holds = of (at d u.files) refl
    where
      of : (o : Option File) → at d u.files ≡ o → IsHolding vs (on_some o u (λ f. with_file u d (g f)))
      of None e = holds
      of (Some h) e = record {
        files = λ n f is. with_back d n h (g h) f u.files e is (λ s same. subst CanBeSaid same (each h (holds.files d h e))) (λ o was. holds.files n f was);
        rising = rising_with 0 u.next d u.files (g h) holds.rising;
        volumes = holds.volumes;
      }

  gone : (u : Tree) (n : ℕ) → IsHolding vs u → IsHolding vs (without_file u n)
  gone u n holds = record {
    files = λ m f is. holds.files m f (without_back 0 u.next n m f u.files holds.rising is).1;
    rising = rising_without 0 u.next n u.files holds.rising;
    volumes = holds.volumes;
  }

module _ (vs : List Volume) (now : Moment) (time : IsTime now) where
  named : (u : Tree) (d : ℕ) (name : List ℕ) (f : File) → IsBytes name → CanBeSaid f → IsHolding vs u → IsHolding vs (with_named_file u d name f now)
  named u d name f bytes said holds = changed vs (with_new_file u f) d (λ h. entered h name u.next now) (λ h it. entered_said h name u.next now time bytes it) (record {
    files = λ n g is. push_back u.next n f g u.files (at_next 0 u.next u.files holds.rising) is (λ s e. subst CanBeSaid e said) (λ o was. holds.files n g was);
    rising = rising_push 0 u.next u.files f holds.rising;
    volumes = holds.volumes;
  })

  let_go : (u : Tree) (n : ℕ) → IsHolding vs u → IsHolding vs (released u n now)
  let_go u n holds = of (nat_eq (names_of n u.files) 0)
    where
      of : (b : Bool) → IsHolding vs (if b then without_file u n else touched u n now)
      of true = gone vs u n holds
      of false = changed vs u n (λ h. record h { ctime = now }) (λ h said. touched_said h now time said) holds

  linked : (u : Tree) (n d : ℕ) (name : List ℕ) → IsBytes name → IsHolding vs u → IsHolding vs (after_link u n d name now)
  linked u n d name bytes holds = changed vs (touched u n now) d (λ h. entered h name n now) (λ h said. entered_said h name n now time bytes said)
      (changed vs u n (λ h. record h { ctime = now }) (λ h said. touched_said h now time said) holds)

  unlinked : (u : Tree) (d : ℕ) (name : List ℕ) → IsHolding vs u → IsHolding vs (after_unlink u d name now)
  unlinked u d name holds = of (entry_at u d name)
    where
      of : (o : Option Entry) → IsHolding vs (on_some o u (λ e. released (without_entry u d name now) e.number now))
      of None = holds
      of (Some e) = let_go (without_entry u d name now) e.number (changed vs u d (λ h. left h name now) (λ h said. left_said h name now time said) holds)

  carries : (u : Tree) (from : ℕ) (name : List ℕ) (n to : ℕ) (new_name : List ℕ) → IsBytes new_name → IsHolding vs u
      → IsHolding vs (carried u from name n to new_name now)
  carries u from name n to new_name bytes holds =
      let one = changed vs u from (λ h. left h name now) (λ h said. left_said h name now time said) holds in
      let two = changed vs (without_entry u from name now) n (λ h. moved_to h to now) (λ h said. moved_said h to now time said) one in
      changed vs (moved (without_entry u from name now) n to now) to (λ h. entered h new_name n now) (λ h said. entered_said h new_name n now time bytes said) two

  renamed : (u : Tree) (from : ℕ) (name : List ℕ) (to : ℕ) (new_name : List ℕ) → IsBytes new_name → IsHolding vs u
      → IsHolding vs (after_rename u from name to new_name now)
  renamed u from name to new_name bytes holds = of (entry_at u from name)
    where
      same : (b : Bool) (e : Entry) → IsHolding vs (if b then u else carried (after_unlink u to new_name now) from name e.number to new_name now)
      same true e = holds
      same false e = carries (after_unlink u to new_name now) from name e.number to new_name bytes (unlinked u to new_name holds)

      over : (e : Entry) (o : Option Entry) → IsHolding vs (on_some o (carried u from name e.number to new_name now)
          (λ old. if nat_eq e.number old.number then u else carried (after_unlink u to new_name now) from name e.number to new_name now))
      over e None = carries u from name e.number to new_name bytes holds
      over e (Some old) = same (nat_eq e.number old.number) e

      of : (o : Option Entry) → IsHolding vs (on_some o u (λ e. on_some (entry_at u to new_name) (carried u from name e.number to new_name now)
          (λ old. if nat_eq e.number old.number then u else carried (after_unlink u to new_name now) from name e.number to new_name now)))
      of None = holds
      of (Some e) = over e (entry_at u to new_name)

-- ---- the law

holding_of : (t : Tree) (table : List (List Export)) → IsDescribable t table → IsHolding t.volumes t
holding_of t table d = record { files = d.files; rising = d.law.rising; volumes = refl }

stays : (t u : Tree) (table : List (List Export)) → IsDescribable t table → Law u → IsHolding t.volumes u → IsDescribable u table
stays t u table d keeps holds = record {
  law = keeps;
  some = let l = ap length holds.volumes in let some = d.some in omega (arith, l, some);
  volumes = subst (All IsVolumeSaid) (sym holds.volumes) d.volumes;
  files = holds.files;
  lists = d.lists ∙ ap length (sym holds.volumes);
  few = d.few;
  exports = d.exports;
}

after_write : (t : Tree) (n offset : ℕ) (bytes : List ℕ) (now : Moment) → IsTime now → IsBytes bytes → IsHolding t.volumes t
    → IsHolding t.volumes (after_write_at t n offset bytes now)
after_write t n offset [] now time all holds = holds
after_write t n offset (byte ∷ bytes) now time all holds =
    changed t.volumes t n (λ h. file_with_bytes h offset (byte ∷ bytes) now) (λ h said. written_said h offset (byte ∷ bytes) now time all said) holds

pub changes_stay : law.ChangesStayDescribable
changes_stay = record {
  files = λ t d tag name bytes given verifier now time may fits is name_bytes all table it. stays t _ table it
      (law_after_make_file t d tag name bytes given verifier now may fits it.law)
      (named t.volumes now time t d name _ name_bytes (new_said _ (Regular bytes) given verifier tag now is time all) (holding_of t table it));
  directories = λ t d tag name given now time may fits is name_bytes table it. stays t _ table it (law_after_mkdir t d tag name given now may fits it.law)
      (named t.volumes now time t d name _ name_bytes (new_said _ (Directory d 3 []) given None tag now is time no_entries) (holding_of t table it));
  links = λ t d tag name path given now time may fits is name_bytes holds table it. stays t _ table it (law_after_make_link t d tag name path given now may fits it.law)
      (named t.volumes now time t d name _ name_bytes (new_said _ (Link path) given None tag now is time holds) (holding_of t table it));
  names = λ t n d name now time may name_bytes table it. stays t _ table it (law_after_link t n d name now may it.law)
      (linked t.volumes now time t n d name name_bytes (holding_of t table it));
  bytes = λ t n offset bytes now time may all table it. stays t _ table it (law_after_write_at t n offset bytes now may it.law)
      (after_write t n offset bytes now time all (holding_of t table it));
  sizes = λ t n size now time may table it. stays t _ table it (law_after_resize t n size now may it.law)
      (changed t.volumes t n (λ h. resized_to h size now) (λ h said. resized_said h size now time said) (holding_of t table it));
  attributes = λ t n given now f time lives is table it. stays t _ table it (law_after_set t n given now f lives it.law)
      (changed t.volumes t n (λ h. with_given h given now) (λ h said. given_said h given now is time said) (holding_of t table it));
  removals = λ t d name now time may table it. stays t _ table it (law_after_unlink t d name now may it.law)
      (unlinked t.volumes now time t d name (holding_of t table it));
  renames = λ t from name to new_name now time may name_bytes table it. stays t _ table it (law_after_rename t from name to new_name now may it.law)
      (renamed t.volumes now time t from name to new_name name_bytes (holding_of t table it));
}
