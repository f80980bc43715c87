-- The law after each operation.
use Rattle.std.proofs.Common.{◌≡◌, ◌≢◌, ℕ, ◌+◌, ◌<◌, ◌≤◌, true, false, List, [], ◌∷◌, refl, sym, ap, subst, ◌∙◌, arith}
use Rattle.std.specs.Prelude.{slice_get, length}
use Rattle.nfs_attrs.specs.declared.moment.Moment.{Moment}
use Rattle.nfs_inodes.specs.declared.limits.Limits.{Limits}
use Rattle.nfs_inodes.specs.Tree.{Tree, File, Kind, Regular, Directory, Link, at, on_some, entries_in, bytes_in, is_directory, is_regular, names_of, subdirectories, nlink, bytes_of, files_of}
use Rattle.nfs_inodes.specs.Law.{Law, IsSound, Lives, LivesAsDirectory}
use Rattle.nfs_inodes.specs.Changes.{with_new_file, with_file, with_entry, with_named_file, touched, after_link, put_bytes, kind_with_bytes, file_with_bytes, after_write_at}
use Rattle.nfs_inodes.specs.Conditions.{IsNew, MayMake, MayLink, MayWrite}
use Rattle.nfs_inodes.proofs.Lists.{if_true, true_and_false, not_both, same_some}
use Rattle.nfs_inodes.proofs.Maps.{at_with_same, at_with_other}
use Rattle.nfs_inodes.proofs.law.Alike.{Alike, law_with_file, room_same, one_alike}
use Rattle.nfs_inodes.proofs.law.WithEntry.{MayGain, law_with_entry}
use Rattle.nfs_inodes.proofs.law.WithNewFile.{MayBeBorn, law_with_new_file, next_free, stays, new_lives, names_born, subdirectories_born}
use Rattle.nfs_inodes.proofs.Bytes.{length_put}

pub may_be_born : (t : Tree) (d size : ℕ) (name : List ℕ) (f : File) (may : MayMake t d name size) → IsNew t.limits d size may.enter.dir f → MayBeBorn t f
may_be_born t d size name f may new = record {
  tag = new.tag;
  number = may.number;
  sound = new.sound;
  empty = new.empty;
  parent = λ y. (may.enter.dir, (ap (λ k. at k t.files) (new.parent y) ∙ may.enter.at_dir.0, may.enter.at_dir.1), sym new.volume);
  volume = may.volume;
  at_volume = ap (slice_get t.volumes) new.volume ∙ may.at_volume;
  bytes = let r = may.bytes in let b = new.bytes in let s : bytes_of f.volume t.files ≡ bytes_of may.enter.dir.volume t.files = ap (λ k. bytes_of k t.files) new.volume in omega (arith, r, b, s);
  count = let r = may.files in let s : files_of f.volume t.files ≡ files_of may.enter.dir.volume t.files = ap (λ k. files_of k t.files) new.volume in omega (arith, r, s);
}

pub may_gain_born : (t : Tree) (d size : ℕ) (name : List ℕ) (f : File) (may : MayMake t d name size) → Law t → IsNew t.limits d size may.enter.dir f → (is_directory f.kind ≡ true → nlink t.files d may.enter.dir < t.limits.links) → MayGain t.next (with_new_file t f) d name t.next
may_gain_born t d size name f may law new links =
    let dir = may.enter.dir in
    let no_names : names_of t.next (with_new_file t f).files ≡ 0 = names_born t f new.empty t.next ∙ law.absent t.next (next_free t law) in
    record {
      dir = dir;
      at_dir = (stays t f d dir law may.enter.at_dir.0, may.enter.at_dir.1);
      is_name = may.enter.is_name;
      fresh = may.enter.fresh;
      file = f;
      at_file = new_lives t f law;
      volume = new.volume;
      free = λ r. let l = law.roots r.0 r.1 r.2 in not_both (next_free t law) (ap (λ k. at k t.files) (sym r.3) ∙ l.1.0);
      once = λ y. (
        new.parent y,
        no_names,
        let few = links y in
            let are : nlink t.files d dir ≡ 2 + subdirectories t.files (entries_in dir.kind) = if_true _ _ may.enter.at_dir.1 in
            let same = subdirectories_born t f d dir law may.enter.at_dir.0 in omega (arith, few, are, same),
      );
      links = λ n. let two = law.limits.links_2 in omega (arith, no_names, two);
      only = λ m z o. o;
    }

pub law_with_named_file : (t : Tree) (d size : ℕ) (name : List ℕ) (f : File) (now : Moment) (may : MayMake t d name size) → Law t → IsNew t.limits d size may.enter.dir f → (is_directory f.kind ≡ true → nlink t.files d may.enter.dir < t.limits.links) → Law (with_named_file t d name f now)
law_with_named_file t d size name f now may law new links = law_with_entry t.next (with_new_file t f) d t.next now name (law_with_new_file t f law (may_be_born t d size name f may new)) (may_gain_born t d size name f may law new links)

-- ---- a link

pub touch_alike : (f : File) (now : Moment) → Alike f (record f { ctime = now })
touch_alike f now = record { placed = record { tag = refl; volume = refl; directory = refl; parent = refl }; entries = refl }

touch_sound : {l : Limits} (f : File) (now : Moment) → IsSound l f → IsSound l (record f { ctime = now })
touch_sound {l} f now s = record { mode = s.mode; bytes = s.bytes; path = s.path; names = s.names; cookies = s.cookies; next_cookie = s.next_cookie; apart = s.apart }

pub touched_is : (t : Tree) (n : ℕ) (now : Moment) (f : File) → Lives t n f → touched t n now ≡ with_file t n (record f { ctime = now })
touched_is t n now f e = ap (λ o. on_some o t (λ f. with_file t n (record f { ctime = now }))) e

pub law_touched : (t : Tree) (n : ℕ) (now : Moment) (f : File) → Law t → Lives t n f → Law (with_file t n (record f { ctime = now }))
law_touched t n now f law e = law_with_file 0 t n f (record f { ctime = now }) law e (touch_alike f now) (touch_sound f now (law.sound n f e)) (room_same 0 t n f (record f { ctime = now }) law e refl)

pub apart_kinds : (t : Tree) (n d : ℕ) (f g : File) → Lives t n f → is_directory f.kind ≡ false → LivesAsDirectory t d g → d ≢ n
apart_kinds t n d f g e is_file dir s =
    let same : f ≡ g = same_some (sym e ∙ sym (ap (λ k. at k t.files) s) ∙ dir.0) in
    true_and_false (ap (λ (k : File). is_directory k.kind) same ∙ dir.1) is_file

pub may_gain_linked : (t : Tree) (n d : ℕ) (name : List ℕ) (now : Moment) (may : MayLink t n d name) → Law t → MayGain 0 (with_file t n (record may.file { ctime = now })) d name n
may_gain_linked t n d name now may law =
    let g : File = record may.file { ctime = now } in
    let u : Tree = with_file t n g in
    let like = one_alike t n may.file g law.rising law.numbers may.at_file (touch_alike may.file now) in
    record {
      dir = may.enter.dir;
      at_dir = (at_with_other n d g t.files (apart_kinds t n d may.file may.enter.dir may.at_file may.not_directory may.enter.at_dir) ∙ may.enter.at_dir.0, may.enter.at_dir.1);
      is_name = may.enter.is_name;
      fresh = may.enter.fresh;
      file = g;
      at_file = at_with_same n may.file g t.files may.at_file;
      volume = may.volume;
      free = λ r. let l = law.roots r.0 r.1 r.2 in apart_kinds t n n may.file l.0 may.at_file may.not_directory (ap (λ k. at k t.files) (sym r.3) ∙ l.1.0, l.1.1) refl;
      once = λ y. absurd (true_and_false y may.not_directory);
      links = λ z. let same = like.names n in let few = may.links in omega (arith, same, few);
      only = λ m z o. z;
    }

pub linked_is : (t : Tree) (n d : ℕ) (name : List ℕ) (now : Moment) (f : File) → Lives t n f → after_link t n d name now ≡ with_entry (with_file t n (record f { ctime = now })) d name n now
linked_is t n d name now f e = ap (λ (u : Tree). with_entry u d name n now) (touched_is t n now f e)

pub law_after_link : (t : Tree) (n d : ℕ) (name : List ℕ) (now : Moment) → MayLink t n d name → Law t → Law (after_link t n d name now)
law_after_link t n d name now may law = subst Law (sym (linked_is t n d name now may.file may.at_file))
    (law_with_entry 0 (with_file t n (record may.file { ctime = now })) d n now name (law_touched t n now may.file law may.at_file) (may_gain_linked t n d name now may law))

-- ---- bytes

pub overwritten_alike : (f : File) (offset : ℕ) (bytes : List ℕ) (now : Moment) → Alike f (file_with_bytes f offset bytes now)
overwritten_alike f offset bytes now = by_kind f.kind
  where
    by_kind : (k : Kind) → Alike (record f { kind = k }) (file_with_bytes (record f { kind = k }) offset bytes now)
    by_kind (Regular old) = record { placed = record { tag = refl; volume = refl; directory = refl; parent = refl }; entries = refl }
    by_kind (Directory parent next entries) = record { placed = record { tag = refl; volume = refl; directory = refl; parent = refl }; entries = refl }
    by_kind (Link path) = record { placed = record { tag = refl; volume = refl; directory = refl; parent = refl }; entries = refl }

pub overwritten_bytes : (k : Kind) (offset : ℕ) (bytes : List ℕ) → is_regular k ≡ true → bytes_in (kind_with_bytes k (put_bytes (bytes_in k) offset bytes)) ≡ put_bytes (bytes_in k) offset bytes
overwritten_bytes (Regular old) offset bytes e = refl
overwritten_bytes (Directory parent next entries) offset bytes e = cc
overwritten_bytes (Link path) offset bytes e = cc

overwritten_sound : {l : Limits} (f : File) (offset : ℕ) (bytes : List ℕ) (now : Moment) → is_regular f.kind ≡ true → IsSound l f → offset + length bytes ≤ l.file_size → IsSound l (file_with_bytes f offset bytes now)
overwritten_sound {l} f offset bytes now r s h = by_kind f.kind r s
  where
    by_kind : (k : Kind) → is_regular k ≡ true → IsSound l (record f { kind = k }) → IsSound l (file_with_bytes (record f { kind = k }) offset bytes now)
    by_kind (Regular old) e s = let l = length_put old bytes offset in let b = s.bytes in record { mode = s.mode; bytes = omega (arith, l, b, h); path = s.path; names = s.names; cookies = s.cookies; next_cookie = s.next_cookie; apart = s.apart }
    by_kind (Directory parent next entries) e s = cc
    by_kind (Link path) e s = cc

pub law_with_bytes : (t : Tree) (n offset : ℕ) (bytes : List ℕ) (now : Moment) (may : MayWrite t n offset (length bytes)) → 0 < length bytes → Law t → Law (with_file t n (file_with_bytes may.file offset bytes now))
law_with_bytes t n offset bytes now may some law =
    let g : File = file_with_bytes may.file offset bytes now in
    law_with_file 0 t n may.file g law may.at_file (overwritten_alike may.file offset bytes now) (overwritten_sound may.file offset bytes now may.regular (law.sound n may.file may.at_file) (may.large some))
    (record {
      volume = may.volume;
      at_volume = may.at_volume;
      room =
          let l = length_put (bytes_in may.file.kind) bytes offset in
          let e : length (bytes_in g.kind) ≡ length (put_bytes (bytes_in may.file.kind) offset bytes) = ap length (overwritten_bytes may.file.kind offset bytes may.regular) in
          let r = may.room some in omega (arith, l, e, r);
    })

pub law_after_write_at : (t : Tree) (n offset : ℕ) (bytes : List ℕ) (now : Moment) → MayWrite t n offset (length bytes) → Law t → Law (after_write_at t n offset bytes now)
law_after_write_at t n offset [] now may law = law
law_after_write_at t n offset (b ∷ bs) now may law = subst Law (sym (ap (λ o. on_some o t (λ f. with_file t n (file_with_bytes f offset (b ∷ bs) now))) may.at_file)) (law_with_bytes t n offset (b ∷ bs) now may (omega arith) law)
