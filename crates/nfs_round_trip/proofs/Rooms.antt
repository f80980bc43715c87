-- Where the next step may be done in a tree that is made again.
use Rattle.std.proofs.Common.{◌≡◌, ◌≢◌, ℕ, suc, ◌+◌, ◌<◌, ◌≤◌, true, false, List, [], ◌∷◌, ◌++◌, length, nat_eq, Option, Some, None, refl, sym, ap, subst, ◌∙◌}
use Rattle.std.proofs.Common.{arith}
use Rattle.std.specs.Prelude.{Bool, All, AllPairs, Contains, if◌then◌else◌, slice_get}
use Rattle.std.proofs.lemmas.List.Elements.{All-contains}
use Rattle.std.proofs.lemmas.List.Sums.{sum_by-cons, sum_by-append}
use Rattle.nfs_inodes.specs.Conditions.{MayEnter, MayMake, MayMakeDirectory, MayMakeLink, MayLink}
use Rattle.nfs_inodes.specs.declared.limits.Limits.{Limits}
use Rattle.nfs_inodes.specs.Law.{IsName, Law, Lives, LivesAsDirectory}
use Rattle.nfs_inodes.specs.Reading.{entries_at}
use Rattle.nfs_inodes.specs.Tree.{Tree, File, Kind, Regular, Directory, Link, Entry, Volume, at, bytes_for, bytes_in, bytes_of, entries_in, files_of}
use Rattle.nfs_inodes.specs.Tree.{is_directory, names_directory, names_in, names_of, nlink, on_some, one_for, one_when, path_in, subdirectories}
use Rattle.nfs_inodes.proofs.Lists.{by_number, same_some, in_head, in_tail}
use Rattle.nfs_inodes.proofs.Maps.{apart_number, itself}
use Rattle.nfs_round_trip.specs.Copies.{copied_entries, copied_kind}
use Rattle.nfs_round_trip.proofs.Directories.{entries_of, shown}
use Rattle.nfs_round_trip.proofs.Made.{Has, made_at, made_once, made_sum, sum_less, weighed, weighed_all, at_most_once, with_entries}
use Rattle.nfs_round_trip.proofs.Parts.{AllHave, IsDirectoryMade, IsPart, all_other, copy_is_directory, directory_made, file_made, none_before, room_for_bytes}
use Rattle.nfs_round_trip.proofs.Parts.{room_for_files, shown_few, shown_have, so_far}
use Rattle.nfs_round_trip.proofs.Walks.{Step}

no_bytes : (k : Kind) → is_directory k ≡ true → length (bytes_in k) ≡ 0
no_bytes (Regular bytes) y = cc
no_bytes (Directory parent next_cookie entries) y = refl
no_bytes (Link path) y = cc

in_middle : (xs : List Entry) (e : Entry) (rest : List Entry) → Contains (xs ++ e ∷ rest) e
in_middle [] e rest = in_head e rest
in_middle (x ∷ xs) e rest = in_tail x e (xs ++ e ∷ rest) (in_middle xs e rest)

bytes_here : (f : File) (index : ℕ) → f.volume ≡ index → bytes_for index f ≡ length (bytes_in f.kind)
bytes_here f index e = ap (λ b. if b then length (bytes_in f.kind) else 0) (subst (λ i. nat_eq f.volume i ≡ true) e (itself f.volume))

one_here : (f : File) (index : ℕ) → f.volume ≡ index → one_for index f ≡ 1
one_here f index e = ap one_when (subst (λ i. nat_eq f.volume i ≡ true) e (itself f.volume))

-- names that are copied
pub same_test : (number : ℕ → ℕ) (a n : ℕ) → (number a ≡ number n → a ≡ n) → nat_eq (number a) (number n) ≡ nat_eq a n
same_test number a n once = by_number a n
    (λ s. subst (λ i. nat_eq (number a) (number i) ≡ true) s (itself (number a)) ∙ sym (subst (λ i. nat_eq a i ≡ true) s (itself a)))
    (λ o. apart_number (number a) (number n) (λ s. o (once s)) ∙ sym (apart_number a n o))

pub names_copied : (number : ℕ → ℕ) (ns : List ℕ) (n : ℕ) → ((a : ℕ) → Has a ns → number a ≡ number n → a ≡ n) → (cookie : ℕ) (es : List Entry) → AllHave ns es
    → names_in (number n) (copied_entries number cookie es) ≡ names_in n es
names_copied number ns n once cookie [] have = refl
names_copied number ns n once cookie (e ∷ es) have =
    let one = sum_by-cons (λ (g : Entry). one_when (nat_eq g.number (number n))) (record { cookie = cookie; name = e.name; number = number e.number })
    (copied_entries number (cookie + 1) es) in
    let two = sum_by-cons (λ (g : Entry). one_when (nat_eq g.number n)) e es in
    let here : one_when (nat_eq (number e.number) (number n)) ≡ one_when (nat_eq e.number n) =
    ap one_when (same_test number e.number n (once e.number have.0)) in
    let rest = names_copied number ns n once (cookie + 1) es have.1 in omega (arith, one, two, here, rest)

no_names : (m n : ℕ) (number : ℕ → ℕ) (es : List Entry) (k : Kind) → names_in m (copied_entries number 3 es) ≤ n
    → names_in m (entries_in (copied_kind number (with_entries es k))) ≤ n
no_names m n number es (Regular bytes) le = omega arith
no_names m n number es (Directory parent next_cookie entries) le = le
no_names m n number es (Link path) le = omega arith

in_option : (n : ℕ) (o : Option File) → names_in n (on_some o [] (λ (f : File). entries_in f.kind)) ≡ on_some o 0 (λ (f : File). names_in n (entries_in f.kind))
in_option n None = refl
in_option n (Some f) = refl

module _ (t : Tree) (law : Law t) (number : ℕ → ℕ) (timed : ℕ → Bool) (done : List Step) (ns : List ℕ) (vs : List Volume) (u : Tree)
    (part : IsPart t number timed done ns vs u) where
  -- a directory's copies name directories where it does
  one_copied : (e : Entry) (cookie : ℕ) → Has e.number ns
      → names_directory u.files (record { cookie = cookie; name = e.name; number = number e.number }) ≡ names_directory t.files e
  one_copied e cookie has =
      let m = made_at t number (so_far done timed) 1 ns u.files e.number part.files has in
      ap (λ o. on_some o false (λ (f : File). is_directory f.kind)) m.1 ∙ ap (λ (f : File). is_directory f.kind) m.2.is
      ∙ copy_is_directory number (shown done e.number) m.2.file.kind
      ∙ ap (λ o. on_some o false (λ (f : File). is_directory f.kind)) (sym m.2.at_file)

  pub subdirectories_copied : (cookie : ℕ) (es : List Entry) → AllHave ns es
      → subdirectories u.files (copied_entries number cookie es) ≡ subdirectories t.files es
  subdirectories_copied cookie [] have = refl
  subdirectories_copied cookie (e ∷ es) have =
      let new : Entry = record { cookie = cookie; name = e.name; number = number e.number } in
      let one = sum_by-cons (λ (g : Entry). one_when (names_directory u.files g)) new (copied_entries number (cookie + 1) es) in
      let two = sum_by-cons (λ (g : Entry). one_when (names_directory t.files g)) e es in
      let here : one_when (names_directory u.files new) ≡ one_when (names_directory t.files e) = ap one_when (one_copied e cookie have.0) in
      let rest = subdirectories_copied (cookie + 1) es have.1 in omega (arith, one, two, here, rest)

  module _ (s : Step) (f : File) (at_dir : LivesAsDirectory t s.0.number f) (has : Has s.0.number ns) (rest : List Entry)
      (here : entries_at t s.0.number ≡ shown done s.0.number ++ s.1 ∷ rest) (room : length done + length vs ≤ 4611686018427387968) where
    abbrev dir : File
    dir = (directory_made t law number timed done ns vs u part s.0.number f has at_dir).0

    dir_made : IsDirectoryMade t number (shown done s.0.number) (timed s.0.number) u s.0.number f dir
    dir_made = (directory_made t law number timed done ns vs u part s.0.number f has at_dir).1

    entries_are : entries_in f.kind ≡ shown done s.0.number ++ s.1 ∷ rest
    entries_are = sym (entries_of t law s.0.number f at_dir.0) ∙ here

    pub is_entry : Contains (entries_in f.kind) s.1
    is_entry = subst (λ l. Contains l s.1) (sym entries_are) (in_middle (shown done s.0.number) s.1 rest)

    pub has_name : IsName s.1.name
    has_name = All-contains (λ (e : Entry). IsName e.name) (entries_in f.kind) s.1 (law.sound s.0.number f at_dir.0).names is_entry

    pub may_enter : MayEnter u (number s.0.number) s.1.name
    may_enter = let made = dir_made in record {
      dir = dir;
      at_dir = made.lives;
      cookie = let c = made.cookie in let few = shown_few done s.0.number in omega (arith, c, few, room);
      is_name = has_name;
      fresh = subst (All (λ (e : Entry). e.name ≢ s.1.name)) (sym made.entries)
          (all_other number 3 s.1.name (shown done s.0.number)
          (none_before (shown done s.0.number) s.1 rest
          (subst (AllPairs (λ (e g : Entry). (e.name ≢ g.name) × (e.cookie < g.cookie))) entries_are (law.sound s.0.number f at_dir.0).apart)));
    }

    pub links_of_directory : (g : File) → LivesAsDirectory t s.1.number g → nlink u.files (number s.0.number) dir < u.limits.links
    links_of_directory g lives =
        let made = dir_made in
        let most = law.links s.0.number f at_dir.0 in
        let of_t : nlink t.files s.0.number f ≡ 2 + subdirectories t.files (entries_in f.kind) =
        ap (λ b. if b then 2 + subdirectories t.files (entries_in f.kind) else names_of s.0.number t.files) at_dir.1 in
        let of_u : nlink u.files (number s.0.number) dir ≡ 2 + subdirectories u.files (entries_in dir.kind) =
        ap (λ b. if b then 2 + subdirectories u.files (entries_in dir.kind) else names_of (number s.0.number) u.files) made.lives.1 in
        let same : subdirectories u.files (entries_in dir.kind) ≡ subdirectories t.files (shown done s.0.number) =
        ap (subdirectories u.files) made.entries ∙ subdirectories_copied 3 (shown done s.0.number) (shown_have ns done s.0.number part.known) in
        let all : subdirectories t.files (entries_in f.kind) ≡ subdirectories t.files (shown done s.0.number) + subdirectories t.files (s.1 ∷ rest) =
        ap (subdirectories t.files) entries_are ∙ sum_by-append (λ (e : Entry). one_when (names_directory t.files e)) (shown done s.0.number) (s.1 ∷ rest) in
        let after = sum_by-cons (λ (e : Entry). one_when (names_directory t.files e)) s.1 rest in
        let one : one_when (names_directory t.files s.1) ≡ 1 = ap (λ o. one_when (on_some o false (λ (h : File). is_directory h.kind))) lives.0
        ∙ ap one_when lives.1 in
        let limit : t.limits.links ≡ u.limits.links = ap (λ (l : Limits). l.links) (sym part.limits) in
        omega (arith, most, of_t, of_u, same, all, after, one, limit)

    -- ---- a new file

    module _ (v w : Volume) (at_v : slice_get t.volumes f.volume ≡ Some v) (at_w : slice_get vs f.volume ≡ Some w) (bytes : w.max_bytes ≡ v.max_bytes)
        (files : w.max_files ≡ v.max_files)
        (g : File) (lives : Lives t s.1.number g) (new : number s.1.number ≡ suc (length ns)) where
      pub same_volume : g.volume ≡ f.volume
      same_volume = let e = law.entries s.0.number f s.1 at_dir.0 is_entry in ap (λ (h : File). h.volume) (same_some (sym lives ∙ e.1)) ∙ e.2

      pub may_make : (size : ℕ) → length (bytes_in g.kind) ≡ size → MayMake u (number s.0.number) s.1.name size
      unfolding may_enter
      may_make size long = record {
        enter = may_enter;
        number = let few = part.few in let next = part.next in omega (arith, few, next, room);
        volume = w;
        at_volume = ap (slice_get u.volumes) (dir_made).volume ∙ ap (λ l. slice_get l f.volume) part.volumes ∙ at_w;
        files =
            let index = (dir_made).volume in
            let total = room_for_files t law number timed done ns vs u part s.1.number g lives new f.volume in
            let one = one_here g f.volume same_volume in
            let most = law.count f.volume v at_v in
            let same : files_of dir.volume u.files ≡ files_of f.volume u.files = ap (λ i. files_of i u.files) index in
            omega (arith, total, one, most, same, files);
        bytes =
            let index = (dir_made).volume in
            let total = room_for_bytes t law number timed done ns vs u part s.1.number g lives new f.volume in
            let one = bytes_here g f.volume same_volume in
            let most = law.bytes f.volume v at_v in
            let same : bytes_of dir.volume u.files ≡ bytes_of f.volume u.files = ap (λ i. bytes_of i u.files) index in
            omega (arith, total, one, most, same, bytes, long);
        large =
            let few = (law.sound s.1.number g lives).bytes in
            let limit : t.limits.file_size ≡ u.limits.file_size = ap (λ (l : Limits). l.file_size) (sym part.limits) in
            omega (arith, few, long, limit);
      }

      pub may_mkdir : is_directory g.kind ≡ true → MayMakeDirectory u (number s.0.number) s.1.name
      unfolding may_enter may_make
      may_mkdir y = record { make = may_make 0 (no_bytes g.kind y); links = links_of_directory g (lives, y) }

      pub may_make_link : (path : List ℕ) → g.kind ≡ Link path → MayMakeLink u (number s.0.number) s.1.name path
      may_make_link path is = record {
        make = may_make 0 (ap (λ k. length (bytes_in k)) is);
        long = subst (λ (l : Limits). length path ≤ l.link_path) (sym part.limits) (subst (λ k. length (path_in k) ≤ t.limits.link_path) is (law.sound s.1.number g lives).path);
      }

    -- ---- a hard link

    module _ (g : File) (lives : Lives t s.1.number g) (no_dir : is_directory g.kind ≡ false) (there : Has s.1.number ns) where
      share_least : (m : ℕ) → Has m ns → names_in s.1.number (shown done m) ≤ weighed (λ (h : File). names_in s.1.number (entries_in h.kind)) t.files m
      share_least m has_m =
          let b = part.begun m has_m in
          let all : names_in s.1.number (entries_at t m) ≡ names_in s.1.number (shown done m) + names_in s.1.number b.0 =
          ap (names_in s.1.number) b.1 ∙ sum_by-append (λ (e : Entry). one_when (nat_eq e.number s.1.number)) (shown done m) b.0 in
          let same = in_option s.1.number (at m t.files) in omega (arith, all, same)

      share_here : names_in s.1.number (shown done s.0.number) + 1 ≤ weighed (λ (h : File). names_in s.1.number (entries_in h.kind)) t.files s.0.number
      share_here =
          let all : names_in s.1.number (entries_at t s.0.number) ≡ names_in s.1.number (shown done s.0.number) + names_in s.1.number (s.1 ∷ rest) =
          ap (names_in s.1.number) here ∙ sum_by-append (λ (e : Entry). one_when (nat_eq e.number s.1.number)) (shown done s.0.number) (s.1 ∷ rest) in
          let after = sum_by-cons (λ (e : Entry). one_when (nat_eq e.number s.1.number)) s.1 rest in
          let one : one_when (nat_eq s.1.number s.1.number) ≡ 1 = ap one_when (itself s.1.number) in
          let same = in_option s.1.number (at s.0.number t.files) in omega (arith, all, after, one, same)

      pub names_few : names_of (number s.1.number) u.files < u.limits.links
      names_few =
          let once = λ (a : ℕ) (has_a : Has a ns) (e : number a ≡ number s.1.number). made_once t number (so_far done timed)
          1 ns u.files a s.1.number part.files has_a there e in
          let made = made_sum t number (so_far done timed) (λ (h : File). names_in (number s.1.number) (entries_in h.kind))
          (λ m. names_in s.1.number (shown done m)) 1 ns u.files part.files
          (λ m h has_m is. subst (λ (k : File). names_in (number s.1.number) (entries_in k.kind) ≤ names_in s.1.number (shown done m)) (sym is.is)
          (no_names (number s.1.number) (names_in s.1.number (shown done m)) number (shown done m) is.file.kind
          (let e = names_copied number ns s.1.number once 3 (shown done m) (shown_have ns done m part.known) in omega (arith, e)))) in
          let less = sum_less (λ m. names_in s.1.number (shown done m))
          (weighed (λ (h : File). names_in s.1.number (entries_in h.kind)) t.files) ns s.0.number share_least has share_here in
          let all = weighed_all (λ (h : File). names_in s.1.number (entries_in h.kind)) t.files ns
          (λ m. at_most_once t number (so_far done timed) 1 ns u.files m part.files) in
          let most = law.links s.1.number g lives in
          let links : nlink t.files s.1.number g ≡ names_of s.1.number t.files =
          ap (λ b. if b then 2 + subdirectories t.files (entries_in g.kind) else names_of s.1.number t.files) no_dir in
          let limit : t.limits.links ≡ u.limits.links = ap (λ (l : Limits). l.links) (sym part.limits) in
          omega (arith, made, less, all, most, links, limit)

      pub may_link : MayLink u (number s.1.number) (number s.0.number) s.1.name
      unfolding may_enter
      may_link =
          let m = file_made t law number timed done ns vs u part s.1.number g there lives in
          let e = law.entries s.0.number f s.1 at_dir.0 is_entry in
          record {
            enter = may_enter;
            file = m.0;
            at_file = m.1;
            not_directory = ap (λ (h : File). is_directory h.kind) m.3 ∙ copy_is_directory number (shown done s.1.number) g.kind ∙ no_dir;
            volume = ap (λ (h : File). h.volume) m.3 ∙ ap (λ (h : File). h.volume) (same_some (sym lives ∙ e.1)) ∙ e.2 ∙ sym (dir_made).volume;
            links = names_few;
          }
