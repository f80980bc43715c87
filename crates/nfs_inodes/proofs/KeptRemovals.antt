-- An entry that goes, and its file, in what is kept.
use Rattle.std.proofs.Common.{inl, inr, ◌≡◌, ◌≢◌, ◌⊎◌, ℕ, ◌+◌, ◌-◌, ◌<◌, ◌≤◌, Bool, true, false, List, map, length, Some, None, option_map, refl, sym, ap, subst, ◌∙◌, arith}
use Rattle.std.specs.Prelude.{nat_eq, nat_le, ◌||◌, slice_get}
use Rattle.std.proofs.lemmas.Bool.{eq-eqb, leb-true, leb-false}
use Rattle.nfs_attrs.specs.declared.moment.Moment.{Moment}
use Rattle.nfs_handles.specs.NumberedFiles.{NumberedFiles, TaggedFile, value_at, with_value, without}
use Rattle.nfs_handles.specs.NumberedFiles as numbered
use Rattle.nfs_handles.specs.Changes.{Takes}
use Rattle.nfs_inodes.specs.declared.limits.Limits.{Limits}
use Rattle.nfs_inodes.specs.declared.stored_file.StoredFile.{StoredFile}
use Rattle.nfs_inodes.specs.declared.stored_volume.StoredVolume.{StoredVolume}
use Rattle.nfs_inodes.specs.declared.removal.Freed.{Freed}
use Rattle.nfs_inodes.specs.declared.removal.Standing.{Standing}
use Rattle.nfs_inodes.specs.Tree.{Tree, File, Entry, Volume, at, on_some, one_when, bytes_in, is_directory, names_of, nlink, bytes_for, one_for}
use Rattle.nfs_inodes.specs.Law.{Lives}
use Rattle.nfs_inodes.specs.Changes.{with_file, released, without_file, touched, after_unlink}
use Rattle.nfs_inodes.specs.Conditions.{MayUnlink, MayUnlinkSeen}
use Rattle.nfs_inodes.specs.Reading.{entry_at}
use Rattle.nfs_inodes.specs.Counts.{CountedFile, CountedTree, Agrees, tree_in, with_totals}
use Rattle.nfs_inodes.specs.Storage.{file_of, kind_of, counted_volume_of, counted_tree_of}
use Rattle.nfs_inodes.specs.StoredFiles.{Revalues}
use Rattle.nfs_inodes.specs.StepConditions.{retagged}
use Rattle.nfs_inodes.specs.Removals.{HasRoomAt, Leaves, LosesLink, Goes, Stays, is_last, HasEntries, HasTotals, Removes, Stands}
use Rattle.nfs_inodes.proofs.Lists.{by_test, if_true, if_false, same_some, not_both, true_and_false}
use Rattle.nfs_inodes.proofs.Maps.{apart_number, shows_without, sum_some}
use Rattle.nfs_inodes.proofs.law.Alike.{bytes_here}
use Rattle.nfs_inodes.proofs.law.Operations.{touched_is}
use Rattle.nfs_inodes.proofs.StoredFiles.{counted_file, value_found}
use Rattle.nfs_inodes.proofs.counts.FileChanged.{AgreesBut, recounted, view_recounted, kept_as, totals_nothing}
use Rattle.nfs_inodes.proofs.law.WithoutFile.{MayBeReleased, MayBeRemoved}
use Rattle.nfs_inodes.proofs.KeptLeavings as leavings
use Rattle.nfs_inodes.proofs.KeptLeavings.{NamesFile, room_revalued, room_without}
use Rattle.nfs_inodes.proofs.law.Unlinks.{entry_is, unlinked_is, other_file, may_be_released}
use Rattle.nfs_inodes.proofs.counts.Removals.{counted_gone, agrees_gone, view_gone, counted_kept, agrees_kept}
use Rattle.nfs_inodes.proofs.Steps.{stored_volume_of}

-- ---- one kept file

or_false : (a b : Bool) → (a || b) ≡ false → (a ≡ false) × (b ≡ false)
or_false true b e = cc
or_false false b e = (refl, e)

or_true : {P : Type 0} (a b : Bool) → (a || b) ≡ true → (a ≡ true → P) → (a ≡ false → b ≡ true → P) → P
or_true true b e p q = p refl
or_true false b e p q = q refl e

pub loses : (t : NumberedFiles StoredFile) (n : ℕ) (f : TaggedFile StoredFile) (i : StoredFile) (now : Moment) → numbered.at t n ≡ Some f → is_last f.value ≡ false → Some i ≡ value_at t n →
    Stays t n now (record { volume = i.volume; bytes = 0; files = 0 }) (with_value t n (record i { ctime = now; nlink = i.nlink - 1 }))
loses t n f i now e more v =
    let s = value_found t n f i e v in
    let many : 1 < f.value.nlink = leb-false f.value.nlink 1 (or_false (is_directory (kind_of f.value.node)) (nat_le f.value.nlink 1) more).1 in
    let links : i.nlink ≡ f.value.nlink = ap (λ (i : StoredFile). i.nlink) s in
    record {
      loses = record {
        was = f;
        at_was = e;
        value = record i { ctime = now; nlink = i.nlink - 1 };
        from = subst (λ (j : StoredFile). LosesLink now j (record i { ctime = now; nlink = i.nlink - 1 })) s (record { file = refl; nlink = omega (arith, many, links); room = λ h. h });
        new_is = refl;
      };
      more = more;
      index = ap (λ (i : StoredFile). i.volume) s;
      bytes = refl;
      files = refl;
    }

pub goes : (t u : NumberedFiles StoredFile) (n : ℕ) (i : StoredFile) (bytes : ℕ) → HasEntries true t n → Takes t n (Some i) u → bytes ≡ length (bytes_in (file_of 0 i).kind) → Goes t n (record { volume = i.volume; bytes = bytes; files = 1 }) u
goes t u n i bytes has takes size =
    let s : i ≡ has.0.value = value_found t n has.0 i has.1 (sym takes.0) in
    record {
      file = has.0;
      at_file = has.1;
      last = has.2;
      new_is = takes.1;
      index = ap (λ (i : StoredFile). i.volume) s;
      bytes = size ∙ ap (λ (i : StoredFile). length (bytes_in (file_of 0 i).kind)) s;
      files = refl;
    }

pub not_taken : (t u : NumberedFiles StoredFile) (n : ℕ) → HasEntries true t n → Takes t n None u → ⊥
not_taken t u n has takes = not_both takes.0 has.1

-- ---- the file of an entry that goes

module _ {limits : Limits} (a : NumberedFiles StoredFile) (olds : List StoredVolume) (d : ℕ) (name : List ℕ) (n : ℕ) (removes : Removes limits a olds d name n) where
  abbrev t : Tree
  t = tree_in (counted_tree_of limits a olds)

  abbrev may : MayUnlink t d name
  may = removes.may

  abbrev pub names : NamesFile (tree_in (counted_tree_of limits a olds)) d name n
  names = record { dir = removes.may.dir; at_dir = removes.may.at_dir; entry = removes.may.entry; found = removes.may.found; number = removes.number; file = removes.may.file; at_entry = removes.may.at_file }

  abbrev kept_file : (f : TaggedFile StoredFile) × (numbered.at a n ≡ Some f) × (file_of f.tag f.value ≡ may.file)
  kept_file = leavings.kept_file a olds d name n removes.agree names

  reported_last : (is_directory may.file.kind || nat_le (nlink t.files n may.file) 1) ≡ is_last kept_file.0.value
  reported_last = ap (λ (f : File). is_directory f.kind || nat_le (nlink t.files n may.file) 1) (sym kept_file.2)
      ∙ ap (λ l. is_directory (kind_of kept_file.0.value.node) || nat_le l 1) (sym (leavings.links_of_file a olds d name n removes.agree names))

  -- what is known of the file is so of what is kept of it
  pub stands : (file : Standing) → file.directory ≡ is_directory may.file.kind → file.last ≡ (is_directory may.file.kind || nat_le (nlink t.files n may.file) 1) → Stands a n file
  stands file directory last = record {
    directory = directory ∙ ap (λ (f : File). is_directory f.kind) (sym kept_file.2) ∙ sym (ap (λ o. on_some (option_map (λ (f : TaggedFile StoredFile). f.value) o) false (λ f. is_directory (kind_of f.node))) kept_file.1);
    last = last ∙ reported_last ∙ sym (ap (λ o. on_some (option_map (λ (f : TaggedFile StoredFile). f.value) o) true is_last) kept_file.1);
  }

  pub other : n ≢ d
  other s = other_file t d name may.dir.ctime may (sym removes.number ∙ s)

  module _ (now : Moment) (b : NumberedFiles StoredFile) (sub : Bool) (is_sub : sub ≡ on_some (value_at a n) false (λ f. is_directory (kind_of f.node))) (leaves : Revalues a d (Leaves name (one_when sub) now) b) where
    abbrev k1 : CountedTree
    k1 = leavings.k1 a olds d name n removes.agree names other now b sub is_sub leaves

    abbrev t1 : Tree
    t1 = leavings.t1 a olds d name n removes.agree names other now b sub is_sub leaves

    counted_1 : counted_tree_of limits b olds ≡ k1
    counted_1 = leavings.counted_1 a olds d name n removes.agree names other now b sub is_sub leaves

    view_1 : tree_in k1 ≡ t1
    view_1 = leavings.view_1 a olds d name n removes.agree names other now b sub is_sub leaves

    agrees_1 : AgreesBut n k1
    agrees_1 = leavings.agrees_1 a olds d name n removes.agree names other now b sub is_sub leaves

    at_1 : numbered.at b n ≡ Some kept_file.0
    at_1 = leavings.at_1 a olds d name n removes.agree names other now b sub is_sub leaves

    -- what was reported of the file before its entry went
    pub has_entries : (last : Bool) → last ≡ on_some (value_at a n) true is_last → HasEntries last b n
    has_entries last is = (kept_file.0, at_1, sym (is ∙ ap (λ o. on_some (option_map (λ (f : TaggedFile StoredFile). f.value) o) true is_last) kept_file.1))

    names_1 : names_of n t1.files + 1 ≡ names_of n t.files
    names_1 = leavings.names_1 a olds d name n removes.agree names other now b sub is_sub leaves

    at_t1 : Lives t1 n may.file
    at_t1 = leavings.at_t1 a olds d name n removes.agree names other now b sub is_sub leaves

    abbrev held : CountedFile
    held = leavings.held a olds d name n removes.agree names other now b sub is_sub leaves

    at_k1 : at n k1.files ≡ Some held
    at_k1 = leavings.at_k1 a olds d name n removes.agree names other now b sub is_sub leaves

    releases : MayBeReleased t1 n
    releases = subst (MayBeReleased t1) (sym removes.number) (may_be_released t d name now may removes.agree.law)

    links_are : is_directory may.file.kind ≡ false → kept_file.0.value.nlink ≡ names_of n t.files
    links_are z = leavings.links_of_file a olds d name n removes.agree names ∙ if_false _ _ z

    unlinked_1 : after_unlink t d name now ≡ released t1 n now
    unlinked_1 = unlinked_is t d name now may ∙ ap (λ m. released t1 m now) (sym removes.number)

    volume_there : (v : Volume) × (slice_get t.volumes may.file.volume ≡ Some v)
    volume_there = removes.agree.law.placed may.entry.number may.file may.at_file

    has_totals : (index bytes files : ℕ) → index ≡ may.file.volume → bytes ≤ length (bytes_in may.file.kind) → files ≤ 1 → HasTotals olds index bytes files
    has_totals index bytes files is_place few one =
        let s = stored_volume_of a olds index volume_there.0 removes.agree (ap (slice_get t.volumes) is_place ∙ volume_there.1) in
        let has = s.2 in let count = s.3 in
        let all = sum_some (bytes_for index) may.entry.number may.file t.files may.at_file in
        let its = bytes_here index may.file (sym is_place) in
        let every = sum_some (one_for index) may.entry.number may.file t.files may.at_file in
        let counted : one_for index may.file ≡ 1 = ap one_when (eq-eqb may.file.volume index (sym is_place)) in
        record { stored_volume = s.0; at_index = s.1; has_bytes = omega (arith, has, all, its, few); has_files = omega (arith, count, every, counted, one) }

    module _ (freed : Freed) (b2 : NumberedFiles StoredFile) where
      gone_file : (g : Goes b n freed b2) → file_of g.file.tag g.file.value ≡ may.file
      gone_file g = ap (λ (f : TaggedFile StoredFile). file_of f.tag f.value) (same_some (sym g.at_file ∙ at_1)) ∙ kept_file.2

      gone_bytes : (g : Goes b n freed b2) → freed.bytes ≡ length (bytes_in may.file.kind)
      gone_bytes g = g.bytes ∙ ap (λ (f : File). length (bytes_in f.kind)) (gone_file g)

      gone_place : (g : Goes b n freed b2) → freed.volume ≡ may.file.volume
      gone_place g = g.index ∙ ap (λ (f : File). f.volume) (gone_file g)

      kept_was : (s : Stays b n now freed b2) → s.loses.was ≡ kept_file.0
      kept_was s = same_some (sym s.loses.at_was ∙ at_1)

      kept_place : (s : Stays b n now freed b2) → freed.volume ≡ may.file.volume
      kept_place s = s.index ∙ ap (λ (f : TaggedFile StoredFile). f.value.volume) (kept_was s) ∙ ap (λ (f : File). f.volume) kept_file.2

      pub totals_there : Goes b n freed b2 ⊎ Stays b n now freed b2 → HasTotals olds freed.volume freed.bytes freed.files
      totals_there which = elim which [
        | inl g ↦ let bytes = gone_bytes g in let files = g.files in has_totals freed.volume freed.bytes freed.files (gone_place g) (omega (arith, bytes)) (omega (arith, files))
        | inr s ↦ let bytes = s.bytes in let files = s.files in has_totals freed.volume freed.bytes freed.files (kept_place s) (omega (arith, bytes)) (omega (arith, files))
      ]

      pub room_after : Goes b n freed b2 ⊎ Stays b n now freed b2 → (e : ℕ) → e ≢ n → HasRoomAt a e → HasRoomAt b2 e
      room_after which e o has =
          let first = room_revalued a b d leaves leaves.from.room e has in
          elim which [
            | inl g ↦ room_without b b2 n g.new_is e o first
            | inr s ↦ room_revalued b b2 n s.loses s.loses.from.room e first
          ]

      module _ (news : List StoredVolume) (counts : with_totals (map counted_volume_of news) freed.volume freed.bytes freed.files ≡ map counted_volume_of olds) where
        abbrev Done : Type 0
        Done = Agrees (counted_tree_of limits b2 news) × (tree_in (counted_tree_of limits b2 news) ≡ after_unlink t d name now)

        -- ---- it has gone

        module _ (g : Goes b n freed b2) where
          none_left : names_of n t1.files ≡ 0
          none_left = by_test (is_directory may.file.kind)
              (λ y. releases.unnamed (ap (λ (f : File). is_directory f.kind) (same_some (sym releases.at_file ∙ at_t1)) ∙ y))
              (λ z. or_true (is_directory (kind_of g.file.value.node)) (nat_le g.file.value.nlink 1) g.last
              (λ y. absurd (true_and_false (sym (ap (λ (f : File). is_directory f.kind) (gone_file g)) ∙ y) z))
              (λ f l. let few = leb-true g.file.value.nlink 1 l in
              let links : g.file.value.nlink ≡ kept_file.0.value.nlink = ap (λ (f : TaggedFile StoredFile). f.value.nlink) (same_some (sym g.at_file ∙ at_1)) in
              let are = links_are z in let less = names_1 in
              omega (arith, few, links, are, less)))

          given_back : with_totals (map counted_volume_of news) held.file.volume (length (bytes_in held.file.kind)) 1 ≡ k1.volumes
          given_back = ap (λ p. with_totals (map counted_volume_of news) p (length (bytes_in may.file.kind)) 1) (sym (gone_place g))
              ∙ ap (λ bytes. with_totals (map counted_volume_of news) freed.volume bytes 1) (sym (gone_bytes g))
              ∙ ap (with_totals (map counted_volume_of news) freed.volume freed.bytes) (sym g.files)
              ∙ counts

          counted_gone_2 : counted_tree_of limits b2 news ≡ counted_gone k1 n (map counted_volume_of news)
          counted_gone_2 = ap (λ (u : NumberedFiles StoredFile). counted_tree_of limits u news) g.new_is
              ∙ ap (λ fs. record { files = fs; next = b.next; key = b.key; volumes = map counted_volume_of news; limits = limits }) (shows_without counted_file n b.files)
              ∙ ap (λ k. counted_gone k n (map counted_volume_of news)) counted_1

          removed : MayBeRemoved t1 n
          removed = record { file = may.file; at_file = at_t1; empty = may.empty; unnamed = none_left; free = releases.free }

          done_gone : Done
          done_gone = (
            subst Agrees (sym counted_gone_2) (agrees_gone k1 n held (map counted_volume_of news) at_k1 given_back agrees_1 (subst (λ u. MayBeRemoved u n) (sym view_1) removed)),
            ap tree_in counted_gone_2 ∙ view_gone k1 n held (map counted_volume_of news) at_k1 given_back ∙ ap (λ u. without_file u n) view_1
                ∙ sym (unlinked_1 ∙ if_true (without_file t1 n) (touched t1 n now) (eq-eqb (names_of n t1.files) 0 none_left)),
          )

        -- ---- it stays

        module _ (s : Stays b n now freed b2) where
          was_file : file_of s.loses.was.tag s.loses.was.value ≡ may.file
          was_file = ap (λ (f : TaggedFile StoredFile). file_of f.tag f.value) (kept_was s) ∙ kept_file.2

          reports : (is_directory (kind_of s.loses.was.value.node) ≡ false) × (nat_le s.loses.was.value.nlink 1 ≡ false)
          reports = or_false (is_directory (kind_of s.loses.was.value.node)) (nat_le s.loses.was.value.nlink 1) s.more

          is_file : is_directory may.file.kind ≡ false
          is_file = sym (ap (λ (f : File). is_directory f.kind) was_file) ∙ reports.0

          many : 1 < s.loses.was.value.nlink
          many = leb-false s.loses.was.value.nlink 1 reports.1

          links_1 : s.loses.value.nlink ≡ names_of n t1.files
          links_1 =
              let less = s.loses.from.nlink in
              let links : s.loses.was.value.nlink ≡ kept_file.0.value.nlink = ap (λ (f : TaggedFile StoredFile). f.value.nlink) (kept_was s) in
              let are = links_are is_file in let names = names_1 in
              omega (arith, less, links, are, names)

          some_left : nat_eq (names_of n t1.files) 0 ≡ false
          some_left = apart_number (names_of n t1.files) 0 (λ z. let l = links_1 in let less = s.loses.from.nlink in let m = many in omega (arith, z, l, less, m))

          same_volumes : map counted_volume_of news ≡ map counted_volume_of olds
          same_volumes = sym (totals_nothing (map counted_volume_of news) freed.volume)
              ∙ ap (λ bytes. with_totals (map counted_volume_of news) freed.volume bytes 0) (sym s.bytes)
              ∙ ap (with_totals (map counted_volume_of news) freed.volume freed.bytes) (sym s.files)
              ∙ counts

          abbrev now_held : CountedFile
          now_held = record { file = record may.file { ctime = now }; nlink = s.loses.value.nlink }

          counted_kept_2 : counted_tree_of limits b2 news ≡ counted_kept k1 n may.file now s.loses.value.nlink
          counted_kept_2 = kept_as b b2 olds news n s.loses (record may.file { ctime = now }) (ap (λ (f : File). retagged f s.loses.was.tag) s.loses.from.file ∙ ap (λ (f : File). record f { ctime = now }) was_file)
              ∙ ap (recounted (counted_tree_of limits b olds) n now_held) same_volumes
              ∙ ap (λ k. recounted k n now_held k.volumes) counted_1

          done_kept : Done
          done_kept = (
            subst Agrees (sym counted_kept_2) (agrees_kept k1 n s.loses.value.nlink now held agrees_1 at_k1 is_file (links_1 ∙ ap (λ (u : Tree). names_of n u.files) (sym view_1)) (let m = many in let less = s.loses.from.nlink in omega (arith, m, less))),
            ap tree_in counted_kept_2 ∙ view_recounted k1 n now_held k1.volumes refl ∙ ap (λ u. with_file u n (record may.file { ctime = now })) view_1
                ∙ sym (unlinked_1 ∙ if_false (without_file t1 n) (touched t1 n now) some_left ∙ touched_is t1 n now may.file at_t1),
          )

        pub done : Goes b n freed b2 ⊎ Stays b n now freed b2 → Done
        done which = elim which [
          | inl g ↦ done_gone g
          | inr s ↦ done_kept s
        ]

-- ---- the tree's own

-- the number is that of the entry
abbrev IsNumber : ℕ → List ℕ → ℕ → Tree → Type 0
IsNumber d name n t = (may : MayUnlink t d name) × (n ≡ may.entry.number)

-- the entry that is found is the one that may be removed
pub removes_found : {limits : Limits} (a : NumberedFiles StoredFile) (olds : List StoredVolume) (t : Tree) (d : ℕ) (name : List ℕ) (n : ℕ) → tree_in (counted_tree_of limits a olds) ≡ t → Agrees (counted_tree_of limits a olds) → MayUnlink t d name → Some n ≡ option_map (λ (e : Entry). e.number) (entry_at t d name) → Removes limits a olds d name n
removes_found {limits} a olds t d name n view agree may found = record { agree = agree; may = here.0; number = here.1 }
  where
    here : IsNumber d name n (tree_in (counted_tree_of limits a olds))
    here = subst (IsNumber d name n) (sym view) (may, same_some (found ∙ ap (option_map (λ (e : Entry). e.number)) (entry_is t d name may.dir may.at_dir.0 ∙ may.found)))

-- the file of the entry was seen
module _ {limits : Limits} (a : NumberedFiles StoredFile) (olds : List StoredVolume) (t : Tree) (d : ℕ) (name : List ℕ) (n : ℕ) (file : Standing) (view : tree_in (counted_tree_of limits a olds) ≡ t) (agree : Agrees (counted_tree_of limits a olds)) (seen : MayUnlinkSeen t d name n file) where
  abbrev here : MayUnlinkSeen (tree_in (counted_tree_of limits a olds)) d name n file
  here = subst (λ (u : Tree). MayUnlinkSeen u d name n file) (sym view) seen

  pub removes_seen : Removes limits a olds d name n
  removes_seen = record { agree = agree; may = here.may; number = here.number }

  pub stands_seen : Stands a n file
  stands_seen = stands a olds d name n (record { agree = agree; may = here.may; number = here.number }) file here.directory here.last
