-- What is kept beside the tree, after each operation.
use Rattle.std.proofs.Common.{◌≡◌, ◌≢◌, ℕ, zero, suc, ◌+◌, ◌<◌, Bool, true, false, List, [], ◌∷◌, ◌++◌, map, Option, Some, None, option_map, refl, sym, ap, subst, ◌∙◌, arith}
use Rattle.std.specs.Prelude.{slice_get, length, nat_eq, ◌^◌, if◌then◌else◌}
use Rattle.std.proofs.lemmas.Bool.{eq-eqb}
use Rattle.nfs_attrs.specs.declared.moment.Moment.{Moment}
use Rattle.nfs_inodes.specs.Tree.{Tree, File, Volume, at, with_at, one_when, bytes_in, is_directory, nlink, bytes_of, files_of}
use Rattle.nfs_inodes.specs.Law.{Law, AreRising, Lives, LivesAsDirectory}
use Rattle.nfs_inodes.specs.Changes.{with_new_file, with_file, entered, with_named_file}
use Rattle.nfs_inodes.specs.Conditions.{IsNew, MayMake}
use Rattle.nfs_inodes.specs.Counts.{CountedFile, CountedVolume, CountedTree, Agrees, IsCounted, files_in, tree_in, with_totals}
use Rattle.nfs_inodes.proofs.Lists.{by_number, by_test, if_true, if_false, same_some, not_both}
use Rattle.nfs_inodes.proofs.Maps.{at_shows, shows_with, shows_push, with_back, push_back, at_push_other, rising_push}
use Rattle.nfs_inodes.proofs.law.Alike.{bytes_changed, count_changed}
use Rattle.nfs_inodes.proofs.law.WithEntry.{entered_placed, entered_bytes, gained_is, nlink_there, nlink_elsewhere, one_other}
use Rattle.nfs_inodes.proofs.law.WithNewFile.{next_free, live_apart, stays, new_lives, nlink_born, nlink_new, bytes_born, files_born}
use Rattle.nfs_inodes.proofs.law.Operations.{law_with_named_file}

-- the file of what is kept under a number
pub shown : (k : CountedTree) (n : ℕ) (h : CountedFile) → at n k.files ≡ Some h → Lives (tree_in k) n h.file
shown k n h e = at_shows (λ (a : CountedFile). a.file) n k.files ∙ ap (option_map (λ (a : CountedFile). a.file)) e

-- ---- totals

pub volumes_stay : (cs : List CountedVolume) (index b n : ℕ) → map (λ (c : CountedVolume). c.volume) (with_totals cs index b n) ≡ map (λ (c : CountedVolume). c.volume) cs
volumes_stay [] index b n = refl
volumes_stay (c ∷ cs) zero b n = refl
volumes_stay (c ∷ cs) (suc index) b n = ap (λ l. c.volume ∷ l) (volumes_stay cs index b n)

-- where a total after a change comes from
record Before (cs : List CountedVolume) (index b n p : ℕ) (c : CountedVolume) : Type 0 where
  was : CountedVolume
  at_was : slice_get cs p ≡ Some was
  volume : c.volume ≡ was.volume
  here : p ≡ index → (c.bytes ≡ was.bytes + b) × (c.files ≡ was.files + n)
  elsewhere : p ≢ index → (c.bytes ≡ was.bytes) × (c.files ≡ was.files)

totals_back : (cs : List CountedVolume) (index b n p : ℕ) (c : CountedVolume) → slice_get (with_totals cs index b n) p ≡ Some c → Before cs index b n p c
totals_back [] index b n p c e = absurd (not_both refl e)
totals_back (a ∷ cs) zero b n zero c e =
    let same : record { volume = a.volume; bytes = a.bytes + b; files = a.files + n } ≡ c = same_some e in
    record { was = a; at_was = refl; volume = ap (λ (k : CountedVolume). k.volume) (sym same); here = λ s. (ap (λ (k : CountedVolume). k.bytes) (sym same), ap (λ (k : CountedVolume). k.files) (sym same)); elsewhere = λ o. absurd (o refl) }
totals_back (a ∷ cs) zero b n (suc p) c e = record { was = c; at_was = e; volume = refl; here = λ s. absurd (let z : suc p ≡ 0 = s in omega (arith, z)); elsewhere = λ o. (refl, refl) }
totals_back (a ∷ cs) (suc index) b n zero c e = let same : a ≡ c = same_some e in record { was = a; at_was = refl; volume = ap (λ (k : CountedVolume). k.volume) (sym same); here = λ s. absurd (let z : 0 ≡ suc index = s in omega (arith, z)); elsewhere = λ o. (ap (λ (k : CountedVolume). k.bytes) (sym same), ap (λ (k : CountedVolume). k.files) (sym same)) }
totals_back (a ∷ cs) (suc index) b n (suc p) c e = let r = totals_back cs index b n p c e in
    record { was = r.was; at_was = r.at_was; volume = r.volume; here = λ s. r.here (let z : suc p ≡ suc index = s in omega (arith, z)); elsewhere = λ o. r.elsewhere (λ s. o (ap suc s)) }

-- totals and limits after a change of the files
pub totals_after : (k : CountedTree) (files : List (ℕ × File)) (index b n : ℕ) → Agrees k →
    ((p : ℕ) → (p ≡ index → (bytes_of p files ≡ bytes_of p (files_in k.files) + b) × (files_of p files ≡ files_of p (files_in k.files) + n)) × (p ≢ index → (bytes_of p files ≡ bytes_of p (files_in k.files)) × (files_of p files ≡ files_of p (files_in k.files)))) →
    (p : ℕ) (c : CountedVolume) → slice_get (with_totals k.volumes index b n) p ≡ Some c → IsCounted files p c × ((c.volume.max_bytes < 2 ^ 64) × (c.volume.max_files < 2 ^ 64))
totals_after k files index b n keeps sums p c e =
    let r = totals_back k.volumes index b n p c e in
    let t = keeps.totals p r.was r.at_was in
    let reported = sums p in (
      by_number p index
          (λ s. let y = reported.0 s in let z = r.here s in record { bytes = z.0 ∙ ap (λ m. m + b) t.bytes ∙ sym y.0; files = z.1 ∙ ap (λ m. m + n) t.files ∙ sym y.1 })
          (λ o. let y = reported.1 o in let z = r.elsewhere o in record { bytes = z.0 ∙ t.bytes ∙ sym y.0; files = z.1 ∙ t.files ∙ sym y.1 }),
      subst (λ (v : Volume). (v.max_bytes < 2 ^ 64) × (v.max_files < 2 ^ 64)) (sym r.volume) (keeps.limits p r.was r.at_was),
    )

-- ---- a new file

abbrev pub counted_after_make : CountedTree → ℕ → CountedFile → CountedFile → ℕ → ℕ → CountedTree
counted_after_make k d w new index size = record { files = with_at d w (k.files ++ (k.next, new) ∷ []); next = k.next + 1; key = k.key; volumes = with_totals k.volumes index size 1; limits = k.limits }

-- what is kept of directory d and of the new file
pub record CountsNewFile (k : CountedTree) (d size : ℕ) (name : List ℕ) (now : Moment) (p w new : CountedFile) : Type 0 where
  pub may : MayMake (tree_in k) d name size
  pub at_dir : at d k.files ≡ Some p
  pub entered : w.file ≡ entered p.file name k.next now
  pub links : w.nlink ≡ p.nlink + one_when (is_directory new.file.kind)
  pub first_links : new.nlink ≡ (if is_directory new.file.kind then 2 else 1)
  pub new_file : IsNew k.limits d size may.enter.dir new.file
  pub few : is_directory new.file.kind ≡ true → nlink (tree_in k).files d may.enter.dir < k.limits.links

its_dir : (k : CountedTree) (d size : ℕ) (name : List ℕ) (now : Moment) (p w new : CountedFile) (has : CountsNewFile k d size name now p w new) → has.may.enter.dir ≡ p.file
its_dir k d size name now p w new has = same_some (sym has.may.enter.at_dir.0 ∙ shown k d p has.at_dir)

files_made : (k : CountedTree) (d : ℕ) (w new : CountedFile) → files_in (with_at d w (k.files ++ (k.next, new) ∷ [])) ≡ (with_file (with_new_file (tree_in k) new.file) d w.file).files
files_made k d w new = shows_with (λ (a : CountedFile). a.file) d w (k.files ++ (k.next, new) ∷ []) ∙ ap (with_at d w.file) (shows_push (λ (a : CountedFile). a.file) k.next new k.files)

pub view_after_make : (k : CountedTree) (d size : ℕ) (name : List ℕ) (now : Moment) (p w new : CountedFile) (index : ℕ) → Law (tree_in k) → CountsNewFile k d size name now p w new → tree_in (counted_after_make k d w new index size) ≡ with_named_file (tree_in k) d name new.file now
view_after_make k d size name now p w new index law has =
    let t = tree_in k in
    ap (λ vs. record { files = files_in (with_at d w (k.files ++ (k.next, new) ∷ [])); next = k.next + 1; key = k.key; volumes = vs; limits = k.limits }) (volumes_stay k.volumes index size 1)
    ∙ ap (λ fs. record { files = fs; next = k.next + 1; key = k.key; volumes = t.volumes; limits = k.limits }) (files_made k d w new)
    ∙ ap (λ g. with_file (with_new_file t new.file) d g) has.entered
    ∙ sym (gained_is (with_new_file t new.file) d t.next now name p.file (stays t new.file d p.file law (shown k d p has.at_dir)))

pub free_number : (k : CountedTree) → Law (tree_in k) → at k.next k.files ≡ None
free_number k law = none_kept (at k.next k.files) (sym (at_shows (λ (a : CountedFile). a.file) k.next k.files) ∙ next_free (tree_in k) law)
  where
    none_kept : (o : Option CountedFile) → option_map (λ (a : CountedFile). a.file) o ≡ None → o ≡ None
    none_kept None e = refl
    none_kept (Some h) e = cc

rising_after : (k : CountedTree) (new : CountedFile) → Law (tree_in k) → AreRising 0 (with_new_file (tree_in k) new.file).files (with_new_file (tree_in k) new.file).next
rising_after k new law = rising_push 0 k.next (tree_in k).files new.file law.rising

-- the links of every file after it
links_made : (k : CountedTree) (d size : ℕ) (name : List ℕ) (now : Moment) (p w new : CountedFile) → Agrees k → CountsNewFile k d size name now p w new → (m : ℕ) (h : CountedFile) → at m (with_at d w (k.files ++ (k.next, new) ∷ [])) ≡ Some h → h.nlink ≡ nlink (with_file (with_new_file (tree_in k) new.file) d (entered p.file name k.next now)).files m h.file
links_made k d size name now p w new keeps has m h e =
    let t = tree_in k in
    let law = keeps.law in
    let b : Tree = with_new_file t new.file in
    let g : File = entered p.file name k.next now in
    let after : List (ℕ × File) = (with_file b d g).files in
    let law_b = rising_after k new law in
    let dir_t : LivesAsDirectory t d p.file = (shown k d p has.at_dir, ap (λ (f : File). is_directory f.kind) (sym (its_dir k d size name now p w new has)) ∙ has.may.enter.at_dir.1) in
    let dir_b : LivesAsDirectory b d p.file = (stays t new.file d p.file law dir_t.0, dir_t.1) in
    let apart : d ≢ k.next = live_apart t d p.file law dir_t.0 in
    let counted_file : at d (k.files ++ (k.next, new) ∷ []) ≡ Some p = at_push_other k.next d new k.files apart ∙ has.at_dir in
    with_back d m p w h (k.files ++ (k.next, new) ∷ []) counted_file e
    (λ s is. let reported = nlink_there b d k.next now name p.file new.file dir_b (new_lives t new.file law) in
    let same = nlink_born t new.file d p.file law has.new_file.empty dir_t.0 in
    let was = keeps.links d p has.at_dir in
    let links = has.links in
    let here : nlink after m h.file ≡ nlink after d g = ap (λ i. nlink after i h.file) s ∙ ap (nlink after d) (ap (λ (a : CountedFile). a.file) (sym is) ∙ has.entered) in
    let mine : h.nlink ≡ w.nlink = ap (λ (a : CountedFile). a.nlink) (sym is) in
    omega (arith, reported, same, was, links, here, mine))
    (λ o old. push_back k.next m new h k.files (free_number k law) old
    (λ s is. let reported = nlink_elsewhere b d k.next now name p.file law_b dir_b m h.file in
    let first = nlink_new t new.file law has.new_file.empty in
    let here : nlink b.files m h.file ≡ nlink b.files t.next new.file = ap (λ i. nlink b.files i h.file) s ∙ ap (λ (a : CountedFile). nlink b.files t.next a.file) (sym is) in
    let mine : h.nlink ≡ (if is_directory new.file.kind then 2 else 1) = ap (λ (a : CountedFile). a.nlink) (sym is) ∙ has.first_links in
    let kind : is_directory h.file.kind ≡ is_directory new.file.kind = ap (λ (a : CountedFile). is_directory a.file.kind) (sym is) in
    by_test (is_directory new.file.kind)
    (λ y. let a = reported.0 (kind ∙ y) in let two : (if is_directory new.file.kind then 2 else 0) ≡ 2 = two_when 0 y in let too : (if is_directory new.file.kind then 2 else 1) ≡ 2 = two_when 1 y in omega (arith, a, two, too, first, here, mine))
    (λ z. let a = reported.1 (kind ∙ z) in let none : (if is_directory new.file.kind then 2 else 0) ≡ 0 = else_when 0 z in let one : (if is_directory new.file.kind then 2 else 1) ≡ 1 = else_when 1 z in
    let named : one_when (nat_eq k.next m) ≡ 1 = itself_named k.next m s in omega (arith, a, none, one, first, here, mine, named)))
    (λ q was. let reported = nlink_elsewhere b d k.next now name p.file law_b dir_b m h.file in
    let same = nlink_born t new.file m h.file law has.new_file.empty (shown k m h was) in
    let mine = keeps.links m h was in
    let none : one_when (nat_eq k.next m) ≡ 0 = one_other m (record { cookie = 0; name = name; number = k.next }) q in
    by_test (is_directory h.file.kind)
    (λ y. let a = reported.0 y in omega (arith, a, same, mine))
    (λ z. let a = reported.1 z in omega (arith, a, same, mine, none))))
  where
    two_when : (n : ℕ) {b : Bool} → b ≡ true → (if b then 2 else n) ≡ 2
    two_when n e = if_true 2 n e

    else_when : (n : ℕ) {b : Bool} → b ≡ false → (if b then 2 else n) ≡ n
    else_when n e = if_false 2 n e

    itself_named : (n m : ℕ) → m ≡ n → one_when (nat_eq n m) ≡ 1
    itself_named n m s = ap one_when (eq-eqb n m (sym s))

pub agree_after_make : (k : CountedTree) (d size : ℕ) (name : List ℕ) (now : Moment) (p w new : CountedFile) (index : ℕ) → Agrees k → CountsNewFile k d size name now p w new → index ≡ p.file.volume → Agrees (counted_after_make k d w new index size)
agree_after_make k d size name now p w new index keeps has is_place =
    let t = tree_in k in
    let law = keeps.law in
    let b : Tree = with_new_file t new.file in
    let g : File = entered p.file name k.next now in
    let files : files_in (with_at d w (k.files ++ (k.next, new) ∷ [])) ≡ (with_file b d g).files = files_made k d w new ∙ ap (λ f. (with_file b d f).files) has.entered in
    let view = view_after_make k d size name now p w new index law has in
    let dir : has.may.enter.dir ≡ p.file = its_dir k d size name now p w new has in
    let at_b : Lives b d p.file = stays t new.file d p.file law (shown k d p has.at_dir) in
    let home : new.file.volume ≡ index = has.new_file.volume ∙ ap (λ (f : File). f.volume) dir ∙ sym is_place in
    let after = totals_after k (with_file b d g).files index size 1 keeps (λ q.
    let same = bytes_changed b d p.file g at_b (entered_placed p.file name k.next now).volume q in
    let no_more : length (bytes_in g.kind) ≡ length (bytes_in p.file.kind) = ap length (entered_bytes p.file.kind name k.next) in
    let counted = count_changed b d p.file g at_b (entered_placed p.file name k.next now).volume q in
    let reported = bytes_born t new.file q in let counts = files_born t new.file q in
    let bytes_stay : bytes_of q (with_file b d g).files ≡ bytes_of q b.files = by_number p.file.volume q (λ s. let y = same.0 s in omega (arith, y, no_more)) (λ o. same.1 o) in
    let long = has.new_file.bytes in (
      (λ s. let y = reported.0 (home ∙ sym s) in let z = counts.0 (home ∙ sym s) in (omega (arith, bytes_stay, y, long), omega (arith, counted, z))),
      (λ o. let y = reported.1 (λ s. o (sym s ∙ home)) in let z = counts.1 (λ s. o (sym s ∙ home)) in (omega (arith, bytes_stay, y), omega (arith, counted, z))),
    )) in
    record {
      law = subst Law (sym view) (law_with_named_file t d size name new.file now has.may law has.new_file has.few);
      links = λ m h e. links_made k d size name now p w new keeps has m h e ∙ ap (λ fs. nlink fs m h.file) (sym files);
      totals = λ q c e. subst (λ fs. IsCounted fs q c) (sym files) (after q c e).0;
      limits = λ q c e. (after q c e).1;
    }
