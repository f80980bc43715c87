-- A tree that is made again, with one step more.
use Rattle.std.proofs.Common.{inl, inr, ◌≡◌, ◌≢◌, ℕ, suc, ◌+◌, Bool, true, false, List, [], ◌∷◌, ◌++◌, length, Some, refl, sym, ap, subst, ◌∙◌, append_assoc, arith}
use Rattle.std.proofs.lemmas.List.{length-append}
use Rattle.nfs_inodes.specs.Changes.{after_link, entered, kind_with_entry, with_entry, with_file, with_named_file, with_new_file}
use Rattle.nfs_inodes.specs.Law.{Law, Lives, LivesAsDirectory}
use Rattle.nfs_inodes.specs.Reading.{entries_at}
use Rattle.nfs_inodes.specs.Tree.{Tree, File, Kind, Regular, Directory, Link, Entry, Volume, at, is_directory, on_some, with_at}
use Rattle.nfs_inodes.proofs.Lists.{by_number, same_some, true_and_false}
use Rattle.nfs_inodes.proofs.Maps.{at_push_other, at_with_other}
use Rattle.nfs_load.specs.Effects.{start}
use Rattle.nfs_round_trip.specs.Copies.{copied, copied_entries, copied_kind, copied_mode}
use Rattle.nfs_round_trip.proofs.Directories.{shown, shown_here, shown_there}
use Rattle.nfs_round_trip.proofs.Made.{AreMade, Has, has_last, has_push, made_bounds, made_once, made_push, made_with, partly, push_has, with_entries}
use Rattle.nfs_round_trip.proofs.Parts.{IsDirectoryMade, IsPart, directory_made, file_made, known_number, known_step, not_yet, shown_unknown, so_far}
use Rattle.nfs_round_trip.proofs.Walks.{Step}

-- ---- a directory with one entry more

copied_push : (number : ℕ → ℕ) (cookie : ℕ) (es : List Entry) (e : Entry)
    → copied_entries number cookie (es ++ e ∷ []) ≡ copied_entries number cookie es ++ record {
      cookie = cookie + length es;
      name = e.name;
      number = number e.number;
    } ∷ []
copied_push number cookie [] e = ap (λ c. record { cookie = c; name = e.name; number = number e.number } ∷ []) (omega arith)
copied_push number cookie (x ∷ es) e =
    let more : cookie + 1 + length es ≡ cookie + suc (length es) = omega arith in
    ap (λ l. record { cookie = cookie; name = x.name; number = number x.number } ∷ l)
    (copied_push number (cookie + 1) es e
    ∙ ap (λ c. copied_entries number (cookie + 1) es ++ record { cookie = c; name = e.name; number = number e.number } ∷ []) more)

kind_more : (number : ℕ → ℕ) (es : List Entry) (e : Entry) (k : Kind) → is_directory k ≡ true
    → kind_with_entry (copied_kind number (with_entries es k)) e.name (number e.number) ≡ copied_kind number (with_entries (es ++ e ∷ []) k)
kind_more number es e (Regular bytes) y = cc
kind_more number es e (Link path) y = cc
kind_more number es e (Directory parent next_cookie entries) y =
    let long : 3 + length es + 1 ≡ 3 + length (es ++ e ∷ []) = let l = length-append es (e ∷ []) in omega (arith, l) in
    ap (λ c. Directory (number parent) c (copied_entries number 3 es ++ record { cookie = 3 + length es; name = e.name; number = number e.number } ∷ [])) long
    ∙ ap (Directory (number parent) (3 + length (es ++ e ∷ []))) (sym (copied_push number 3 es e))

mode_same : (es fs : List Entry) (k : Kind) (mode : ℕ) → copied_mode (with_entries es k) mode ≡ copied_mode (with_entries fs k) mode
mode_same es fs (Regular bytes) mode = refl
mode_same es fs (Directory parent next_cookie entries) mode = refl
mode_same es fs (Link path) mode = refl

entered_is : (number : ℕ → ℕ) (tag : ℕ) (es : List Entry) (e : Entry) (f : File) → is_directory f.kind ≡ true
    → entered (copied number tag (partly es false f)) e.name (number e.number) start ≡ copied number tag (partly (es ++ e ∷ []) false f)
entered_is number tag es e f y =
    let old : File = copied number tag (partly es false f) in
    ap (λ (k : Kind). record old { kind = k }) (kind_more number es e f.kind y)
    ∙ ap (λ (mode : ℕ). record old { kind = copied_kind number (with_entries (es ++ e ∷ []) f.kind); mode = mode }) (mode_same es (es ++ e ∷ []) f.kind f.mode)

module _ (t : Tree) (law : Law t) (number : ℕ → ℕ) (timed : ℕ → Bool) (done : List Step) (s : Step) (f : File) (at_dir : LivesAsDirectory t s.0.number f)
    (untimed : timed s.0.number ≡ false) where
  entry_more : (ns : List ℕ) (xs : List (ℕ × File)) (u : Tree) (h : File) → AreMade t number (so_far done timed) 1 ns xs → Has s.0.number ns
      → IsDirectoryMade t number (shown done s.0.number) (timed s.0.number) u s.0.number f h
      → AreMade t number (so_far (done ++ s ∷ []) timed) 1 ns (with_at (number s.0.number) (entered h s.1.name (number s.1.number) start) xs)
  entry_more ns xs u h files has made = made_with t number (so_far done timed)
      (so_far (done ++ s ∷ []) timed) 1 ns xs s.0.number (entered h s.1.name (number s.1.number) start) files has
      (λ m o. ap (λ es. partly es (timed m)) (shown_there done s m (λ e. o (sym e))))
      (record {
        file = f;
        at_file = at_dir.0;
        tag = made.tag;
        is = ap (λ (g : File). entered g s.1.name (number s.1.number) start)
            (made.is ∙ ap (λ b. copied number made.tag (partly (shown done s.0.number) b f)) untimed)
            ∙ entered_is number made.tag (shown done s.0.number) s.1 f at_dir.1
            ∙ ap (λ es. copied number made.tag (partly es false f)) (sym (shown_here done s s.0.number refl))
            ∙ ap (λ b. copied number made.tag (partly (shown (done ++ s ∷ []) s.0.number) b f)) (sym untimed);
      })

  begun_more : (m : ℕ) (rest : List Entry) → entries_at t s.0.number ≡ shown done s.0.number ++ s.1 ∷ rest → (old : List Entry)
      → entries_at t m ≡ shown done m ++ old
      → (after : List Entry) × (entries_at t m ≡ shown (done ++ s ∷ []) m ++ after)
  begun_more m rest here old was = by_number s.0.number m
      (λ e. (
        rest,
        subst (λ i. entries_at t i ≡ shown (done ++ s ∷ []) i ++ rest) e
            (here ∙ sym (append_assoc (shown done s.0.number) (s.1 ∷ []) rest) ∙ ap (λ l. l ++ rest) (sym (shown_here done s s.0.number refl))),
      ))
      (λ o. (old, was ∙ ap (λ l. l ++ old) (sym (shown_there done s m o))))

  module _ (ns : List ℕ) (vs : List Volume) (u : Tree) (part : IsPart t number timed done ns vs u) (has : Has s.0.number ns) (rest : List Entry)
      (here : entries_at t s.0.number ≡ shown done s.0.number ++ s.1 ∷ rest) where
    -- a new file
    pub part_with_file : (tag : ℕ) (g : File) → Lives t s.1.number g → timed s.1.number ≡ false → number s.1.number ≡ suc (length ns)
        → IsPart t number timed (done ++ s ∷ []) (ns ++ s.1.number ∷ []) vs (with_named_file u (number s.0.number) s.1.name (copied number tag (partly [] false g)) start)
    part_with_file tag g lives early new =
        let made = directory_made t law number timed done ns vs u part s.0.number f has at_dir in
        let f0 : File = copied number tag (partly [] false g) in
        let name : number s.1.number ≡ u.next = new ∙ sym part.next in
        let fresh : Has s.1.number ns → ⊥ = not_yet t law number timed done ns vs u part s.1.number g lives new in
        let none : shown done s.1.number ≡ [] = shown_unknown ns done s.1.number part.known fresh in
        let pushed : AreMade t number (so_far done timed) 1 (ns ++ s.1.number ∷ []) (u.files ++ (u.next, f0) ∷ []) =
        made_push t number (so_far done timed) 1 ns u.files s.1.number u.next f0 part.files (let n = part.next in omega (arith, n)) name
        (record {
          file = g;
          at_file = lives;
          tag = tag;
          is = ap (λ es. copied number tag (partly es false g)) (sym none) ∙ ap (λ b. copied number tag (partly (shown done s.1.number) b g)) (sym early);
        }) in
        let apart : number s.0.number ≢ u.next = λ e. let high = (made_bounds t number (so_far done timed) 1 ns u.files s.0.number part.files has).1 in
        let n = part.next in omega (arith, high, e, n) in
        let found : at (number s.0.number) (u.files ++ (u.next, f0) ∷ []) ≡ Some made.0 = at_push_other u.next (number s.0.number) f0 u.files apart
        ∙ made.1.lives.0 in
        let new_tree : Tree = with_file (with_new_file u f0) (number s.0.number) (entered made.0 s.1.name (number s.1.number) start) in
        let is : new_tree ≡ with_named_file u (number s.0.number) s.1.name f0 start =
        ap (λ m. with_file (with_new_file u f0) (number s.0.number) (entered made.0 s.1.name m start)) name
        ∙ ap (λ o. on_some o (with_new_file u f0) (λ (h : File). with_file (with_new_file u f0) (number s.0.number) (entered h s.1.name u.next start)))
        (sym found) in
        subst (IsPart t number timed (done ++ s ∷ []) (ns ++ s.1.number ∷ []) vs) is (record {
          files = entry_more (ns ++ s.1.number ∷ []) (u.files ++ (u.next, f0) ∷ []) u made.0 pushed (has_push s.0.number s.1.number ns has) made.1;
          next = let n = part.next in let l = length-append ns (s.1.number ∷ []) in omega (arith, n, l);
          known = known_step (ns ++ s.1.number ∷ []) done s (known_number s.1.number ns done part.known) (has_push s.0.number s.1.number ns has)
              (has_last s.1.number ns);
          begun = λ m has_m. elim (push_has m s.1.number ns has_m) [
            | inl was ↦ let b = part.begun m was in begun_more m rest here b.0 b.1
            | inr e ↦ begun_more m rest here (entries_at t m) (ap (λ l. l ++ entries_at t m) (sym none ∙ ap (shown done) e))
          ];
          few = let l = length-append ns (s.1.number ∷ []) in let k = length-append done (s ∷ []) in let was = part.few in omega (arith, l, k, was);
          key = part.key;
          volumes = part.volumes;
          limits = part.limits;
        })

    -- a hard link
    pub part_with_name : (g : File) → Lives t s.1.number g → timed s.1.number ≡ false → is_directory g.kind ≡ false → Has s.1.number ns
        → IsPart t number timed (done ++ s ∷ []) ns vs (after_link u (number s.1.number) (number s.0.number) s.1.name start)
    part_with_name g lives early no_dir there =
        let made = directory_made t law number timed done ns vs u part s.0.number f has at_dir in
        let named = file_made t law number timed done ns vs u part s.1.number g there lives in
        let touched_file : File = record (named.0) { ctime = start } in
        let touched_files : List (ℕ × File) = with_at (number s.1.number) touched_file u.files in
        let changed : AreMade t number (so_far done timed) 1 ns touched_files =
        made_with t number (so_far done timed) (so_far done timed) 1 ns u.files s.1.number touched_file part.files there (λ m o. refl)
        (record {
          file = g;
          at_file = lives;
          tag = named.2;
          is = ap (λ (h : File). record h { ctime = start }) (named.3 ∙ ap (λ b. copied number named.2 (partly (shown done s.1.number) b g)) early)
              ∙ ap (λ b. copied number named.2 (partly (shown done s.1.number) b g)) (sym early);
        }) in
        let apart : number s.0.number ≢ number s.1.number = λ e.
        let same : s.0.number ≡ s.1.number = made_once t number (so_far done timed) 1 ns u.files s.0.number s.1.number part.files has there e in
        let same_file : f ≡ g = same_some (sym at_dir.0 ∙ ap (λ i. at i t.files) same ∙ lives) in
        true_and_false at_dir.1 (ap (λ (h : File). is_directory h.kind) same_file ∙ no_dir) in
        let found : at (number s.0.number) touched_files ≡ Some made.0 = at_with_other (number s.1.number) (number s.0.number) touched_file u.files apart
        ∙ made.1.lives.0 in
        let touched_tree : Tree = with_file u (number s.1.number) touched_file in
        let new_tree : Tree = with_file touched_tree (number s.0.number) (entered made.0 s.1.name (number s.1.number) start) in
        let is : new_tree ≡ after_link u (number s.1.number) (number s.0.number) s.1.name start =
        ap (λ o. on_some o touched_tree (λ (h : File). with_file touched_tree (number s.0.number) (entered h s.1.name (number s.1.number) start))) (sym found)
        ∙ ap (λ (v : Tree). with_entry v (number s.0.number) s.1.name (number s.1.number) start)
        (ap (λ o. on_some o u (λ (h : File). with_file u (number s.1.number) (record h { ctime = start }))) (sym named.1)) in
        subst (IsPart t number timed (done ++ s ∷ []) ns vs) is (record {
          files = entry_more ns touched_files u made.0 changed has made.1;
          next = part.next;
          known = known_step ns done s part.known has there;
          begun = λ m has_m. let b = part.begun m has_m in begun_more m rest here b.0 b.1;
          few = let k = length-append done (s ∷ []) in let was = part.few in omega (arith, k, was);
          key = part.key;
          volumes = part.volumes;
          limits = part.limits;
        })
