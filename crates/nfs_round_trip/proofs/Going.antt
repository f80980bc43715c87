-- The next step of a walk, in a tree that is made again up to it.
use Rattle.std.proofs.Common.{inl, inr, ◌≡◌, ◌≢◌, ℕ, Bool, true, false, cond, List, [], ◌∷◌, ◌++◌, Option, Some, None, option_map, Ok}
use Rattle.std.proofs.Common.{refl, sym, ap, subst, ◌∙◌}
use Rattle.std.specs.List.{find, list_all}
use Rattle.std.specs.Prelude.{Contains, Err, Result, bytes_eq, if◌then◌else◌, is_some}
use Rattle.nfs_inodes.specs.Law.{IsName, Law, LivesAsDirectory}
use Rattle.nfs_inodes.specs.Reading.{entries_at, has_name, number_named, number_under}
use Rattle.nfs_inodes.specs.Tree.{Tree, File, Kind, Regular, Directory, Link, Entry, Volume, at, entries_in, is_directory, on_some}
use Rattle.nfs_inodes.proofs.Lists.{same_some, not_both, head_or_tail, not_in_empty}
use Rattle.nfs_load.specs.PathEnds.{PathEnd, end_at, file_at, free_end, unless_taken}
use Rattle.nfs_load.specs.Paths.{path_in}
use Rattle.nfs_load.specs.declared.name_form.NameForm.{NameForm}
use Rattle.nfs_load.specs.declared.cause.Cause.{Cause}
use Rattle.nfs_load.specs.declared.cause.Cause.TheVariants.{NameTaken}
use Rattle.nfs_describe.specs.Lines.{path_text}
use Rattle.nfs_describe.specs.Places.{FilePath}
use Rattle.nfs_read_back.specs.ReadBack.{is_said}
use Rattle.nfs_round_trip.proofs.Directories.{shown, shown_append, shown_here}
use Rattle.nfs_round_trip.proofs.Made.{Has}
use Rattle.nfs_round_trip.proofs.Parts.{AllHave, IsPart, directory_made, shown_have}
use Rattle.nfs_round_trip.proofs.Paths.{AreNames, IsByteName, PathHeld, names_push, path_read, path_said, slashed, slashed_push}
use Rattle.nfs_round_trip.proofs.Reaches.{HasNone, end_is, found_copied, found_last, leads, leads_more, leads_push, none_found, on_some_is, reached}
use Rattle.nfs_round_trip.proofs.Reaches.{under_directory}
use Rattle.nfs_round_trip.proofs.Walks.{Step, place_of, root_place}
use Rattle.nfs_round_trip.proofs.Truths.{both}

-- ---- places and their names

-- the names of a place's path lead to its file
pub record IsNamed (all : List Step) (root : ℕ) (p : FilePath) : Type 0 where
  pub names : List (List ℕ)
  pub are : AreNames names
  pub path : p.path ≡ slashed names
  pub lead : leads (shown all) root names ≡ Some p.number

grown : (all : List Step) (s : Step) (n : ℕ) → (more : List Entry) × (shown (all ++ s ∷ []) n ≡ shown all n ++ more)
grown all s n = (shown (s ∷ []) n, shown_append all (s ∷ []) n)

pub named_more : (all : List Step) (s : Step) (root : ℕ) (p : FilePath) → IsNamed all root p → IsNamed (all ++ s ∷ []) root p
named_more all s root p named = record {
  names = named.names;
  are = named.are;
  path = named.path;
  lead = leads_more (shown all) (shown (all ++ s ∷ [])) (grown all s) root p.number named.names named.lead;
}

pub named_new : (all : List Step) (s : Step) (root : ℕ) → IsNamed all root s.0 → IsByteName s.1.name → HasNone s.1.name (shown all s.0.number)
    → IsNamed (all ++ s ∷ []) root (place_of s)
unfolding named_more
named_new all s root named is none =
    let more = named_more all s root s.0 named in
    record {
      names = named.names ++ s.1.name ∷ [];
      are = names_push named.names s.1.name named.are is;
      path = ap (λ l. l ++ 47 ∷ s.1.name) named.path ∙ sym (slashed_push named.names s.1.name);
      lead = leads_push (shown (all ++ s ∷ [])) root s.0.number named.names s.1.name more.lead
          ∙ ap (number_named s.1.name) (shown_here all s s.0.number refl) ∙ found_last s.1 (shown all s.0.number) none;
    }

pub named_root : (t : Tree) (all : List Step) (root : ℕ) → IsNamed all root (root_place t root)
named_root t all root = record { names = []; are = tt; path = refl; lead = refl }

pub path_in_names : (form : NameForm) (path : List ℕ) (names : List (List ℕ)) (name : List ℕ) → path ≡ slashed (names ++ name ∷ []) → AreNames (names ++ name ∷ [])
    → PathHeld form path
    → (path_in form (path_text form path) ≡ Ok (names ++ name ∷ [])) × (is_said (path_text form path) ≡ true)
path_in_names form path [] name is are held =
    let at_slash : PathHeld form (slashed (name ∷ [])) = subst (PathHeld form) is held in (
      ap (λ l. path_in form (path_text form l)) is ∙ path_read form name [] are at_slash,
      ap (λ l. is_said (path_text form l)) is ∙ path_said form name [] are at_slash,
    )
path_in_names form path (first ∷ names) name is are held =
    let at_slash : PathHeld form (slashed (first ∷ (names ++ name ∷ []))) = subst (PathHeld form) is held in (
      ap (λ l. path_in form (path_text form l)) is ∙ path_read form first (names ++ name ∷ []) are at_slash,
      ap (λ l. is_said (path_text form l)) is ∙ path_said form first (names ++ name ∷ []) are at_slash,
    )

pub one_passes : (test : FilePath → Bool) (places : List FilePath) (p : FilePath) → list_all test places ≡ true → Contains places p → test p ≡ true
one_passes test [] p all c = absurd (not_in_empty [] p refl c)
one_passes test (q ∷ places) p all c = let b = both (test q) (list_all test places) all in elim (head_or_tail q p places c) [
  | inl e ↦ subst (λ r. test r ≡ true) e b.0
  | inr r ↦ one_passes test places p b.1 r
]

-- ---- the last name

pub last_of : (names : List (List ℕ)) → names ≢ [] → (init : List (List ℕ)) × (last : List ℕ) × (names ≡ init ++ last ∷ [])
last_of [] more = absurd (more refl)
last_of (name ∷ []) more = ([], name, refl)
last_of (name ∷ next ∷ names) more = let rest = last_of (next ∷ names) (λ e. cc) in (name ∷ rest.0, rest.1, ap (λ l. name ∷ l) rest.2)

leads_split : (list : ℕ → List Entry) (n m : ℕ) (init : List (List ℕ)) (last : List ℕ) → leads list n (init ++ last ∷ []) ≡ Some m
    → (d : ℕ) × (leads list n init ≡ Some d) × (number_named last (list d) ≡ Some m)
leads_split list n m [] last e = let s = on_some_is (number_named last (list n)) (λ i. Some i) m e in (n, refl, s.1 ∙ s.2)
leads_split list n m (name ∷ init) last e =
    let s = on_some_is (number_named name (list n)) (λ i. leads list i (init ++ last ∷ [])) m e in
    let rest = leads_split list s.0 m init last s.2 in
    (rest.0, ap (λ o. on_some o None (λ i. leads list i init)) s.1 ∙ rest.1, rest.2)

pub named_path : (form : NameForm) (all : List Step) (root : ℕ) (p : FilePath) (named : IsNamed all root p) → named.names ≢ [] → PathHeld form p.path
    → (path_in form (path_text form p.path) ≡ Ok named.names) × (is_said (path_text form p.path) ≡ true)
named_path form all root p named more held =
    let l = last_of named.names more in
    let is : p.path ≡ slashed (l.0 ++ l.1 ∷ []) = named.path ∙ ap slashed l.2 in
    let read = path_in_names form p.path l.0 l.1 is (subst AreNames l.2 named.are) held in
    (read.0 ∙ ap Ok (sym l.2), read.1)

names_split : (init : List (List ℕ)) (last : List ℕ) → AreNames (init ++ last ∷ []) → AreNames init × IsByteName last
names_split [] last are = (tt, are.0)
names_split (name ∷ init) last are = let rest = names_split init last are.1 in ((are.0, rest.0), rest.1)

-- ---- names in the tree that is made again

module _ (t : Tree) (law : Law t) (number : ℕ → ℕ) (timed : ℕ → Bool) (all : List Step) (ns : List ℕ) (vs : List Volume) (u : Tree)
    (part : IsPart t number timed all ns vs u) where
  some_entry : (es : List Entry) (name : List ℕ) (i : ℕ) → number_named name es ≡ Some i → es ≢ []
  some_entry es name i e s = not_both (ap (number_named name) s) e

  directory_kind : (k : Kind) → entries_in k ≢ [] → is_directory k ≡ true
  directory_kind (Regular bytes) o = absurd (o refl)
  directory_kind (Directory parent next_cookie entries) o = refl
  directory_kind (Link path) o = absurd (o refl)

  no_more : (es rest : List Entry) → es ++ rest ≡ [] → es ≡ []
  no_more [] rest e = refl
  no_more (x ∷ es) rest e = cc

  have_found : (es : List Entry) (name : List ℕ) (i : ℕ) → AllHave ns es → number_named name es ≡ Some i → Has i ns
  have_found [] name i have e = absurd (not_both refl e)
  have_found (x ∷ es) name i have e = step (bytes_eq x.name name) e (have_found es name i have.1)
    where
      step : (b : Bool) → option_map (λ (g : Entry). g.number) (cond b (Some x) (find (has_name name) es)) ≡ Some i
          → (number_named name es ≡ Some i → Has i ns) → Has i ns
      step true e rest = subst (λ j. Has j ns) (same_some e) have.0
      step false e rest = rest e

  directory_of : (d : ℕ) → Has d ns → shown all d ≢ [] → (f : File) × LivesAsDirectory t d f
  directory_of d has more = from (at d t.files) refl
    where
      b : (rest : List Entry) × (entries_at t d ≡ shown all d ++ rest)
      b = part.begun d has

      from : (o : Option File) → at d t.files ≡ o → (f : File) × LivesAsDirectory t d f
      from None e = absurd (more (no_more (shown all d) b.0 (sym b.1 ∙ ap (λ o. on_some o [] (λ (f : File). entries_in f.kind)) e)))
      from (Some f) e = (
        f,
        (
          e,
          directory_kind f.kind (λ none. more
              (no_more (shown all d) b.0 (sym b.1 ∙ ap (λ o. on_some o [] (λ (g : File). entries_in g.kind)) e ∙ none))),
        ),
      )

  -- a name in a directory that is made
  pub under_made : (d : ℕ) (f : File) (name : List ℕ) → Has d ns → LivesAsDirectory t d f → IsName name
      → number_under u (number d) name ≡ option_map number (number_named name (shown all d))
  under_made d f name has lives is =
      let made = directory_made t law number timed all ns vs u part d f has lives in
      under_directory u (number d) made.0 name made.1.lives is ∙ ap (number_named name) made.1.entries ∙ found_copied number 3 name (shown all d)

  pub reached_is : (n m : ℕ) (names : List (List ℕ)) → Has n ns → AreNames names → leads (shown all) n names ≡ Some m
      → (reached u (number n) names ≡ Some (number m)) × Has m ns
  reached_is n m [] has are e = let is : n ≡ m = same_some e in (ap (λ i. Some (number i)) is, subst (λ i. Has i ns) is has)
  reached_is n m (name ∷ names) has are e =
      let s = on_some_is (number_named name (shown all n)) (λ i. leads (shown all) i names) m e in
      let dir = directory_of n has (some_entry (shown all n) name s.0 s.1) in
      let under : number_under u (number n) name ≡ Some (number s.0) = under_made n dir.0 name has dir.1 are.0.0 ∙ ap (option_map number) s.1 in
      let rest = reached_is s.0 m names (have_found (shown all n) name s.0 (shown_have ns all n part.known) s.1) are.1 s.2 in
      (ap (λ o. on_some o None (λ i. reached u i names)) under ∙ rest.0, rest.1)

  -- ---- where a step goes

  module _ (root : ℕ) (has_root : Has root ns) (s : Step) (f : File) (at_dir : LivesAsDirectory t s.0.number f) (named : IsNamed all root s.0)
      (is : IsName s.1.name) where
    end_found : end_at u (number root) (named.names ++ s.1.name ∷ []) ≡ Some (record { dir = number s.0.number; name = s.1.name })
    end_found =
        let r = reached_is root s.0.number named.names has_root named.are named.lead in
        let made = directory_made t law number timed all ns vs u part s.0.number f r.1 at_dir in
        end_is u (number root) (number s.0.number) named.names s.1.name made.0 r.0 made.1.lives

    pub end_free : HasNone s.1.name (shown all s.0.number)
        → free_end u (number root) (named.names ++ s.1.name ∷ []) ≡ Ok (record { dir = number s.0.number; name = s.1.name })
    end_free none =
        let r = reached_is root s.0.number named.names has_root named.are named.lead in
        let free : number_under u (number s.0.number) s.1.name ≡ None = under_made s.0.number f s.1.name r.1 at_dir is
        ∙ ap (option_map number) (none_found s.1.name (shown all s.0.number) none) in
        ap (unless_taken u) end_found
        ∙ ap (λ o. unless_when o (record { dir = number s.0.number; name = s.1.name })) free
      where
        unless_when : Option ℕ → PathEnd → Result PathEnd Cause
        unless_when o end = if is_some o then Err NameTaken else Ok end

  -- the file of a place with a name
  pub file_found : (root : ℕ) → Has root ns → (p : FilePath) (named : IsNamed all root p) → named.names ≢ []
      → file_at u (number root) named.names ≡ Some (number p.number)
  file_found root has_root p named more =
      let l = last_of named.names more in
      let are : AreNames (l.0 ++ l.1 ∷ []) = subst AreNames l.2 named.are in
      let split = leads_split (shown all) root p.number l.0 l.1 (ap (leads (shown all) root) (sym l.2) ∙ named.lead) in
      let parts = names_split l.0 l.1 are in
      let r = reached_is root split.0 l.0 has_root parts.0 split.1 in
      let dir = directory_of split.0 r.1 (some_entry (shown all split.0) l.1 p.number split.2) in
      let made = directory_made t law number timed all ns vs u part split.0 dir.0 r.1 dir.1 in
      ap (file_at u (number root)) l.2
      ∙ ap (λ o. on_some o None (λ (end : PathEnd). number_under u end.dir end.name)) (end_is u (number root) (number split.0) l.0 l.1 made.0 r.0 made.1.lives)
      ∙ under_made split.0 dir.0 l.1 r.1 dir.1 parts.1.0 ∙ ap (option_map number) split.2
