-- The first names of files, place by place.
use Rattle.std.proofs.Common.{◌≡◌, ℕ, ◌+◌, ◌<◌, Bool, true, false, cond, nat_eq, List, [], ◌∷◌, ◌++◌, length, take, drop, get_or, Option, Some, None, option_map, refl, sym, ap, ◌∙◌, append_assoc}
use Rattle.std.specs.Option.{option_or}
use Rattle.std.proofs.lemmas.List.{take_more, drop_more}
use Rattle.std.proofs.lemmas.List.Folds.{find-append}
use Rattle.nfs_inodes.specs.Tree.{Tree, on_some}
use Rattle.nfs_load.specs.declared.name_form.NameForm.{NameForm}
use Rattle.nfs_describe.specs.Places.{FilePath}
use Rattle.nfs_describe.specs.Texts.{files_text, first_here, first_name, first_places, hard_text, named_text, own_text, place_text}

abbrev path_of : Option FilePath → Option (List ℕ)
path_of o = option_map (λ (p : FilePath). p.path) o

-- ---- texts

named : (form : NameForm) (t : Tree) (p : FilePath) (o : Option FilePath) → named_text form t p (path_of o) ≡ on_some o (own_text form t p) (λ first. hard_text form p.path first.path)
named form t p None = refl
named form t p (Some first) = refl

goes_on : {X : Type 0} (text here after rest old new : List X) → text ++ rest ≡ old → new ≡ text ++ here → here ++ after ≡ rest → new ++ after ≡ old
goes_on text here after rest old new before is step = ap (λ l. l ++ after) is ∙ append_assoc text here after ∙ ap (λ l. text ++ l) step ∙ before

-- the text of one place more
files_more : (form : NameForm) (t : Tree) (places : List FilePath) (i : ℕ) (d : FilePath) (kept : Option (List ℕ)) (text old new : List ℕ) → i < length places
    → text ++ files_text form t (take i places) (drop i places) ≡ old
    → new ≡ text ++ named_text form t (get_or places i d) kept → kept ≡ path_of (first_name (get_or places i d).number (take i places))
    → new ++ files_text form t (take (i + 1) places) (drop (i + 1) places) ≡ old
files_more form t places i d kept text old new inside before is name =
    goes_on text (place_text form t (take i places) (get_or places i d)) (files_text form t (take (i + 1) places) (drop (i + 1) places)) (files_text form t (take i places) (drop i places)) old new before
    (is ∙ ap (λ o. text ++ named_text form t (get_or places i d) o) name ∙ ap (λ l. text ++ l) (named form t (get_or places i d) (first_name (get_or places i d).number (take i places))))
    (ap (λ l. place_text form t (take i places) (get_or places i d) ++ files_text form t l (drop (i + 1) places)) (take_more places i d inside) ∙ sym (ap (λ l. files_text form t (take i places) l) (drop_more places i d inside)))

-- ---- first places

here : (o : Option FilePath) (p : FilePath) (after : List FilePath) → first_here p (path_of o) ++ after ≡ on_some o (p ∷ after) (λ first. after)
here None p after = refl
here (Some first) p after = refl

-- the first places among one place more
firsts_more : (places : List FilePath) (i : ℕ) (d : FilePath) (kept : Option (List ℕ)) (firsts old new : List FilePath) → i < length places
    → firsts ++ first_places (take i places) (drop i places) ≡ old
    → new ≡ firsts ++ first_here (get_or places i d) kept → kept ≡ path_of (first_name (get_or places i d).number (take i places))
    → new ++ first_places (take (i + 1) places) (drop (i + 1) places) ≡ old
firsts_more places i d kept firsts old new inside before is name =
    goes_on firsts (first_here (get_or places i d) (path_of (first_name (get_or places i d).number (take i places)))) (first_places (take (i + 1) places) (drop (i + 1) places))
    (first_places (take i places) (drop i places)) old new before
    (is ∙ ap (λ o. firsts ++ first_here (get_or places i d) o) name)
    (here (first_name (get_or places i d).number (take i places)) (get_or places i d) (first_places (take (i + 1) places) (drop (i + 1) places))
    ∙ ap (λ l. on_some (first_name (get_or places i d).number (take i places)) (get_or places i d ∷ first_places l (drop (i + 1) places)) (λ first. first_places l (drop (i + 1) places))) (take_more places i d inside)
    ∙ sym (ap (λ l. first_places (take i places) l) (drop_more places i d inside)))

-- ---- names

path_or : (o : Option FilePath) (b : Bool) (p : FilePath) → path_of (option_or o (cond b (Some p) None)) ≡ option_or (path_of o) (cond b (Some p.path) None)
path_or None true p = refl
path_or None false p = refl
path_or (Some q) b p = refl

-- the first names among one place more
names_more : (places : List FilePath) (i n : ℕ) (d : FilePath) (kept more : Option (List ℕ)) → i < length places → kept ≡ path_of (first_name n (take i places))
    → more ≡ option_or kept (cond (nat_eq (get_or places i d).number n) (Some (get_or places i d).path) None)
    → more ≡ path_of (first_name n (take (i + 1) places))
names_more places i n d kept more inside is grows = grows
    ∙ ap (λ o. option_or o (cond (nat_eq (get_or places i d).number n) (Some (get_or places i d).path) None)) is
    ∙ sym (path_or (first_name n (take i places)) (nat_eq (get_or places i d).number n) (get_or places i d))
    ∙ sym (ap path_of (ap (first_name n) (take_more places i d inside) ∙ find-append (λ (p : FilePath). nat_eq p.number n) (take i places) (get_or places i d ∷ [])))

-- ---- the same, where a place is the one at an index

pub files_at : (form : NameForm) (t : Tree) (places : List FilePath) (i : ℕ) (p : FilePath) (kept : Option (List ℕ)) (text old new : List ℕ) → i < length places → p ≡ get_or places i p
    → text ++ files_text form t (take i places) (drop i places) ≡ old
    → new ≡ text ++ named_text form t p kept → kept ≡ path_of (first_name p.number (take i places))
    → new ++ files_text form t (take (i + 1) places) (drop (i + 1) places) ≡ old
files_at form t places i p kept text old new inside item before is name = files_more form t places i p kept text old new inside before
    (is ∙ ap (λ (q : FilePath). text ++ named_text form t q kept) item) (name ∙ ap (λ (q : FilePath). path_of (first_name q.number (take i places))) item)

pub names_at : (places : List FilePath) (i n : ℕ) (p : FilePath) (kept more : Option (List ℕ)) → i < length places → p ≡ get_or places i p → kept ≡ path_of (first_name n (take i places))
    → more ≡ option_or kept (cond (nat_eq p.number n) (Some p.path) None)
    → more ≡ path_of (first_name n (take (i + 1) places))
names_at places i n p kept more inside item is grows =
    names_more places i n p kept more inside is (grows ∙ ap (λ (q : FilePath). option_or kept (cond (nat_eq q.number n) (Some q.path) None)) item)

pub firsts_at : (places : List FilePath) (i : ℕ) (p : FilePath) (kept : Option (List ℕ)) (firsts old new : List FilePath) → i < length places → p ≡ get_or places i p
    → firsts ++ first_places (take i places) (drop i places) ≡ old
    → new ≡ firsts ++ first_here p kept → kept ≡ path_of (first_name p.number (take i places))
    → new ++ first_places (take (i + 1) places) (drop (i + 1) places) ≡ old
firsts_at places i p kept firsts old new inside item before is name = firsts_more places i p kept firsts old new inside before
    (is ∙ ap (λ (q : FilePath). firsts ++ first_here q kept) item) (name ∙ ap (λ (q : FilePath). path_of (first_name q.number (take i places))) item)
