-- Words that are joined by spaces, and found again.
use Rattle.std.proofs.Common.{◌≡◌, ℕ, Bool, true, false, ◌&&◌, cond, List, [], ◌∷◌, ◌++◌, refl, ap, ◌∙◌, ◌==◌, arith}
use Rattle.std.specs.List.{filter, list_all, onto_first}
use Rattle.std.proofs.lemmas.Bool.Decides.{nat_tests}
use Rattle.nfs_text.specs.Lines.{lines}
use Rattle.nfs_text.specs.Chunks.{chunks}
use Rattle.nfs_text.specs.Words.{is_word, words}
use Rattle.nfs_load.specs.Lines.{is_printable, is_text}
use Rattle.nfs_describe.specs.Lines.{is_shown}
use Rattle.nfs_read_back.specs.ReadBack.{is_said}

pub both : (a b : Bool) → (a && b) ≡ true → (a ≡ true) × (b ≡ true)
both true b e = (refl, e)
both false b e = absurd (no e)
  where
    no : false ≡ true → ⊥
    no e = cc

no_space : (x : ℕ) → is_shown x ≡ true → (x == 32) ≡ false
no_space x shown = grind (arith, nat_tests)

printed : (x : ℕ) → is_shown x ≡ true → is_printable x ≡ true
printed x shown = grind (arith, nat_tests)

no_end : (x : ℕ) → is_printable x ≡ true → (x == 10) ≡ false
no_end x shown = grind (arith, nat_tests)

-- ---- chunks

split_word : (w rest : List ℕ) → list_all is_shown w ≡ true → chunks 32 (w ++ 32 ∷ rest) ≡ w ∷ chunks 32 rest
split_word [] rest e = refl
split_word (x ∷ w) rest e = let p = both (is_shown x) (list_all is_shown w) e in
    ap (λ b. cond b ([] ∷ chunks 32 (w ++ 32 ∷ rest)) (onto_first x (chunks 32 (w ++ 32 ∷ rest)))) (no_space x p.0)
    ∙ ap (onto_first x) (split_word w rest p.1)

last_word : (w : List ℕ) → list_all is_shown w ≡ true → chunks 32 w ≡ w ∷ []
last_word [] e = refl
last_word (x ∷ w) e = let p = both (is_shown x) (list_all is_shown w) e in
    ap (λ b. cond b ([] ∷ chunks 32 w) (onto_first x (chunks 32 w))) (no_space x p.0) ∙ ap (onto_first x) (last_word w p.1)

-- ---- words

-- a word and others, with a space between each two
abbrev pub joined : List ℕ → List (List ℕ) → List ℕ
joined w [] = w
joined w (v ∷ vs) = w ++ 32 ∷ joined v vs

abbrev pub AreSaid : List ℕ → List (List ℕ) → Type 0
AreSaid w [] = is_said w ≡ true
AreSaid w (v ∷ vs) = (is_said w ≡ true) × AreSaid v vs

keep : (b : Bool) (w : List ℕ) (vs : List (List ℕ)) → b ≡ true → cond b (w ∷ vs) vs ≡ w ∷ vs
keep true w vs e = refl
keep false w vs e = absurd (no e)
  where
    no : false ≡ true → ⊥
    no e = cc

pub words_of : (w : List ℕ) (vs : List (List ℕ)) → AreSaid w vs → words (joined w vs) ≡ w ∷ vs
words_of w [] said = let p = both (is_word w) (list_all is_shown w) said in
    ap (filter is_word) (last_word w p.1) ∙ keep (is_word w) w [] p.0
words_of w (v ∷ vs) said = let p = both (is_word w) (list_all is_shown w) said.0 in
    ap (filter is_word) (split_word w (joined v vs) p.1) ∙ keep (is_word w) w (words (joined v vs)) p.0 ∙ ap (λ l. w ∷ l) (words_of v vs said.1)

-- ---- bytes that are printed

and_true : (a b : Bool) → a ≡ true → b ≡ true → (a && b) ≡ true
and_true true b one two = two
and_true false b one two = one

shown_printed : (w rest : List ℕ) → list_all is_shown w ≡ true → is_text rest ≡ true → is_text (w ++ rest) ≡ true
shown_printed [] rest e last = last
shown_printed (x ∷ w) rest e last = let p = both (is_shown x) (list_all is_shown w) e in
    and_true (is_printable x) (is_text (w ++ rest)) (printed x p.0) (shown_printed w rest p.1 last)

all_printed : (w : List ℕ) → list_all is_shown w ≡ true → is_text w ≡ true
all_printed [] e = refl
all_printed (x ∷ w) e = let p = both (is_shown x) (list_all is_shown w) e in and_true (is_printable x) (is_text w) (printed x p.0) (all_printed w p.1)

pub joined_printed : (w : List ℕ) (vs : List (List ℕ)) → AreSaid w vs → is_text (joined w vs) ≡ true
joined_printed w [] said = all_printed w (both (is_word w) (list_all is_shown w) said).1
joined_printed w (v ∷ vs) said = shown_printed w (32 ∷ joined v vs) (both (is_word w) (list_all is_shown w) said.0).1 (joined_printed v vs said.1)

-- ---- lines

pub line_ends : (front after : List ℕ) → is_text front ≡ true → lines ((front ++ 10 ∷ []) ++ after) ≡ front ∷ lines after
line_ends [] after e = refl
line_ends (x ∷ front) after e = let p = both (is_printable x) (is_text front) e in
    ap (λ b. cond b ([] ∷ lines ((front ++ 10 ∷ []) ++ after)) (onto_first x (lines ((front ++ 10 ∷ []) ++ after)))) (no_end x p.0)
    ∙ ap (onto_first x) (line_ends front after p.1)
