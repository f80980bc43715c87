-- The walk that writes a page.
use Rattle.std.proofs.Common.{◌≡◌, ℕ, ◌+◌, ◌<◌, ◌≤◌, Bool, true, false, not, List, [], ◌∷◌, ◌++◌, length, take, Ok, refl, sym, ap, subst, ◌∙◌, append_assoc, append-nil, arith}
use Rattle.std.specs.Prelude.{nat_eq, sum_by}
use Rattle.std.proofs.lemmas.Bool.{ne_eqb, eq-eqb}
use Rattle.std.proofs.lemmas.List.{length-append}
use Rattle.std.proofs.lemmas.List.Sums.{sum_by-cons, sum_by_push}
use Rattle.nfs_xdr.specs.Written.{Written, Appends}
use Rattle.nfs_xdr.proofs.Writing.{appends_then}
use Rattle.nfs_args.specs.Pages.{page_end_text}
use Rattle.nfs_inodes.specs.Tree.{Entry}
use Rattle.nfs_dirs.specs.declared.answer.WrittenPage.{WrittenPage}
use Rattle.nfs_dirs.specs.declared.listed.Listed.{Listed}
use Rattle.nfs_dirs.specs.Pages.{page_head_bytes, count_of, chosen, is_too_small, is_end, AnswersPage}
use Rattle.nfs_dirs.specs.Walk.{left_of, IsCutOff}
use Rattle.nfs_dirs.proofs.Prefixes.{Narrows, all_chosen, some_chosen, chosen_are, not_too_small}

-- these entries were written, and those of the walk are left
pub record IsWalked (passes : List Entry → Bool) (bytes : Entry → ℕ) (text : List Entry → List ℕ) (Encoded : List Entry → Type 0) (bound : ℕ) (left : List Entry) (old : Written) (listed : Listed) (room given : ℕ) (out : Written) : Type 0 where
  pub entries : List Entry
  pub left_are : left ≡ entries ++ left_of listed
  pub fit : passes entries ≡ true
  pub room_is : room + (page_head_bytes + sum_by bytes entries) ≡ bound
  pub given_is : given ≡ length entries
  pub text_is : Appends (text entries) old out
  pub encoded : Encoded entries
  pub has_room : room + 8 ≤ out.room

module _ (passes : List Entry → Bool) (narrows : Narrows passes) (text : List Entry → List ℕ) (Encoded : List Entry → Type 0) (left es : List Entry) (fit : passes es ≡ true) (old mid new : Written) (before : Appends (text es) old mid) (encoded : Encoded es) where
  answered : (rest : List Entry) → left ≡ es ++ rest → count_of passes left ≡ length es → is_too_small passes left ≡ false → (eof : Bool) → nat_eq (length es) (length left) ≡ eof → Appends (page_end_text eof) mid new
      → (page : WrittenPage) → page ≡ record { given = length es; eof = eof } → AnswersPage passes text Encoded left (Ok page) old new
  answered rest e count large eof end after page is = let ended : is_end passes left ≡ eof = ap (λ n. nat_eq n (length left)) count ∙ end in (
    large,
    is ∙ ap (λ n. record { given = n; eof = eof }) (sym count) ∙ ap (λ b. record { given = count_of passes left; eof = b }) (sym ended),
    subst (λ t. Appends t old new) (ap (λ l. text l ++ page_end_text eof) (sym (chosen_are passes narrows left es fit rest e count)) ∙ ap (λ b. text (chosen passes left) ++ page_end_text b) (sym ended)) (appends_then (text es) (page_end_text eof) old mid new before after),
    subst Encoded (sym (chosen_are passes narrows left es fit rest e count)) encoded,
  )

  -- the directory ends after the entries
  pub walk_ended : left ≡ es ++ [] → Appends (page_end_text true) mid new → (page : WrittenPage) → page ≡ record { given = length es; eof = true } → AnswersPage passes text Encoded left (Ok page) old new
  walk_ended e after page is = let same : length es ≡ length left = ap length (sym (append-nil es) ∙ sym e) in
      answered [] e (all_chosen passes narrows left es fit e) (large es refl) true (eq-eqb (length es) (length left) same) after page is
    where
      large : (l : List Entry) → l ≡ es → is_too_small passes left ≡ false
      large [] none = ap not (ap passes (ap (take 1) (e ∙ append-nil es ∙ sym none)) ∙ ap passes none ∙ fit)
      large (x ∷ l) some = not_too_small passes narrows left es fit [] e (let n = ap length some in omega (arith, n))

  -- the next entry doesn't fit
  pub walk_cut_off : (x : Entry) (rest : List Entry) → left ≡ es ++ x ∷ rest → passes (es ++ x ∷ []) ≡ false → (given : ℕ) → given ≡ length es → 0 < given → (page : WrittenPage) → IsCutOff given page mid new → AnswersPage passes text Encoded left (Ok page) old new
  walk_cut_off x rest e unfit given count some page cut =
      let more : length left ≡ length es + length (x ∷ rest) = ap length e ∙ length-append es (x ∷ rest) in
      answered (x ∷ rest) e (some_chosen passes narrows left es fit x rest e unfit) (not_too_small passes narrows left es fit (x ∷ rest) e (omega (arith, some, count))) false
      (ne_eqb (length es) (length left) (λ same. omega (arith, more, same))) cut.1 page (cut.0 ∙ ap (λ n. record { given = n; eof = false }) count)

-- with one entry more, which was written
abbrev pub walked_on : (passes : List Entry → Bool) (bytes : Entry → ℕ) (text : List Entry → List ℕ) (Encoded : List Entry → Type 0) (one : Entry → List ℕ) (bound : ℕ) (left : List Entry) (old : Written) (listed : Listed) (room given : ℕ) (mid : Written)
    → (w : IsWalked passes bytes text Encoded bound left old listed room given mid) → (x : Entry) (next : Listed) → left_of listed ≡ x ∷ left_of next → text (w.entries ++ x ∷ []) ≡ text w.entries ++ one x → passes (w.entries ++ x ∷ []) ≡ true
    → (room_now : ℕ) → room_now + bytes x ≡ room → (new : Written) → Appends (one x) mid new → mid.room ≤ new.room + bytes x → Encoded (w.entries ++ x ∷ []) → IsWalked passes bytes text Encoded bound left old next room_now (given + 1) new
walked_on passes bytes text Encoded one bound left old listed room given mid w x next steps more fit room_now less new after appended encoded = record {
  entries = w.entries ++ x ∷ [];
  left_are = w.left_are ∙ ap (λ l. w.entries ++ l) steps ∙ sym (append_assoc w.entries (x ∷ []) (left_of next));
  fit = fit;
  room_is = let sum = sum_by_push bytes w.entries x in omega (arith, sum, w.room_is, less);
  given_is = let count = length-append w.entries (x ∷ []) in omega (arith, count, w.given_is);
  text_is = subst (λ t. Appends t old new) (sym more) (appends_then (text w.entries) (one x) old mid new w.text_is after);
  encoded = encoded;
  has_room = omega (arith, w.has_room, less, appended);
}

-- with the first entry alone, which was written
abbrev pub walk_begun : (passes : List Entry → Bool) (bytes : Entry → ℕ) (text : List Entry → List ℕ) (Encoded : List Entry → Type 0) (one : Entry → List ℕ) (bound : ℕ) (left : List Entry) (old : Written) (x : Entry) (next : Listed)
    → left ≡ x ∷ left_of next → passes (x ∷ []) ≡ true → text (x ∷ []) ≡ one x → (room : ℕ) → room + (page_head_bytes + bytes x) ≡ bound → (new : Written) → Appends (one x) old new → room + 8 ≤ new.room → Encoded (x ∷ [])
    → IsWalked passes bytes text Encoded bound left old next room 1 new
walk_begun passes bytes text Encoded one bound left old x next steps fit same room room_is new after has_room encoded = record {
  entries = x ∷ [];
  left_are = steps;
  fit = fit;
  room_is = let sum = sum_by-cons bytes x [] in omega (arith, sum, room_is);
  given_is = refl;
  text_is = subst (λ t. Appends t old new) (sym same) after;
  encoded = encoded;
  has_room = has_room;
}
